use Rattle.hc_abs_rw.proofs.Common.{refl}
use Rattle.hc_abs_rw.proofs.Looking.{found_on}
use Rattle.hc_abs_rw.proofs.pattern.find_on.Goals as goal

pub returns-in_ok-find-in-Some : goal.returns-in_ok-find-in-Some
returns-in_ok-find-in-Some c =
    found_on c.args.rule.now c.args.ties c.args.elements.items c.args.off c.args.found.now.items c.find.new.found.items
    c.args.way c.in-Some.way
    (record {
      cell = c.in-Some.way.cell;
      ties = c.args.ties;
      elements = c.args.elements;
      off = c.args.off;
      side = c.in-Some.way.side;
    })
    c.in-Some.is
    (record { cell = refl; ties_are = refl; elements_are = refl; taken_off = refl; side = refl })
    c.in_ok-find-in-Some.ensures
