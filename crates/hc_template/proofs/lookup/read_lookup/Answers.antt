use Rattle.std.proofs.Common.{ap, sym, ◌∙◌}
use Rattle.hc_template.specs.Fronts.{asked_of}
use Rattle.hc_template.specs.Reading.{asked_by}
use Rattle.hc_template.proofs.LookingUp.{looked_up}
use Rattle.hc_template.proofs.lookup.read_lookup.Goals as goal

pub returns : goal.returns
returns c =
    let found = ap (asked_by c.args.signs) (sym c.in-Some.ensures.behind) ∙ c.in_ok-asked.ensures in
    rw (c.in_ok-new.ensures, c.in_ok-copy_of.ensures, c.in_ok-new-2.ensures, c.in_ok-new-3.ensures)
    (looked_up c.args.signs c.args.text.now c.in-Some.name.now (asked_of c.in_ok-asked.asked)
    (sym c.in-Some.ensures.name) found)
