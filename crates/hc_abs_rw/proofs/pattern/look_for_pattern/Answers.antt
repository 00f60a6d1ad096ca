use Rattle.hc_abs_rw.proofs.Common.{None, ap, refl}
use Rattle.std.specs.Option.{option_map}
use Rattle.hc_rw_expand.specs.Contexts.{engine_of}
use Rattle.hc_abs_rw.specs.Known.{frame_at}
use Rattle.hc_abs_rw.proofs.Looking.{alone_found, within_found}
use Rattle.hc_abs_rw.proofs.pattern.look_for_pattern.Goals as goal

pub returns-in-None : goal.returns-in-None
returns-in-None g c =
    alone_found (frame_at g.S.Surroundings.kind g.S.Surroundings.values c.args.frame.now) c.args.frame.now.client
    c.args.rule.now
    (record {
      cell = c.args.cell;
      ties = c.args.ties;
      elements = c.in_ok-elements-in-None.elements;
      off = 0;
      side = None;
    })
    c.new-found.result.items c.find.new.found.items (ap (option_map engine_of) c.in-None.is) c.new-found.ensures.items
    c.in_ok-elements-in-None.ensures refl refl c.in_ok-find-in-None.ensures

pub returns : goal.returns
returns g c =
    within_found (frame_at g.S.Surroundings.kind g.S.Surroundings.values c.args.frame.now) c.args.frame.now.client
    c.in-Some.engine c.args.rule.now c.args.cell c.args.ties c.new-found.result.items c.look_within.new.found.items
    (ap (option_map engine_of) c.in-Some.is) c.new-found.ensures.items c.in_ok-look_within-in-Some.ensures
