use Rattle.std.proofs.lemmas.List.{nil_from_length}
use Rattle.hc_abs_pass.proofs.Common.{arith}
use Rattle.hc_steps.specs.Shown.{shown_by}
use Rattle.hc_abs_pass.proofs.Finding.{walk_begins, walk_goes_on, walk_over}
use Rattle.hc_abs_pass.proofs.walk_ends.ends_of_walk.Goals as goal

pub loop-turn-init : goal.loop-turn-init
loop-turn-init c =
    walk_begins (shown_by c.args.world.now.files) c.in_ok-root_directory.field-0 c.new-ends.result.items
    c.enter.new.ends.items c.new-frames.result.items c.enter.new.frames.items c.in_ok-root_directory.ensures
    c.new-ends.ensures.items c.new-frames.ensures.items c.in_ok-enter.ensures

pub loop-turn-preserved : goal.loop-turn-preserved
loop-turn-preserved c =
    walk_goes_on (shown_by c.args.world.now.files) c.loop-turn.ends.items c.add_next.new.ends.items
    c.loop-turn.frames.items c.pop.new.self.items c.add_next.new.frames.items c.in-Some.frame c.loop-turn.invariant
    c.in-Some.ensures.items c.in_ok-add_next.ensures

pub returns-in_default : goal.returns-in_default
returns-in_default c =
    walk_over (shown_by c.args.world.now.files) c.loop-turn.ends.items c.loop-turn.frames.items
    c.loop-turn.invariant
    (nil_from_length c.loop-turn.frames.items (let none = c.in_default.ensures.cases.0 in omega (arith, none)))
