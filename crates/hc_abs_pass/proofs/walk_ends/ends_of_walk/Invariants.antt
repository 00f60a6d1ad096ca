use Rattle.hc_steps.specs.Shown.{shown_by}
use Rattle.hc_abs_pass.proofs.Finding.{InWalk}
use Rattle.hc_abs_pass.proofs.walk_ends.ends_of_walk.Given as goal

-- what was found and what is left are all ends
abbrev pub invariant-loop-turn : goal.invariant-loop-turn
invariant-loop-turn l = InWalk (shown_by l.world.files) l.ends.items l.frames.items
