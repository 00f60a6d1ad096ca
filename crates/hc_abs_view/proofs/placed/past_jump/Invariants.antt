use Rattle.hc_abs_view.specs.Placing.{ArePast}
use Rattle.hc_abs_view.specs.Tokens.{fork_of}
use Rattle.hc_abs_view.proofs.placed.past_jump.Given as goal

abbrev pub invariant-loop-one : goal.invariant-loop-one
invariant-loop-one l = ArePast l.scene (fork_of l.jump) l.yielded l.later.items
