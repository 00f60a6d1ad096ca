use Rattle.std.proofs.Common.{map}
use Rattle.std.proofs.Common.{take}
use Rattle.hc_abs_view.specs.Tokens.{fork_of}
use Rattle.hc_abs_view.specs.Trees.{AreBefore}
use Rattle.hc_abs_view.proofs.leads.chain_jumps.Given as goal

abbrev pub invariant-loop-one : goal.invariant-loop-one
invariant-loop-one l = AreBefore (map (λ one. one.now) (take l.one-index l.chain)) (map fork_of l.jumps.items)
