use Rattle.std.proofs.Common.{List, drop, map}
use Rattle.hc_abs_view.specs.Placing.{AreForked, InRest}
use Rattle.hc_abs_view.specs.Tokens.{fork_of}
use Rattle.hc_abs_view.specs.declared.viewing.Viewed.{Viewed}
use Rattle.hc_abs_view.proofs.placed.jump_branches.Given as goal

-- what is left of the jumps leads to the whole
abbrev pub invariant-loop-jump : goal.invariant-loop-jump
invariant-loop-jump l =
    (found : List Viewed) → InRest l.scene (map fork_of (drop l.jump-index l.jumps)) l.placed.items found
    → AreForked l.scene (map fork_of l.jumps) l.fn.tied found
