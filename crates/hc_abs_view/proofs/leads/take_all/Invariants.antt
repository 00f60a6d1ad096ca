use Rattle.std.proofs.Common.{◌≡◌, ◌∷◌, [], length, map}
use Rattle.std.specs.Prelude.{reverse}
use Rattle.hc_abs_view.specs.Tokens.{fork_of, made_after, token_of}
use Rattle.hc_abs_view.proofs.leads.take_all.Given as goal

-- what is left makes the rest
abbrev pub invariant-kept : goal.invariant-kept
invariant-kept l =
    made_after (map token_of (reverse l.kept.items)) (reverse l.leads.items) (map fork_of l.jumps.items)
    ≡ made_after (map token_of (reverse l.fn.kept.items)) (l.fn.lead ∷ []) (map fork_of l.fn.jumps.items)

abbrev pub decreases-kept : goal.decreases-kept
decreases-kept l = length l.kept.items
