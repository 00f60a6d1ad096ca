-- The last turns of all turns.
use Rattle.hc_ways.proofs.Common.{◌≡◌, ℕ, List, [], ◌∷◌, Pattern, Turns, held_after, nothing_held}
use Rattle.hc_ways.proofs.Common.{with_group, with_turn}
use Rattle.std.proofs.lemmas.List.Sums.{fold-append}
use Rattle.hc_base.specs.declared.place.Span.{Span}
use Rattle.hc_ways.specs.Laws.{AreTheirLastTurns}
use Rattle.hc_ways.proofs.Images.{alike_ways}

one_more : (number : ℕ) (span : Span) (turns : Turns) → held_after nothing_held (with_turn number span turns)
    ≡ with_group number span (held_after nothing_held turns)
one_more number span turns = fold-append _ nothing_held turns ((number, span) ∷ [])

pub are_last_turns : (text : List ℕ) (pattern : Pattern) → AreTheirLastTurns text pattern
are_last_turns text pattern at = alike_ways (held_after nothing_held) with_turn with_group one_more text pattern at []
