-- No way of a part goes back or ends past the text.
use Rattle.hc_pat_lang.proofs.Common.{ℕ, Bool, List, length, nat_eq, inl, inr, arith, has_byte, Pattern, empty, byte}
use Rattle.hc_pat_lang.proofs.Common.{class, start, finish, cat, alt, group, repeat, meets, closed, with_turn, Below}
use Rattle.hc_pat_lang.proofs.Common.{Bounded, bounded_behind, bounded_either, bounded_if, bounded_repeated}
use Rattle.hc_pat_lang.proofs.Common.{bounded_stop, leaves_out, part_ways, seen, step_by, GroupPart, Each-map}
use Rattle.hc_pat_lang.proofs.Parts.{all_if, goes_on}

bounded_step : (part : GroupPart) (text : List ℕ) (test : ℕ → Bool)
    → Bounded (length text) (step_by (seen part text) test)
bounded_step part text test at held = all_if (Below (length text) at) _ (meets test (seen part text at))
    (λ is. elim (goes_on text at) [
      | inl past ↦ absurd (let f = rw past.0 at is in cc)
      | inr on ↦ (let w = on.within in (omega arith, omega arith))
    ])

pub bounded_part : (part : GroupPart) (text : List ℕ) (pattern : Pattern)
    → Bounded (length text) (part_ways part text pattern)
bounded_part part text empty = bounded_stop (length text)
bounded_part part text (byte b) = bounded_step part text (λ c. nat_eq c b)
bounded_part part text (class set) = bounded_step part text (has_byte set)
bounded_part part text start = λ at held. all_if (Below (length text) at) _ (nat_eq at 0)
    (λ is. (omega arith, omega arith))
bounded_part part text finish = λ at held. all_if (Below (length text) at) _ (nat_eq at (length text))
    (λ is. (omega arith, omega arith))
bounded_part part text (cat first second) = bounded_behind (length text) _ _ (bounded_part part text first)
    (bounded_part part text second)
bounded_part part text (alt first second) = bounded_either (length text) _ _ (bounded_part part text first)
    (bounded_part part text second)
bounded_part part text (group number body) =
    bounded_if (length text) (leaves_out part number) _
    (λ at held. Each-map _ _ (closed with_turn number at) (part_ways part text body at held)
    (bounded_part part text body at held) (λ way within. within))
bounded_part part text (repeat body least most greedy) =
    bounded_repeated (length text) (length text) (part_ways part text body) least most greedy
    (bounded_part part text body)
