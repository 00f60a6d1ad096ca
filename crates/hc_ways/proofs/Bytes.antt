-- A pattern whose form tells that its ways take a byte.
use Rattle.hc_ways.proofs.Common.{◌≡◌, ℕ, ◌+◌, ◌-◌, ◌<◌, Bool, true, false, List, [], ◌∷◌}
use Rattle.hc_ways.proofs.Common.{length, if◌then◌else◌, nat_lt, nat_eq, Option, Some, None, slice_get, refl, ap}
use Rattle.hc_ways.proofs.Common.{◌∙◌, arith, ltb-true, lt-ltb, filter, Pattern, byte, class, cat, alt, group}
use Rattle.hc_ways.proofs.Common.{repeat, Keeping, Way, Ways, stop, behind, meets, closed, moving, ways}
use Rattle.std.proofs.Common.{inl, inr}
use Rattle.std.proofs.lemmas.Bool.{and_parts, cases_lt, or_cases}
use Rattle.hc_pattern.specs.Bits.{has_byte}
use Rattle.hc_ways.specs.Taking.{takes_a_byte}
use Rattle.hc_ways.proofs.Behind.{same_ways}
use Rattle.hc_ways.proofs.Lists.{Each, Each-append, Each-as, Each-flat_map, Each-map}
use Rattle.hc_ways.proofs.Turns.{Bounded, bounded, first_turn, first_turn_of_any}

-- Each way ends behind its place.
abbrev Takes : {K : Type 0} → Ways K → Type 0
Takes {K} body = (at : ℕ) (held : K) → Each (λ (way : Way K). at < way.end) (body at held)

takes_first : {K : Type 0} (n : ℕ) (a b : Ways K) → Takes a → Bounded n b → Takes (behind a b)
takes_first n a b first second at held =
    Each-flat_map _ _ _ (a at held) (first at held)
    (λ way on. Each-as _ _ (b way.end way.held) (λ later more. omega (arith, on, more.0))
    (second way.end way.held))

takes_second : {K : Type 0} (n : ℕ) (a b : Ways K) → Bounded n a → Takes b → Takes (behind a b)
takes_second n a b first second at held =
    Each-flat_map _ _ _ (a at held) (first at held)
    (λ way on. Each-as _ _ (b way.end way.held) (λ later more. omega (arith, on.0, more))
    (second way.end way.held))

takes_if : {K : Type 0} (at : ℕ) (held : K) (v : Bool)
    → Each (λ (way : Way K). at < way.end) (if v then stop (at + 1) held else [])
takes_if at held true = (omega arith, tt)
takes_if at held false = tt

all_move : {K : Type 0} (at : ℕ) (ways : List (Way K)) → Each (λ (way : Way K). at < way.end) ways
    → filter (λ way. nat_lt at way.end) ways ≡ ways
all_move at [] each = refl
all_move at (way ∷ ways) each =
    ap (λ v. if v then way ∷ filter (λ way. nat_lt at way.end) ways else filter (λ way. nat_lt at way.end) ways)
    (lt-ltb at way.end each.0) ∙ ap (λ l. way ∷ l) (all_move at ways each.1)

module _ {K : Type 0} (keep : Keeping K) (text : List ℕ) where
  takes_repeat : (body : Pattern) (least : ℕ) (most : Option ℕ) (greedy : Bool) → 0 < least
      → Takes (ways keep text body) → Takes (ways keep text (repeat body least most greedy))
  takes_repeat body least None greedy some each =
      rw (first_turn_of_any (length text) (ways keep text body) least greedy some)
      (takes_first _ _ _ each (bounded keep text (repeat body (least - 1) None greedy)))
  takes_repeat body least (Some most) greedy some each = elim (cases_lt most least) [
    | inl fewer ↦ rw (lt-ltb most least fewer) (λ at held. tt)
    | inr within ↦
        rw (first_turn (length text) (ways keep text body) least most greedy some within)
        (takes_first _ _ _ each (bounded keep text (repeat body (least - 1) (Some (most - 1)) greedy)))
  ]

  takes : (pattern : Pattern) → takes_a_byte pattern ≡ true → Takes (ways keep text pattern)
  takes (byte b) is = λ at held. takes_if at held (meets (λ c. nat_eq c b) (slice_get text at))
  takes (class set) is = λ at held. takes_if at held (meets (has_byte set) (slice_get text at))
  takes (cat first second) is = elim (or_cases (takes_a_byte first) (takes_a_byte second) is) [
    | inl one ↦ takes_first _ _ _ (takes first one) (bounded keep text second)
    | inr two ↦ takes_second _ _ _ (bounded keep text first) (takes second two)
  ]
  takes (alt first second) is = λ at held.
      let both = and_parts (takes_a_byte first) (takes_a_byte second) is in
      Each-append _ (ways keep text first at held) (ways keep text second at held) (takes first both.0 at held)
      (takes second both.1 at held)
  takes (group number body) is = λ at held. Each-map _ _ (closed keep number at) (ways keep text body at held)
      (takes body is at held) (λ way here. here)
  takes (repeat body least most greedy) is =
      let both = and_parts (nat_lt 0 least) (takes_a_byte body) is in
      takes_repeat body least most greedy (ltb-true 0 least both.0) (takes body both.1)
  takes _ is = absurd (let f = is in cc)

  -- Such ways are moving ones.
  pub moves : (pattern : Pattern) → takes_a_byte pattern ≡ true → moving (ways keep text pattern)
      ≡ ways keep text pattern
  moves pattern is = same_ways _ _ (λ at held. all_move at (ways keep text pattern at held) (takes pattern is at held))
