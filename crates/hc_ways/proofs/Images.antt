-- What is kept of the groups doesn't decide which ways there are.
use Rattle.std.proofs.Common.{◌≡◌, ℕ, zero, suc, ◌+◌, ◌-◌, Bool, true, false, List, [], ◌∷◌}
use Rattle.std.proofs.Common.{◌++◌, length, map, if◌then◌else◌, nat_lt, nat_eq, Option, Some, None, slice_get}
use Rattle.std.proofs.Common.{refl, ap, ◌∙◌}
use Rattle.hc_ways.proofs.Common.{flat_map, filter, Pattern, empty, byte, class, start, finish, cat, alt, group, repeat}
use Rattle.hc_ways.proofs.Common.{Keeping, Way, Ways, none, stop, behind, either, stop_where, meets, step_where, closed}
use Rattle.hc_ways.proofs.Common.{grouped, preferred, moving, any_turns, turns_up_to, turns_then, repeated, ways}
use Rattle.std.proofs.lemmas.List.{map-append}
use Rattle.hc_base.specs.declared.place.Span.{Span}
use Rattle.hc_pattern.specs.Bits.{has_byte}

abbrev pub image : {K L : Type 0} → (K → L) → Way K → Way L
image f way = record { end = way.end; held = f way.held }

-- The ways of the second are those of the first, with something else kept.
abbrev pub Alike : {K L : Type 0} → (K → L) → Ways K → Ways L → Type 0
Alike {K} f a b = (at : ℕ) (held : K) → map (image f) (a at held) ≡ b at (f held)

module _ {K L : Type 0} (f : K → L) where
  alike_none : Alike f none none
  alike_none at held = refl

  alike_stop : Alike f stop stop
  alike_stop at held = refl

  alike_either : (a b : Ways K) (c d : Ways L) → Alike f a c → Alike f b d → Alike f (either a b) (either c d)
  alike_either a b c d first second at held =
      map-append (image f) (a at held) (b at held) ∙ ap (λ l. l ++ map (image f) (b at held)) (first at held)
      ∙ ap (λ l. c at (f held) ++ l) (second at held)

  each_behind : (b : Ways K) (d : Ways L) → Alike f b d → (found : List (Way K))
      → map (image f) (flat_map (λ way. b way.end way.held) found) ≡ flat_map (λ way. d way.end way.held)
      (map (image f) found)
  each_behind b d same [] = refl
  each_behind b d same (way ∷ found) =
      map-append (image f) (b way.end way.held) _
      ∙ ap (λ l. l ++ map (image f) (flat_map (λ way. b way.end way.held) found)) (same way.end way.held)
      ∙ ap (λ l. d way.end (f way.held) ++ l) (each_behind b d same found)

  alike_behind : (a b : Ways K) (c d : Ways L) → Alike f a c → Alike f b d → Alike f (behind a b) (behind c d)
  alike_behind a b c d first second at held =
      each_behind b d second (a at held) ∙ ap (flat_map (λ way. d way.end way.held)) (first at held)

  if_alike : (v : Bool) (at : ℕ) (held : K) → map (image f) (if v then stop at held else [])
      ≡ (if v then stop at (f held) else [])
  if_alike true at held = refl
  if_alike false at held = refl

  alike_stop_where : (test : ℕ → Bool) → Alike f (stop_where test) (stop_where test)
  alike_stop_where test at held = if_alike (test at) at held

  alike_step : (text : List ℕ) (test : ℕ → Bool) → Alike f (step_where text test) (step_where text test)
  alike_step text test at held = if_alike (meets test (slice_get text at)) (at + 1) held

  moving_step : (at : ℕ) (way : Way K) (found : List (Way K)) (others : List (Way L)) (v : Bool)
      → map (image f) found ≡ others
      → map (image f) (if v then way ∷ found else found) ≡ (if v then image f way ∷ others else others)
  moving_step at way found others true same = ap (λ l. image f way ∷ l) same
  moving_step at way found others false same = same

  each_moving : (at : ℕ) (found : List (Way K)) → map (image f) (filter (λ way. nat_lt at way.end) found)
      ≡ filter (λ way. nat_lt at way.end) (map (image f) found)
  each_moving at [] = refl
  each_moving at (way ∷ found) = moving_step at way _ _ (nat_lt at way.end) (each_moving at found)

  alike_moving : (a : Ways K) (b : Ways L) → Alike f a b → Alike f (moving a) (moving b)
  alike_moving a b same at held = each_moving at (a at held) ∙ ap (filter (λ way. nat_lt at way.end)) (same at held)

  alike_preferred : (greedy : Bool) (a : Ways K) (b : Ways L) → Alike f a b
      → Alike f (preferred greedy a) (preferred greedy b)
  alike_preferred true a b same = alike_either a stop b stop same alike_stop
  alike_preferred false a b same = alike_either stop a stop b alike_stop same

  alike_any : (greedy : Bool) (a : Ways K) (b : Ways L) (bytes : ℕ) → Alike f a b
      → Alike f (any_turns greedy a bytes) (any_turns greedy b bytes)
  alike_any greedy a b zero same = alike_stop
  alike_any greedy a b (suc bytes) same =
      alike_preferred greedy _ _
      (alike_behind (moving a) _ (moving b) _ (alike_moving a b same) (alike_any greedy a b bytes same))

  alike_up_to : (greedy : Bool) (a : Ways K) (b : Ways L) (most : ℕ) → Alike f a b
      → Alike f (turns_up_to greedy a most) (turns_up_to greedy b most)
  alike_up_to greedy a b zero same = alike_stop
  alike_up_to greedy a b (suc most) same =
      alike_preferred greedy _ _ (alike_behind a _ b _ same (alike_up_to greedy a b most same))

  alike_then : (a : Ways K) (b : Ways L) (least : ℕ) (c : Ways K) (d : Ways L) → Alike f a b → Alike f c d
      → Alike f (turns_then a least c) (turns_then b least d)
  alike_then a b zero c d same later = later
  alike_then a b (suc least) c d same later = alike_behind a _ b _ same (alike_then a b least c d same later)

  alike_unless : (v : Bool) (a : Ways K) (b : Ways L) → Alike f a b
      → Alike f (if v then none else a) (if v then none else b)
  alike_unless true a b same = alike_none
  alike_unless false a b same = same

  alike_repeated : (bytes : ℕ) (a : Ways K) (b : Ways L) (least : ℕ) (most : Option ℕ) (greedy : Bool)
      → Alike f a b
      → Alike f (repeated bytes a least most greedy) (repeated bytes b least most greedy)
  alike_repeated bytes a b least None greedy same = alike_then a b least _ _ same (alike_any greedy a b bytes same)
  alike_repeated bytes a b least (Some most) greedy same =
      alike_unless (nat_lt most least) _ _ (alike_then a b least _ _ same (alike_up_to greedy a b (most - least) same))

  module _ (keep : Keeping K) (kept : Keeping L) (same : (number : ℕ) (span : Span) (held : K)
      → f (keep number span held) ≡ kept number span (f held)) where
    each_closed : (number at : ℕ) (found : List (Way K)) → map (image f) (map (closed keep number at) found)
        ≡ map (closed kept number at) (map (image f) found)
    each_closed number at [] = refl
    each_closed number at (way ∷ found) =
        ap (λ held. record { end = way.end; held = held } ∷ map (image f) (map (closed keep number at) found))
        (same number (record { start = at; end = way.end }) way.held)
        ∙ ap (λ l. closed kept number at (image f way) ∷ l) (each_closed number at found)

    alike_grouped : (number : ℕ) (a : Ways K) (b : Ways L) → Alike f a b
        → Alike f (grouped keep number a) (grouped kept number b)
    alike_grouped number a b alike at held = each_closed number at (a at held)
        ∙ ap (map (closed kept number at)) (alike at held)

    pub alike_ways : (text : List ℕ) (pattern : Pattern) → Alike f (ways keep text pattern) (ways kept text pattern)
    alike_ways text empty = alike_stop
    alike_ways text (byte b) = alike_step text (λ c. nat_eq c b)
    alike_ways text (class set) = alike_step text (has_byte set)
    alike_ways text start = alike_stop_where (λ at. nat_eq at 0)
    alike_ways text finish = alike_stop_where (λ at. nat_eq at (length text))
    alike_ways text (cat first second) = alike_behind (ways keep text first) (ways keep text second)
        (ways kept text first) (ways kept text second) (alike_ways text first) (alike_ways text second)
    alike_ways text (alt first second) = alike_either (ways keep text first) (ways keep text second)
        (ways kept text first) (ways kept text second) (alike_ways text first) (alike_ways text second)
    alike_ways text (group number body) = alike_grouped number (ways keep text body) (ways kept text body)
        (alike_ways text body)
    alike_ways text (repeat body least most greedy) =
        alike_repeated (length text) (ways keep text body) (ways kept text body) least most greedy
        (alike_ways text body)
