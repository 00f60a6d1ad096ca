-- What the ways of a pattern take outside the used groups.
use Rattle.std.proofs.Common.{◌≡◌, ℕ, zero, suc, ◌+◌, ◌-◌, ◌*◌, ◌≤◌, Bool, true, false}
use Rattle.std.proofs.Common.{◌||◌, ◌&&◌, List, [], ◌∷◌, length, nat_eq, nat_lt, Option, Some, None}
use Rattle.std.proofs.Common.{slice_get, if◌then◌else◌, refl, sym, ap, subst, ◌∙◌, inl, inr, arith}
use Rattle.std.proofs.Common.{true≢false}
use Rattle.std.specs.Option.{option_map, option_or}
use Rattle.std.proofs.lemmas.List.Sums.{sum_by-cons}
use Rattle.std.proofs.lemmas.Bool.{or_parts}
use Rattle.std.proofs.lemmas.Bool.Decides.{eqb_tells}
use Rattle.hc_base.specs.declared.place.Span.{Span}
use Rattle.hc_pattern.specs.Bits.{has_byte}
use Rattle.hc_pattern.specs.Pattern.{Pattern, empty, byte, class, start, finish, cat, alt, group, repeat}
use Rattle.hc_ways.specs.Kept.{Held, first_of, held_by, last_ways, match_among, match_at, nothing_held, with_group}
use Rattle.hc_ways.specs.Ways.{Way, Ways, any_turns, behind, closed, either, grouped, meets, moving, none}
use Rattle.hc_ways.specs.Ways.{preferred, repeated, stop, turns_then, turns_up_to}
use Rattle.hc_ways.proofs.Lists.{Each, Each-append, Each-as, Each-filter, Each-flat_map, Each-map}
use Rattle.hc_ways.proofs.Turns.{Below, Bounded, bounded}
use Rattle.hc_rank.specs.Laws.{held_in, held_length}
use Rattle.hc_rank.specs.Ranks.{has_twice, has_used, is_used, least_rest, nests}

-- Both hold of each.
Each-both : {A : Type 0} (P Q : A → Type 0) (xs : List A) → Each P xs → Each Q xs → Each (λ x. P x × Q x) xs
Each-both P Q [] one other = tt
Each-both P Q (x ∷ xs) one other = ((one.0, other.0), Each-both P Q xs one.1 other.1)

-- ---- whatever the size of what is held is

module _ (size : Held → ℕ) where
  -- What is held grows by so many bytes less than the way takes, or less, and where nothing changes not at all.
  pub record Takes (changes : Bool) (rest at : ℕ) (held : Held) (way : Way Held) : Type 0 where
    pub fits : size way.held + rest + at ≤ size held + way.end
    pub kept : changes ≡ false → size way.held ≡ size held

  abbrev pub AllTake : Bool → ℕ → Ways Held → Type 0
  AllTake changes rest ways = (at : ℕ) (held : Held) → Each (Takes changes rest at held) (ways at held)

  take_stop : (changes : Bool) → AllTake changes 0 stop
  take_stop changes at held = (record { fits = omega arith; kept = λ none. refl }, tt)

  take_less : (less more : Bool) (few many : ℕ) (a : Ways Held) → (more ≡ false → less ≡ false)
      → few ≤ many → AllTake less many a → AllTake more few a
  take_less less more few many a only fewer each at held = Each-as _ _ (a at held)
      (λ way takes. record { fits = omega (arith, takes.fits, fewer); kept = λ none. takes.kept (only none) })
      (each at held)

  -- A part of what two parts change.
  take_first : (one other : Bool) (few many : ℕ) (a : Ways Held) → few ≤ many → AllTake one many a
      → AllTake (one || other) few a
  take_first one other few many a = take_less one (one || other) few many a (λ none. (or_parts one other none).0)

  take_second : (one other : Bool) (few many : ℕ) (a : Ways Held) → few ≤ many → AllTake other many a
      → AllTake (one || other) few a
  take_second one other few many a = take_less other (one || other) few many a (λ none. (or_parts one other none).1)

  take_either : (changes : Bool) (rest : ℕ) (a b : Ways Held) → AllTake changes rest a → AllTake changes rest b
      → AllTake changes rest (either a b)
  take_either changes rest a b first second at held = Each-append _ (a at held) (b at held) (first at held)
      (second at held)

  take_behind : (changes : Bool) (few many : ℕ) (a b : Ways Held) → AllTake changes few a → AllTake changes many b
      → AllTake changes (few + many) (behind a b)
  take_behind changes few many a b first second at held = Each-flat_map _ _ _ (a at held) (first at held)
      (λ way takes. Each-as _ _ (b way.end way.held)
      (λ later more. record {
        fits = omega (arith, takes.fits, more.fits);
        kept = λ none. more.kept none ∙ takes.kept none;
      })
      (second way.end way.held))

  take_preferred : (changes : Bool) (greedy : Bool) (rest : ℕ) (turn : Ways Held) → AllTake changes rest turn
      → AllTake changes 0 (preferred greedy turn)
  take_preferred changes true rest turn each =
      take_either changes 0 turn stop (take_less changes changes 0 rest turn (λ none. none) (omega arith) each)
      (take_stop changes)
  take_preferred changes false rest turn each =
      take_either changes 0 stop turn (take_stop changes)
      (take_less changes changes 0 rest turn (λ none. none) (omega arith) each)

  take_any : (changes greedy : Bool) (rest : ℕ) (body : Ways Held) (bytes : ℕ) → AllTake changes rest body
      → AllTake changes 0 (any_turns greedy body bytes)
  take_any changes greedy rest body zero each = take_stop changes
  take_any changes greedy rest body (suc bytes) each =
      take_preferred changes greedy (rest + 0) _
      (take_behind changes rest 0 (moving body) _ (λ at held. Each-filter _ _ (body at held) (each at held))
      (take_any changes greedy rest body bytes each))

  take_up_to : (changes greedy : Bool) (rest : ℕ) (body : Ways Held) (most : ℕ) → AllTake changes rest body
      → AllTake changes 0 (turns_up_to greedy body most)
  take_up_to changes greedy rest body zero each = take_stop changes
  take_up_to changes greedy rest body (suc most) each =
      take_preferred changes greedy (rest + 0) _
      (take_behind changes rest 0 body _ each (take_up_to changes greedy rest body most each))

  take_then : (changes : Bool) (rest : ℕ) (body : Ways Held) (least : ℕ) (more : Ways Held)
      → AllTake changes rest body → AllTake changes 0 more
      → AllTake changes (least * rest) (turns_then body least more)
  take_then changes rest body zero more each later =
      take_less changes changes (0 * rest) 0 _ (λ none. none) (grind arith) later
  take_then changes rest body (suc least) more each later =
      take_less changes changes (suc least * rest) (rest + least * rest) _ (λ none. none) (grind arith)
      (take_behind changes rest (least * rest) body _ each (take_then changes rest body least more each later))

  take_unless : (changes : Bool) (rest : ℕ) (fewer : Bool) (a : Ways Held) → AllTake changes rest a
      → AllTake changes rest (if fewer then none else a)
  take_unless changes rest true a each = λ at held. tt
  take_unless changes rest false a each = each

  take_repeated : (changes : Bool) (rest bytes : ℕ) (body : Ways Held) (least : ℕ) (most : Option ℕ)
      (greedy : Bool) → AllTake changes rest body
      → AllTake changes (least * rest) (repeated bytes body least most greedy)
  take_repeated changes rest bytes body least None greedy each =
      take_then changes rest body least _ each (take_any changes greedy rest body bytes each)
  take_repeated changes rest bytes body least (Some most) greedy each =
      take_unless changes (least * rest) (nat_lt most least) _
      (take_then changes rest body least _ each (take_up_to changes greedy rest body (most - least) each))

  take_if : (changes : Bool) (rest at end : ℕ) (held : Held) (met : Bool) → end ≡ at + rest
      → Each (Takes changes rest at held) (if met then stop end held else [])
  take_if changes rest at end held true is = (record { fits = omega (arith, is); kept = λ none. refl }, tt)
  take_if changes rest at end held false is = tt

-- ---- the used groups

nothing_in : (used : List ℕ) → held_in used nothing_held ≡ 0
nothing_in [] = refl
nothing_in (number ∷ used) = nothing_in used

-- The first number's part, and the others'.
first_in : (number : ℕ) (used : List ℕ) (held : Held)
    → held_in (number ∷ used) held ≡ held_length (held number) + held_in used held
first_in number used held = sum_by-cons (λ other. held_length (held other)) number used

-- A group that isn't used adds nothing.
unused_stays : (used : List ℕ) (number : ℕ) (span : Span) (held : Held) → is_used used number ≡ false
    → held_in used (with_group number span held) ≡ held_in used held
unused_stays [] number span held unused = refl
unused_stays (first ∷ used) number span held unused =
    let parts = or_parts (nat_eq number first) (is_used used number) unused in
    let other : nat_eq first number ≡ false = (let p = parts.0 in grind arith) in
    let same : with_group number span held first ≡ held first = rw other refl in
    first_in first used (with_group number span held)
    ∙ ap (λ bytes. held_length (with_group number span held first) + bytes)
    (unused_stays used number span held parts.1)
    ∙ ap (λ own. held_length own + held_in used held) same ∙ sym (first_in first used held)

-- A group that is used once adds no more than it spans.
group_grows : (used : List ℕ) (number : ℕ) (span : Span) (held : Held) → has_twice used ≡ false
    → held_in used (with_group number span held) ≤ held_in used held + (span.end - span.start)
group_grows [] number span held once = omega arith
group_grows (first ∷ used) number span held once =
    let parts = or_parts (is_used used first) (has_twice used) once in
    let after = first_in first used (with_group number span held) in
    let before = first_in first used held in
    elim (eqb_tells first number) [
      | inl is ↦
          let others = unused_stays used number span held (subst (λ n. is_used used n ≡ false) is.1 parts.0) in
          let own : held_length (with_group number span held first) ≡ span.end - span.start = rw is.0 refl in
          omega (arith, after, before, others, own)
      | inr isnt ↦
          let own : held_length (with_group number span held first) ≡ held_length (held first) = rw isnt.0 refl in
          omega (arith, after, before, own, group_grows used number span held parts.1)
    ]

module _ (text : List ℕ) (used : List ℕ) (once : has_twice used ≡ false) where
  take_grouped : (number : ℕ) (of_used changes : Bool) (rest : ℕ) (body : Ways Held)
      → is_used used number ≡ of_used → (of_used && changes) ≡ false → Bounded (length text) body
      → AllTake (held_in used) changes rest body
      → AllTake (held_in used) (of_used || changes) (if of_used then 0 else rest) (grouped with_group number body)
  take_grouped number false changes rest body is nests bounds each at held =
      Each-map _ _ (closed with_group number at) (body at held) (each at held)
      (λ way takes.
      let same = unused_stays used number (record { start = at; end = way.end }) way.held is in
      record { fits = omega (arith, same, takes.fits); kept = λ none. same ∙ takes.kept none })
  take_grouped number true changes rest body is nests bounds each at held =
      Each-map _ _ (closed with_group number at) (body at held)
      (Each-both _ _ (body at held) (bounds at held) (each at held))
      (λ way both.
      let grows = group_grows used number (record { start = at; end = way.end }) way.held once in
      record {
        fits = omega (arith, grows, both.0.0, both.1.kept nests);
        kept = λ none. absurd (true≢false none);
      })

  takes : (pattern : Pattern) → nests used pattern ≡ false
      → AllTake (held_in used) (has_used used pattern) (least_rest used pattern) (last_ways text pattern)
  takes empty none = take_stop (held_in used) false
  takes (byte b) none = λ at held.
      take_if (held_in used) false 1 at (at + 1) held (meets (λ c. nat_eq c b) (slice_get text at)) refl
  takes (class set) none = λ at held.
      take_if (held_in used) false 1 at (at + 1) held (meets (has_byte set) (slice_get text at)) refl
  takes start none = λ at held. take_if (held_in used) false 0 at at held (nat_eq at 0) (omega arith)
  takes finish none = λ at held. take_if (held_in used) false 0 at at held (nat_eq at (length text)) (omega arith)
  takes (cat first second) none =
      let parts = or_parts (nests used first) (nests used second) none in
      take_behind (held_in used) _ _ _ _ _
      (take_first (held_in used) _ _ _ _ _ (omega arith) (takes first parts.0))
      (take_second (held_in used) _ _ _ _ _ (omega arith) (takes second parts.1))
  takes (alt first second) none =
      let parts = or_parts (nests used first) (nests used second) none in
      take_either (held_in used) _ _ _ _
      (take_first (held_in used) _ _ _ _ _ (omega arith) (takes first parts.0))
      (take_second (held_in used) _ _ _ _ _ (omega arith) (takes second parts.1))
  takes (group number body) none =
      let parts = or_parts (is_used used number && has_used used body) (nests used body) none in
      take_grouped number (is_used used number) (has_used used body) (least_rest used body) (last_ways text body) refl
      parts.0 (bounded with_group text body) (takes body parts.1)
  takes (repeat body least most greedy) none =
      take_repeated (held_in used) (has_used used body) (least_rest used body) (length text) (last_ways text body)
      least most greedy (takes body none)

-- ---- the first match

abbrev pub Fits : List ℕ → List ℕ → Pattern → Held → Type 0
Fits text used pattern held = held_in used held + least_rest used pattern ≤ length text

module _ (text : List ℕ) (used : List ℕ) (pattern : Pattern) (zero_unused : is_used used 0 ≡ false) where
  -- What holds of a way from a place, where nothing is held.
  abbrev pub Fitting : ℕ → Way Held → Type 0
  Fitting from way = Below (length text) from way
      × Takes (held_in used) (has_used used pattern) (least_rest used pattern) from nothing_held way

  way_fits : (from : ℕ) (held : Held) (ways : List (Way Held)) → Each (Fitting from) ways
      → option_map (held_by from) (first_of ways) ≡ Some held → Fits text used pattern held
  way_fits from held [] each is = absurd (let f = is in cc)
  way_fits from held (way ∷ ways) each is =
      let same : held_by from way ≡ held = (let f = is in cc) in
      let whole = unused_stays used 0 (record { start = from; end = way.end }) way.held zero_unused in
      subst (Fits text used pattern) same (omega (arith, whole, nothing_in used, each.0.0.1, each.0.1.fits))

  either_fits : (one other : Option Held) (held : Held) → (one ≡ Some held → Fits text used pattern held)
      → (other ≡ Some held → Fits text used pattern held) → option_or one other ≡ Some held
      → Fits text used pattern held
  either_fits None other held first later is = later is
  either_fits (Some own) other held first later is = first is

  pub match_fits : has_twice used ≡ false → nests used pattern ≡ false → (count from : ℕ) (held : Held)
      → match_among text pattern count from ≡ Some held → Fits text used pattern held
  match_fits once plain zero from held is = absurd (let f = is in cc)
  match_fits once plain (suc count) from held is =
      either_fits (match_at text pattern from) (match_among text pattern count (from + 1)) held
      (way_fits from held (last_ways text pattern from nothing_held)
      (Each-both _ _ (last_ways text pattern from nothing_held) (bounded with_group text pattern from nothing_held)
      (takes text used once pattern plain from nothing_held)))
      (match_fits once plain count (from + 1) held) is
