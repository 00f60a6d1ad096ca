-- The ways of a repeat of one byte are the ends of its run, in order.
use Rattle.hc_match.proofs.Common.{◌≡◌, ◌≤◌, ◌⊎◌, first_end, other_first, inl, inr, slice_get_past}
use Rattle.hc_match.proofs.Common.{slice_get-get_or, get_or, take, drop, ℕ, zero, suc, ◌+◌, ◌-◌, ◌<◌}
use Rattle.hc_match.proofs.Common.{Bool, true, false, List, [], ◌++◌, length, if◌then◌else◌, nat_lt, Option}
use Rattle.hc_match.proofs.Common.{Some, None, slice_get, refl, ap, sym, ◌∙◌, arith, append_assoc, lt-ltb}
use Rattle.hc_match.proofs.Common.{none-some, same_Some, Ways, any_turns, behind, meets, moving, none, preferred}
use Rattle.hc_match.proofs.Common.{repeated, step_where, stop, turns_then, turns_up_to, Held, behind-behind}
use Rattle.hc_match.proofs.Common.{behind-preferred, turn_or_next, append-nil, ends, further_turns, run_length}
use Rattle.std.specs.List.{filter, flat_map, prefix_len}
use Rattle.std.proofs.Math.Seq.{drop-cons}
use Rattle.std.proofs.lemmas.List.{drop_all}
use Rattle.std.proofs.lemmas.Bool.{cases_lt}

-- ---- the length

-- The bytes that fit are the front of what stands there.
pub run_is_front : (text : List ℕ) (test : ℕ → Bool) (at most : ℕ)
    → prefix_len test (take most (drop at text)) ≡ run_length text test at most
run_is_front text test at zero = refl
run_is_front text test at (suc most) =
    elim (cases_lt at (length text)) [
      | inl within ↦ rw (drop-cons text at 0 within, slice_get-get_or text at 0 within)
          (fits (test (get_or text at 0)) (ap (λ at. prefix_len test (take most (drop at text))) there
          ∙ run_is_front text test (at + 1) most))
      | inr past ↦ rw (drop_all at text past, slice_get_past text at past) refl
    ]
  where
    there : suc at ≡ at + 1
    there = omega arith

    fits : (v : Bool) → prefix_len test (take most (drop (suc at) text)) ≡ run_length text test (at + 1) most
        → (if v then 1 + prefix_len test (take most (drop (suc at) text)) else 0)
        ≡ (if v then suc (run_length text test (at + 1) most) else 0)
    fits true same = omega (arith, same)
    fits false same = refl

-- Enough bytes fit, and more of them behind those; or too few.
abbrev Splits : ℕ → ℕ → ℕ → ℕ → Type 0
Splits least first behind all = ((first ≡ least) × (all ≡ least + behind)) ⊎ ((first ≡ all) × (all < least))

pub run_splits : (text : List ℕ) (test : ℕ → Bool) (at least more both : ℕ) → both ≡ least + more
    → Splits least (run_length text test at least) (run_length text test (at + least) more)
    (run_length text test at both)
run_splits text test at zero more both is =
    let all : both ≡ more = omega (arith, is) in let here : at ≡ at + 0 = omega arith in
    let same = ap (run_length text test at) all ∙ ap (λ at. run_length text test at more) here in
    inl (refl, omega (arith, same))
run_splits text test at (suc least) more zero is = absurd (omega (arith, is))
run_splits text test at (suc least) more (suc both) is =
    fits (meets test (slice_get text at)) (run_splits text test (at + 1) least more both (omega (arith, is)))
  where
    further : ℕ → ℕ
    further most = run_length text test (at + 1) most

    there : at + 1 + least ≡ at + suc least
    there = omega arith

    fits : (v : Bool) → Splits least (further least) (run_length text test (at + 1 + least) more) (further both)
        → Splits (suc least) (if v then suc (further least) else 0) (run_length text test (at + suc least) more)
        (if v then suc (further both) else 0)
    fits true (inl enough) = let behind = ap (λ at. run_length text test at more) there in
        inl (ap suc enough.0, omega (arith, enough.1, behind))
    fits true (inr few) = inr (ap suc few.0, omega (arith, few.1))
    fits false split = inr (refl, omega arith)

-- ---- turns of one byte

module _ (text : List ℕ) (test : ℕ → Bool) where
  abbrev one : Ways Held
  one = step_where text test

  moving_if : (v : Bool) (at : ℕ) (held : Held)
      → filter (λ way. nat_lt at way.end) (if v then stop (at + 1) held else [])
      ≡ (if v then stop (at + 1) held else [])
  moving_if true at held = rw (lt-ltb at (at + 1) (omega arith)) refl
  moving_if false at held = refl

  moves : moving one ≡ one
  moves = λ i at held. moving_if (meets test (slice_get text at)) at held i

  any_is : (greedy : Bool) (bytes : ℕ) → any_turns greedy one bytes ≡ turns_up_to greedy one bytes
  any_is greedy zero = refl
  any_is greedy (suc bytes) = ap (λ turn. preferred greedy (behind turn (any_turns greedy one bytes))) moves
      ∙ ap (λ rest. preferred greedy (behind one rest)) (any_is greedy bytes)

  -- The repeat, by its turns that have to be and those that may be.
  all_turns : (least : ℕ) (most : Option ℕ) (greedy : Bool) (further : ℕ)
      → Some further ≡ further_turns (length text) least most
      → repeated (length text) one least most greedy ≡ turns_then one least (turns_up_to greedy one further)
  all_turns least None greedy further is =
      ap (turns_then one least) (any_is greedy (length text))
      ∙ ap (λ bytes. turns_then one least (turns_up_to greedy one bytes)) (sym (same_Some _ _ is))
  all_turns least (Some most) greedy further is = counted (nat_lt most least) is
    where
      counted : (v : Bool) → Some further ≡ (if v then None else Some (most - least))
          → (if v then none else turns_then one least (turns_up_to greedy one (most - least)))
          ≡ turns_then one least (turns_up_to greedy one further)
      counted true is = absurd (none-some further (sym is))
      counted false is = ap (λ more. turns_then one least (turns_up_to greedy one more)) (sym (same_Some _ _ is))

  -- A turn that has to be, where its byte fits or not.
  turn_if : (v : Bool) (rest : Ways Held) (at : ℕ) (held : Held)
      → flat_map (λ way. rest way.end way.held) (if v then stop (at + 1) held else [])
      ≡ (if v then rest (at + 1) held else [])
  turn_if true rest at held = append-nil (rest (at + 1) held)
  turn_if false rest at held = refl

  enough_turns : (least : ℕ) (more : Ways Held) (at : ℕ) (held : Held) → run_length text test at least ≡ least
      → turns_then one least more at held ≡ more (at + least) held
  enough_turns zero more at held is = let here : at ≡ at + 0 = omega arith in ap (λ place. more place held) here
  enough_turns (suc least) more at held is =
      fits (meets test (slice_get text at)) is (enough_turns least more (at + 1) held)
      ∙ ap (λ place. more place held) there
    where
      there : at + 1 + least ≡ at + suc least
      there = omega arith

      fits : (v : Bool) → (if v then suc (run_length text test (at + 1) least) else 0) ≡ suc least
          → (run_length text test (at + 1) least ≡ least → turns_then one least more (at + 1) held
          ≡ more (at + 1 + least) held)
          → flat_map (λ way. turns_then one least more way.end way.held) (if v then stop (at + 1) held else [])
          ≡ more (at + 1 + least) held
      fits true is later = append-nil _ ∙ later (omega (arith, is))
      fits false is later = absurd (omega (arith, is))

  too_few : (least : ℕ) (more : Ways Held) (at : ℕ) (held : Held)
      → (run_length text test at least ≡ least → ⊥) → turns_then one least more at held ≡ []
  too_few zero more at held few = absurd (few refl)
  too_few (suc least) more at held few = fits (meets test (slice_get text at)) few (too_few least more (at + 1) held)
    where
      fits : (v : Bool) → ((if v then suc (run_length text test (at + 1) least) else 0) ≡ suc least → ⊥)
          → ((run_length text test (at + 1) least ≡ least → ⊥) → turns_then one least more (at + 1) held
          ≡ [])
          → flat_map (λ way. turns_then one least more way.end way.held) (if v then stop (at + 1) held else [])
          ≡ []
      fits true few later = append-nil _ ∙ later (λ same. few (ap suc same))
      fits false few later = refl

  -- Turns that may be.
  step_if : (greedy : Bool) (next rest : Ways Held) (at : ℕ) (held : Held) (count : ℕ) (v : Bool)
      → rest (at + 1) held ≡ ends greedy next (at + 1) count held
      → (turn : Ways Held) → turn at held ≡ (if v then rest (at + 1) held else [])
      → turn_or_next greedy turn next at held ≡ ends greedy next at (if v then suc count else 0) held
  step_if true next rest at held count true later turn is = ap (λ l. l ++ next at held) (is ∙ later)
  step_if false next rest at held count true later turn is = ap (λ l. next at held ++ l) (is ∙ later)
  step_if true next rest at held count false later turn is = ap (λ l. l ++ next at held) is
  step_if false next rest at held count false later turn is = ap (λ l. next at held ++ l) is
      ∙ append-nil (next at held)

  may_be : (greedy : Bool) (next : Ways Held) (most at : ℕ) (held : Held)
      → behind (turns_up_to greedy one most) next at held ≡ ends greedy next at (run_length text test at most) held
  may_be greedy next zero at held = append-nil (next at held)
  may_be greedy next (suc most) at held =
      let rest = behind (turns_up_to greedy one most) next in
      let turn = behind (behind one (turns_up_to greedy one most)) next in
      ap (λ ways. ways at held) (behind-preferred greedy (behind one (turns_up_to greedy one most)) next)
      ∙ step_if greedy next rest at held (run_length text test (at + 1) most) (meets test (slice_get text at))
      (may_be greedy next most (at + 1) held) turn
      (ap (λ ways. ways at held) (behind-behind one (turns_up_to greedy one most) next)
      ∙ turn_if (meets test (slice_get text at)) rest at held)

  -- ---- the repeat

  -- By a count of the bytes that fit, of as many at most as there may be turns.
  pub no_run : (least from : ℕ) (most : Option ℕ) (greedy : Bool) (further at count : ℕ) (held : Held)
      → Some further ≡ further_turns (length text) least most → from ≡ least
      → count ≡ run_length text test at (from + further) → count < from
      → repeated (length text) one least most greedy at held ≡ []
  no_run least from most greedy further at count held is same counted few =
      let both : from + further ≡ least + further = omega (arith, same) in
      ap (λ ways. ways at held) (all_turns least most greedy further is)
      ∙ too_few least (turns_up_to greedy one further) at held
      (elim (run_splits text test at least further (from + further) both) [
        | inl enough ↦ (λ fits. omega (arith, enough.1, counted, same, few))
        | inr short ↦ (λ fits. omega (arith, short.0, short.1, fits))
      ])

  pub run_is : (least from : ℕ) (most : Option ℕ) (greedy : Bool) (further at count : ℕ) (next : Ways Held)
      (held : Held) → Some further ≡ further_turns (length text) least most → from ≡ least
      → count ≡ run_length text test at (from + further) → from ≤ count
      → behind (repeated (length text) one least most greedy) next at held ≡ ends greedy next (at + from)
      (count - from) held
  run_is least from most greedy further at count next held is same counted many =
      elim (run_splits text test at least further (from + further) (omega (arith, same))) [
        | inl enough ↦
            let more : run_length text test (at + least) further ≡ count - from =
            omega (arith, enough.1, counted, same) in let first : at + least ≡ at + from =
            omega (arith, same) in
            ap (λ ways. flat_map (λ way. next way.end way.held) (ways at held))
            (all_turns least most greedy further is)
            ∙ ap (flat_map (λ way. next way.end way.held))
            (enough_turns least (turns_up_to greedy one further) at held enough.0)
            ∙ may_be greedy next further (at + least) held ∙ ap (λ more. ends greedy next (at + least) more held)
            more ∙ ap (λ at. ends greedy next at (count - from) held) first
        | inr short ↦ absurd (omega (arith, short.1, counted, same, many))
      ]

-- ---- the ends, one by one

longest : (next : Ways Held) (at more : ℕ) (held : Held) → ends true next at (suc more) held
    ≡ next (at + suc more) held ++ ends true next at more held
longest next at zero held = refl
longest next at (suc more) held =
    let place : at + 1 + suc more ≡ at + suc (suc more) = omega arith in
    ap (λ l. l ++ next at held)
    (longest next (at + 1) more held ∙ ap (λ place. next place held ++ ends true next (at + 1) more held) place)
    ∙ append_assoc (next (at + suc (suc more)) held) (ends true next (at + 1) more held) (next at held)

-- The end that is tried first, and then the others.
pub ends_are : (greedy : Bool) (next : Ways Held) (at more : ℕ) (held : Held) → 0 < more
    → next (first_end greedy at more) held ++ ends greedy next (other_first greedy at) (more - 1) held
    ≡ ends greedy next at more held
ends_are greedy next at zero held some = absurd (omega (arith, some))
ends_are true next at (suc more) held some = let less : suc more - 1 ≡ more = omega arith in
    rw less (sym (longest next at more held))
ends_are false next at (suc more) held some = let less : suc more - 1 ≡ more = omega arith in rw less refl

-- Nothing is behind that end.
pub ends_gone : (greedy : Bool) (next : Ways Held) (at more : ℕ) (held : Held) → 0 < more
    → next (first_end greedy at more) held ≡ []
    → ends greedy next (other_first greedy at) (more - 1) held ≡ ends greedy next at more held
ends_gone greedy next at more held some none =
    sym (ap (λ l. l ++ ends greedy next (other_first greedy at) (more - 1) held) none)
    ∙ ends_are greedy next at more held some

pub within_others : (greedy : Bool) (first more other fewer most : ℕ) → 0 < more
    → other ≡ other_first greedy first → fewer ≡ more - 1 → first + more ≤ most → other + fewer ≤ most
within_others true first more other fewer most some is one within = omega (arith, some, is, one, within)
within_others false first more other fewer most some is one within = omega (arith, some, is, one, within)
