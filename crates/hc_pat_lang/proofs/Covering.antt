-- The first match is one of the ways.
use Rattle.hc_pat_lang.proofs.Common.{◌≡◌, ℕ, zero, suc, ◌+◌, ◌<◌, ◌≤◌, ◌⊎◌, List, []}
use Rattle.hc_pat_lang.proofs.Common.{◌∷◌, length, map, slice_index_or, Option, Some, None, refl, sym, ◌∙◌}
use Rattle.hc_pat_lang.proofs.Common.{ap, subst, inl, inr, arith, IsSome, Contains, eqb_tells, Span, TextSet, Pattern}
use Rattle.hc_pat_lang.proofs.Common.{Way, Held, Turns, all_ways, first_match, first_of, held_after, held_by}
use Rattle.hc_pat_lang.proofs.Common.{last_of_turns, match_among, match_at, nothing_held, with_group, MayHold}
use Rattle.std.specs.Option.{option_map, option_or}
use Rattle.hc_ways.proofs.LastTurns.{are_last_turns}
use Rattle.hc_pat_lang.specs.Found.MayHold.{whole, turn, unset}
use Rattle.hc_pat_lang.specs.Laws.{CoversMatch, IsFoundByMatch, held_text}

-- ---- which way the first match is

module _ (text : List ℕ) (pattern : Pattern) where
  -- The first way from a place.
  record FirstWay (held : Held) : Type 0 where
    pub from : ℕ
    pub way : Way Turns
    pub rest : List (Way Turns)
    pub is : all_ways text pattern from [] ≡ way ∷ rest
    pub holds : held ≡ held_by from (last_of_turns way)

  match_is : (from : ℕ) (ways : List (Way Turns)) → all_ways text pattern from [] ≡ ways
      → match_at text pattern from ≡ option_map (held_by from) (first_of (map last_of_turns ways))
  match_is from ways is = ap (λ (w : List (Way Held)). option_map (held_by from) (first_of w))
      (sym (are_last_turns text pattern from) ∙ ap (map last_of_turns) is)

  to_first : (count from : ℕ) (held : Held) → match_among text pattern count from ≡ Some held
      → (first : FirstWay held) × (first.from < from + count)
  to_first zero from held is = absurd (let f = is in cc)
  to_first (suc count) from held is = by_ways (all_ways text pattern from []) refl (to_first count (from + 1) held)
    where
      by_ways : (ways : List (Way Turns)) → all_ways text pattern from [] ≡ ways
          → (match_among text pattern count (from + 1) ≡ Some held → (first : FirstWay held)
          × (first.from < from + 1 + count))
          → (first : FirstWay held) × (first.from < from + suc count)
      by_ways [] ways later =
          let found =
          later (ap (λ (o : Option Held). option_or o (match_among text pattern count (from + 1)))
          (sym (match_is from [] ways)) ∙ is) in
          (found.0, (let w = found.1 in omega arith))
      by_ways (way ∷ rest) ways later =
          let both : Some (held_by from (last_of_turns way)) ≡ Some held =
          ap (λ (o : Option Held). option_or o (match_among text pattern count (from + 1)))
          (sym (match_is from (way ∷ rest) ways)) ∙ is in
          let same : held_by from (last_of_turns way) ≡ held = cc in
          (record { from = from; way = way; rest = rest; is = ways; holds = sym same }, omega arith)

  from_way : (count at from : ℕ) (way : Way Turns) → Contains (all_ways text pattern from []) way → at ≤ from
      → from < at + count → IsSome (match_among text pattern count at)
  from_way zero at from way among past below = absurd (omega arith)
  from_way (suc count) at from way among past below =
      by_ways (all_ways text pattern at []) refl
      (λ (less : at < from). from_way count (at + 1) from way among (omega arith) (omega arith))
    where
      by_ways : (ways : List (Way Turns)) → all_ways text pattern at [] ≡ ways
          → (at < from → IsSome (match_among text pattern count (at + 1)))
          → IsSome (match_among text pattern (suc count) at)
      by_ways (first ∷ rest) ways later =
          subst (λ (o : Option Held). IsSome (option_or o (match_among text pattern count (at + 1))))
          (sym (match_is at (first ∷ rest) ways)) refl
      by_ways [] ways later =
          let cases : (at < from) ⊎ (at ≡ from) = grind arith in
          elim cases [
            | inl less ↦ subst (λ (o : Option Held). IsSome (option_or o (match_among text pattern count (at + 1))))
                (sym (match_is at [] ways)) (later less)
            | inr e ↦ absurd (
                let none : all_ways text pattern from [] ≡ [] = ap (λ (n : ℕ). all_ways text pattern n []) (sym e)
                ∙ ways in
                let w = (subst (λ (l : List (Way Turns)). Contains l way) none among).1 in omega arith)
          ]

  is_some : (found : Option Held) → IsSome found → (held : Held) × (found ≡ Some held)
  is_some None some = absurd (let f = some in cc)
  is_some (Some held) some = (held, refl)

  pub found_by_match : IsFoundByMatch text pattern
  found_by_match = (
    (λ is. from_way (length text + 1) 0 is.from is.way is.among (omega arith) (let w = is.within in omega arith)),
    (λ some.
        let held = is_some (first_match text pattern) some in
        let first = to_first (length text + 1) 0 held.0 held.1 in
        record {
          from = first.0.from;
          within = (let b = first.1 in omega arith);
          way = first.0.way;
          among = subst (λ (l : List (Way Turns)). Contains l first.0.way) (sym first.0.is) (0, omega arith, refl);
        }),
  )

-- ---- what groups hold after turns

-- The group holds what one of the turns spans, or none is its own.
record HoldsTurn (turns : Turns) (number : ℕ) (value : Option Span) : Type 0 where
  pub span : Span
  pub among : Contains turns (number, span)
  pub is : value ≡ Some span

not_among : (number : ℕ) (last : ℕ × Span) (turns : Turns) → (number ≡ last.0 → ⊥)
    → ((span : Span) → Contains turns (number, span) → ⊥) → (span : Span) (k : ℕ)
    → k < length (last ∷ turns)
    → slice_index_or (last ∷ turns) k (number, span) ≡ (number, span) → ⊥
not_among number last turns other none span zero below at = other (sym (ap (λ (t : ℕ × Span). t.0) at))
not_among number last turns other none span (suc k) below at = none span (k, omega arith, at)

after_turns : (number : ℕ) (turns : Turns) (held : Held) → HoldsTurn turns number (held_after held turns number)
    ⊎ (((span : Span) → Contains turns (number, span) → ⊥) × (held_after held turns number ≡ held number))
after_turns number [] held = inr ((λ span among. let w = among.1 in omega arith), refl)
after_turns number (first ∷ turns) held = elim (after_turns number turns (with_group first.0 first.1 held)) [
  | inl later ↦ inl
      (record {
        span = later.span;
        among = (suc later.among.0, (let w = later.among.1 in omega arith), later.among.2);
        is = later.is;
      })
  | inr none ↦ elim (eqb_tells number first.0) [
    | inl own ↦ inl (record { span = first.1; among = (0, omega arith, rw own.1 refl); is = rw own.0 at none.1 })
    | inr other ↦ inr (
      (λ span among. not_among number first turns other.1 none.0 span among.0 among.1 among.2),
      rw other.0 at none.1,
    )
  ]
]

may_hold : (text : List ℕ) (from : ℕ) (way : Way Turns) (number : ℕ)
    → MayHold text from way number (held_text text (held_by from (last_of_turns way) number))
may_hold text from way number = elim (eqb_tells number 0) [
  | inl is ↦ rw is.1 whole
  | inr other ↦
      let past : 0 < number = (let o = other.1 in grind arith) in
      rw other.0
      (elim (after_turns number way.held nothing_held)
      [ inl own ↦ rw own.is (turn past own.among) | inr none ↦ rw none.1 (unset past none.0) ])
]

module _ (pattern : Pattern) (set : TextSet) (text : List ℕ) where
  pub covered : CoversMatch pattern set text
  covered held number bytes member is =
      let first = to_first text pattern (length text + 1) 0 held is in
      let way = first.0 in
      record {
        text = text;
        bytes = bytes;
        member = member;
        from = way.from;
        within = (let b = first.1 in omega arith);
        way = way.way;
        among = subst (λ (l : List (Way Turns)). Contains l way.way) (sym way.is) (0, omega arith, refl);
        holds = subst (λ (h : Held). MayHold text way.from way.way number (held_text text (h number))) (sym way.holds)
            (may_hold text way.from way.way number);
      }
