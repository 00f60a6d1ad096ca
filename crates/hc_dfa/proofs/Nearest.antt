-- Distances to a final state, and the walks along them.
use Rattle.hc_dfa.proofs.Common.{◌≡◌, ℕ, ◌+◌, ◌<◌, ◌≤◌, ◌⊎◌, List, [], ◌∷◌, ◌++◌}
use Rattle.hc_dfa.proofs.Common.{length, slice_index, Bool, true, false, IsTrue, refl, sym, ◌∙◌, ap, subst, arith}
use Rattle.hc_dfa.proofs.Common.{inl, inr, common_steps, get_or_append_left, get_or-append_seam, get_or-set_same}
use Rattle.hc_dfa.proofs.Common.{get_or-set_other, length-set, slice_set, Automaton, states, next_state, accepts_from}
use Rattle.hc_dfa.proofs.Common.{accepts, value_on, Bounds, Distances, IsNearest, IsWalk, IsText, IsLeast, IsEmptySet}
use Rattle.hc_dfa.proofs.Common.{byte_order, comes_before, NONE}
use Rattle.std.proofs.lemmas.Bool.Decides.{nat_tests}
use Rattle.std.proofs.lemmas.Bool.{cases_eq}
use Rattle.hc_dfa.proofs.Runs.{IsAutomaton, next_within}

-- One more item, of which the same holds at its place.
pub each_more : (P : ℕ → ℕ → Type 0) (xs : List ℕ) (count x : ℕ) → length xs ≡ count
    → ((i : ℕ) → i < count → P i (slice_index xs i)) → P count x
    → (i : ℕ) → i < count + 1 → P i (slice_index (xs ++ x ∷ []) i)
each_more P xs count x len each here i below =
    let cases : (i < length xs) ⊎ (i ≡ length xs) = grind (arith, common_steps) in
    elim cases [
      | inl old ↦ rw (get_or_append_left xs (x ∷ []) 0 i old) (each i (omega arith))
      | inr e ↦ rw (e, get_or-append_seam xs x [] 0) (subst (λ (n : ℕ). P n x) (sym len) here)
    ]

order_same : (b c : ℕ) (text other : List ℕ) → b ≡ c → IsTrue (byte_order text other)
    → IsTrue (byte_order (b ∷ text) (c ∷ other))
order_same b c text other e later = grind (arith, nat_tests)

order_less : (b c : ℕ) (text other : List ℕ) → b < c → IsTrue (byte_order (b ∷ text) (c ∷ other))
order_less b c text other less = grind (arith, nat_tests)

shorter_first : (text other : List ℕ) → length text < length other → IsTrue (comes_before text other)
shorter_first text other less = grind (arith, nat_tests)

same_length : (text other : List ℕ) → length other ≡ length text → IsTrue (byte_order text other)
    → IsTrue (comes_before text other)
same_length text other same first = grind (arith, nat_tests)

none_accepted : (answer : Bool) → (answer ≡ true → ⊥) → answer ≡ false
none_accepted true isnt = absurd (isnt refl)
none_accepted false isnt = refl

module _ (a : Automaton) where
  -- A state that is brought nearer.
  pub nearer : (d : List ℕ) (state nearest : ℕ) → Bounds a d → state < states a → IsNearest a d state nearest
      → nearest < NONE
      → nearest + 1 ≤ slice_index d state → Bounds a (slice_set d state (nearest + 1))
  nearer d state nearest bounds s is some far =
      record {
        len = length-set d state (nearest + 1) ∙ bounds.len;
        finals = λ t below final. let zero = bounds.finals t below final in
            (other t (λ e. let f = ap (λ x. slice_index d x) e in omega arith) ∙ zero);
        zero = λ t below zero. bounds.zero t below
            (sym (other t (λ e. let f = ap (λ x. slice_index (slice_set d state (nearest + 1)) x) e in
            omega (arith, same))) ∙ zero);
        some = λ t below less more. some_later t below less more;
      }
    where
      same : slice_index (slice_set d state (nearest + 1)) state ≡ nearest + 1
      same = get_or-set_same d state (nearest + 1) 0 (rw bounds.len s)

      other : (t : ℕ) → (t ≡ state → ⊥) → slice_index (slice_set d state (nearest + 1)) t
          ≡ slice_index d t
      other t isnt = get_or-set_other d state t (nearest + 1) 0 isnt

      lower : (t : ℕ) → slice_index (slice_set d state (nearest + 1)) t ≤ slice_index d t
      lower t =
          elim (cases_eq t state)
          [ inl e ↦ rw e (omega (arith, same)) | inr isnt ↦ (let e = other t isnt in omega arith) ]

      some_later : (t : ℕ) → t < states a → slice_index (slice_set d state (nearest + 1)) t < NONE
          → 0 < slice_index (slice_set d state (nearest + 1)) t
          → (byte : ℕ) × (byte < 256)
          × (value_on a (slice_set d state (nearest + 1)) t byte + 1
          ≤ slice_index (slice_set d state (nearest + 1)) t)
      some_later t below less more =
          elim (cases_eq t state) [
            | inl e ↦
                (let b = is.some some in
                (b.0, b.1, rw e (let l = lower (next_state a state b.0) in omega (arith, same, b.2))))
            | inr isnt ↦
                (let e = other t isnt in let b = bounds.some t below (omega arith) (omega arith) in
                (b.0, b.1, let l = lower (next_state a t b.0) in omega (arith, b.2)))
          ]

module _ (a : Automaton) (is : IsAutomaton a) where
  -- A text that is accepted is at least as long as the distance.
  pub no_nearer : (d : List ℕ) → Distances a d → (state : ℕ) (text : List ℕ) → state < states a
      → IsText text
      → accepts_from a state text ≡ true → (slice_index d state < NONE) × (slice_index d state ≤ length text)
  no_nearer d distances state [] s bytes accepted = let zero = distances.bounds.finals state s accepted in
      (omega arith, omega arith)
  no_nearer d distances state (byte ∷ text) s bytes accepted =
      let t = next_within a is state byte s bytes.0 in
      let later = no_nearer d distances (next_state a state byte) text t bytes.1 accepted in
      let here = distances.settled state s byte bytes.0 later.0 in
      (here.0, let h = here.1 in let l = later.1 in omega arith)

  pub walk_text : (d : List ℕ) (state : ℕ) (text : List ℕ) → IsWalk a d state text → IsText text
  walk_text d state [] walk = tt
  walk_text d state (byte ∷ text) walk = (walk.0, walk_text d (next_state a state byte) text walk.3)

  pub walk_accepts : (d : List ℕ) → Distances a d → (state : ℕ) (text : List ℕ) → state < states a
      → IsWalk a d state text
      → (accepts_from a state text ≡ true) × (slice_index d state ≡ length text)
  walk_accepts d distances state [] s walk = (distances.bounds.zero state s walk, walk)
  walk_accepts d distances state (byte ∷ text) s walk =
      let later = walk_accepts d distances (next_state a state byte) text (next_within a is state byte s walk.0)
      walk.3 in
      (later.0, let e = later.1 in let f = walk.1 in omega arith)

  -- Of the accepted texts that are as long as a walk, the walk is the first.
  pub walk_first : (d : List ℕ) → Distances a d → (state : ℕ) (text other : List ℕ) → state < states a
      → IsWalk a d state text → IsText other → accepts_from a state other ≡ true
      → length other ≡ length text → (other ≡ text) ⊎ IsTrue (byte_order text other)
  walk_first d distances state [] [] s walk bytes accepted same = inl refl
  walk_first d distances state [] (c ∷ other) s walk bytes accepted same = absurd (omega arith)
  walk_first d distances state (b ∷ text) [] s walk bytes accepted same = absurd (omega arith)
  walk_first d distances state (b ∷ text) (c ∷ other) s walk bytes accepted same =
      let tb = next_within a is state b s walk.0 in
      let tc = next_within a is state c s bytes.0 in
      let far = no_nearer d distances (next_state a state c) other tc bytes.1 accepted in
      let near = distances.settled state s c bytes.0 far.0 in
      let whole = walk_accepts d distances (next_state a state b) text tb walk.3 in
      let len : length other ≡ length text = omega (arith, same) in
      let by_c : slice_index d state ≡ value_on a d state c + 1 = omega (arith, near.1, far.1, whole.1, walk.1) in
      let cases : (c < b) ⊎ ((b ≡ c) ⊎ (b < c)) = grind arith in
      elim cases [
        | inl less ↦ absurd (walk.2 c less by_c)
        | inr more ↦ elim more [
          | inl e ↦
              (let rest = walk_first d distances (next_state a state b) text other tb walk.3 bytes.1
              (subst (λ (x : ℕ). accepts_from a (next_state a state x) other ≡ true) (sym e) accepted) len in
              elim rest [ inl r ↦ inl (cc) | inr r ↦ inr (order_same b c text other e r) ])
          | inr less ↦ inr (order_less b c text other less)
        ]
      ]

  pub walk_least : (d : List ℕ) → Distances a d → (text : List ℕ) → IsWalk a d 0 text
      → IsLeast (accepts a) text
  unfolding accepts
  walk_least d distances text walk =
      let whole = walk_accepts d distances 0 text is.some walk in
      record {
        bytes = walk_text d 0 text walk;
        member = whole.0;
        first = λ other bytes accepted.
            let far = no_nearer d distances 0 other is.some bytes accepted in
            let cases : (length text < length other) ⊎ (length other ≡ length text) =
            (let f = far.1 in let w = whole.1 in grind arith) in
            elim cases [
              | inl less ↦ inr (shorter_first text other less)
              | inr same ↦ elim (walk_first d distances 0 text other is.some walk bytes accepted same)
                  [ inl e ↦ inl e | inr r ↦ inr (same_length text other same r) ]
            ];
      }

  pub none_near : (d : List ℕ) → Distances a d → NONE ≤ slice_index d 0 → IsEmptySet (accepts a)
  unfolding accepts
  none_near d distances none text bytes =
      none_accepted (accepts_from a 0 text)
      (λ accepted. let far = no_nearer d distances 0 text is.some bytes accepted in omega (arith, far.0))
