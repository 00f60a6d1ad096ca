-- The text of a set that has one only.
use Rattle.hc_dfa.proofs.Common.{◌≡◌, ℕ, ◌+◌, ◌<◌, ◌≤◌, ◌⊎◌, List, [], ◌∷◌, ◌++◌}
use Rattle.hc_dfa.proofs.Common.{length, slice_index, true, suc, zero, refl, ◌∙◌, ap, subst, arith, inl, inr}
use Rattle.hc_dfa.proofs.Common.{Option, None, Some, length-append, get_or_append_left, append_assoc, Automaton, states}
use Rattle.hc_dfa.proofs.Common.{next_state, accepts_from, value_on, Distances, IsText, NONE, Classing, AreClasses}
use Rattle.hc_dfa.proofs.Common.{Tells, class_count, class_of, first_of}
use Rattle.std.proofs.lemmas.List.{get_or-append-add}
use Rattle.hc_dfa.specs.Classings.{HasEnds}
use Rattle.hc_dfa.specs.Members.{IsOnly, IsOnlyOf, behind, IsOnward, LeadsOn}
use Rattle.hc_dfa.specs.declared.only.Onward.{Onward}
use Rattle.hc_dfa.specs.declared.only.Onward.TheVariants.{Nowhere, By, Ways}
use Rattle.hc_dfa.proofs.Nearest.{no_nearer}
use Rattle.hc_dfa.proofs.Runs.{IsAutomaton, next_within}

module _ (a : Automaton) (is : IsAutomaton a) (d : List ℕ) (distances : Distances a d) where
  -- From a state with a distance some text is accepted.
  accepted : (most state : ℕ) → slice_index d state ≤ most → state < states a → slice_index d state < NONE
      → (text : List ℕ) × IsText text × (accepts_from a state text ≡ true)
  accepted zero state near s some = ([], tt, distances.bounds.zero state s (omega arith))
  accepted (suc most) state near s some =
      let cases : (slice_index d state ≡ 0) ⊎ (0 < slice_index d state) = grind arith in
      elim cases [
        | inl none ↦ ([], tt, distances.bounds.zero state s none)
        | inr more ↦
            (let b = distances.bounds.some state s some more in
            let later = accepted most (next_state a state b.0) (omega (arith, b.2)) (next_within a is state b.0 s b.1)
            (omega (arith, b.2)) in
            (b.0 ∷ later.0, (b.1, later.1), later.2))
      ]

  -- The first byte of a text that is accepted leads on.
  leads : (state byte : ℕ) (text : List ℕ) → state < states a → IsText (byte ∷ text)
      → accepts_from a state (byte ∷ text) ≡ true → LeadsOn a d state byte
  leads state byte text s bytes member =
      let far = no_nearer a is d distances (next_state a state byte) text (next_within a is state byte s bytes.0)
      bytes.1 member in
      (bytes.0, far.0)

  not_final : (state : ℕ) → state < states a → 0 < slice_index d state
      → accepts_from a state [] ≡ true → ⊥
  not_final state s far final = (let zero = distances.bounds.finals state s final in omega arith)

  -- A byte that leads on is the first of a text that is accepted.
  behind_byte : (state byte : ℕ) → state < states a → LeadsOn a d state byte
      → (text : List ℕ) × IsText (byte ∷ text) × (accepts_from a state (byte ∷ text) ≡ true)
  behind_byte state byte s on =
      let later = accepted (value_on a d state byte) (next_state a state byte) (omega arith)
      (next_within a is state byte s on.0) on.1 in
      (later.0, (on.0, later.1), later.2)

  -- One byte alone leads on: what is alone behind it, is alone with it.
  pub only_by : (state byte : ℕ) → state < states a → 0 < slice_index d state → IsOnward a d state (By byte)
      → (found : Option (List ℕ)) → IsOnlyOf (accepts_from a (next_state a state byte)) found
      → IsOnlyOf (accepts_from a state) (behind (byte ∷ []) found)
  only_by state byte s far onward None none = none_by
    where
      none_by : (text : List ℕ) → IsOnly (accepts_from a state) text → ⊥
      none_by [] only = not_final state s far only.member
      none_by (b ∷ text) only =
          let e = onward.1 b (leads state b text s only.bytes only.member) in
          none text (record {
            bytes = only.bytes.1;
            member = subst (λ x. accepts_from a (next_state a state x) text ≡ true) e only.member;
            only = λ other bytes member. let same = only.only (byte ∷ other) (onward.0.0, bytes) member in cc;
          })
  only_by state byte s far onward (Some text) only =
      record { bytes = (onward.0.0, only.bytes); member = only.member; only = one }
    where
      one : (other : List ℕ) → IsText other → accepts_from a state other ≡ true → other ≡ byte ∷ text
      one [] bytes member = absurd (not_final state s far member)
      one (b ∷ other) bytes member =
          let e = onward.1 b (leads state b other s bytes member) in
          let same = only.only other bytes.1
          (subst (λ x. accepts_from a (next_state a state x) other ≡ true) e member) in
          cc

  pub only_end : (state : ℕ) → state < states a → slice_index d state ≡ 0 → IsOnward a d state Nowhere
      → IsOnly (accepts_from a state) []
  only_end state s none onward =
      record { bytes = tt; member = distances.bounds.zero state s none; only = one }
    where
      one : (other : List ℕ) → IsText other → accepts_from a state other ≡ true → other ≡ []
      one [] bytes member = refl
      one (b ∷ other) bytes member = absurd (onward b (leads state b other s bytes member))

  -- No text is alone where none is accepted, or where there are several.
  pub not_only : (state : ℕ) (onward : Onward) → state < states a → IsOnward a d state onward
      → (onward ≡ Nowhere → 0 < slice_index d state)
      → ((byte : ℕ) → onward ≡ By byte → slice_index d state ≡ 0) → (text : List ℕ)
      → IsOnly (accepts_from a state) text → ⊥
  not_only state Nowhere s onward far near [] only = not_final state s (far refl) only.member
  not_only state Nowhere s onward far near (b ∷ text) only =
      onward b (leads state b text s only.bytes only.member)
  not_only state (By byte) s onward far near text only =
      let later = behind_byte state byte s onward.0 in
      let short = only.only [] tt (distances.bounds.zero state s (near byte refl)) in
      let long = only.only (byte ∷ later.0) later.1 later.2 in
      cc
  not_only state Ways s onward far near text only =
      let one = behind_byte state onward.0 s onward.2 in
      let two = behind_byte state onward.1 s onward.3 in
      let first = only.only (onward.0 ∷ one.0) one.1 one.2 in
      let second = only.only (onward.1 ∷ two.0) two.1 two.2 in
      onward.4 (cc)

pub behind_one : (bytes : List ℕ) (byte : ℕ) (found : Option (List ℕ))
    → behind (bytes ++ byte ∷ []) found ≡ behind bytes (behind (byte ∷ []) found)
behind_one bytes byte None = refl
behind_one bytes byte (Some text) = ap Some (append_assoc bytes (byte ∷ []) text)

-- How the bytes lead on that were asked so far.
abbrev pub AreAsked : Automaton → List ℕ → ℕ → List ℕ → ℕ → Onward → Type 0
AreAsked a d state ends count Nowhere =
    (k : ℕ) → k < count → value_on a d state (slice_index ends k) < NONE → ⊥
AreAsked a d state ends count (By byte) =
    LeadsOn a d state byte
    × ((k : ℕ) → k < count → value_on a d state (slice_index ends k) < NONE → slice_index ends k ≡ byte)
AreAsked a d state ends count Ways = ⊥

module _ (a : Automaton) (d : List ℕ) (state : ℕ) (ends : List ℕ) (s : state < states a)
    (bytes : (k : ℕ) → slice_index ends k < 256) (c : Classing) (tells : Tells c a) (has : HasEnds c ends) where
  -- With a byte that leads on those of its class do.
  end_on : (byte k : ℕ) → LeadsOn a d state byte → class_of c (slice_index ends k) ≡ class_of c byte
      → value_on a d state (slice_index ends k) < NONE
  end_on byte k on alike = rw (tells state (slice_index ends k) byte s (bytes k) on.0 alike) on.1

  pub asked_all : (count : ℕ) (onward : Onward) → length ends ≤ count → AreAsked a d state ends count onward
      → IsOnward a d state onward
  asked_all count Nowhere whole asked = λ byte on.
      let e = has byte on.0 in
      asked e.low (omega arith) (end_on byte e.low on e.low_alike)
  asked_all count (By byte) whole asked = (
    asked.0,
    λ other on.
        let e = has other on.0 in
        let low = asked.1 e.low (omega arith) (end_on other e.low on e.low_alike) in
        let high = asked.1 e.high (omega arith) (end_on other e.high on e.high_alike) in
        omega arith,
  )
  asked_all count Ways whole asked = absurd asked

-- The greatest bytes of classes, and the least behind them.
pub ends_have : (c : Classing) (greatest : List ℕ) → AreClasses c → length greatest ≡ class_count c
    → ((class : ℕ) → class < class_count c → class_of c (slice_index greatest class) ≡ class)
    → ((byte : ℕ) → byte < 256 → byte ≤ slice_index greatest (class_of c byte))
    → HasEnds c (greatest ++ c.firsts)
ends_have c greatest is len own last byte below =
    let class : ℕ = class_of c byte in
    let w : class < class_count c = is.within byte below in
    let l = length-append greatest c.firsts in
    let low : slice_index (greatest ++ c.firsts) (length greatest + class) ≡ first_of c class =
    get_or-append-add greatest c.firsts class 0 in
    let high : slice_index (greatest ++ c.firsts) class ≡ slice_index greatest class =
    get_or_append_left greatest c.firsts 0 class (omega arith) in
    let least = is.least byte below in
    let most = last byte below in
    record {
      low = length greatest + class;
      high = class;
      low_within = omega arith;
      high_within = omega arith;
      low_alike = ap (class_of c) low ∙ is.own class w;
      high_alike = ap (class_of c) high ∙ own class w;
      from = omega arith;
      to = omega arith;
    }
