-- The automaton of sets of a machine's states.
use Rattle.hc_dfa.proofs.Common.{◌≡◌, ℕ, ◌<◌, List, [], ◌∷◌, Bool, true, refl, sym, subst}
use Rattle.hc_dfa.proofs.Common.{inl, inr, Some, slice_get, arith}
use Rattle.hc_dfa.proofs.Common.{Automaton, next_state, accepts_from, accepts, Machine}
use Rattle.hc_dfa.proofs.Common.{PathToFinal, AcceptsPaths, Contains, SilentPath, IsClosure, IsProper, IsStep, IsMark}
use Rattle.hc_dfa.proofs.Common.{stays, goes_on, IsText, Classing}
use Rattle.hc_dfa.specs.Machines.PathToFinal.{ends, passes, reads}
use Rattle.std.proofs.lemmas.List.Elements.{Contains-push_cases}
use Rattle.hc_dfa.proofs.Keyed.{AreKeyed, leads_on, made, marked}

-- The states stand for sets of the machine's states.
abbrev pub AllSets : Machine → Classing → List ℕ → List Bool → Type 0
AllSets m c rows finals =
    AreKeyed (IsClosure m (0 ∷ [])) (IsProper m) (IsStep m) (IsMark m.finals.items) c rows finals

-- A silent path in front of a path.
pub after_silent : (m : Machine) (from : ℕ) {state : ℕ} (text : List ℕ) → SilentPath m from state
    → PathToFinal m state text → PathToFinal m from text
after_silent m from text stays path = path
after_silent m from text (goes_on silent step) path = after_silent m from text silent (passes step path)

module _ (m : Machine) (c : Classing) (rows : List ℕ) (finals : List Bool)
    (is : AllSets m c rows finals) where
  abbrev sets : List (List ℕ)
  sets = is.table.keys

  abbrev pub automaton : Automaton
  automaton = made (IsClosure m (0 ∷ [])) (IsProper m) (IsStep m) (IsMark m.finals.items) c rows finals is

  mark_here : (state : ℕ) (set : List ℕ) → slice_get sets state ≡ Some set
      → IsMark m.finals.items set (accepts_from automaton state [])
  mark_here = marked _ _ _ _ c rows finals is

  step_here : (state byte : ℕ) (set : List ℕ) → slice_get sets state ≡ Some set → byte < 256
      → (to : List ℕ) × (slice_get sets (next_state automaton state byte) ≡ Some to) × IsStep m set byte to
  step_here = leads_on _ _ _ _ c rows finals is

  -- What a set accepts, a path from one of its states reads.
  pub to_path : (text : List ℕ) (state : ℕ) (set : List ℕ) → slice_get sets state ≡ Some set
      → IsText text → accepts_from automaton state text ≡ true
      → (from : ℕ) × Contains set from × PathToFinal m from text
  to_path [] state set at bytes accepted = let found = (mark_here state set at).found accepted in
      (found.0, found.1, ends found.2)
  to_path (byte ∷ text) state set at bytes accepted =
      let to = step_here state byte set at bytes.0 in
      let later = to_path text (next_state automaton state byte) to.0 to.1 bytes.1 accepted in
      let closed = to.2.closes.sound later.0 later.1 in
      let read = (to.2.reads closed.0).0 closed.1 in
      (read.0, read.1, reads read.2 (after_silent m closed.0 text closed.2 later.2))

  -- A set accepts what a path from one of its states reads.
  pub from_path : {text : List ℕ} {from : ℕ} (state : ℕ) (set : List ℕ)
      → slice_get sets state ≡ Some set → IsText text → Contains set from
      → PathToFinal m from text → accepts_from automaton state text ≡ true
  from_path {from = from} state set at bytes has (ends final) = (mark_here state set at).none from has final
  from_path {from = from} state set at bytes has (passes {next = next} step path) =
      from_path state set at bytes ((is.table.rows.explored.proper state set at).closed next (from, has, step)) path
  from_path {from = from} state set at bytes has (reads {next = next} {byte = byte} step path) =
      let to = step_here state byte set at bytes.0 in
      from_path (next_state automaton state byte) to.0 to.1 bytes.1
      (to.2.closes.keeps next ((to.2.reads next).1 (from, has, step))) path

  pub determined : AcceptsPaths m automaton
  unfolding accepts
  determined text bytes =
      let first = is.table.rows.first.0 in
      let at = is.table.rows.first.1 in
      let closure = is.table.rows.first.2 in (
        (λ accepted.
            let path = to_path text 0 first at bytes accepted in
            let closed = closure.sound path.0 path.1 in
            let silent = subst (λ (s : ℕ). SilentPath m s path.0) (sym (only closed.0 closed.1)) closed.2 in
            after_silent m 0 text silent path.2),
        (λ path. from_path 0 first at bytes (closure.keeps 0 (0, omega arith, refl)) path),
      )
    where
      only : (x : ℕ) → Contains (0 ∷ []) x → 0 ≡ x
      only x c = elim (Contains-push_cases [] 0 x c)
          [ inl none ↦ absurd (let w = none.1 in omega arith) | inr e ↦ e ]
