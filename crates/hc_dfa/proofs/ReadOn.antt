-- The automaton of a test that reads a text byte by byte.
use Rattle.hc_dfa.proofs.Common.{◌≡◌, ℕ, List, [], ◌∷◌, Bool, Some, slice_get}
use Rattle.hc_dfa.proofs.Common.{Accepts, Classing, IsText, accepts, accepts_from, next_state}
use Rattle.hc_dfa.proofs.Keyed.{AreKeyed, leads_on, made, marked}
use Rattle.hc_dfa.specs.Readings.{reading_from}

-- The states stand for the keys of a test.
abbrev pub AreRead : {K : Type 0} → (K → Type 0) → (K → ℕ → K) → (K → Bool) → K → Classing
    → List ℕ → List Bool → Type 0
AreRead {K} IsKey reads holds first c rows finals =
    AreKeyed (λ (key : K). key ≡ first) IsKey (λ key byte to. to ≡ reads key byte)
    (λ key answer. answer ≡ holds key) c rows finals

module _ {K : Type 0} (IsKey : K → Type 0) (reads : K → ℕ → K) (holds : K → Bool) (first : K) (c : Classing)
    (rows : List ℕ) (finals : List Bool) (is : AreRead IsKey reads holds first c rows finals) where
  read_on : (state : ℕ) (key : K) (text : List ℕ) → slice_get is.table.keys state ≡ Some key → IsText text
      → accepts_from (made _ _ _ _ c rows finals is) state text ≡ reading_from reads holds key text
  read_on state key [] at bytes = marked _ _ _ _ c rows finals is state key at
  read_on state key (byte ∷ text) at bytes =
      let to = leads_on _ _ _ _ c rows finals is state byte key at bytes.0 in
      rw to.2 at (read_on (next_state (made _ _ _ _ c rows finals is) state byte) to.0 text to.1 bytes.1)

  pub tested : Accepts (made _ _ _ _ c rows finals is) (reading_from reads holds first)
  unfolding accepts
  tested text bytes =
      let start = is.table.rows.first in read_on 0 first text (rw start.2 at start.1) bytes
