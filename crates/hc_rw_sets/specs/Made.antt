-- What a function makes of the texts of a set.
use Rattle.std.specs.Prelude.{◌≡◌, ℕ, IsTrue, List}
use Rattle.hc_dfa.specs.Texts.{IsText, TextSet}

abbrev pub MadeOf : (List ℕ → List ℕ) → TextSet → List ℕ → Type 0
MadeOf make set x = (y : List ℕ) × IsText y × IsTrue (set y) × (x ≡ make y)

-- Of the texts of two sets, each by itself.
abbrev pub MadeOfBoth : (List ℕ → List ℕ → List ℕ) → TextSet → TextSet → List ℕ → Type 0
MadeOfBoth make set other x =
    (y : List ℕ) × (z : List ℕ) × IsText y × IsText z × IsTrue (set y) × IsTrue (other z) × (x ≡ make y z)
