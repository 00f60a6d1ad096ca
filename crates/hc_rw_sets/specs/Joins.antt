-- Texts with something else in front or behind them.
use Rattle.std.specs.Prelude.{◌≡◌, ◌≢◌, ℕ, IsTrue, List, [], ◌∷◌, ◌++◌, length, drop, nat_eq}
use Rattle.std.specs.Prelude.{if◌then◌else◌}
use Rattle.std.specs.List.{starts_with}
use Rattle.hc_base.specs.Bytes.{ampersand}
use Rattle.hc_dfa.specs.Texts.{IsText, TextSet}

-- A text that begins with a front has another one in its place.
abbrev pub with_front : List ℕ → List ℕ → List ℕ → List ℕ
with_front from to text = if starts_with nat_eq text from then to ++ drop (length from) text else text

-- A query of each set, neither of them empty, with `&` between them.
pub record AreBoth (first second : TextSet) (text : List ℕ) : Type 0 where
  pub new : List ℕ
  pub old : List ℕ
  pub new_bytes : IsText new
  pub old_bytes : IsText old
  pub begins : IsTrue (first new)
  pub goes_on : IsTrue (second old)
  pub some_new : new ≢ []
  pub some_old : old ≢ []
  pub is : text ≡ new ++ ampersand ∷ old
