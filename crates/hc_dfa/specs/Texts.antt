-- Texts of bytes, their order, and the first texts of a set.
use Rattle.std.specs.Prelude.{◌≡◌, ℕ, ◌<◌, ◌&&◌, ◌||◌, ◌==◌, ◌⊎◌, nat_lt, IsTrue, List}
use Rattle.std.specs.Prelude.{[], ◌∷◌, length, Bool, false, Option, None, Some}
use Rattle.std.specs.List.{AllByRecursion}

-- Each number of the text is a byte.
abbrev pub IsText : List ℕ → Type 0
IsText text = AllByRecursion (λ byte. byte < 256) text

-- A set of texts is a test of texts; only texts of bytes count.
abbrev pub TextSet : Type 0
TextSet = List ℕ → Bool

-- Of two texts of one length: at the first byte at which they differ, the first text's is less.
abbrev pub byte_order : List ℕ → List ℕ → Bool
byte_order [] other = false
byte_order (b ∷ text) [] = false
byte_order (b ∷ text) (c ∷ other) = nat_lt b c || ((b == c) && byte_order text other)

-- The order of texts: the shorter first, and those of one length in byte order.
abbrev pub comes_before : List ℕ → List ℕ → Bool
comes_before text other = nat_lt (length text) (length other)
    || ((length text == length other) && byte_order text other)

-- No text is in the set.
abbrev pub IsEmptySet : TextSet → Type 0
IsEmptySet set = (text : List ℕ) → IsText text → set text ≡ false

-- The text is one of bytes in the set, and comes before every other text of the set.
pub record IsLeast (set : TextSet) (text : List ℕ) : Type 0 where
  pub bytes : IsText text
  pub member : IsTrue (set text)
  pub first : (other : List ℕ) → IsText other → IsTrue (set other) → (other ≡ text)
      ⊎ IsTrue (comes_before text other)

-- The least text of the set, and `None` exactly where there is none.
abbrev pub IsLeastOf : TextSet → Option (List ℕ) → Type 0
IsLeastOf set None = IsEmptySet set
IsLeastOf set (Some text) = IsLeast set text
