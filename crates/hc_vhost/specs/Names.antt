-- Which names a ServerAlias stands for.
-- Apache manual, core, ServerAlias. Names are compared without case; `*` stands for any bytes, and `?`
-- for one.
use Rattle.std.specs.Prelude.{ℕ, List, [], ◌∷◌, Bool, true, false, ◌==◌, ◌&&◌, ◌||◌}
use Rattle.std.specs.Prelude.{if◌then◌else◌}
use Rattle.std.specs.Char.{to_ascii_lowercase}
use Rattle.hc_base.specs.Bytes.{question, star}

abbrev pub same_letter : ℕ → ℕ → Bool
same_letter b c = to_ascii_lowercase b == to_ascii_lowercase c

-- A byte of an alias stands for a byte of a name.
abbrev pub stands_for : ℕ → ℕ → Bool
stands_for b c = (b == question) || same_letter b c

-- The name begins with what the byte stands for, and the test holds of the rest.
abbrev pub one_byte : ℕ → (List ℕ → Bool) → List ℕ → Bool
one_byte b test [] = false
one_byte b test (c ∷ name) = stands_for b c && test name

-- The test holds of the name, or of it without some bytes at its front.
abbrev pub any_bytes : (List ℕ → Bool) → List ℕ → Bool
any_bytes test [] = test []
any_bytes test (c ∷ name) = test (c ∷ name) || any_bytes test name

abbrev pub is_empty : List ℕ → Bool
is_empty [] = true
is_empty (c ∷ name) = false

-- The alias stands for the name.
abbrev pub fits : List ℕ → List ℕ → Bool
fits [] name = is_empty name
fits (b ∷ alias) name = if b == star then any_bytes (fits alias) name else one_byte b (fits alias) name
