-- Tests that read a text byte by byte.
use Rattle.std.specs.Prelude.{ℕ, [], ◌∷◌, Bool}
use Rattle.hc_dfa.specs.Texts.{TextSet}

-- The texts of which a test holds, read from a key on: each byte leads to a key.
abbrev pub reading_from : {K : Type 0} → (K → ℕ → K) → (K → Bool) → K → TextSet
reading_from reads holds key [] = holds key
reading_from reads holds key (byte ∷ text) = reading_from reads holds (reads key byte) text
