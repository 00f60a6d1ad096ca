-- What the chunks of a text give that end at a byte which no name of a variable has.
use Rattle.std.specs.Prelude.{ℕ, ◌==◌, List, [], ◌∷◌, ◌++◌, drop, Bool, false, ◌&&◌, Option}
use Rattle.std.specs.Prelude.{if◌then◌else◌}
use Rattle.hc_base.specs.Bytes.{brace_close, brace_open, colon, dollar}
use Rattle.hc_says.specs.Variables.{stands_for}
use Rattle.hc_says.specs.declared.variables.Chunk.{Chunk}

-- The bytes begin with `${`.
abbrev pub begins_variable : List ℕ → Bool
begins_variable [] = false
begins_variable (b ∷ []) = false
begins_variable (b ∷ c ∷ bs) = (b == dollar) && (c == brace_open)

-- What bytes without `}` and `:` give together with a `}` behind them: the first `${` begins a
-- variable.
abbrev pub braced : (List ℕ → Option (List ℕ)) → List ℕ → List ℕ
braced value [] = brace_close ∷ []
braced value (b ∷ bs) = if begins_variable (b ∷ bs) then stands_for value (drop 1 bs) else b ∷ braced value bs

-- What a chunk gives with the byte behind it.
abbrev pub chunk_made : (List ℕ → Option (List ℕ)) → Chunk → List ℕ
chunk_made value chunk = if chunk.closes then braced value chunk.front.now else chunk.front.now ++ colon ∷ []
