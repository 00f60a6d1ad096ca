-- Variables in a line.
-- Apache manual, core, Define: `${NAME}` anywhere in a line stands for the value of that name. That a
-- replaced text is not looked at again, and what has no value stays, is our own choice.
use Rattle.std.specs.Prelude.{ℕ, zero, suc, ◌+◌, ◌==◌, List, [], ◌∷◌, ◌++◌, length, Bool, ◌&&◌}
use Rattle.std.specs.Prelude.{◌||◌, Option, Some, None, option_map, if◌then◌else◌}
use Rattle.hc_base.specs.Bytes.{brace_close, brace_open, colon, dollar}

-- A byte that no name of a variable has.
abbrev pub ends_name : ℕ → Bool
ends_name b = (b == colon) || (b == brace_close)

-- The name that a text begins with up to its `}`, if no colon comes before.
abbrev pub name_in_braces : List ℕ → Option (List ℕ)
name_in_braces [] = None
name_in_braces (b ∷ bs) =
    if b == brace_close then Some []
    else if b == colon then None
    else option_map (λ name. b ∷ name) (name_in_braces bs)

-- The name of the variable that stands at a place, by the byte there and what follows it.
abbrev pub variable_at : ℕ → List ℕ → Option (List ℕ)
variable_at b [] = None
variable_at b (c ∷ bs) = if (b == dollar) && (c == brace_open) then name_in_braces bs else None

-- A variable as it is written.
abbrev pub written : List ℕ → List ℕ
written name = dollar ∷ brace_open ∷ name ++ brace_close ∷ []

-- What stands for a variable: its value, or itself where it has none.
abbrev pub stands_for : (List ℕ → Option (List ℕ)) → List ℕ → List ℕ
stands_for value name = elim (value name) [ Some text ↦ text | None ↦ written name ]

-- The text with its variables replaced, where the first so many bytes belong to a variable before.
abbrev pub replaced_behind : (List ℕ → Option (List ℕ)) → ℕ → List ℕ → List ℕ
replaced_behind value passed [] = []
replaced_behind value (suc passed) (b ∷ bs) = replaced_behind value passed bs
replaced_behind value zero (b ∷ bs) = elim (variable_at b bs) [
  | None ↦ b ∷ replaced_behind value 0 bs
  | Some name ↦ stands_for value name ++ replaced_behind value (length name + 2) bs
]

abbrev pub replaced : (List ℕ → Option (List ℕ)) → List ℕ → List ℕ
replaced value text = replaced_behind value 0 text
