-- The fields of a command: what is read of them, or the name of the wrong field. Our own choice.
use Rattle.std.specs.Prelude.{ℕ, List, if◌then◌else◌, Option, Some, None, option_and_then, Result, Ok, Err}
use Rattle.std.specs.List.{list_any}
use Rattle.std.specs.Option.{ok_or}
use Rattle.std.specs.Str.{bytes_eq}
use Rattle.serde_json.specs.Data.{Data, Members, no_members, member}
use Rattle.serde_json.specs.Find.{get, as_str, as_object}

-- What is read, or the name of the wrong field.
infixl 10 ◌>>=◌
abbrev pub ◌>>=◌ : {A B : Type 0} → Result A (List ℕ) → (A → Result B (List ℕ)) → Result B (List ℕ)
(Ok x) >>= f = f x
(Err field) >>= f = Err field

-- A field that must be there, and of its form.
abbrev pub wanted : {A : Type 0} → List ℕ → (Data → Option A) → Data → Result A (List ℕ)
wanted key form d = ok_or (option_and_then form (get key d)) key

-- A field that must be there, and a text.
abbrev pub required : List ℕ → Data → Result (List ℕ) (List ℕ)
required key d = wanted key as_str d

abbrev pub or_default : {A : Type 0} → A → (Data → Option A) → Option Data → Option A
or_default default form None = Some default
or_default default form (Some d) = form d

-- A field that may be left out: what it gives where it is there and of its form, and its default where it
-- is not there.
abbrev pub optional : {A : Type 0} → List ℕ → A → (Data → Option A) → Data → Result A (List ℕ)
optional key default form d = ok_or (or_default default form (get key d)) key

-- The first key that is not among the known ones. Members stand in the byte order of their keys.
abbrev pub unknown_member : List (List ℕ) → Members → Option (List ℕ)
unknown_member known no_members = None
unknown_member known (member key d rest) =
    if list_any (bytes_eq key) known then unknown_member known rest
    else Some key

abbrev pub unknown_field : List (List ℕ) → Data → Option (List ℕ)
unknown_field known d = option_and_then (unknown_member known) (as_object d)

abbrev pub unless_unknown : {A : Type 0} → Option (List ℕ) → Result A (List ℕ) → Result A (List ℕ)
unless_unknown None read = read
unless_unknown (Some field) read = Err field

-- What is read, where there is no field but the known ones.
abbrev pub no_other : {A : Type 0} → List (List ℕ) → Data → Result A (List ℕ) → Result A (List ℕ)
no_other known d read = unless_unknown (unknown_field known d) read
