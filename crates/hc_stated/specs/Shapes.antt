-- Sets of texts as JSON. Our own choice.
use Rattle.std.specs.Prelude.{ℕ, zero, suc, List, [], ◌∷◌, ◌++◌, true, if◌then◌else◌, Bool, false}
use Rattle.std.specs.Prelude.{Option, Some, None, option_and_then, option_map, codes}
use Rattle.std.specs.List.{fold}
use Rattle.std.specs.Str.{bytes_eq}
use Rattle.serde_json.specs.Data.{Data, Items, Members, item, member, no_items, no_members}
use Rattle.serde_json.specs.Find.{as_array, as_bool, as_object, as_str}
use Rattle.hc_regset.specs.Forms.{Form, both, either, every, found, none, only, without}
use Rattle.hc_stated.specs.declared.shape.TheConstants.{MOST_NESTED}

-- The one member of an object that has one.
abbrev pub sole : Members → Option (List ℕ × Data)
sole (member key d no_members) = Some (key, d)
sole other = None

-- How a value is read as a set.
abbrev pub Reader : Type 0
Reader = Data → Option Form

-- These sets, and then those of the items, where each is one.
abbrev pub sets_behind : Reader → List Form → Items → Option (List Form)
sets_behind reader sets no_items = Some sets
sets_behind reader sets (item d ds) = option_and_then (λ set. sets_behind reader (sets ++ set ∷ []) ds) (reader d)

abbrev pub members_in : Reader → Data → Option (List Form)
members_in reader d = option_and_then (sets_behind reader []) (as_array d)

-- At least one set.
abbrev pub all_of : List Form → Option Form
all_of [] = None
all_of (set ∷ sets) = Some (fold both every (set ∷ sets))

abbrev pub any_of : List Form → Option Form
any_of [] = None
any_of (set ∷ sets) = Some (fold either none (set ∷ sets))

abbrev pub difference_of : List Form → Option Form
difference_of (one ∷ other ∷ []) = Some (without one other)
difference_of sets = None

abbrev pub every_where : Bool → Option Form
every_where true = Some every
every_where false = None

-- A set by its key; the sets within it are read so.
abbrev pub set_keyed : Reader → List ℕ → Data → Option Form
set_keyed reader key d =
    if bytes_eq key (codes "any") then option_and_then every_where (as_bool d)
    else (if bytes_eq key (codes "literal") then option_map only (as_str d)
    else (if bytes_eq key (codes "pattern") then option_map found (as_str d)
    else (if bytes_eq key (codes "and") then option_and_then all_of (members_in reader d)
    else (if bytes_eq key (codes "or") then option_and_then any_of (members_in reader d)
    else (if bytes_eq key (codes "minus") then option_and_then difference_of (members_in reader d)
    else None)))))

abbrev pub set_with : Reader → List ℕ × Data → Option Form
set_with reader keyed = set_keyed reader keyed.0 keyed.1

-- A set in which so many stand within each other at most.
abbrev pub set_within : ℕ → Reader
set_within zero d = None
set_within (suc room) d = option_and_then (set_with (set_within room)) (option_and_then sole (as_object d))

-- The set that a value is.
unfoldable pub set_of : Reader
set_of d = set_within MOST_NESTED d
