-- What the code keeps of what an entry finds in a path.
use Rattle.std.specs.Prelude.{Option}
use Rattle.std.specs.Borrow.{Bor}
use Rattle.std.specs.Option.{option_map}
use Rattle.hc_match.specs.Settings.{captured}
use Rattle.hc_alias.specs.declared.tests.Found.{Found}
use Rattle.hc_alias.specs.declared.tests.Found.TheVariants.{Behind, Searched}
use Rattle.hc_alias.specs.Tests as definition
use Rattle.hc_alias.specs.Tests.{no_groups, searched}

abbrev pub found_of : Found → definition.Found
found_of (Behind rest) = record { groups = no_groups; rest = rest.now }
found_of (Searched path captures) = searched path.now (captured captures)

-- An entry that takes a path, if there is one, with what it finds.
abbrev pub taken_view : {A : Type 0} → Option (Bor A × Found) → Option (A × definition.Found)
taken_view = option_map (λ taken. (taken.0.now, found_of taken.1))
