-- A list that its copies share.
use Rattle.std.specs.Prelude.{List, [], Option, Some, None}
use Rattle.std.specs.Rc.{rc_value}
use Rattle.std.specs.declared.rc.Rc.{Rc}

abbrev pub list_in : {X Z : Type 0} → Option (Rc (List X) Z) → List X
list_in None = []
list_in (Some shared) = rc_value shared
