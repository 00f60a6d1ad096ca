-- The branches of who may pass, by what may be said.
use Rattle.std.specs.Prelude.{List, [], ◌∷◌, ◌++◌, Bool, true, false, ◌||◌, Option, None, Some}
use Rattle.hc_plan.specs.declared.storing.Tied.{Tied}
use Rattle.hc_abs_authz.specs.declared.admitting.Admitted.{Admitted}
use Rattle.hc_abs_authz.specs.declared.values.Values.{Values}

-- A branch where it may end so.
abbrev pub where_is : Bool → Bool → Tied → List Admitted
where_is true is tied = record { tied = tied; is = is } ∷ []
where_is false is tied = []

-- First the one where some are let in. Without a tree everyone is.
abbrev pub admitted_by : Tied → Option Values → List Admitted
admitted_by tied None = where_is true true tied
admitted_by tied (Some values) =
    where_is values.granted true tied ++ where_is (values.denied || values.neutral) false tied
