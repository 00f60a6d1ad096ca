-- How the tree of a section stands to those before it.
-- Apache manual, mod_authz_core, AuthMerging.
use Rattle.std.specs.Prelude.{List, [], ◌∷◌, Option, Some, None}
use Rattle.std.specs.List.{fold}
use Rattle.hc_model.specs.declared.authorization.Join.{Join}
use Rattle.hc_model.specs.declared.authorization.Merging.{Merging}
use Rattle.hc_model.specs.declared.authorization.Merging.TheVariants.{Off, And, Or}
use Rattle.hc_model.specs.declared.authorization.ReqTree.{ReqTree}
use Rattle.hc_model.specs.declared.authorization.ReqTree.TheVariants.{All, AnyOf}

abbrev pub joined : ReqTree → ReqTree → Merging → ReqTree
joined before own Off = own
joined before own And = All (before ∷ own ∷ [])
joined before own Or = AnyOf (before ∷ own ∷ [])

-- A section without Require changes nothing; where there is no tree so far, its own counts.
abbrev pub joined_behind : Option ReqTree → Option ReqTree → Merging → Option ReqTree
joined_behind before None how = before
joined_behind None (Some own) how = Some own
joined_behind (Some before) (Some own) how = Some (joined before own how)

-- The one tree that trees make, each behind those before it.
abbrev pub required_by : List Join → Option ReqTree
required_by joins = fold (λ so_far join. joined_behind so_far (Some join.tree) join.how) None joins
