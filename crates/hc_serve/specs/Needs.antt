-- The Require lines of a tree.
-- Apache manual, mod_authz_core, Require.
use Rattle.std.specs.Prelude.{List, [], ◌∷◌, ◌++◌, Option, Some, None}
use Rattle.std.specs.List.{flat_map}
use Rattle.hc_base.specs.declared.place.Place.{Place}
use Rattle.hc_model.specs.declared.authorization.Merging.{Merging}
use Rattle.hc_model.specs.declared.authorization.Merging.TheVariants.{Off, And, Or}
use Rattle.hc_model.specs.declared.authorization.ReqTree.{ReqTree, fold-ReqTree}
use Rattle.hc_model.specs.declared.authorization.ReqTree.TheOpen.{ReqTree-F}

abbrev pub all_of : List (List Place) → List Place
all_of lists = flat_map (λ places. places) lists

abbrev pub level_places : ReqTree-F (List Place) → List Place
level_places (ReqTree-F.Leaf place negated need) = place ∷ []
level_places (ReqTree-F.All lists) = all_of lists
level_places (ReqTree-F.AnyOf lists) = all_of lists
level_places (ReqTree-F.NoneOf lists) = all_of lists

-- Their places, in the order in which they stand.
abbrev pub places_in : ReqTree → List Place
places_in = fold-ReqTree (List Place) level_places

abbrev pub needs_of : Option ReqTree → List Place
needs_of None = []
needs_of (Some tree) = places_in tree

-- Of two trees joined, from the places of each.
abbrev pub places_joined : List Place → List Place → Merging → List Place
places_joined before own Off = own
places_joined before own And = before ++ own
places_joined before own Or = before ++ own
