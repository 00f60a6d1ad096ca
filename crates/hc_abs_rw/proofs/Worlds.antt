-- The texts that name what a world has.
use Rattle.std.proofs.Common.{◌≡◌, Bool, true, ℕ, List, Option, Some, None, IsSome, refl, sym, ◌∙◌, rules}
use Rattle.std.proofs.lemmas.Bool.{false≢true}
use Rattle.std.specs.FinMap.{get}
use Rattle.hc_abs_rw.specs.Around.{kind_in}
use Rattle.hc_abs_rw.specs.Conditions.{stands}
use Rattle.hc_dfa.specs.Singles.{is_among}
use Rattle.hc_model.specs.Node.{Node, dir, file, text, kind_of}
use Rattle.hc_model.specs.World.{IsWorld, World}
use Rattle.hc_model.specs.declared.walk.Kind.{Kind}
use Rattle.hc_rw_eval.specs.Conditions.{is_dir, is_file}
use Rattle.hc_rw_sets.specs.Naming.{ArePaths, names}
use Rattle.hc_world.proofs.Listed.{among_paths}
use Rattle.hc_world.specs.Places.{is_listed, paths_of}
use Rattle.hc_world.specs.declared.world.ListKind.{ListKind}
use Rattle.hc_world.specs.declared.world.ListKind.TheVariants as kinds

pub world_paths : (world : World) → IsWorld world → (kind : ListKind) → ArePaths (paths_of world kind)
world_paths world is kind path among =
    is.keys_are_paths path (there kind (get world path) (sym (among_paths world kind path) ∙ among))
  where
    there : (kind : ListKind) (node : Option Node) → is_listed kind node ≡ true → IsSome node
    there kinds.File None isnt = absurd (false≢true isnt)
    there kinds.Dir None isnt = absurd (false≢true isnt)
    there kinds.File (Some node) listed = search rules
    there kinds.Dir (Some node) listed = search rules

-- What `-f` and `-d` want is what is listed.
abbrev wanted : ListKind → Kind → Bool
wanted kinds.File = is_file
wanted kinds.Dir = is_dir

pub listed_stand : (world : World) (kind : ListKind) (path : Option (List ℕ))
    → names (is_among (paths_of world kind)) path ≡ stands (kind_in world) (wanted kind) path
listed_stand world kind None = refl
listed_stand world kind (Some path) = among_paths world kind path ∙ same kind (get world path)
  where
    same : (kind : ListKind) (node : Option Node) → is_listed kind node ≡ wanted kind (kind_of node)
    same kinds.File None = refl
    same kinds.File (Some dir) = refl
    same kinds.File (Some file) = refl
    same kinds.File (Some (text bytes)) = refl
    same kinds.Dir None = refl
    same kinds.Dir (Some dir) = refl
    same kinds.Dir (Some file) = refl
    same kinds.Dir (Some (text bytes)) = refl
