-- Paths are taken away one by one.
use Rattle.std.specs.Prelude.{ℕ, List, [], ◌∷◌, ◌++◌, map, nat_eq, Vec, Contains, IsSome}
use Rattle.std.specs.declared.alloc.Global.{Global}
use Rattle.std.specs.FinMap.{get, keys, remove}
use Rattle.std.specs.List.{filter, starts_with}
use Rattle.hc_base.specs.Bytes.{slash}
use Rattle.hc_model.specs.Node.{is_dir}
use Rattle.hc_model.specs.World.{World}
use Rattle.hc_steps.specs.Step.{Path}
use Rattle.hc_world.specs.Changes.{ChangeMap}
use Rattle.hc_world.specs.Rows.{adjusted, with_all}

abbrev pub paths_of : List (Vec ℕ Global) → List Path
paths_of paths = map (λ path. path.items) paths

-- A path that is there, and those below it.
abbrev pub below : Path → List Path → List Path
below path paths = filter (λ other. starts_with nat_eq other (path ++ slash ∷ [])) paths

abbrev pub paths_within : World → Path → List Path
paths_within world path = path ∷ below path (keys world)

abbrev pub HasRows : ChangeMap → List Path → Type 0
HasRows rows paths = (path : Path) → Contains paths path → IsSome (get rows path)

abbrev pub without : World → List Path → World
without world [] = world
without world (path ∷ paths) = without (remove world path) paths

-- What was there is marked.
abbrev pub without_marked : World → ChangeMap → ℕ → List Path → ChangeMap
without_marked world rows number [] = rows
without_marked world rows number (path ∷ paths) =
    without_marked (remove world path) (adjusted rows path (with_all (is_dir (get world path)) number)) number paths
