-- How a name is followed through the directories of a world.
-- Apache manual, core, AcceptPathInfo: what follows the name of a file is path information.
use Rattle.std.specs.Prelude.{ℕ, List, [], ◌∷◌, ◌++◌, take, drop, Bool, not, if◌then◌else◌, Option}
use Rattle.std.specs.Prelude.{Some, None, map, find, take_while}
use Rattle.std.specs.FinMap.{get}
use Rattle.hc_base.specs.Paths.{is_slash, ends_with_slash}
use Rattle.hc_model.specs.Node.{kind_of, is_dir}
use Rattle.hc_model.specs.World.{World, root}
use Rattle.hc_model.specs.declared.walk.Kind.TheVariants.{Dir}
use Rattle.hc_model.specs.declared.walk.Walk.{Walk}

-- The components of a name in order: each as the name up to it and what follows it, from its slash
-- on. `seen` stands before all. Behind a final slash there is no further component.
abbrev pub steps : List ℕ → List ℕ → List (List ℕ × List ℕ)
steps seen [] = if ends_with_slash seen then [] else (seen, []) ∷ []
steps seen (b ∷ bs) =
    if is_slash b then (seen, b ∷ bs) ∷ steps (seen ++ b ∷ []) bs
    else steps (seen ++ b ∷ []) bs

abbrev pub steps_of : List ℕ → List (List ℕ × List ℕ)
steps_of name = steps (take 1 name) (drop 1 name)

abbrev pub is_step_dir : World → List ℕ × List ℕ → Bool
is_step_dir world step = is_dir (get world step.0)

-- The first component that is no directory, with the rest as path information; where there is
-- none, the whole name, which is a directory.
abbrev pub end_of : World → List ℕ → Option (List ℕ × List ℕ) → List (List ℕ) → Walk
end_of world name None dirs = record { name = name; info = []; kind = Dir; dirs = dirs }
end_of world name (Some step) dirs =
    record { name = step.0; info = step.1; kind = kind_of (get world step.0); dirs = dirs }

-- Components are followed while they are directories.
abbrev pub walk : World → List ℕ → Walk
walk world name =
    end_of world name (find (λ step. not (is_step_dir world step)) (steps_of name))
    (root ∷ map (λ step. step.0) (take_while (is_step_dir world) (steps_of name)))
