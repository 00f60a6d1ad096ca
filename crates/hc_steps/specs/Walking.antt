-- A name is followed through the directories, and each component that is looked at is told.
use Rattle.std.specs.Prelude.{ℕ, List, [], ◌∷◌, ◌++◌}
use Rattle.hc_model.specs.Walking.{steps_of}
use Rattle.hc_model.specs.World.{root}
use Rattle.hc_model.specs.declared.walk.Kind.{Kind}
use Rattle.hc_model.specs.declared.walk.Kind.TheVariants.{Absent, Dir, File}
use Rattle.hc_model.specs.declared.walk.Walk.{Walk}
use Rattle.hc_steps.specs.Step.{Path, Step, leaves, ◌>>=◌, kind_at}

abbrev pub ended : List ℕ → List ℕ → Kind → List Path → Walk
ended name info kind dirs = record { name = name; info = info; kind = kind; dirs = dirs }

-- Components are followed while they are directories; the first that is none ends the walk.
abbrev pub onward : {E : Type 0} → List ℕ × List ℕ → List Path → Step E Walk → Kind → Step E Walk
onward part dirs rest Dir = rest
onward part dirs rest Absent = leaves (ended part.0 part.1 Absent dirs)
onward part dirs rest File = leaves (ended part.0 part.1 File dirs)

abbrev pub follow : {E : Type 0} → List ℕ → List (List ℕ × List ℕ) → List Path → Step E Walk
follow name [] dirs = leaves (ended name [] Dir dirs)
follow name (part ∷ rest) dirs = kind_at part.0 >>= onward part dirs (follow name rest (dirs ++ part.0 ∷ []))

unfoldable pub walk : {E : Type 0} → List ℕ → Step E Walk
walk name = follow name (steps_of name) (root ∷ [])
