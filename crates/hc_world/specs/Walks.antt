-- The directories of a walk to the end of its name.
use Rattle.std.specs.Prelude.{ℕ, List, [], ◌∷◌, ◌++◌}
use Rattle.hc_model.specs.declared.walk.Kind.{Kind}
use Rattle.hc_model.specs.declared.walk.Kind.TheVariants.{Absent, Dir, File}

abbrev pub with_last : Kind → List ℕ → List (List ℕ) → List (List ℕ)
with_last Dir name dirs = dirs ++ name ∷ []
with_last Absent name dirs = dirs
with_last File name dirs = dirs
