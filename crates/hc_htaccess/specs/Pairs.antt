-- A directory, and what is allowed there: by both a file is found.
use Rattle.std.specs.Prelude.{List, [], ◌∷◌, Bool, ◌&&◌}
use Rattle.std.specs.Bool.{beq}
use Rattle.std.specs.Cmp.Lexicographic.{pointwise}
use Rattle.std.specs.Str.{bytes_eq}
use Rattle.hc_model.specs.Overrides.{Loaded}
use Rattle.hc_model.specs.declared.section.Allowed.{Allowed}
use Rattle.hc_steps.specs.Step.{Path}

abbrev pub classes : Allowed → List Bool
classes allowed = allowed.auth ∷ allowed.file_info ∷ allowed.indexes ∷ allowed.limit ∷ allowed.options ∷ []

abbrev pub same_allowed : Allowed → Allowed → Bool
same_allowed one other = pointwise beq (classes one) (classes other)

abbrev pub is_for : Loaded → Path → Allowed → Bool
is_for each dir allowed = bytes_eq each.dir dir && same_allowed each.allowed allowed
