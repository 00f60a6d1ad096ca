-- Two pairs are the same exactly where their directories are and the same is allowed.
use Rattle.std.proofs.Common.{◌≡◌, List, [], ◌∷◌, Bool, refl, ap}
use Rattle.std.specs.Bool.{Decides}
use Rattle.std.specs.Cmp.{booleans_Decides}
use Rattle.std.specs.Str.{bytes_eq}
use Rattle.std.proofs.lemmas.Bool.Decides.{Decides-and, Decides-like}
use Rattle.std.proofs.lemmas.Slice.Eq.{bytes_eq-Decides, slice_eq-Decides}
use Rattle.hc_htaccess.specs.Pairs.{classes, is_for, same_allowed}
use Rattle.hc_merge.specs.Overriding.{nothing_allowed}
use Rattle.hc_model.specs.Overrides.{Loaded}
use Rattle.hc_model.specs.declared.section.Allowed.{Allowed}
use Rattle.hc_steps.specs.Step.{Path}

abbrev allowed_with : List Bool → Allowed
allowed_with (a ∷ b ∷ c ∷ d ∷ e ∷ []) =
    record { auth = a; file_info = b; indexes = c; limit = d; options = e }
allowed_with _ = nothing_allowed

pub is_for_Decides : (each : Loaded) (dir : Path) (allowed : Allowed)
    → Decides (is_for each dir allowed) ((each.dir ≡ dir) × (each.allowed ≡ allowed))
is_for_Decides each dir allowed =
    Decides-and (bytes_eq each.dir dir) (same_allowed each.allowed allowed) (bytes_eq-Decides each.dir dir)
    (Decides-like (same_allowed each.allowed allowed) (ap allowed_with) (ap classes)
    (slice_eq-Decides booleans_Decides (classes each.allowed) (classes allowed) (same_allowed each.allowed allowed)
    refl))
