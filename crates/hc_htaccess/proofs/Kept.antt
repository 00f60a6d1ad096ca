-- What was kept is found, and stays.
use Rattle.std.proofs.Common.{◌≡◌, zero, suc, List, [], ◌∷◌, ◌++◌, map, Bool, true, false, Option, refl}
use Rattle.std.proofs.Common.{sym, ap, subst, ◌∙◌, arith}
use Rattle.std.specs.List.{Contains}
use Rattle.std.specs.Option.{option_and_then}
use Rattle.std.proofs.lemmas.List.{map-append}
use Rattle.std.proofs.lemmas.List.Elements.{Contains-append_left}
use Rattle.hc_htaccess.specs.Loading.{AreKept, kept_for, loaded_as}
use Rattle.hc_htaccess.specs.Pairs.{is_for}
use Rattle.hc_htaccess.specs.declared.plain.Kept.{Kept}
use Rattle.hc_htaccess.proofs.Pairs.{is_for_Decides}
use Rattle.hc_model.specs.Overrides.{Loaded, Reading, file_of}
use Rattle.hc_model.specs.declared.section.Allowed.{Allowed}
use Rattle.hc_model.specs.declared.section.HtFile.{HtFile}
use Rattle.hc_steps.specs.Step.{Path}

pub still_loaded : (kept all : List Kept) (more : Kept) → all ≡ kept ++ more ∷ [] → (each : Loaded)
    → Contains (map loaded_as kept) each → Contains (map loaded_as all) each
still_loaded kept all more is each has =
    subst (λ all. Contains (map loaded_as all) each) (sym is)
    (subst (λ all. Contains all each) (sym (map-append loaded_as kept (more ∷ [])))
    (Contains-append_left (map loaded_as kept) (loaded_as more ∷ []) each has))

module _ (reading : Reading) (dir : Path) (allowed : Allowed) where
  abbrev found_in : List Kept → Option HtFile
  found_in kept = option_and_then (λ each. each.file) (kept_for dir allowed kept)

  head_is : (head : Kept) (rest : List Kept) (is : Bool) → is_for (loaded_as head) dir allowed ≡ is
      → head.file ≡ file_of (reading head.dir head.allowed)
      → (is ≡ false → found_in rest ≡ file_of (reading dir allowed))
      → found_in (head ∷ rest) ≡ file_of (reading dir allowed)
  head_is head rest true is own behind =
      let same = (is_for_Decides (loaded_as head) dir allowed).0 is in
      rw is (own ∙ ap (λ dir. file_of (reading dir head.allowed)) same.0
      ∙ ap (λ allowed. file_of (reading dir allowed)) same.1)
  head_is head rest false is own behind = rw is (behind refl)

  file_found : (kept : List Kept) → AreKept reading kept
      → Contains (map loaded_as kept) (record { dir = dir; allowed = allowed })
      → found_in kept ≡ file_of (reading dir allowed)
  file_found [] are (n, below, is) = absurd (omega (arith, below))
  file_found (head ∷ rest) are (zero, below, is) =
      head_is head rest (is_for (loaded_as head) dir allowed) refl are.0
      (λ other. absurd
      (cc (
        other,
        (is_for_Decides (loaded_as head) dir allowed).1 (ap (λ pair. pair.dir) is, ap (λ pair. pair.allowed) is),
      )))
  file_found (head ∷ rest) are (suc n, below, is) =
      head_is head rest (is_for (loaded_as head) dir allowed) refl are.0
      (λ other. file_found rest are.1 (n, omega (arith, below), is))

  pub got : (kept : List Kept) (found : Option Kept) (file : Option HtFile) → AreKept reading kept
      → Contains (map loaded_as kept) (record { dir = dir; allowed = allowed })
      → found ≡ kept_for dir allowed kept
      → file ≡ option_and_then (λ each. each.file) found → file ≡ file_of (reading dir allowed)
  got kept found file are has is at = at ∙ ap (option_and_then (λ each. each.file)) is ∙ file_found kept are has
