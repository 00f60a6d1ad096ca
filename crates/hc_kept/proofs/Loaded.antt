-- What is loaded: of what was kept and of what was read since.
use Rattle.std.proofs.Common.{◌≡◌, ◌⊎◌, inl, inr, List, [], ◌∷◌, ◌++◌, map, filter, Bool, true}
use Rattle.std.proofs.Common.{false, refl, sym, ap, ◌∙◌, append_assoc, true≢false, arith}
use Rattle.std.specs.List.{Contains}
use Rattle.std.proofs.lemmas.List.{map-append}
use Rattle.std.proofs.lemmas.List.Elements.{Contains-append_cases, Contains-append_left, Contains-push}
use Rattle.hc_model.specs.Overrides.{Loaded}
use Rattle.hc_model.specs.declared.section.Allowed.{Allowed}
use Rattle.hc_steps.specs.Step.{Path}
use Rattle.hc_world.specs.Edits.{Edited}
use Rattle.hc_kept.specs.Files.{KeptFile, as_loaded, fresh_as_loaded, is_current_file}
use Rattle.hc_kept.specs.Entries.{HasNoCurrent}
use Rattle.hc_kept.specs.declared.cached.FreshFile.{FreshFile}
use Rattle.hc_kept.proofs.Entries.{behind, first, first_or_behind}

module _ (world : Edited) where
  abbrev loaded : List KeptFile → List Loaded
  loaded files = map as_loaded (filter (is_current_file world) files)

  pub to_loaded : (files : List KeptFile) (file : KeptFile) → Contains files file → is_current_file world file
      ≡ true → Contains (loaded files) (as_loaded file)
  to_loaded [] file (n, below, is) stays = absurd (omega (arith, below))
  to_loaded (head ∷ files) file has stays = by (is_current_file world head) refl (first_or_behind head files file has)
      (λ has. to_loaded files file has stays)
    where
      by : (b : Bool) → is_current_file world head ≡ b → (head ≡ file) ⊎ Contains files file
          → (Contains files file → Contains (loaded files) (as_loaded file))
          → Contains (loaded (head ∷ files)) (as_loaded file)
      by true is (inl same) rest = rw is (first _ (loaded files) _ (ap as_loaded same))
      by true is (inr has) rest = rw is (behind _ (loaded files) _ (rest has))
      by false is (inl same) rest = absurd (true≢false (sym stays ∙ ap (is_current_file world) (sym same) ∙ is))
      by false is (inr has) rest = rw is (rest has)

  module _ (dir : Path) (allowed : Allowed) where
    abbrev pair : Loaded
    pair = record { dir = dir; allowed = allowed }

    not_kept : (files : List KeptFile) → HasNoCurrent world files dir allowed → Contains (loaded files) pair → ⊥
    not_kept [] _ (n, below, is) = omega (arith, below)
    not_kept (head ∷ files) gone has =
        by (is_current_file world head) refl (gone head (first head files head refl))
        (not_kept files (λ file has. gone file (behind head files file has)))
      where
        among : (as_loaded head ≡ pair) ⊎ Contains (loaded files) pair
            → (head.dir ≡ dir → head.allowed ≡ allowed → true ≡ false)
            → (Contains (loaded files) pair → ⊥) → ⊥
        among (inl same) stale rest = true≢false (stale (ap (λ l. l.dir) same) (ap (λ l. l.allowed) same))
        among (inr has) stale rest = rest has

        by : (b : Bool) → is_current_file world head ≡ b
            → (head.dir ≡ dir → head.allowed ≡ allowed → is_current_file world head ≡ false)
            → (Contains (loaded files) pair → ⊥) → ⊥
        by true is stale rest = among (first_or_behind (as_loaded head) (loaded files) pair (rw is at has))
            (λ d a. sym is ∙ stale d a) rest
        by false is stale rest = rest (rw is at has)

    pub not_loaded : (kept : List KeptFile) (fresh : List Loaded) → HasNoCurrent world kept dir allowed
        → (Contains fresh pair → ⊥) → Contains (loaded kept ++ fresh) pair → ⊥
    not_loaded kept fresh gone unread has = by (Contains-append_cases (loaded kept) fresh pair has)
      where
        by : Contains (loaded kept) pair ⊎ Contains fresh pair → ⊥
        by (inl has) = not_kept kept gone has
        by (inr has) = unread has

-- A file that was read is loaded beside the others.
module _ (kept : List Loaded) (fresh : List FreshFile) {all : List FreshFile} (file : FreshFile)
    (pushed : all ≡ fresh ++ file ∷ []) where
  all_loaded : kept ++ map fresh_as_loaded all ≡ (kept ++ map fresh_as_loaded fresh) ++ fresh_as_loaded file ∷ []
  all_loaded =
      ap (λ files. kept ++ map fresh_as_loaded files) pushed
      ∙ ap (λ more. kept ++ more) (map-append fresh_as_loaded fresh (file ∷ []))
      ∙ sym (append_assoc kept (map fresh_as_loaded fresh) (fresh_as_loaded file ∷ []))

  pub still_loaded : (each : Loaded) → Contains (kept ++ map fresh_as_loaded fresh) each
      → Contains (kept ++ map fresh_as_loaded all) each
  still_loaded each has = rw all_loaded (Contains-append_left _ _ each has)

  pub now_loaded : Contains (kept ++ map fresh_as_loaded all) (fresh_as_loaded file)
  now_loaded = rw all_loaded (Contains-push (kept ++ map fresh_as_loaded fresh) (fresh_as_loaded file))
