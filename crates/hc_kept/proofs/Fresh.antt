-- What was read since: it is found, and it is kept.
use Rattle.std.proofs.Common.{◌≡◌, ◌⊎◌, inl, inr, List, [], ◌∷◌, ◌++◌, map, Bool, true, false}
use Rattle.std.proofs.Common.{Option, Some, None, refl, sym, ap, subst, ◌∙◌, true≢false, arith}
use Rattle.std.specs.List.{Contains, find}
use Rattle.std.specs.Option.{MatchOption}
use Rattle.std.proofs.lemmas.List.Elements.{Contains-append_cases}
use Rattle.std.specs.Bool.{Decides}
use Rattle.hc_htaccess.specs.Loading.{answer_of}
use Rattle.hc_htaccess.specs.Pairs.{is_for}
use Rattle.hc_htaccess.specs.Reading.{reading_in}
use Rattle.hc_htaccess.proofs.Pairs.{is_for_Decides}
use Rattle.hc_model.specs.Overrides.{Loaded, Reading}
use Rattle.hc_model.specs.declared.config.Config.{Config}
use Rattle.hc_model.specs.declared.section.Allowed.{Allowed}
use Rattle.hc_steps.specs.Step.{Path}
use Rattle.hc_world.specs.Edits.{Edited}
use Rattle.hc_kept.specs.Files.{AreFilesOf, AreFresh, IsFileOf, IsFresh, KeptFile, as_loaded, fresh_as_loaded}
use Rattle.hc_kept.specs.Entries.{Puts, file_for}
use Rattle.hc_kept.specs.declared.cached.FreshFile.{FreshFile}
use Rattle.hc_kept.proofs.Entries.{behind, first, first_or_behind}

module _ (reading : Reading) (dir : Path) (allowed : Allowed) where
  abbrev pair : Loaded
  pair = record { dir = dir; allowed = allowed }

  abbrev loaded : List FreshFile → List Loaded
  loaded files = map fresh_as_loaded files

  abbrev found_in : List FreshFile → Option FreshFile
  found_in files = find (λ file. is_for (fresh_as_loaded file) dir allowed) files

  -- It is loaded and right; or none is loaded.
  abbrev IsFound : List FreshFile → Option FreshFile → Type 0
  IsFound files found =
      MatchOption found (Contains (loaded files) pair → ⊥)
      (λ file. Contains (loaded files) pair × (file.found ≡ answer_of (reading dir allowed)))

  first_found : (files : List FreshFile) → AreFresh reading files → IsFound files (found_in files)
  first_found [] are = λ (n, below, is). omega (arith, below)
  first_found (head ∷ files) are = by (is_for (fresh_as_loaded head) dir allowed) refl (first_found files are.1)
    where
      decides : Decides (is_for (fresh_as_loaded head) dir allowed) ((head.dir ≡ dir) × (head.allowed ≡ allowed))
      decides = is_for_Decides (fresh_as_loaded head) dir allowed

      apart : is_for (fresh_as_loaded head) dir allowed ≡ false → (Contains (loaded files) pair → ⊥)
          → (fresh_as_loaded head ≡ pair) ⊎ Contains (loaded files) pair → ⊥
      apart other isnt (inl is) =
          true≢false (sym (decides.1 (ap (λ l. l.dir) is, ap (λ l. l.allowed) is)) ∙ other)
      apart other isnt (inr has) = isnt has

      on : (found : Option FreshFile) → is_for (fresh_as_loaded head) dir allowed ≡ false → IsFound files found
          → IsFound (head ∷ files) found
      on (Some file) _ is = (behind _ (loaded files) _ is.0, is.1)
      on None other isnt = λ has. apart other isnt (first_or_behind _ (loaded files) _ has)

      by : (b : Bool) → is_for (fresh_as_loaded head) dir allowed ≡ b → IsFound files (found_in files)
          → IsFound (head ∷ files) (found_in (head ∷ files))
      by true is _ =
          let same = decides.0 is in
          rw is (
            first _ (loaded files) _ (ap (λ d. record { dir = d; allowed = head.allowed }) same.0
                ∙ ap (λ a. record { dir = dir; allowed = a }) same.1),
            are.0 ∙ ap (λ d. answer_of (reading d head.allowed)) same.0
                ∙ ap (λ a. answer_of (reading dir a)) same.1,
          )
      by false is rest = rw is (on (found_in files) is rest)

  pub is_found : (files all : List FreshFile) (found : Option FreshFile) → AreFresh reading all → files ≡ all
      → found ≡ found_in files → IsFound all found
  is_found files all found are same is = subst (IsFound all) (sym (is ∙ ap found_in same)) (first_found all are)

popped : (reading : Reading) (left : List FreshFile) (file : FreshFile) → AreFresh reading (left ++ file ∷ [])
    → AreFresh reading left × IsFresh reading file
popped reading [] file are = (tt, are.0)
popped reading (head ∷ left) file are = let rest = popped reading left file are.1 in ((are.0, rest.0), rest.1)

module _ (world : Edited) (config : Config) {all : List FreshFile} (left : List FreshFile) (file : FreshFile)
    (pops : all ≡ left ++ file ∷ []) where
  abbrev reading : Reading
  reading = reading_in world.files config

  pub left_fresh : AreFresh reading all → AreFresh reading left
  left_fresh are = (popped reading left file (subst (AreFresh reading) pops are)).0

  pub put_fresh : {old new : List KeptFile} → Puts old new (file_for file.dir file.allowed file.found world.edits)
      → AreFilesOf world config old
      → AreFresh reading all → AreFilesOf world config new
  put_fresh {old} {new} puts were are other has = by (puts.others other has)
    where
      by : (other ≡ file_for file.dir file.allowed file.found world.edits) ⊎ Contains old other
          → IsFileOf world config other
      by (inl same) =
          subst (IsFileOf world config) (sym same)
          (record { age = omega arith; found = λ _. (popped reading left file (subst (AreFresh reading) pops are)).1 })
      by (inr has) = were other has

-- ---- each is kept

pub kept_pair : (files : List KeptFile) (file : KeptFile) → Contains files file
    → Contains (map as_loaded files) (as_loaded file)
kept_pair [] file (n, below, is) = absurd (omega (arith, below))
kept_pair (head ∷ files) file has = by (first_or_behind head files file has) (kept_pair files file) where
  by : (head ≡ file) ⊎ Contains files file
      → (Contains files file → Contains (map as_loaded files) (as_loaded file))
      → Contains (map as_loaded (head ∷ files)) (as_loaded file)
  by (inl is) rest = first _ (map as_loaded files) _ (ap as_loaded is)
  by (inr has) rest = behind _ (map as_loaded files) _ (rest has)

pair_of : (files : List KeptFile) (pair : Loaded) → Contains (map as_loaded files) pair → (file : KeptFile)
    × Contains files file × (as_loaded file ≡ pair)
pair_of [] pair (n, below, is) = absurd (omega (arith, below))
pair_of (head ∷ files) pair has = by (first_or_behind (as_loaded head) (map as_loaded files) pair has)
    (pair_of files pair) where
      by : (as_loaded head ≡ pair) ⊎ Contains (map as_loaded files) pair
          → (Contains (map as_loaded files) pair → (file : KeptFile) × Contains files file
          × (as_loaded file ≡ pair))
          → (file : KeptFile) × Contains (head ∷ files) file × (as_loaded file ≡ pair)
      by (inl is) rest = (head, first head files head refl, is)
      by (inr has) rest = let found = rest has in (found.0, behind head files found.0 found.1, found.2)

module _ {old new : List KeptFile} {file : KeptFile} (puts : Puts old new file) where
  -- A pair that was kept is, and so is that of the file that was put.
  pub pair_stays : (pair : Loaded) → Contains (map as_loaded old) pair → Contains (map as_loaded new) pair
  pair_stays pair has =
      let it = pair_of old pair has in
      by it.0 it.2 (puts.stay it.0 it.1) where
        by : (other : KeptFile) → as_loaded other ≡ pair → (as_loaded other ≡ as_loaded file)
            ⊎ Contains new other → Contains (map as_loaded new) pair
        by other is (inl same) = subst (Contains (map as_loaded new)) (sym same ∙ is) (kept_pair new file puts.there)
        by other is (inr has) = subst (Contains (map as_loaded new)) is (kept_pair new other has)

  -- A fresh file that was there is still to come, or is kept.
  pub comes_or_kept : {all : List FreshFile} (left : List FreshFile) (last : FreshFile) → all ≡ left ++ last ∷ []
      → as_loaded file ≡ fresh_as_loaded last → (each : FreshFile)
      → Contains all each ⊎ Contains (map as_loaded old) (fresh_as_loaded each) → Contains left each
      ⊎ Contains (map as_loaded new) (fresh_as_loaded each)
  comes_or_kept {all} left last pops same each (inr has) = inr (pair_stays (fresh_as_loaded each) has)
  comes_or_kept {all} left last pops same each (inl has) =
      by (Contains-append_cases left (last ∷ []) each (subst (λ files. Contains files each) pops has)) where
        is_last : (last ≡ each) ⊎ Contains [] each → Contains (map as_loaded new) (fresh_as_loaded each)
        is_last (inl is) = subst (Contains (map as_loaded new)) (same ∙ ap fresh_as_loaded is)
            (kept_pair new file puts.there)
        is_last (inr (n, below, is)) = absurd (omega (arith, below))

        by : Contains left each ⊎ Contains (last ∷ []) each → Contains left each
            ⊎ Contains (map as_loaded new) (fresh_as_loaded each)
        by (inl has) = inl has
        by (inr has) = inr (is_last (first_or_behind last [] each has))

-- Nothing is still to come.
pub none_comes : {none : List FreshFile} {kept : Type 0} (each : FreshFile) → none ≡ [] → Contains none each
    ⊎ kept → kept
none_comes each is (inr has) = has
none_comes each is (inl has) = absurd (nothing (subst (λ files. Contains files each) is has)) where
  nothing : Contains [] each → ⊥
  nothing (n, below, is) = omega (arith, below)
