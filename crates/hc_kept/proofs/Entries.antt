-- The entries, as files.
use Rattle.std.proofs.Common.{◌≡◌, ◌⊎◌, inl, inr, ℕ, zero, suc, List, [], ◌∷◌, Bool, true, false}
use Rattle.std.proofs.Common.{Some, refl, sym, ap, subst, ◌∙◌, true≢false, arith}
use Rattle.std.specs.List.{AllByRecursion, Contains, IsDistinct}
use Rattle.std.specs.Map.{keys_of, lookup}
use Rattle.std.proofs.lemmas.List.Elements.{Contains-append_right}
use Rattle.indexmap.specs.IndexMap.{insert_entry}
use Rattle.hc_htaccess.specs.Pairs.{is_for}
use Rattle.hc_htaccess.proofs.Pairs.{is_for_Decides}
use Rattle.hc_model.specs.Overrides.{Loaded}
use Rattle.hc_model.specs.declared.section.Allowed.{Allowed}
use Rattle.hc_steps.specs.Step.{Path}
use Rattle.hc_kept.specs.Entries.{Entry, IsOwn, Kept, Puts, file_for, file_of, files_in}
use Rattle.hc_kept.specs.Files.{KeptFile, as_loaded, reads_of}
use Rattle.hc_kept.specs.Keys.{is_at, parts, same_is, same_key}
use Rattle.hc_kept.specs.declared.key.FileKey.{FileKey}
use Rattle.hc_kept.proofs.Joining.{joins_before, joins_behind, puts_joined}

pub first_or_behind : {X : Type 0} (x : X) (xs : List X) (y : X) → Contains (x ∷ xs) y → (x ≡ y)
    ⊎ Contains xs y
first_or_behind x xs y (zero, below, is) = inl is
first_or_behind x xs y (suc n, below, is) = inr (n, omega (arith, below), is)

pub behind : {X : Type 0} (x : X) (xs : List X) (y : X) → Contains xs y → Contains (x ∷ xs) y
behind x xs y has = Contains-append_right (x ∷ []) xs y has

pub first : {X : Type 0} (x : X) (xs : List X) (y : X) → x ≡ y → Contains (x ∷ xs) y
first x xs y is = (0, omega arith, is)

-- What is kept by a key is, by one that is the same.
file_same : (dir : Path) (allowed : Allowed) (key : FileKey) (kept : Kept) → is_at dir allowed key ≡ true
    → file_of (key, kept) ≡ file_for dir allowed kept.value kept.at
file_same dir allowed key kept is =
    let same = parts dir allowed key is in
    ap (λ dir. file_for dir key.allowed kept.value kept.at) (sym same.0)
    ∙ ap (λ allowed. file_for dir allowed kept.value kept.at) (sym same.1)

module _ (allowed : Allowed) (dir : Path) where
  abbrev at : FileKey → Bool
  at key = is_at dir allowed key

  -- What a look-up finds is a file of the directory, with its own text.
  pub record Found (es : List Entry) (kept : Kept) : Type 0 where
    pub own : kept.reads ≡ reads_of dir
    pub there : Contains (files_in es) (file_for dir allowed kept.value kept.at)

  pub entry_found : (es : List Entry) (kept : Kept) → AllByRecursion IsOwn es → lookup at es ≡ Some kept
      → Found es kept
  entry_found [] kept own is = cc
  entry_found (e ∷ es) kept own is = by (at e.0) refl (entry_found es kept own.1)
    where
      by : (b : Bool) → at e.0 ≡ b → (lookup at es ≡ Some kept → Found es kept) → Found (e ∷ es) kept
      by true same rest =
          let it = rw same at is in
          let kept_is : e.1 ≡ kept = cc in
          record {
            own = ap (λ k. k.reads) (sym kept_is) ∙ own.0 ∙ ap reads_of (sym (parts dir allowed e.0 same).0);
            there = first _ (files_in es) _ (file_same dir allowed e.0 e.1 same
                ∙ ap (λ k. file_for dir allowed k.value k.at) kept_is);
          }
      by false same rest =
          let found = rest (rw same at is) in
          record { own = found.own; there = behind _ (files_in es) _ found.there }

  -- A file of another key than all of these is not among them.
  apart : (key : FileKey) (es : List Entry) (file : KeptFile)
      → AllByRecursion (λ other. same_key key other ≡ false) (keys_of es)
      → Contains (files_in es) file
      → is_for (record { dir = key.dir.items; allowed = key.allowed }) file.dir file.allowed ≡ false
  apart key [] file differ (n, below, is) = absurd (omega (arith, below))
  apart key (e ∷ es) file differ has = by (first_or_behind (file_of e) (files_in es) file has)
      (apart key es file differ.1)
    where
      pair : Loaded
      pair = record { dir = key.dir.items; allowed = key.allowed }

      by : (file_of e ≡ file) ⊎ Contains (files_in es) file
          → (Contains (files_in es) file → is_for pair file.dir file.allowed ≡ false)
          → is_for pair file.dir file.allowed ≡ false
      by (inl is) rest = ap (λ f. is_for pair f.dir f.allowed) (sym is) ∙ same_is key e.0 ∙ differ.0
      by (inr has) rest = rest has

  -- A look-up finds the file of the directory.
  pub record Finds (es : List Entry) (file : KeptFile) : Type 0 where
    pub kept : Kept
    pub found : lookup at es ≡ Some kept
    pub at : kept.at ≡ file.at

  pub entry_is : (es : List Entry) (file : KeptFile) → IsDistinct same_key (keys_of es)
      → Contains (files_in es) file → file.dir ≡ dir → file.allowed ≡ allowed → Finds es file
  unfolding IsDistinct
  entry_is [] file differ (n, below, is) same same_allowed = absurd (omega (arith, below))
  entry_is (e ∷ es) file differ has same same_allowed =
      by (is_at dir allowed e.0) refl (first_or_behind (file_of e) (files_in es) file has)
      (λ has. entry_is es file differ.1 has same same_allowed)
    where
      by : (b : Bool) → is_at dir allowed e.0 ≡ b → (file_of e ≡ file) ⊎ Contains (files_in es) file
          → (Contains (files_in es) file → Finds es file) → Finds (e ∷ es) file
      by true is_key (inl is) rest = record { kept = e.1; found = rw is_key refl; at = ap (λ f. f.at) is }
      by true is_key (inr has) rest =
          let own = parts dir allowed e.0 is_key in
          let pair : Loaded = record { dir = e.0.dir.items; allowed = e.0.allowed } in
          let one = (is_for_Decides pair file.dir file.allowed).1
          (sym own.0 ∙ sym same, sym own.1 ∙ sym same_allowed) in
          absurd (true≢false (sym one ∙ apart e.0 es file differ.0 has))
      by false is_key (inl is) rest =
          let pair : Loaded = record { dir = dir; allowed = allowed } in
          let one = (is_for_Decides pair e.0.dir.items e.0.allowed).1
          (sym (ap (λ f. f.dir) is ∙ same), sym (ap (λ f. f.allowed) is ∙ same_allowed)) in
          absurd (true≢false (sym one ∙ is_key))
      by false is_key (inr has) rest =
          let found = rest has in record { kept = found.kept; found = rw is_key found.found; at = found.at }

module _ (key : FileKey) (kept : Kept) where
  abbrev new : KeptFile
  new = file_of (key, kept)

  only : (x other : KeptFile) → Contains (x ∷ []) other → other ≡ x
  only x other (zero, below, is) = sym is
  only x other (suc n, below, is) = absurd (omega (arith, below))

  puts_one : (old : List KeptFile) → ((other : KeptFile) → Contains old other → as_loaded other ≡ as_loaded new)
      → Puts old (new ∷ []) new
  puts_one old same = record {
    there = first new [] new refl;
    others = λ other has. inl (only new other has);
    stay = λ other has. inl (same other has);
  }

  pub puts_entry : (es : List Entry) → Puts (files_in es) (files_in (insert_entry same_key es key kept)) new
  puts_entry [] = puts_one [] (λ other (n, below, is). absurd (omega (arith, below)))
  puts_entry (e ∷ es) = by (same_key key e.0) refl (puts_entry es)
    where
      old : KeptFile
      old = file_of e

      by : (b : Bool) → same_key key e.0 ≡ b → Puts (files_in es)
          (files_in (insert_entry same_key es key kept)) new
          → Puts (files_in (e ∷ es)) (files_in (insert_entry same_key (e ∷ es) key kept)) new
      by true is rest =
          let same = file_same key.dir.items key.allowed e.0 kept (same_is key e.0 ∙ is) in
          let put = puts_one (old ∷ []) (λ other has. ap as_loaded (only old other has) ∙ ap as_loaded same) in
          rw is (subst (λ file. Puts (files_in (e ∷ es)) (file ∷ files_in es) new) (sym same)
          (puts_joined put (joins_before (old ∷ []) (files_in es)) (joins_before (new ∷ []) (files_in es))))
      by false is rest = rw is (puts_joined rest (joins_behind (old ∷ []) _) (joins_behind (old ∷ []) _))

  pub own_stays : (es : List Entry) → IsOwn (key, kept) → AllByRecursion IsOwn es
      → AllByRecursion IsOwn (insert_entry same_key es key kept)
  own_stays [] own all = (own, tt)
  own_stays (e ∷ es) own all = by (same_key key e.0) refl (own_stays es own all.1)
    where
      by : (b : Bool) → same_key key e.0 ≡ b → AllByRecursion IsOwn (insert_entry same_key es key kept)
          → AllByRecursion IsOwn (insert_entry same_key (e ∷ es) key kept)
      by true is rest = rw is (
        own ∙ ap reads_of
            (parts key.dir.items key.allowed e.0 (same_is key e.0 ∙ is)).0,
        all.1,
      )
      by false is rest = rw is (all.0, rest)
