-- What the entries of a map say of the finite map that they stand for: a world, or its last changes.
use Rattle.hc_world.proofs.Common.{◌≡◌, ℕ, Bool, true, false, cond, List, [], ◌∷◌, map, Option, Some}
use Rattle.hc_world.proofs.Common.{None, Vec, refl, sym, ap, ◌∙◌, subst, inl, inr, ◌⊎◌, Global, option_map}
use Rattle.hc_world.proofs.Common.{lookup, nat_cmp, eq_by_cmp, slice_cmp, nat_list_cmp_total, eq_by_cmp_equiv}
use Rattle.std.specs.FinMap.{FinMap, from_entries, get, insert, remove, find, get-from_entries, get-insert, get-remove}
use Rattle.std.specs.FinMap.{same_map}
use Rattle.std.specs.Ordering.{is_eq}
use Rattle.std.proofs.lemmas.Cmp.{tied_itself}
use Rattle.std.proofs.lemmas.Map.Lookups.{exact_bytes}
use Rattle.std.proofs.lemmas.Map.Views.{tells_apart}

abbrev pub same_path : List ℕ → List ℕ → Bool
same_path = eq_by_cmp (slice_cmp nat_cmp)

pub same_path-true : (p q : List ℕ) → same_path p q ≡ true → p ≡ q
same_path-true = tells_apart exact_bytes

pub same_path-itself : (p : List ℕ) → same_path p p ≡ true
same_path-itself p = ap is_eq (tied_itself nat_list_cmp_total p)

pub same_path_symm : (p q : List ℕ) → same_path p q ≡ same_path q p
same_path_symm = (eq_by_cmp_equiv nat_list_cmp_total).symm

-- Two maps that answer alike are one.
pub same_answers : {Y : Type 0} → (v w : FinMap (slice_cmp nat_cmp) Y) → ((q : List ℕ) → get v q ≡ get w q)
    → v ≡ w
same_answers = same_map nat_list_cmp_total exact_bytes

pub get_inserted : {Y : Type 0} → (w : FinMap (slice_cmp nat_cmp) Y) (path : List ℕ) (y : Y) (q : List ℕ)
    → get (insert w path y) q ≡ cond (same_path q path) (Some y) (get w q)
get_inserted = get-insert nat_list_cmp_total

pub get_removed : {Y : Type 0} → (w : FinMap (slice_cmp nat_cmp) Y) (path q : List ℕ)
    → get (remove w path) q ≡ cond (same_path q path) None (get w q)
get_removed = get-remove nat_list_cmp_total

abbrev Entries : Type 0 → Type 0
Entries X = List (Vec ℕ Global × X)

-- The value that a look-up of a path finds.
abbrev pub entry_at : {X : Type 0} → Entries X → List ℕ → Option X
entry_at entries path = lookup (λ key. same_path path key.items) entries

-- The map `after` is `before` with one path changed, as far as keys tell.
abbrev pub ChangesAt : {X : Type 0} → Entries X → Entries X → List ℕ → Option X → List ℕ → Type 0
ChangesAt before after path entry q = entry_at after q ≡ cond (same_path path q) entry (entry_at before q)

option_map-cond : {A B : Type 0} (f : A → B) (b : Bool) (x y : Option A) → option_map f (cond b x y)
    ≡ cond b (option_map f x) (option_map f y)
option_map-cond f true x y = refl
option_map-cond f false x y = refl

some_none : {X : Type 0} (x : X) → Some x ≡ None → ⊥
some_none x e = cc

kept_none : {X : Type 0} (b : Bool) (entry : Option X) → (b ≡ true → entry ≡ None)
    → None ≡ cond b entry None
kept_none true entry h = sym (h refl)
kept_none false entry h = refl

module _ {X Y : Type 0} (f : X → Y) where
  abbrev pub map_of : Entries X → FinMap (slice_cmp nat_cmp) Y
  map_of entries = from_entries (map (λ e. (e.0.items, f e.1)) entries)

  find-entries : (entries : Entries X) (q : List ℕ)
      → find (slice_cmp nat_cmp) q (map (λ e. (e.0.items, f e.1)) entries) ≡ option_map f (entry_at entries q)
  find-entries [] q = refl
  find-entries (e ∷ es) q =
      ap (cond (same_path q e.0.items) (Some (f e.1))) (find-entries es q)
      ∙ sym (option_map-cond f (same_path q e.0.items) (Some e.1) (entry_at es q))

  pub get-map_of : (entries : Entries X) (q : List ℕ) → get (map_of entries) q ≡ option_map f (entry_at entries q)
  get-map_of entries q = get-from_entries nat_list_cmp_total (map (λ e. (e.0.items, f e.1)) entries) q
      ∙ find-entries entries q

  pub seen : (entries : Entries X) (w : FinMap (slice_cmp nat_cmp) Y) (q : List ℕ) (found : Option X)
      → map_of entries ≡ w
      → entry_at entries q ≡ found → get w q ≡ option_map f found
  seen entries w q found is at = ap (λ w. get w q) (sym is) ∙ get-map_of entries q ∙ ap (option_map f) at

  -- A path that is found is the bytes of some key.
  key_of : (entries : Entries X) (q : List ℕ) → (entry_at entries q ≡ None)
      ⊎ ((key : Vec ℕ Global) × (key.items ≡ q))
  key_of [] q = inl refl
  key_of (e ∷ es) q =
      elim (same_path q e.0.items) as (λ b. same_path q e.0.items ≡ b
      → (cond b (Some e.1) (entry_at es q) ≡ None) ⊎ ((key : Vec ℕ Global) × (key.items ≡ q))) [
        | true ↦ λ t. inr (e.0, sym (same_path-true q e.0.items t))
        | false ↦ λ _. key_of es q
      ] refl

  -- What holds of each key holds of each path, since a path that is no key is not found.
  changed : (before after : Entries X) (path : List ℕ) (entry : Option X) → (entry ≡ None)
      ⊎ ((key : Vec ℕ Global) × (key.items ≡ path))
      → ((key : Vec ℕ Global) → ChangesAt before after path entry key.items) → (q : List ℕ)
      → ChangesAt before after path entry q
  changed before after path entry old at_keys q =
      let at_key : ((key : Vec ℕ Global) × (key.items ≡ q)) → ChangesAt before after path entry q =
      λ k. subst (ChangesAt before after path entry) k.1 (at_keys k.0) in
      elim (key_of before q) [
        | inr k ↦ at_key k
        | inl b ↦ elim (key_of after q) [
          | inr k ↦ at_key k
          | inl a ↦ elim old [
            | inl n ↦ a ∙ kept_none (same_path path q) entry (λ _. n)
                ∙ sym (ap (cond (same_path path q) entry) b)
            | inr k ↦ elim (same_path path q) as (λ t. same_path path q ≡ t
                → entry_at after q ≡ cond t entry (entry_at before q)) [
                  | true ↦ λ t. at_key (k.0, k.1 ∙ same_path-true path q t)
                      ∙ ap (λ s. cond s entry (entry_at before q)) t
                  | false ↦ λ _. a ∙ sym b
                ] refl
          ]
        ]
      ]

  pub map_inserted : (before after : Entries X) (path : List ℕ) (key : Vec ℕ Global) (entry : X)
      → key.items ≡ path → ((q : Vec ℕ Global) → ChangesAt before after key.items (Some entry) q.items)
      → map_of after ≡ insert (map_of before) path (f entry)
  map_inserted before after path key entry is h = same_answers _ _ (λ q.
      get-map_of after q ∙ ap (option_map f) (changed before after key.items (Some entry) (inr (key, refl)) h q)
      ∙ option_map-cond f (same_path key.items q) (Some entry) (entry_at before q)
      ∙ ap (λ b. cond b (Some (f entry)) (option_map f (entry_at before q)))
      (ap (λ p. same_path p q) is ∙ same_path_symm path q)
      ∙ sym (get_inserted (map_of before) path (f entry) q ∙ ap (cond (same_path q path) (Some (f entry)))
      (get-map_of before q)))

  -- What stands there already is written over.
  pub map_written : (before after : Entries X) (path : List ℕ) (old entry : X) → Some old ≡ entry_at before path
      → ((q : Vec ℕ Global) → ChangesAt before after path (Some entry) q.items)
      → map_of after ≡ insert (map_of before) path (f entry)
  map_written before after path old entry there h = elim (key_of before path) [
    | inl none ↦ absurd (some_none old (there ∙ none))
    | inr k ↦ map_inserted before after path k.0 entry k.1
        (λ q. subst (λ p. ChangesAt before after p (Some entry) q.items) (sym k.1) (h q))
  ]

  pub map_removed : (before after : Entries X) (path : List ℕ)
      → ((q : Vec ℕ Global) → ChangesAt before after path None q.items)
      → map_of after ≡ remove (map_of before) path
  map_removed before after path h = same_answers _ _ (λ q.
      get-map_of after q ∙ ap (option_map f) (changed before after path None (inl refl) h q)
      ∙ option_map-cond f (same_path path q) None (entry_at before q)
      ∙ ap (λ b. cond b None (option_map f (entry_at before q))) (same_path_symm path q)
      ∙ sym (get_removed (map_of before) path q ∙ ap (cond (same_path q path) None) (get-map_of before q)))
