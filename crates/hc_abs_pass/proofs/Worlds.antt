-- What the files of a world show of the names in directories.
use Rattle.hc_abs_pass.proofs.Common.{◌≡◌, ◌∙◌, ℕ, List, [], ◌∷◌, ◌++◌, map, length, drop, Bool, true, false, not, ◌&&◌}
use Rattle.hc_abs_pass.proofs.Common.{if◌then◌else◌, Option, Some, None, refl, sym, ap, subst, inl, inr}
use Rattle.hc_abs_pass.proofs.Common.{true≢false, unwrap_or, eqb-true, append_assoc}
use Rattle.std.proofs.Common.{take}
use Rattle.std.proofs.lemmas.List.{take-append-drop}
use Rattle.std.proofs.lemmas.Map.Text.{is_eq-slice_cmp}
use Rattle.std.proofs.Common.{T}
use Rattle.std.specs.Cmp.Lexicographic.{bytes_decides, slice_cmp}
use Rattle.std.specs.FinMap.{contains_key-keys, entries, entries_sorted, get, keys}
use Rattle.std.specs.FinMap.Entries.{below_all, is_sorted}
use Rattle.std.specs.List.{AllByRecursion, IsDistinct, cons_option, filter_map, list_any, starts_with}
use Rattle.std.specs.Option.{is_some}
use Rattle.std.specs.Ordering.{is_eq, is_lt, nat_cmp}
use Rattle.std.specs.declared.cmp.Ordering.{Ordering}
use Rattle.std.specs.declared.cmp.Ordering.TheVariants.{Less, Equal, Greater}
use Rattle.std.specs.Prelude.{nat_eq, nat_lt}
use Rattle.std.specs.Str.{bytes_eq}
use Rattle.hc_base.specs.Bytes.{slash}
use Rattle.hc_base.specs.Paths.{ends_with_slash, is_slash}
use Rattle.hc_model.specs.Node.{Node, dir, file, text, is_dir, kind_of}
use Rattle.hc_model.specs.World.{World, as_name, name_behind_slash, name_in, names_in, root}
use Rattle.hc_plan.specs.Cover.{Among}
use Rattle.hc_steps.specs.Shown.{shown_by}
use Rattle.hc_steps.specs.Step.{Path}
use Rattle.hc_world.specs.Places.{front_of}
use Rattle.hc_abs_pass.proofs.Alike.{IsSeen, StandThere, among_any}
use Rattle.hc_abs_pass.specs.Walks.{is_absent, is_empty, names_at}

-- ---- names

-- A name is what follows the front in its path.
record IsNameOf (directory path name : List ℕ) : Type 0 where
  path_is : path ≡ front_of directory ++ name
  plain : list_any is_slash name ≡ false
  some : is_empty name ≡ false

abbrev Follows : List ℕ → List ℕ → Type 0
Follows rest name = (rest ≡ name) × (list_any is_slash name ≡ false) × (is_empty name ≡ false)

as_name_is : (rest name : List ℕ) → as_name rest ≡ Some name → Follows rest name
as_name_is [] name is = absurd (let none = is in cc)
as_name_is (b ∷ rest) name is = by (nat_lt 0 (length (b ∷ rest))) (list_any is_slash (b ∷ rest)) refl is
  where
    by : (some slashed : Bool) → list_any is_slash (b ∷ rest) ≡ slashed
        → (if some && not slashed then Some (b ∷ rest) else None) ≡ Some name → Follows (b ∷ rest) name
    by false slashed same is = absurd (let none = is in cc)
    by true true slashed is = absurd (let none = is in cc)
    by true false plain is =
        let same = ap (λ (own : Option (List ℕ)). unwrap_or own []) is in
        (same, ap (list_any is_slash) (sym same) ∙ plain, ap is_empty (sym same))

behind_is : (rest name : List ℕ) → name_behind_slash rest ≡ Some name
    → (own : List ℕ) × (rest ≡ slash ∷ own) × Follows own name
behind_is [] name is = absurd (let none = is in cc)
behind_is (b ∷ rest) name is = by (is_slash b) refl is
  where
    by : (slashed : Bool) → is_slash b ≡ slashed → (if slashed then as_name rest else None) ≡ Some name
        → (own : List ℕ) × (b ∷ rest ≡ slash ∷ own) × Follows own name
    by true slashed is = (rest, ap (λ b. b ∷ rest) (eqb-true b slash slashed), as_name_is rest name is)
    by false slashed is = absurd (let none = is in cc)

name_is : (directory path name : List ℕ) → name_in directory path ≡ Some name → IsNameOf directory path name
name_is directory path name is = by (starts_with nat_eq path directory) refl is
  where
    rest : List ℕ
    rest = drop (length directory) path

    whole : starts_with nat_eq path directory ≡ true → path ≡ directory ++ rest
    whole begins =
        sym (take-append-drop (length directory) path)
        ∙ ap (λ front. front ++ rest) (sym ((bytes_decides directory (take (length directory) path)).0 begins))

    ended : path ≡ directory ++ rest → (slashed : Bool)
        → (if slashed then as_name rest else name_behind_slash rest) ≡ Some name
        → (path ≡ (if slashed then directory else directory ++ slash ∷ []) ++ name)
        × (list_any is_slash name ≡ false) × (is_empty name ≡ false)
    ended is_path true is =
        let of = as_name_is rest name is in (is_path ∙ ap (λ rest. directory ++ rest) of.0, of.1, of.2)
    ended is_path false is =
        let of = behind_is rest name is in (
          is_path ∙ ap (λ rest. directory ++ rest) (of.1 ∙ ap (λ own. slash ∷ own) of.2.0)
              ∙ sym (append_assoc directory (slash ∷ []) name),
          of.2.1,
          of.2.2,
        )

    by : (begins : Bool) → starts_with nat_eq path directory ≡ begins
        → (if begins then (if ends_with_slash directory then as_name rest else name_behind_slash rest) else None)
        ≡ Some name → IsNameOf directory path name
    by true begins is =
        let of = ended (whole begins) (ends_with_slash directory) is in
        record { path_is = of.0; plain = of.1; some = of.2 }
    by false begins is = absurd (let none = is in cc)

among_filtered : {X Y : Type 0} (f : X → Option Y) (y : Y) (xs : List X) → Among y (filter_map f xs)
    → (x : X) × Among x xs × (f x ≡ Some y)
among_filtered f y [] among = absurd among
among_filtered {X} {Y} f y (x ∷ xs) among = by (f x) refl (among_filtered f y xs) among
  where
    by : (found : Option Y) → f x ≡ found
        → (Among y (filter_map f xs) → (x : X) × Among x xs × (f x ≡ Some y))
        → Among y (cons_option found (filter_map f xs)) → (first : X) × Among first (x ∷ xs) × (f first ≡ Some y)
    by None is later among = let of = later among in (of.0, inr of.1, of.2)
    by (Some own) is later (inl same) = (x, inl refl, is ∙ ap Some (sym same))
    by (Some own) is later (inr among) = let of = later among in (of.0, inr of.1, of.2)

-- ---- keys

pub same_keys : (one other : List ℕ) → is_eq (slice_cmp nat_cmp one other) ≡ bytes_eq one other
same_keys one other = is_eq-slice_cmp one other

-- What is among the keys is there.
key_stands : (world : World) (path : Path) → Among path (keys world) → is_absent (kind_of (get world path)) ≡ false
key_stands world path among =
    by (get world path) (contains_key-keys world path
    ∙ (λ i. list_any (λ key. same_keys path key i) (keys world)) ∙ among_any path (keys world) among)
  where
    by : (found : Option Node) → is_some found ≡ true → is_absent (kind_of found) ≡ false
    by None some = absurd (true≢false (sym some))
    by (Some node) some = of_node node
      where
        of_node : (node : Node) → is_absent (kind_of (Some node)) ≡ false
        of_node dir = refl
        of_node file = refl
        of_node (text bytes) = refl

module _ (world : World) where
  pub names_are : (path : Path) → names_at (shown_by world) path ≡ names_in world path
  names_are path = by (is_dir (get world path))
    where
      by : (is : Bool)
          → unwrap_or (if is then Some (if is then filter_map (name_in path) (keys world) else []) else None) []
          ≡ (if is then filter_map (name_in path) (keys world) else [])
      by true = refl
      by false = refl

  among_names : (path : Path) (name : List ℕ) → Among name (names_at (shown_by world) path)
      → Among name (filter_map (name_in path) (keys world))
  among_names path name among = by (is_dir (get world path)) (subst (Among name) (names_are path) among)
    where
      by : (is : Bool) → Among name (if is then filter_map (name_in path) (keys world) else [])
          → Among name (filter_map (name_in path) (keys world))
      by true among = among
      by false among = absurd among

  stand_there : (path front : Path) → front_of path ≡ front → StandThere (shown_by world) path front
  stand_there path front is name among =
      let of = among_filtered (name_in path) name (keys world) (among_names path name among) in
      let named = name_is path of.0 name of.2 in record {
        plain = named.plain;
        some = named.some;
        there =
            ap (λ path. is_absent (kind_of (get world path))) (sym (named.path_is ∙ ap (λ front. front ++ name) is))
            ∙ key_stands world of.0 of.1;
      }

  pub seen_world : IsSeen (shown_by world)
  seen_world = record {
    at_root = stand_there root root refl;
    each = λ path ends is. stand_there path (path ++ slash ∷ [])
        (ap (λ slashed. if slashed then path else path ++ slash ∷ []) ends);
  }

  -- ---- each name once

  abbrev Distinct : List (List ℕ) → Type 0
  Distinct = IsDistinct bytes_eq

  apart_less : (one other : List ℕ) → T (is_lt (slice_cmp nat_cmp one other)) → bytes_eq one other ≡ false
  apart_less one other less = sym (same_keys one other) ∙ by (slice_cmp nat_cmp one other) less
    where
      by : (order : Ordering) → T (is_lt order) → is_eq order ≡ false
      by Less less = refl
      by Equal less = absurd less
      by Greater less = absurd less

  t_parts : (one other : Bool) → T (one && other) → T one × T other
  t_parts true other both = (tt, both)
  t_parts false other both = absurd both

  apart_keys : (key : List ℕ) (es : List (List ℕ × Node)) → T (below_all (slice_cmp nat_cmp) key es)
      → AllByRecursion (λ other. bytes_eq key other ≡ false) (map (λ e. e.0) es)
  apart_keys key [] below = tt
  apart_keys key (e ∷ es) below =
      let parts = t_parts (is_lt (slice_cmp nat_cmp key e.0)) (below_all (slice_cmp nat_cmp) key es) below in
      (apart_less key e.0 parts.0, apart_keys key es parts.1)

  distinct_keys : (es : List (List ℕ × Node)) → T (is_sorted (slice_cmp nat_cmp) es) → Distinct (map (λ e. e.0) es)
  unfolding IsDistinct
  distinct_keys [] sorted = tt
  distinct_keys (e ∷ es) sorted =
      let parts = t_parts (below_all (slice_cmp nat_cmp) e.0 es) (is_sorted (slice_cmp nat_cmp) es) sorted in
      (apart_keys e.0 es parts.0, distinct_keys es parts.1)

  other_names : (path : Path) (key name : List ℕ) (ks : List (List ℕ)) → name_in path key ≡ Some name
      → AllByRecursion (λ other. bytes_eq key other ≡ false) ks
      → AllByRecursion (λ other. bytes_eq name other ≡ false) (filter_map (name_in path) ks)
  other_names path key name [] is others = tt
  other_names path key name (other ∷ ks) is others =
      by (name_in path other) refl (other_names path key name ks is others.1)
    where
      distinct : (own : List ℕ) → name_in path other ≡ Some own → (same : Bool) → bytes_eq name own ≡ same
          → same ≡ false
      distinct own named false same = refl
      distinct own named true same =
          let is_key = (name_is path key name is).path_is
          ∙ ap (λ name. front_of path ++ name) ((bytes_decides name own).0 same)
          ∙ sym (name_is path other own named).path_is in
          sym ((bytes_decides key other).1 is_key) ∙ others.0

      by : (found : Option (List ℕ)) → name_in path other ≡ found
          → AllByRecursion (λ other. bytes_eq name other ≡ false) (filter_map (name_in path) ks)
          → AllByRecursion (λ other. bytes_eq name other ≡ false) (cons_option found (filter_map (name_in path) ks))
      by None named later = later
      by (Some own) named later = (distinct own named (bytes_eq name own) refl, later)

  distinct_names : (path : Path) (ks : List (List ℕ)) → Distinct ks → Distinct (filter_map (name_in path) ks)
  unfolding IsDistinct
  distinct_names path [] distinct = tt
  distinct_names path (key ∷ ks) distinct = by (name_in path key) refl (distinct_names path ks distinct.1)
    where
      by : (found : Option (List ℕ)) → name_in path key ≡ found → Distinct (filter_map (name_in path) ks)
          → Distinct (cons_option found (filter_map (name_in path) ks))
      by None is later = later
      by (Some name) is later = (other_names path key name ks is distinct.0, later)

  pub distinct_world : (path : Path) → IsDistinct bytes_eq (names_at (shown_by world) path)
  unfolding IsDistinct
  distinct_world path = subst Distinct (sym (names_are path)) (by (is_dir (get world path)))
    where
      by : (is : Bool) → Distinct (if is then filter_map (name_in path) (keys world) else [])
      by true = distinct_names path (keys world) (distinct_keys (entries world) (entries_sorted world))
      by false = tt
