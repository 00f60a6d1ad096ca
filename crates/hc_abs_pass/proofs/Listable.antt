-- Each world is listed.
use Rattle.hc_abs_pass.proofs.Common.{◌≡◌, ◌∙◌, ℕ, ◌+◌, ◌<◌, ◌≤◌, ◌==◌, List, [], ◌∷◌, ◌++◌, length, drop}
use Rattle.hc_abs_pass.proofs.Common.{Bool, true, false, not, ◌&&◌, ◌||◌, if◌then◌else◌, Option, Some, None, refl, sym}
use Rattle.hc_abs_pass.proofs.Common.{ap, subst, inl, inr, arith, true≢false, append_assoc, length-append, eqb-true}
use Rattle.std.proofs.Common.{T, leb→le, lt-ltb, rules, take}
use Rattle.std.proofs.lemmas.Bool.{and_parts}
use Rattle.std.specs.Cmp.Lexicographic.{bytes_decides}
use Rattle.std.specs.FinMap.{contains_key-keys, get, keys}
use Rattle.std.specs.List.{cons_option, filter_map, list_all, list_any, onto_first, slice_split, starts_with}
use Rattle.std.specs.Option.{is_some}
use Rattle.std.specs.Prelude.{IsSome, cond, nat_eq, nat_le}
use Rattle.hc_base.specs.Bytes.{slash}
use Rattle.hc_base.specs.Paths.{begins_with_slash, ends_with_slash, is_slash}
use Rattle.hc_model.specs.Node.{Node, dir, file, text, is_dir, kind_of}
use Rattle.hc_model.specs.World.{IsWorld, World, as_name, is_component, is_path, name_behind_slash, name_in}
use Rattle.hc_model.specs.World.{root}
use Rattle.hc_model.specs.declared.walk.Kind.TheVariants as kind
use Rattle.hc_plan.specs.Cover.{Among}
use Rattle.hc_steps.specs.Shown.{shown_by}
use Rattle.hc_steps.specs.Step.{Path}
use Rattle.hc_world.specs.Places.{front_of}
use Rattle.hc_abs_pass.proofs.Alike.{any_among}
use Rattle.hc_abs_pass.proofs.Worlds.{names_are, same_keys}
use Rattle.hc_abs_pass.specs.Walks.{AreNames, WorldsAreListed, is_absent, is_empty}

-- ---- paths

abbrev parts : List ℕ → List (List ℕ)
parts = slice_split is_slash

-- Some part behind the first is no component.
abbrev IsBroken : List (List ℕ) → Type 0
IsBroken all = (first : List ℕ) × (later : List (List ℕ)) × (all ≡ first ∷ later)
    × (list_all is_component later ≡ false)

not_all : (all : List (List ℕ)) → IsBroken all → list_all is_component all ≡ false
not_all all broken = ap (list_all is_component) broken.2 ∙ by (is_component broken.0) broken.3
  where
    by : (first : Bool) → list_all is_component broken.1 ≡ false
        → (first && list_all is_component broken.1) ≡ false
    by true later = later
    by false later = refl

broken : (rest : List ℕ) → list_all is_component (parts rest) ≡ false → (front : List ℕ)
    → IsBroken (parts (front ++ slash ∷ rest))
broken rest wrong [] = ([], parts rest, refl, wrong)
broken rest wrong (b ∷ front) = by (is_slash b) (broken rest wrong front)
  where
    by : (is : Bool) → IsBroken (parts (front ++ slash ∷ rest))
        → IsBroken (cond is ([] ∷ parts (front ++ slash ∷ rest)) (onto_first b (parts (front ++ slash ∷ rest))))
    by true later = ([], parts (front ++ slash ∷ rest), refl, not_all (parts (front ++ slash ∷ rest)) later)
    by false later = (b ∷ later.0, later.1, ap (onto_first b) later.2, later.3)

no_path : (b : ℕ) (rest : List ℕ) → list_all is_component (parts rest) ≡ false → 1 ≤ length rest
    → is_path (b ∷ rest) ≡ true → ⊥
no_path b rest wrong more is =
    by (length (b ∷ rest) == 1) refl
    (and_parts (begins_with_slash (b ∷ rest) && nat_le (length (b ∷ rest)) 4096)
    ((length (b ∷ rest) == 1) || list_all is_component (parts rest)) is).1
  where
    by : (one : Bool) → (length (b ∷ rest) == 1) ≡ one → (one || list_all is_component (parts rest)) ≡ true → ⊥
    by true one is =
        let same : length (b ∷ rest) ≡ 1 = eqb-true (length (b ∷ rest)) 1 one in omega (arith, same, more)
    by false one is = true≢false (sym is ∙ wrong)

-- No path has two slashes together, or one at its end.
no_double : (front rest : List ℕ) → list_all is_component (parts rest) ≡ false
    → is_path (front ++ slash ∷ rest) ≡ true → begins_with_slash front ≡ true → ⊥
no_double [] rest wrong is begins = true≢false (sym begins)
no_double (b ∷ front) rest wrong is begins =
    let longer = length-append front (slash ∷ rest) in
    no_path b (front ++ slash ∷ rest) (not_all (parts (front ++ slash ∷ rest)) (broken rest wrong front))
    (omega (arith, longer)) is

begins_so : (path : List ℕ) → is_path path ≡ true → begins_with_slash path ≡ true
begins_so path is =
    (and_parts (begins_with_slash path) (nat_le (length path) 4096)
    (and_parts (begins_with_slash path && nat_le (length path) 4096) _ is).0).0

last_slash : (path : List ℕ) → ends_with_slash path ≡ true → (front : List ℕ) × (path ≡ front ++ slash ∷ [])
last_slash [] ends = absurd (true≢false (sym ends))
last_slash (b ∷ []) ends = ([], ap (λ b. b ∷ []) (eqb-true b slash ends))
last_slash (b ∷ c ∷ path) ends =
    let of = last_slash (c ∷ path) ends in (b ∷ of.0, ap (λ path. b ∷ path) of.1)

-- A path that ends with a slash is the root.
is_root : (path : List ℕ) → is_path path ≡ true → ends_with_slash path ≡ true → path ≡ root
is_root path is ends = by (last_slash path ends).0 (last_slash path ends).1
  where
    by : (front : List ℕ) → path ≡ front ++ slash ∷ [] → path ≡ root
    by [] whole = whole
    by (b ∷ front) whole =
        absurd (no_double (b ∷ front) [] refl (subst (λ path. is_path path ≡ true) whole is)
        (ap begins_with_slash (sym whole) ∙ begins_so path is))

-- ---- names

take_front : (front rest : List ℕ) → take (length front) (front ++ rest) ≡ front
take_front [] rest = refl
take_front (b ∷ front) rest = ap (λ front. b ∷ front) (take_front front rest)

drop_front : (front rest : List ℕ) → drop (length front) (front ++ rest) ≡ rest
drop_front [] rest = refl
drop_front (b ∷ front) rest = drop_front front rest

is_name : (name : List ℕ) → is_empty name ≡ false → list_any is_slash name ≡ false → as_name name ≡ Some name
is_name [] some plain = absurd (true≢false some)
is_name (b ∷ name) some plain =
    ap (λ some. if some && not (list_any is_slash (b ∷ name)) then Some (b ∷ name) else None)
    (lt-ltb 0 (length (b ∷ name)) (omega arith))
    ∙ ap (λ slashed. if not slashed then Some (b ∷ name) else None) plain

named : (directory name : List ℕ) → is_empty name ≡ false → list_any is_slash name ≡ false
    → name_in directory (front_of directory ++ name) ≡ Some name
named directory name some plain = by (ends_with_slash directory)
  where
    begins : (rest : List ℕ) → starts_with nat_eq (directory ++ rest) directory ≡ true
    begins rest = (bytes_decides directory (take (length directory) (directory ++ rest))).1
        (sym (take_front directory rest))

    of_rest : (ends : Bool) (rest : List ℕ)
        → (if starts_with nat_eq (directory ++ rest) directory
        then (if ends then as_name (drop (length directory) (directory ++ rest))
        else name_behind_slash (drop (length directory) (directory ++ rest))) else None)
        ≡ (if ends then as_name rest else name_behind_slash rest)
    of_rest ends rest =
        ap (λ begins. if begins then (if ends then as_name (drop (length directory) (directory ++ rest))
        else name_behind_slash (drop (length directory) (directory ++ rest))) else None) (begins rest)
        ∙ ap (λ rest. if ends then as_name rest else name_behind_slash rest) (drop_front directory rest)

    front : Bool → List ℕ
    front ends = if ends then directory else directory ++ slash ∷ []

    by : (ends : Bool) → (if starts_with nat_eq (front ends ++ name) directory
        then (if ends then as_name (drop (length directory) (front ends ++ name))
        else name_behind_slash (drop (length directory) (front ends ++ name))) else None) ≡ Some name
    by true = of_rest true name ∙ is_name name some plain
    by false =
        ap (λ path. if starts_with nat_eq path directory
        then name_behind_slash (drop (length directory) path) else None) (append_assoc directory (slash ∷ []) name)
        ∙ of_rest false (slash ∷ name) ∙ is_name name some plain

among_filter : {X Y : Type 0} (f : X → Option Y) (x : X) (y : Y) (xs : List X) → Among x xs → f x ≡ Some y
    → Among y (filter_map f xs)
among_filter f x y [] among is = absurd among
among_filter f x y (first ∷ xs) (inl same) is =
    subst (λ found. Among y (cons_option found (filter_map f xs))) (sym (ap f (sym same) ∙ is)) (inl refl)
among_filter {X} {Y} f x y (first ∷ xs) (inr among) is = by (f first) (among_filter f x y xs among is)
  where
    by : (found : Option Y) → Among y (filter_map f xs) → Among y (cons_option found (filter_map f xs))
    by None later = later
    by (Some own) later = inr later

-- ---- worlds

module _ (world : World) (is_world : IsWorld world) where
  stands : (path : Path) → is_absent (kind_of (get world path)) ≡ false → IsSome (get world path)
  stands path is = by (get world path) is
    where
      by : (found : Option Node) → is_absent (kind_of found) ≡ false → IsSome found
      by None is = absurd (true≢false is)
      by (Some node) is = search rules

  among_keys : (path : Path) → IsSome (get world path) → Among path (keys world)
  among_keys path some = any_among path (keys world)
      (sym (λ i. list_any (λ key. same_keys path key i) (keys world)) ∙ sym (contains_key-keys world path)
      ∙ by (get world path) some)
    where
      by : (found : Option Node) → IsSome found → is_some found ≡ true
      by None some = absurd (search (rules, some))
      by (Some node) some = refl

  directory_is : (path : Path) → kind_of (get world path) ≡ kind.Dir → is_dir (get world path) ≡ true
  directory_is path is = by (get world path) is
    where
      by : (found : Option Node) → kind_of found ≡ kind.Dir → is_dir found ≡ true
      by None is = absurd (let other = is in cc)
      by (Some dir) is = refl
      by (Some file) is = absurd (let other = is in cc)
      by (Some (text bytes)) is = absurd (let other = is in cc)

  path_is : (path : Path) → kind_of (get world path) ≡ kind.Dir → is_path path ≡ true
  path_is path is = is_world.keys_are_paths path (stands path (ap is_absent is))

  listed : (path : Path) → kind_of (get world path) ≡ kind.Dir → AreNames (shown_by world) path (front_of path)
  listed path is name some plain there =
      subst (Among name) (sym (names_are world path
      ∙ ap (λ is. if is then filter_map (name_in path) (keys world) else []) (directory_is path is)))
      (among_filter (name_in path) (front_of path ++ name) name (keys world)
      (among_keys (front_of path ++ name) (stands (front_of path ++ name) there)) (named path name some plain))

  behind_slash : (path : Path) → kind_of (get world path) ≡ kind.Dir
      → AreNames (shown_by world) path (path ++ slash ∷ [])
  behind_slash path is = by (ends_with_slash path) refl
    where
      by : (ends : Bool) → ends_with_slash path ≡ ends → AreNames (shown_by world) path (path ++ slash ∷ [])
      by false ends = subst (AreNames (shown_by world) path)
          (ap (λ ends. if ends then path else path ++ slash ∷ []) ends) (listed path is)
      by true ends = λ name some plain there.
          let whole = append_assoc path (slash ∷ []) name ∙ ap (λ path. path ++ slash ∷ name)
          (is_root path (path_is path is) ends) in
          absurd (no_path slash (slash ∷ name) refl (omega arith)
          (subst (λ path. is_path path ≡ true) whole (is_world.keys_are_paths _ (stands _ there))))

  nothing_there : (path : Path) → kind_of (get world path) ≡ kind.Dir
      → is_absent (kind_of (get world (path ++ slash ∷ []))) ≡ true
  nothing_there path is = by (is_absent (kind_of (get world (path ++ slash ∷ [])))) refl
    where
      by : (absent : Bool) → is_absent (kind_of (get world (path ++ slash ∷ []))) ≡ absent → absent ≡ true
      by true absent = refl
      by false there = absurd (no_double path [] refl (is_world.keys_are_paths _ (stands _ there))
          (begins_so path (path_is path is)))

  is_short : (path : Path) → kind_of (get world path) ≡ kind.Dir → length path + 1 < 4098
  is_short path is =
      let short : length path ≤ 4096 = leb→le (length path) 4096
      (subst T (sym (and_parts (begins_with_slash path) (nat_le (length path) 4096)
      (and_parts (begins_with_slash path && nat_le (length path) 4096) _ (path_is path is)).0).1) tt) in
      omega (arith, short)

pub all_listed : WorldsAreListed
all_listed world is = record {
  root_stands = ap (λ found. is_absent (kind_of found)) is.root_is_dir;
  fronts = nothing_there world is;
  at_root = listed world is root (ap kind_of is.root_is_dir);
  each = behind_slash world is;
  short = is_short world is;
  some = omega arith;
}
