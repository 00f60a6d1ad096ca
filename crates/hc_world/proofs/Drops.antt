-- A path and all below it are taken away.
use Rattle.hc_world.proofs.Common.{◌≡◌, ◌≢◌, ℕ, ◌+◌, ◌<◌, Bool, true, false, cond, not, ◌&&◌}
use Rattle.hc_world.proofs.Common.{◌||◌, List, [], ◌∷◌, ◌++◌, length, take, drop, nat_eq, Option, Some}
use Rattle.hc_world.proofs.Common.{None, IsSome, Contains, Vec, Global, refl, sym, ap, ◌∙◌, subst, inl, inr}
use Rattle.hc_world.proofs.Common.{◌⊎◌, arith, rules, ⊎_elim, cases_Bool, false≢true, true≢false}
use Rattle.hc_world.proofs.Common.{false_from_ne_true, cond-true, cond-false, and_parts, or_cases, or_right}
use Rattle.hc_world.proofs.Common.{append_assoc, append-nil, length-append, bytes_decides, take-append-drop}
use Rattle.hc_world.proofs.Common.{starts_with, filter, filter_map, AllByRecursion, keys, get, insert, remove, Node}
use Rattle.hc_world.proofs.Common.{dir, file, text, kind_of, is_dir, World, IsWorld, root, is_path, parents, name_in}
use Rattle.hc_world.proofs.Common.{is_before, is_up_to, keys_from, keys_behind, IsFirstFrom}
use Rattle.std.proofs.Common.{get_or}
use Rattle.std.specs.Option.{is_some}
use Rattle.std.specs.Str.{bytes_eq}
use Rattle.std.specs.FinMap.{contains_key-keys, get-retain_keys, retain_keys}
use Rattle.std.proofs.lemmas.List.{map_more}
use Rattle.std.proofs.lemmas.List.Elements.{Contains-append_right, Contains-push_cases}
use Rattle.std.proofs.lemmas.Map.Lookups.{exact_bytes}
use Rattle.hc_model.specs.declared.read.Read.{Read}
use Rattle.hc_model.specs.declared.read.Read.TheVariants.{KindOf, NamesOf, TextOf}
use Rattle.hc_steps.specs.Shown.{shown_by}
use Rattle.hc_steps.specs.Step.{Path}
use Rattle.hc_world.specs.Changes.{ChangeMap, Changes, changes_at, last_change}
use Rattle.hc_world.specs.Drops.{HasRows, below, paths_of, paths_within, without, without_marked}
use Rattle.hc_world.specs.Edits.{is_within}
use Rattle.hc_world.specs.Marks.{Marks, count_of, size}
use Rattle.hc_world.proofs.Worlds.{is_some_dir}
use Rattle.hc_world.specs.Rows.{KeepsRows, SameRows, adjusted, with_all, with_names}
use Rattle.hc_world.proofs.Below.{begins_so, same_directory, within-from_name}
use Rattle.hc_world.proofs.Grown.{found, nameless, names_if, names_longer, names_same, size-shown, size_if}
use Rattle.hc_world.proofs.Lookups.{get_inserted, get_removed, same_answers, same_path, same_path-itself}
use Rattle.hc_world.proofs.Lookups.{same_path-true}
use Rattle.hc_world.proofs.Order.{before-from_not_up_to, before_if_up_to, before_longer, before_then_up_to}
use Rattle.hc_world.proofs.Order.{none_between, not_before_front, not_before_itself, starts_so}
use Rattle.hc_world.proofs.Parents.{fronts_cut, is_among, is_among-from_Contains, parent_shorter, parents-long}
use Rattle.hc_world.proofs.Rows.{KeepsRows-adjusted, changes_at-adjusted, last_change-same}

-- ---- one by one

pub without-more : (w left : World) (rows after : ChangeMap) (number : ℕ) (path : Path) (paths all : List Path)
    → all ≡ path ∷ paths → left ≡ remove w path
    → after ≡ adjusted rows path (with_all (is_dir (get w path)) number) → (without left paths ≡ without w all)
    × (without_marked left after number paths ≡ without_marked w rows number all)
without-more w left rows after number path paths all list removed marked = (
  ap (λ v. without v paths) removed ∙ sym (ap (without w) list),
  ap (λ v. without_marked v after number paths) removed ∙ ap (λ r. without_marked (remove w path) r number paths)
      marked ∙ sym (ap (without_marked w rows number) list),
)

pub HasRows-more : (rows after : ChangeMap) (paths : List (Vec ℕ Global)) (i : ℕ) (item : Vec ℕ Global)
    → i < length paths → item ≡ get_or paths i item → KeepsRows rows after → IsSome (get after item.items)
    → HasRows rows (paths_of (take i paths)) → HasRows after (paths_of (take (i + 1) paths))
HasRows-more rows after paths i item l is kept there has q c =
    let list : paths_of (take (i + 1) paths) ≡ paths_of (take i paths) ++ item.items ∷ [] =
    map_more (λ (p : Vec ℕ Global). p.items) paths i item l
    ∙ ap (λ (p : Vec ℕ Global). paths_of (take i paths) ++ p.items ∷ []) (sym is) in
    ⊎_elim
    (λ before. kept q (has q before))
    (λ same. subst (λ p. IsSome (get after p)) same there)
    (Contains-push_cases (paths_of (take i paths)) item.items q (subst (λ ps. Contains ps q) list c))

-- ---- what stands below a path

abbrev pub front_at : Path → Path
front_at path = path ++ 47 ∷ []

abbrev pub begins : Path → Path → Bool
begins path key = starts_with nat_eq key (front_at path)

begins_as : (path key : Path) → begins path key ≡ true
    → key ≡ front_at path ++ drop (length (front_at path)) key
begins_as path key h =
    let front = front_at path in
    sym (take-append-drop (length front) key) ∙ ap (λ f. f ++ drop (length front) key)
    (sym ((bytes_decides front (take (length front) key)).0 h))

filter_within : (p q : Path → Bool) → ((key : Path) → p key ≡ true → q key ≡ true) → (ks : List Path)
    → filter p (filter q ks) ≡ filter p ks
filter_within p q h [] = refl
filter_within p q h (k ∷ ks) =
    let rest = filter_within p q h ks in
    elim (q k) as (λ b. q k ≡ b → filter p (cond b (k ∷ filter q ks) (filter q ks))
    ≡ cond (p k) (k ∷ filter p ks) (filter p ks)) [
      | true ↦ λ _. elim (p k) as (λ b. cond b (k ∷ filter p (filter q ks)) (filter p (filter q ks))
          ≡ cond b (k ∷ filter p ks) (filter p ks)) [ true ↦ ap (λ l. k ∷ l) rest | false ↦ rest ]
      | false ↦ λ e. rest
          ∙ sym (ap (λ b. cond b (k ∷ filter p ks) (filter p ks))
          (false_from_ne_true _ (λ t. false≢true (sym e ∙ h k t))))
    ] refl

filter_apart : (p q : Path → Bool) → ((key : Path) → q key ≡ true → p key ≡ false) → (ks : List Path)
    → filter p (filter q ks) ≡ []
filter_apart p q h [] = refl
filter_apart p q h (k ∷ ks) =
    let rest = filter_apart p q h ks in
    elim (q k) as (λ b. q k ≡ b → filter p (cond b (k ∷ filter q ks) (filter q ks)) ≡ []) [
      | true ↦ λ e. ap (λ b. cond b (k ∷ filter p (filter q ks)) (filter p (filter q ks))) (h k e) ∙ rest
      | false ↦ λ _. rest
    ] refl

filter_head : (p : Path → Bool) (ks rest : List Path) (x : Path) → filter p ks ≡ x ∷ rest → p x ≡ true
filter_head p [] rest x e = cc
filter_head p (k ∷ ks) rest x e =
    elim (p k) as (λ b. p k ≡ b → cond b (k ∷ filter p ks) (filter p ks) ≡ x ∷ rest → p x ≡ true) [
      | true ↦ λ t f. let same : k ≡ x = cc in ap p (sym same) ∙ t
      | false ↦ λ _ f. filter_head p ks rest x f
    ] refl e

-- The search begins at the front.
below_first : (path : Path) (w : World) → below path (keys_from (front_at path) w) ≡ below path (keys w)
below_first path w = filter_within (begins path) (is_up_to (front_at path)) (λ key h.
    ⊎_elim
    (λ up. up)
    (λ no_up. absurd
    (false≢true (sym (not_before_front (front_at path) (drop (length (front_at path)) key))
    ∙ ap (λ k. is_before k (front_at path)) (sym (begins_as path key h))
    ∙ before-from_not_up_to key (front_at path) no_up)))
    (cases_Bool (is_up_to (front_at path) key))) (keys w)

pub within_init : (w : World) (path place : Path) → place ≡ front_at path
    → (path ∷ below path (keys_from place w) ≡ paths_within w path) × (is_before place (front_at path) ≡ false)
within_init w path place is = (
  ap (λ p. path ∷ below path (keys_from p w)) is ∙ ap (λ ks. path ∷ ks) (below_first path w),
  ap (λ p. is_before p (front_at path)) is ∙ not_before_itself (front_at path),
)

-- Behind a path the keys go on.
keys_next : (path : Path) (w : World) → keys_from (path ++ 0 ∷ []) w ≡ keys_behind path w
keys_next path w = λ i. filter (λ key. same key i) (keys w)
  where
    same : (key : Path) → is_up_to (path ++ 0 ∷ []) key ≡ is_before path key
    same key = ⊎_elim
        (λ up. up ∙ sym (before_then_up_to path (path ++ 0 ∷ []) key (before_longer path 0) up))
        (λ no_up. no_up
        ∙ sym (false_from_ne_true _
        (λ b. none_between path key b (before-from_not_up_to key (path ++ 0 ∷ []) no_up))))
        (cases_Bool (is_up_to (path ++ 0 ∷ []) key))

pub within_step : (w : World) (path place found next : Path) (paths : List Path)
    → (paths ++ below path (keys_from place w) ≡ paths_within w path) → IsFirstFrom place found w
    → begins path found ≡ true → next ≡ found ++ 0 ∷ []
    → ((paths ++ found ∷ []) ++ below path (keys_from next w) ≡ paths_within w path)
    × (is_before next (front_at path) ≡ false)
within_step w path place found next paths so_far first is e = (
  ap (λ n. (paths ++ found ∷ []) ++ below path (keys_from n w)) e
      ∙ ap (λ ks. (paths ++ found ∷ []) ++ below path ks) (keys_next found w)
      ∙ append_assoc paths (found ∷ []) (below path (keys_behind found w))
      ∙ ap (λ ks. paths ++ ks)
      (sym (ap (below path) first
      ∙ ap (λ b. cond b (found ∷ below path (keys_behind found w)) (below path (keys_behind found w))) is))
      ∙ so_far,
  ap (λ n. is_before n (front_at path)) (e ∙ ap (λ f. f ++ 0 ∷ []) (begins_as path found is)
      ∙ append_assoc (front_at path) (drop (length (front_at path)) found) (0 ∷ []))
      ∙ not_before_front (front_at path) (drop (length (front_at path)) found ++ 0 ∷ []),
)

-- Where a path does not begin so, none behind it does.
pub within_end : (w : World) (path place found : Path) (paths : List Path)
    → (paths ++ below path (keys_from place w) ≡ paths_within w path) → is_before place (front_at path) ≡ false
    → IsFirstFrom place found w → begins path found ≡ false → paths ≡ paths_within w path
within_end w path place found paths so_far order first isnt =
    let front = front_at path in
    let behind : is_before found front ≡ false = false_from_ne_true _ (λ b.
    false≢true
    (sym order
    ∙ before_if_up_to place found front (filter_head (is_up_to place) (keys w) (keys_behind found w) found first)
    b)) in
    let none : below path (keys_behind found w) ≡ [] =
    filter_apart (begins path) (is_before found) (λ key h. false_from_ne_true _ (λ b.
    false≢true
    (sym isnt ∙ starts_so front found (drop (length front) key) behind
    (ap (is_before found) (sym (begins_as path key b)) ∙ h)))) (keys w) in
    sym (append-nil paths)
    ∙ ap (λ ks. paths ++ ks)
    (sym (ap (below path) first
    ∙ ap (λ b. cond b (found ∷ below path (keys_behind found w)) (below path (keys_behind found w))) isnt
    ∙ none))
    ∙ so_far

-- ---- which paths these are

pub bytes_eq-is : (a b : Path) → bytes_eq a b ≡ same_path a b
bytes_eq-is a b = by _ refl
  where
    by : (v : Bool) → same_path a b ≡ v → bytes_eq a b ≡ same_path a b
    by true e = (bytes_decides a b).1 (same_path-true a b e) ∙ sym e
    by false e =
        false_from_ne_true _
        (λ t. false≢true (sym e ∙ ap (same_path a) (sym ((bytes_decides a b).0 t)) ∙ same_path-itself a))
        ∙ sym e

pub among_filter : (p : Path → Bool) (ks : List Path) (q : Path) → is_among (filter p ks) q ≡ (p q && is_among ks q)
among_filter p [] q = sym (and_false (p q))
  where
    and_false : (b : Bool) → (b && false) ≡ false
    and_false true = refl
    and_false false = refl
among_filter p (k ∷ ks) q =
    elim (p k) as (λ b. p k ≡ b → is_among (cond b (k ∷ filter p ks) (filter p ks)) q
    ≡ (p q && (same_path q k || is_among ks q))) [
      | true ↦ λ e. ap (λ b. same_path q k || b) (among_filter p ks q) ∙ by (same_path q k) refl e
      | false ↦ λ e. among_filter p ks q ∙ by_not (same_path q k) refl e
    ] refl
  where
    by : (v : Bool) → same_path q k ≡ v → p k ≡ true → (v || (p q && is_among ks q))
        ≡ (p q && (v || is_among ks q))
    by true e t = sym (ap (λ b. b && true) (ap p (same_path-true q k e) ∙ t))
    by false e t = refl

    by_not : (v : Bool) → same_path q k ≡ v → p k ≡ false
        → (p q && is_among ks q) ≡ (p q && (v || is_among ks q))
    by_not true e f = ap (λ b. b && is_among ks q) (ap p (same_path-true q k e) ∙ f)
        ∙ sym (ap (λ b. b && true) (ap p (same_path-true q k e) ∙ f))
    by_not false e f = refl

-- Those that are there.
among_within : (w : World) (path q : Path) → IsSome (get w path) → is_among (paths_within w path) q
    ≡ (is_within path q && is_some (get w q))
among_within w path q there =
    ap (λ b. same_path q path || b)
    (among_filter (begins path) (keys w) q ∙ ap (λ b. begins path q && b) (sym (contains_key-keys w q)))
    ∙ by (same_path q path) refl
  where
    some : (o : Option Node) → IsSome o → is_some o ≡ true
    some None h = absurd (search (rules, h))
    some (Some node) h = refl

    by : (v : Bool) → same_path q path ≡ v → (v || (begins path q && is_some (get w q)))
        ≡ ((bytes_eq q path || begins path q) && is_some (get w q))
    by true e =
        sym (ap (λ b. (b || begins path q) && is_some (get w q)) (bytes_eq-is q path ∙ e)
        ∙ ap (λ p. is_some (get w p)) (same_path-true q path e) ∙ some (get w path) there)
    by false e = sym (ap (λ b. (b || begins path q) && is_some (get w q)) (bytes_eq-is q path ∙ e))

-- ---- what is left

get-without : (w : World) (paths : List Path) (q : Path) → get (without w paths) q ≡ cond (is_among paths q) None
    (get w q)
get-without w [] q = refl
get-without w (p ∷ ps) q =
    get-without (remove w p) ps q ∙ ap (cond (is_among ps q) None) (get_removed w p q)
    ∙ elim (same_path q p) as (λ b. cond (is_among ps q) None (cond b None (get w q))
    ≡ cond (b || is_among ps q) None (get w q)) [
      | true ↦ elim (is_among ps q) as (λ a. cond {A = Option Node} a None None ≡ None)
          [ true ↦ refl | false ↦ refl ]
      | false ↦ refl
    ]

get-left : (w : World) (path q : Path) → IsSome (get w path) → get (without w (paths_within w path)) q
    ≡ cond (is_within path q) None (get w q)
get-left w path q there =
    get-without w (paths_within w path) q ∙ ap (λ b. cond b None (get w q)) (among_within w path q there)
    ∙ by (is_within path q) (get w q)
  where
    by : (b : Bool) (o : Option Node) → cond (b && is_some o) None o ≡ cond b None o
    by true None = refl
    by true (Some node) = refl
    by false o = refl

pub left-is : (w : World) (path : Path) → IsSome (get w path) → without w (paths_within w path)
    ≡ retain_keys w (λ other. not (is_within path other))
left-is w path there = same_answers _ _ (λ q.
    get-left w path q there
    ∙ sym (get-retain_keys w (λ other. not (is_within path other)) q
    (λ x tied. ap (λ p. not (is_within path p)) (sym (exact_bytes q x tied)))
    ∙ turned (is_within path q) (get w q)))
  where
    turned : (b : Bool) (o : Option Node) → cond (not b) o None ≡ cond b None o
    turned true o = refl
    turned false o = refl

-- ---- it is a world

within_longer : (path q more : Path) → is_within path q ≡ true → is_within path (q ++ 47 ∷ more) ≡ true
within_longer path q more h = or_right (bytes_eq (q ++ 47 ∷ more) path) _ (⊎_elim
    (λ same. ap (begins path) (ap (λ p. p ++ 47 ∷ more) ((bytes_decides q path).0 same)
    ∙ sym (append_assoc path (47 ∷ []) more)) ∙ begins_so (front_at path) more)
    (λ b. ap (λ p. begins path (p ++ 47 ∷ more)) (begins_as path q b)
    ∙ ap (begins path) (append_assoc (front_at path) _ (47 ∷ more)) ∙ begins_so (front_at path) _)
    (or_cases (bytes_eq q path) _ h))

root_apart : (path : Path) → is_path path ≡ true → path ≢ root → is_within path root ≡ false
root_apart path is apart = false_from_ne_true _ (λ h. ⊎_elim
    (λ same. apart (sym ((bytes_decides root path).0 same)))
    (λ b. short path (ap length (begins_as path root b)) is)
    (or_cases (bytes_eq root path) _ h))
  where
    short : (path : Path) → 1 ≡ length (front_at path ++ drop (length (front_at path)) root)
        → is_path path ≡ true → ⊥
    short [] e is = false≢true is
    short (x ∷ xs) e is =
        omega (
          arith,
          e,
          length-append (front_at (x ∷ xs)) (drop (length (front_at (x ∷ xs))) root),
          length-append xs (47 ∷ []),
        )

-- What stands above another path begins it.
above_cut : (path above : Path) → is_among (parents path) above ≡ true → (above ≡ root)
    ⊎ ((more : Path) × (path ≡ above ++ 47 ∷ more))
above_cut [] above h = absurd (false≢true h)
above_cut (x ∷ []) above h = absurd (false≢true h)
above_cut (x ∷ y ∷ rest) above h =
    ⊎_elim
    (λ e. inl (same_path-true above root e))
    (λ e. let c = fronts_cut (x ∷ []) (y ∷ rest) above e in
    inr (c.1, ap (λ r. x ∷ r) c.3 ∙ ap (λ a. a ++ 47 ∷ c.1) (sym c.2)))
    (or_cases (same_path above root) _
    (sym (ap (λ ps. is_among ps above) (parents-long (x ∷ y ∷ rest) (omega arith))) ∙ h))

kept_apart : (w : World) (path q : Path) → IsSome (get w path) → IsSome (get (without w (paths_within w path)) q)
    → (is_within path q ≡ false) × IsSome (get w q)
kept_apart w path q there h = by (is_within path q) refl (subst IsSome (get-left w path q there) h)
  where
    by : (b : Bool) → is_within path q ≡ b → IsSome (cond b None (get w q)) → (is_within path q ≡ false)
        × IsSome (get w q)
    by true e s = absurd (search (rules, s))
    by false e s = (e, s)

pub IsWorld-left : (w : World) (path : Path) → IsWorld w → path ≢ root → IsSome (get w path)
    → IsWorld (without w (paths_within w path))
IsWorld-left w path is apart there =
    let formed = is.keys_are_paths path there in
    record {
      keys_are_paths = λ q h. is.keys_are_paths q (kept_apart w path q there h).1;
      root_is_dir = get-left w path root there ∙ cond-false _ None (get w root) (root_apart path formed apart)
          ∙ is.root_is_dir;
      parents_are_dirs = λ q above h c.
          let kept = kept_apart w path q there h in
          let outside : is_within path above ≡ false = false_from_ne_true _ (λ inside. ⊎_elim
          (λ at_root. false≢true (sym (root_apart path formed apart) ∙ ap (is_within path) (sym at_root)
          ∙ inside))
          (λ cut. false≢true (sym kept.0 ∙ ap (is_within path) cut.1 ∙ within_longer path above cut.0 inside))
          (above_cut q above (is_among-from_Contains (parents q) above c))) in
          get-left w path above there ∙ cond-false _ None (get w above) outside
          ∙ is.parents_are_dirs q above kept.1 c;
    }

-- ---- marks

-- What each mark of a path that is taken away leaves.
changes_at-without : (paths : List Path) (w : World) (rows : ChangeMap) (number : ℕ) (q : Path) → HasRows rows paths
    → changes_at (without_marked w rows number paths) q
    ≡ cond (is_among paths q) (with_all (is_dir (get w q)) number (changes_at rows q)) (changes_at rows q)
changes_at-without [] w rows number q has = refl
changes_at-without (p ∷ ps) w rows number q has =
    let mark = with_all (is_dir (get w p)) number in
    let there : IsSome (get rows p) = has p (0, omega arith, refl) in
    changes_at-without ps (remove w p) (adjusted rows p mark) number q
    (λ path c. KeepsRows-adjusted rows p mark path (has path (Contains-append_right (p ∷ []) ps path c)))
    ∙ ap (λ o. cond (is_among ps q) (with_all (is_dir o) number (changes_at (adjusted rows p mark) q))
    (changes_at (adjusted rows p mark) q)) (get_removed w p q)
    ∙ ap (λ row. cond (is_among ps q) (with_all (is_dir (cond (same_path q p) None (get w q))) number row) row)
    (changes_at-adjusted rows p mark q there)
    ∙ by (same_path q p) refl
  where
    twice : (a d : Bool) (c : Changes) → cond a (with_all false number (with_all d number c)) (with_all d number c)
        ≡ with_all d number c
    twice true d c = refl
    twice false d c = refl

    by : (v : Bool) → same_path q p ≡ v
        → cond (is_among ps q)
        (with_all (is_dir (cond v None (get w q))) number
        (cond v (with_all (is_dir (get w p)) number (changes_at rows q)) (changes_at rows q)))
        (cond v (with_all (is_dir (get w p)) number (changes_at rows q)) (changes_at rows q))
        ≡ cond (v || is_among ps q) (with_all (is_dir (get w q)) number (changes_at rows q)) (changes_at rows q)
    by true e = twice (is_among ps q) (is_dir (get w p)) (changes_at rows q)
        ∙ ap (λ x. with_all (is_dir (get w x)) number (changes_at rows q)) (sym (same_path-true q p e))
    by false e = refl

KeepsRows-without : (paths : List Path) (w : World) (rows : ChangeMap) (number : ℕ)
    → KeepsRows rows (without_marked w rows number paths)
KeepsRows-without [] w rows number q there = there
KeepsRows-without (p ∷ ps) w rows number q there =
    KeepsRows-without ps (remove w p) (adjusted rows p (with_all (is_dir (get w p)) number)) number q
    (KeepsRows-adjusted rows p (with_all (is_dir (get w p)) number) q there)

-- A look at a path that is taken away shows something else, and so do the names around it.
abbrev takes : World → Path → Path → Read → Bool
takes w directory path (KindOf q) = is_within path q && is_some (get w q)
takes w directory path (TextOf q) = is_within path q && is_some (get w q)
takes w directory path (NamesOf q) = same_path q directory || (is_within path q && is_dir (get w q))

last_change-taken : (w : World) (rows : ChangeMap) (directory path : Path) (number : ℕ) → IsSome (get w path)
    → HasRows rows (paths_within w path) → IsSome (get rows directory) → (read : Read)
    → last_change (adjusted (without_marked w rows number (paths_within w path)) directory (with_names number)) read
    ≡ cond (takes w directory path read) number (last_change rows read)
last_change-taken w rows directory path number there has at_directory read = by read
  where
    row : (q : Path)
        → changes_at (adjusted (without_marked w rows number (paths_within w path)) directory (with_names number)) q
        ≡ cond (same_path q directory)
        (with_names number
        (cond (is_within path q && is_some (get w q)) (with_all (is_dir (get w q)) number (changes_at rows q))
        (changes_at rows q)))
        (cond (is_within path q && is_some (get w q)) (with_all (is_dir (get w q)) number (changes_at rows q))
        (changes_at rows q))
    row q =
        changes_at-adjusted (without_marked w rows number (paths_within w path)) directory (with_names number) q
        (KeepsRows-without (paths_within w path) w rows number directory at_directory)
        ∙ ap (λ c. cond (same_path q directory) (with_names number c) c)
        (changes_at-without (paths_within w path) w rows number q has
        ∙ ap (λ b. cond b (with_all (is_dir (get w q)) number (changes_at rows q)) (changes_at rows q))
        (among_within w path q there))

    kind : (a b d : Bool) (c : Changes)
        → (cond a (with_names number (cond b (with_all d number c) c)) (cond b (with_all d number c) c)).kind
        ≡ cond b number c.kind
    kind true true d c = refl
    kind true false d c = refl
    kind false true d c = refl
    kind false false d c = refl

    text_is : (a b d : Bool) (c : Changes)
        → (cond a (with_names number (cond b (with_all d number c) c)) (cond b (with_all d number c) c)).text
        ≡ cond b number c.text
    text_is true true d c = refl
    text_is true false d c = refl
    text_is false true d c = refl
    text_is false false d c = refl

    names : (a b : Bool) (o : Option Node) (c : Changes)
        → (cond a (with_names number (cond (b && is_some o) (with_all (is_dir o) number c) c))
        (cond (b && is_some o) (with_all (is_dir o) number c) c)).names ≡ cond (a || (b && is_dir o)) number c.names
    names true b o c = refl
    names false false o c = refl
    names false true None c = refl
    names false true (Some dir) c = refl
    names false true (Some file) c = refl
    names false true (Some (text bytes)) c = refl

    by : (read : Read)
        → last_change (adjusted (without_marked w rows number (paths_within w path)) directory (with_names number))
        read ≡ cond (takes w directory path read) number (last_change rows read)
    by (KindOf q) = ap (λ (c : Changes). c.kind) (row q)
        ∙ kind (same_path q directory) (is_within path q && is_some (get w q)) (is_dir (get w q)) (changes_at rows q)
    by (TextOf q) = ap (λ (c : Changes). c.text) (row q)
        ∙ text_is (same_path q directory) (is_within path q && is_some (get w q)) (is_dir (get w q))
        (changes_at rows q)
    by (NamesOf q) = ap (λ (c : Changes). c.names) (row q) ∙ names (same_path q directory) (is_within path q)
        (get w q) (changes_at rows q)

-- ---- one path

get_gone : (w : World) (path : Path) → get (remove w path) path ≡ None
get_gone w path = get_removed w path path ∙ cond-true (same_path path path) None (get w path) (same_path-itself path)

remove_absent : (w : World) (path : Path) → get w path ≡ None → remove w path ≡ w
remove_absent w path none =
    same_answers _ _
    (λ q. get_removed w path q
    ∙ elim (same_path q path) as (λ b. same_path q path ≡ b → cond b None (get w q) ≡ get w q) [
      | true ↦ λ e. sym (ap (get w) (same_path-true q path e) ∙ none)
      | false ↦ λ _. refl
    ] refl)

put_back : (w : World) (path : Path) (node : Node) → get w path ≡ Some node → insert (remove w path) path node
    ≡ w
put_back w path node e =
    same_answers _ _ (λ q. get_inserted (remove w path) path node q ∙ ap (cond (same_path q path) (Some node))
    (get_removed w path q)
    ∙ elim (same_path q path) as (λ b. same_path q path ≡ b → cond b (Some node) (cond b None (get w q))
    ≡ get w q) [
      | true ↦ λ t. sym (ap (get w) (same_path-true q path t) ∙ e)
      | false ↦ λ _. refl
    ] refl)

-- ---- what is shown

-- To take away what has no name in a directory leaves its names.
names_removed : (w : World) (path q : Path) → name_in q path ≡ None
    → filter_map (name_in q) (keys (remove w path)) ≡ filter_map (name_in q) (keys w)
names_removed w path q nameless = by (get w path) refl
  where
    by : (o : Option Node) → get w path ≡ o → filter_map (name_in q) (keys (remove w path))
        ≡ filter_map (name_in q) (keys w)
    by None e = ap (λ v. filter_map (name_in q) (keys v)) (remove_absent w path e)
    by (Some node) e = sym (names_same (remove w path) path node q (get_gone w path) nameless)
        ∙ ap (λ v. filter_map (name_in q) (keys v)) (put_back w path node e)

names_without : (q : Path) (paths : List Path) (w : World) → AllByRecursion (λ path. name_in q path ≡ None) paths
    → filter_map (name_in q) (keys (without w paths)) ≡ filter_map (name_in q) (keys w)
names_without q [] w all = refl
names_without q (p ∷ ps) w all = names_without q ps (remove w p) all.1 ∙ names_removed w p q all.0

none_below : (q path : Path) (ks : List Path) → is_path q ≡ true → is_path path ≡ true
    → is_within path q ≡ false → AllByRecursion (λ k. name_in q k ≡ None) (below path ks)
none_below q path [] is formed out = tt
none_below q path (k ∷ ks) is formed out =
    elim (begins path k) as (λ b. begins path k ≡ b
    → AllByRecursion (λ k. name_in q k ≡ None) (cond b (k ∷ below path ks) (below path ks))) [
      | true ↦ λ e. (
        nameless (name_in q k)
            (λ named. false≢true (sym out ∙ within-from_name q path (drop (length (front_at path)) k) is formed
            (subst (λ p. IsSome (name_in q p))
            (begins_as path k e ∙ append_assoc path (47 ∷ []) (drop (length (front_at path)) k)) named))),
        none_below q path ks is formed out,
      )
      | false ↦ λ _. none_below q path ks is formed out
    ] refl

-- The directory of a path stands outside.
directory_apart : (path directory : Path) → is_among (parents path) directory ≡ true
    → is_within path directory ≡ false
directory_apart path directory among =
    let shorter = parent_shorter path directory among in
    false_from_ne_true _ (λ h. ⊎_elim
    (λ same. let size : length directory ≡ length path = ap length ((bytes_decides directory path).0 same) in
    absurd (omega arith))
    (λ b. longer path directory shorter (ap length (begins_as path directory b)))
    (or_cases (bytes_eq directory path) _ h))
  where
    longer : (path directory : Path) → length directory < length path
        → length directory ≡ length (front_at path ++ drop (length (front_at path)) directory) → ⊥
    longer path directory l e =
        omega (
          arith,
          l,
          e,
          length-append (front_at path) (drop (length (front_at path)) directory),
          length-append path (47 ∷ []),
        )

module _ (w : World) (directory path : Path) (is : IsWorld w) (apart : path ≢ root) (there : IsSome (get w path))
    (named : IsSome (name_in directory path)) (above : Contains (parents path) directory) where
  abbrev left : World
  left = without w (paths_within w path)

  abbrev news : Path → List Path
  news q = filter_map (name_in q) (keys left)

  abbrev olds : Path → List Path
  olds q = filter_map (name_in q) (keys w)

  formed : is_path path ≡ true
  formed = is.keys_are_paths path there

  stands : get w directory ≡ Some dir
  stands = is.parents_are_dirs path directory there above

  left_same : (q : Path) → (is_within path q && is_some (get w q)) ≡ false → get left q ≡ get w q
  left_same q e = get-left w path q there ∙ by (is_within path q) (get w q) e
    where
      by : (b : Bool) (o : Option Node) → (b && is_some o) ≡ false → cond b None o ≡ o
      by true None h = refl
      by true (Some node) h = absurd (true≢false h)
      by false o h = refl

  left_none : (q : Path) → is_within path q ≡ true → get left q ≡ None
  left_none q e = get-left w path q there ∙ cond-true (is_within path q) None (get w q) e

  left_outside : (q : Path) → is_within path q ≡ false → get left q ≡ get w q
  left_outside q e = get-left w path q there ∙ cond-false (is_within path q) None (get w q) e

  -- Of the names in a directory outside, that of the path alone is gone.
  same_names : (q : Path) → is_path q ≡ true → is_within path q ≡ false → same_path q directory ≡ false
      → news q ≡ olds q
  same_names q q_is out other = names_without q (paths_within w path) w (
    nameless (name_in q path) (λ n. false≢true (sym other
        ∙ ap (λ p. same_path p directory)
        (same_directory q directory path q_is
        (is.keys_are_paths directory (is_some_dir (get w directory) (ap is_dir stands))) n named)
        ∙ same_path-itself directory)),
    none_below q path (keys w) q_is formed out,
  )

  fewer_names : (node : Node) → get w path ≡ Some node → length (olds directory) ≡ length (news directory) + 1
  fewer_names node e =
      let rest : news directory ≡ filter_map (name_in directory) (keys (remove w path)) =
      names_without directory (below path (keys w)) (remove w path)
      (none_below directory path (keys w)
      (is.keys_are_paths directory (is_some_dir (get w directory) (ap is_dir stands))) formed
      (directory_apart path directory (is_among-from_Contains (parents path) directory above))) in
      ap (λ v. length (filter_map (name_in directory) (keys v))) (sym (put_back w path node e))
      ∙ names_longer (remove w path) path node directory (get_gone w path) named
      ∙ ap (λ ns. length ns + 1) (sym rest)

  others_stay : (read : Read) → takes w directory path read ≡ false → shown_by left read ≡ shown_by w read
  others_stay (KindOf q) e = ap kind_of (left_same q e)
  others_stay (TextOf q) e = ap found (left_same q e)
  others_stay (NamesOf q) e =
      let parts = or_false (same_path q directory) _ e in
      ⊎_elim
      (λ inside.
      let no_dir : is_dir (get w q) ≡ false = ap (λ b. b && is_dir (get w q)) (sym inside) ∙ parts.1 in
      ap (λ o. names_if (is_dir o) (news q)) (left_none q inside) ∙ sym (ap (λ b. names_if b (olds q)) no_dir))
      (λ out.
      ap (λ o. names_if (is_dir o) (news q)) (left_outside q out)
      ∙ elim (is_dir (get w q)) as (λ b. is_dir (get w q) ≡ b → names_if b (news q) ≡ names_if b (olds q)) [
        | true ↦ λ d. ap (names_if true) (same_names q (is.keys_are_paths q (is_some_dir (get w q) d)) out parts.0)
        | false ↦ λ _. refl
      ] refl)
      (cases_Bool (is_within path q))
    where
      or_false : (a b : Bool) → (a || b) ≡ false → (a ≡ false) × (b ≡ false)
      or_false true b h = absurd (true≢false h)
      or_false false b h = (refl, h)

  counts_less : (q : Path) → (is_within path q && is_some (get w q)) ≡ true
      → count_of (get left q) < count_of (get w q)
  counts_less q e =
      let parts = and_parts (is_within path q) _ e in
      let after : count_of (get left q) ≡ 0 = ap count_of (left_none q parts.0) in
      let before : count_of (get w q) ≡ 1 = one (get w q) parts.1 in
      omega arith
    where
      one : (o : Option Node) → is_some o ≡ true → count_of o ≡ 1
      one None h = absurd (false≢true h)
      one (Some node) h = refl

  taken_less : (read : Read) → takes w directory path read ≡ true → size left read < size w read
  taken_less (KindOf q) e = counts_less q e
  taken_less (TextOf q) e = counts_less q e
  taken_less (NamesOf q) e = ⊎_elim
      (λ at.
      let same : q ≡ directory = same_path-true q directory at in
      let old : get w q ≡ Some dir = ap (get w) same ∙ stands in
      let new : get left q ≡ Some dir =
      left_outside q
      (ap (is_within path) same
      ∙ directory_apart path directory (is_among-from_Contains (parents path) directory above)) ∙ old in
      let before : size w (NamesOf q) ≡ length (olds q) + 1 = ap (λ o. size_if (is_dir o) (olds q)) old in
      let after : size left (NamesOf q) ≡ length (news q) + 1 = ap (λ o. size_if (is_dir o) (news q)) new in
      let one : length (olds q) ≡ length (news q) + 1 =
      subst (λ d. length (olds d) ≡ length (news d) + 1) (sym same) (by (get w path) refl) in
      omega arith)
      (λ both.
      let parts = and_parts (is_within path q) _ both in
      let before : size w (NamesOf q) ≡ length (olds q) + 1 = ap (λ b. size_if b (olds q)) parts.1 in
      let after : size left (NamesOf q) ≡ 0 = ap (λ o. size_if (is_dir o) (news q)) (left_none q parts.0) in
      omega arith)
      (or_cases (same_path q directory) _ e)
    where
      by : (o : Option Node) → get w path ≡ o → length (olds directory) ≡ length (news directory) + 1
      by None e = absurd (search (rules, subst IsSome e there))
      by (Some node) e = fewer_names node e

  pub Marks-taken : (number : ℕ) (rows first : ChangeMap) → SameRows rows first
      → HasRows first (paths_within w path) → IsSome (get first directory)
      → Marks number w left rows
      (adjusted (without_marked w first number (paths_within w path)) directory (with_names number))
  Marks-taken number rows first same has at_directory read =
      let last = last_change-taken w first directory path number there has at_directory read in
      let t = takes w directory path read in
      ⊎_elim
      (λ is_taken. let less = taken_less read is_taken in
      inr (
        λ e. let size_same = size-shown left w read e in absurd (omega arith),
        last ∙ cond-true t number (last_change first read) is_taken,
      ))
      (λ isnt. inl (
        others_stay read isnt,
        last ∙ cond-false t number (last_change first read) isnt
            ∙ last_change-same rows first same read,
      ))
      (cases_Bool t)
