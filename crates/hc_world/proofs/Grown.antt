-- What an insertion changes of what a world shows.
use Rattle.hc_world.proofs.Common.{◌≡◌, ◌≢◌, ℕ, ◌+◌, ◌<◌, Bool, true, false, cond, ◌&&◌}
use Rattle.hc_world.proofs.Common.{◌||◌, List, [], ◌∷◌, ◌++◌, length, map, Option, Some, None, IsSome}
use Rattle.hc_world.proofs.Common.{refl, sym, ap, ◌∙◌, subst, inl, inr, ◌⊎◌, arith, rules, ⊎_elim}
use Rattle.hc_world.proofs.Common.{cases_Bool, false≢true, true≢false, cond-true, cond-false, or_cases, filter_map}
use Rattle.hc_world.proofs.Common.{cons_option, Less, Equal, Greater, nat_cmp, slice_cmp, nat_list_cmp_total, keys, get}
use Rattle.hc_world.proofs.Common.{insert, length-append, Node, dir, is_dir, file, text, Absent, Dir, File, World}
use Rattle.hc_world.proofs.Common.{is_path, name_in, kind_of, text_of, and_parts, false_from_ne_true, take}
use Rattle.hc_world.proofs.Common.{length-take-le, parents, HasNoSlash, IsNextSlash, is_file, not, root, IsWorld}
use Rattle.hc_world.proofs.Common.{bytes_decides, Result, Ok, Err}
use Rattle.std.specs.Bool.{⊤}
use Rattle.std.specs.Option.{is_some, option_eq}
use Rattle.std.specs.Str.{bytes_eq}
use Rattle.hc_base.specs.declared.fault.Fault.{Fault}
use Rattle.std.specs.FinMap.{entries, entries-insert, len-entries, len-insert, put}
use Rattle.std.specs.FinMap.Entries.{by_order}
use Rattle.std.proofs.lemmas.List.{length-map}
use Rattle.std.proofs.lemmas.List.Elements.{filter_map-append}
use Rattle.hc_model.specs.declared.read.Read.{Read}
use Rattle.hc_model.specs.declared.read.Read.TheVariants.{KindOf, NamesOf, TextOf}
use Rattle.hc_steps.specs.Shown.{shown_by}
use Rattle.hc_model.specs.declared.walk.Kind.{Kind}
use Rattle.hc_steps.specs.Step.{Found, Path}
use Rattle.hc_world.specs.Changes.{ChangeMap, Changes, changes_at, last_change}
use Rattle.hc_world.specs.Rows.{SameRows, adjusted, made_in, with_all, with_names, with_text, written}
use Rattle.hc_world.specs.Marks.{FilesGrown, FilesMarked, Grows, IsPlace, IsStep, Marks, count_of, size}
use Rattle.hc_world.proofs.Parents.{is_among-from_Contains, parent_is_path}
use Rattle.hc_world.proofs.Below.{IsBelow-first, IsBelow-next, named_front, named_path, same_directory}
use Rattle.hc_world.proofs.Worlds.{file_no_dir, is_some_dir, is_some_file}
use Rattle.hc_world.proofs.Rows.{KeepsRows-adjusted, changes_at-adjusted, last_change-same}
use Rattle.hc_world.proofs.Lookups.{get_inserted, same_path, same_path-itself, same_path-true}

-- ---- keys

abbrev firsts : List (Path × Node) → List Path
firsts es = map (λ e. e.0) es

-- A key is put in its place.
abbrev IsPlaced : Path → List Path → List Path → Type 0
IsPlaced path old new = (front : List Path) × (back : List Path) × (old ≡ front ++ back)
    × (new ≡ front ++ path ∷ back)

placed_later : (path key : Path) (old new : List Path) → (new ≡ old) ⊎ IsPlaced path old new
    → (key ∷ new ≡ key ∷ old) ⊎ IsPlaced path (key ∷ old) (key ∷ new)
placed_later path key old new (inl same) = inl (ap (λ ks. key ∷ ks) same)
placed_later path key old new (inr p) = inr (key ∷ p.0, p.1, ap (λ ks. key ∷ ks) p.2, ap (λ ks. key ∷ ks) p.3)

placed : (path : Path) (node : Node) (es : List (Path × Node))
    → (firsts (put (slice_cmp nat_cmp) path node es) ≡ firsts es)
    ⊎ IsPlaced path (firsts es) (firsts (put (slice_cmp nat_cmp) path node es))
placed path node [] = inr ([], [], refl, refl)
placed path node (e ∷ es) =
    elim (slice_cmp nat_cmp path e.0)
    as (λ o. (firsts
    (by_order o ((path, node) ∷ e ∷ es) ((e.0, node) ∷ es) (e ∷ put (slice_cmp nat_cmp) path node es))
    ≡ firsts (e ∷ es))
    ⊎ IsPlaced path (firsts (e ∷ es))
    (firsts (by_order o ((path, node) ∷ e ∷ es) ((e.0, node) ∷ es)
    (e ∷ put (slice_cmp nat_cmp) path node es)))) [
      | Less ↦ inr ([], firsts (e ∷ es), refl, refl)
      | Equal ↦ inl refl
      | Greater ↦ placed_later path e.0 (firsts es) _ (placed path node es)
    ]

keys_inserted : (w : World) (path : Path) (node : Node) → (keys (insert w path node) ≡ keys w)
    ⊎ IsPlaced path (keys w) (keys (insert w path node))
keys_inserted w path node =
    subst (λ es. (firsts es ≡ keys w) ⊎ IsPlaced path (keys w) (firsts es))
    (sym (entries-insert nat_list_cmp_total w path node)) (placed path node (entries w))

count : (w : World) (path : Path) (node : Node) → length (keys (insert w path node)) ≡ cond (is_some (get w path))
    (length (keys w)) (length (keys w) + 1)
count w path node =
    length-map (entries (insert w path node)) (λ e. e.0) ∙ sym (len-entries (insert w path node))
    ∙ len-insert nat_list_cmp_total w path node
    ∙ ap (λ n. cond (is_some (get w path)) n (n + 1)) (len-entries w ∙ sym (length-map (entries w) (λ e. e.0)))

-- What is written over leaves the keys.
pub keys_written : (w : World) (path : Path) (node : Node) → IsSome (get w path) → keys (insert w path node)
    ≡ keys w
keys_written w path node there =
    ⊎_elim
    (λ same. same)
    (λ p.
    let more : length (keys (insert w path node)) ≡ length (keys w) + 1 =
    longer path (keys w) (keys (insert w path node)) p in
    let same : length (keys (insert w path node)) ≡ length (keys w) = count w path node
    ∙ cond-true _ (length (keys w)) (length (keys w) + 1) (is_there (get w path) there) in
    absurd (omega arith))
    (keys_inserted w path node)
  where
    longer : (path : Path) (old new : List Path) → IsPlaced path old new → length new ≡ length old + 1
    longer path old new p =
        omega (arith, ap length p.2 ∙ length-append p.0 p.1, ap length p.3 ∙ length-append p.0 (path ∷ p.1))

    is_there : (o : Option Node) → IsSome o → is_some o ≡ true
    is_there None h = absurd (search (rules, h))
    is_there (Some node) h = refl

-- A new key has a place.
new_key : (w : World) (path : Path) (node : Node) → get w path ≡ None
    → IsPlaced path (keys w) (keys (insert w path node))
new_key w path node none =
    ⊎_elim
    (λ same.
    let more : length (keys (insert w path node)) ≡ length (keys w) + 1 = count w path node
    ∙ ap (λ o. cond (is_some o) (length (keys w)) (length (keys w) + 1)) none in
    let less : length (keys (insert w path node)) ≡ length (keys w) = ap length same in
    absurd (omega arith))
    (λ p. p)
    (keys_inserted w path node)

-- ---- names

pub names_same : (w : World) (path : Path) (node : Node) (q : Path) → get w path ≡ None → name_in q path ≡ None
    → filter_map (name_in q) (keys (insert w path node)) ≡ filter_map (name_in q) (keys w)
names_same w path node q none nameless =
    let p = new_key w path node none in
    ap (filter_map (name_in q)) p.3 ∙ filter_map-append (name_in q) p.0 (path ∷ p.1)
    ∙ ap (λ o. filter_map (name_in q) p.0 ++ cons_option o (filter_map (name_in q) p.1)) nameless
    ∙ sym (ap (filter_map (name_in q)) p.2 ∙ filter_map-append (name_in q) p.0 p.1)

pub names_longer : (w : World) (path : Path) (node : Node) (q : Path) → get w path ≡ None
    → IsSome (name_in q path) → length (filter_map (name_in q) (keys (insert w path node)))
    ≡ length (filter_map (name_in q) (keys w)) + 1
names_longer w path node q none named =
    let p = new_key w path node none in
    let f = name_in q in
    let after : length (filter_map f (keys (insert w path node))) ≡ length (filter_map f p.0) + length
    (cons_option (f path) (filter_map f p.1)) =
    ap length (ap (filter_map f) p.3 ∙ filter_map-append f p.0 (path ∷ p.1))
    ∙ length-append (filter_map f p.0) _ in
    let before : length (filter_map f (keys w)) ≡ length (filter_map f p.0) + length (filter_map f p.1) =
    ap length (ap (filter_map f) p.2 ∙ filter_map-append f p.0 p.1) ∙ length-append (filter_map f p.0) _ in
    let one : length (cons_option (f path) (filter_map f p.1)) ≡ length (filter_map f p.1) + 1 =
    consed (f path) (filter_map f p.1) named in
    omega arith
  where
    consed : (o : Option Path) (ns : List Path) → IsSome o → length (cons_option o ns) ≡ length ns + 1
    consed None ns h = absurd (search (rules, h))
    consed (Some n) ns h = omega arith

-- ---- what is made in a directory

abbrev pub touches : Path → Path → Bool → Read → Bool
touches directory path is_dir (KindOf q) = same_path q path
touches directory path is_dir (TextOf q) = same_path q path
touches directory path is_dir (NamesOf q) = same_path q directory || (same_path q path && is_dir)

abbrev pub found : Option Node → Found
found o = record { kind = kind_of o; text = text_of o }

get_other : (w : World) (path : Path) (node : Node) (q : Path) → same_path q path ≡ false
    → get (insert w path node) q ≡ get w q
get_other w path node q e = get_inserted w path node q ∙ cond-false (same_path q path) (Some node) (get w q) e

get_same : (w : World) (path : Path) (node : Node) (q : Path) → same_path q path ≡ true
    → get (insert w path node) q ≡ Some node
get_same w path node q e = get_inserted w path node q ∙ cond-true (same_path q path) (Some node) (get w q) e

abbrev pub names_if : Bool → List Path → Option (List Path)
names_if b names = cond b (Some (cond b names [])) None

pub nameless : (o : Option Path) → (IsSome o → ⊥) → o ≡ None
nameless None h = refl
nameless (Some name) h = absurd (h (search rules))

others_shown : (w : World) (directory path : Path) (node : Node) → IsStep w directory path → (read : Read)
    → touches directory path (is_dir (Some node)) read ≡ false → shown_by (insert w path node) read
    ≡ shown_by w read
others_shown w directory path node step (KindOf q) e = ap kind_of (get_other w path node q e)
others_shown w directory path node step (TextOf q) e = ap found (get_other w path node q e)
others_shown w directory path node step (NamesOf q) e =
    let apart : same_path q directory ≡ false = none_left (same_path q directory) _ e in
    let news = filter_map (name_in q) (keys (insert w path node)) in
    let olds = filter_map (name_in q) (keys w) in
    ⊎_elim
    (λ at.
    let no_dir : is_dir (Some node) ≡ false = ap (λ b. b && is_dir (Some node)) (sym at)
    ∙ none_right (same_path q directory) _ e in
    ap (λ o. names_if (is_dir o) news) (get_same w path node q at) ∙ ap (λ b. names_if b news) no_dir
    ∙ sym (ap (λ o. names_if (is_dir o) olds) (ap (get w) (same_path-true q path at) ∙ step.free)))
    (λ other.
    ap (λ o. names_if (is_dir o) news) (get_other w path node q other)
    ∙ elim (is_dir (get w q)) as (λ b. is_dir (get w q) ≡ b → names_if b news ≡ names_if b olds) [
      | true ↦ λ d. ap (λ names. names_if true names)
          (names_same w path node q step.free (nameless (name_in q path) (λ named.
          let there = step.keys_are_paths q (is_some_dir (get w q) d) in
          let is : q ≡ directory =
          same_directory q directory path there
          (step.keys_are_paths directory (is_some_dir (get w directory) (ap is_dir step.stands))) named
          step.named in
          false≢true (sym apart ∙ ap (λ p. same_path p directory) is ∙ same_path-itself directory))))
      | false ↦ λ _. refl
    ] refl)
    (cases_Bool (same_path q path))
  where
    none_left : (a b : Bool) → (a || b) ≡ false → a ≡ false
    none_left true b h = absurd (true≢false h)
    none_left false b h = refl

    none_right : (a b : Bool) → (a || b) ≡ false → b ≡ false
    none_right true b h = absurd (true≢false h)
    none_right false b h = h

abbrev pub size_if : Bool → List Path → ℕ
size_if b names = cond b (length (cond b names []) + 1) 0

made_counts : (w : World) (path : Path) (node : Node) (q : Path) → get w path ≡ None → same_path q path ≡ true
    → count_of (get w q) < count_of (get (insert w path node) q)
made_counts w path node q none at =
    let before : count_of (get w q) ≡ 0 = ap count_of (ap (get w) (same_path-true q path at) ∙ none) in
    let after : count_of (get (insert w path node) q) ≡ 1 = ap count_of (get_same w path node q at) in
    omega arith

made_grows : (w : World) (directory path : Path) (node : Node) → IsStep w directory path → (read : Read)
    → touches directory path (is_dir (Some node)) read ≡ true → size w read < size (insert w path node) read
made_grows w directory path node step (KindOf q) e = made_counts w path node q step.free e
made_grows w directory path node step (TextOf q) e = made_counts w path node q step.free e
made_grows w directory path node step (NamesOf q) e =
    let news = filter_map (name_in q) (keys (insert w path node)) in
    let olds = filter_map (name_in q) (keys w) in
    ⊎_elim
    (λ at.
    let is : q ≡ directory = same_path-true q directory at in
    let old : get w q ≡ Some dir = ap (get w) is ∙ step.stands in
    let other : same_path q path ≡ false =
    false_from_ne_true _
    (λ s. none_dir (sym step.free ∙ sym (ap (get w) (same_path-true q path s)) ∙ old)) in
    let before : size w (NamesOf q) ≡ length olds + 1 = ap (λ o. size_if (is_dir o) olds) old in
    let after : size (insert w path node) (NamesOf q) ≡ length news + 1 =
    ap (λ o. size_if (is_dir o) news) (get_other w path node q other ∙ old) in
    let more : length news ≡ length olds + 1 =
    names_longer w path node q step.free (subst (λ d. IsSome (name_in d path)) (sym is) step.named) in
    omega arith)
    (λ both.
    let parts = and_parts (same_path q path) _ both in
    let before : size w (NamesOf q) ≡ 0 =
    ap (λ o. size_if (is_dir o) olds) (ap (get w) (same_path-true q path parts.0) ∙ step.free) in
    let after : size (insert w path node) (NamesOf q) ≡ length news + 1 =
    ap (λ o. size_if (is_dir o) news) (get_same w path node q parts.0) ∙ ap (λ b. size_if b news) parts.1 in
    omega arith)
    (or_cases (same_path q directory) _ e)
  where
    none_dir : None ≡ Some dir → ⊥
    none_dir e = cc

-- ---- what is shown says how much it is

kind_count : Kind → ℕ
kind_count Absent = 0
kind_count Dir = 1
kind_count File = 1

count_of-kind : (o : Option Node) → count_of o ≡ kind_count (kind_of o)
unfolding kind_count
count_of-kind None = refl
count_of-kind (Some dir) = refl
count_of-kind (Some file) = refl
count_of-kind (Some (text bytes)) = refl

option_size : Option (List Path) → ℕ
option_size None = 0
option_size (Some names) = length names + 1

size_if-names : (b : Bool) (names : List Path) → size_if b names ≡ option_size (names_if b names)
unfolding option_size
size_if-names true names = refl
size_if-names false names = refl

pub size-shown : (v w : World) (read : Read) → shown_by v read ≡ shown_by w read → size v read ≡ size w read
size-shown v w (KindOf q) e = count_of-kind (get v q) ∙ ap kind_count e ∙ sym (count_of-kind (get w q))
size-shown v w (TextOf q) e = count_of-kind (get v q) ∙ ap (λ (f : Found). kind_count f.kind) e
    ∙ sym (count_of-kind (get w q))
size-shown v w (NamesOf q) e =
    size_if-names (is_dir (get v q)) (filter_map (name_in q) (keys v)) ∙ ap option_size e
    ∙ sym (size_if-names (is_dir (get w q)) (filter_map (name_in q) (keys w)))

pub Marks-from_Grows : (number : ℕ) (old new : World) (rows after : ChangeMap) → Grows number old new rows after
    → Marks number old new rows after
Marks-from_Grows number old new rows after grows read =
    ⊎_elim (λ same. inl same)
    (λ more. inr (λ e. let s = size-shown new old read e in let l = more.0 in absurd (omega arith), more.1))
    (grows read)

-- ---- marks

last_change-made : (rows : ChangeMap) (directory path : Path) (is_dir : Bool) (number : ℕ)
    → IsSome (get rows directory) → IsSome (get rows path) → (read : Read)
    → last_change (made_in rows directory path is_dir number) read ≡ cond (touches directory path is_dir read)
    number (last_change rows read)
last_change-made rows directory path is_dir number at_directory at_path read = by read
  where
    row : (q : Path) → changes_at (made_in rows directory path is_dir number) q ≡ cond (same_path q directory)
        (with_names number (cond (same_path q path) (with_all is_dir number (changes_at rows q)) (changes_at rows q)))
        (cond (same_path q path) (with_all is_dir number (changes_at rows q)) (changes_at rows q))
    row q =
        changes_at-adjusted (adjusted rows path (with_all is_dir number)) directory (with_names number) q
        (KeepsRows-adjusted rows path (with_all is_dir number) directory at_directory)
        ∙ ap (λ c. cond (same_path q directory) (with_names number c) c)
        (changes_at-adjusted rows path (with_all is_dir number) q at_path)

    kind : (a b : Bool) (c : Changes)
        → (cond a (with_names number (cond b (with_all is_dir number c) c))
        (cond b (with_all is_dir number c) c)).kind ≡ cond b number c.kind
    kind true true c = refl
    kind true false c = refl
    kind false true c = refl
    kind false false c = refl

    text : (a b : Bool) (c : Changes)
        → (cond a (with_names number (cond b (with_all is_dir number c) c))
        (cond b (with_all is_dir number c) c)).text ≡ cond b number c.text
    text true true c = refl
    text true false c = refl
    text false true c = refl
    text false false c = refl

    names : (a b d : Bool) (c : Changes)
        → (cond a (with_names number (cond b (with_all d number c) c)) (cond b (with_all d number c) c)).names
        ≡ cond (a || (b && d)) number c.names
    names true true d c = refl
    names true false d c = refl
    names false true true c = refl
    names false true false c = refl
    names false false d c = refl

    by : (read : Read) → last_change (made_in rows directory path is_dir number) read
        ≡ cond (touches directory path is_dir read) number (last_change rows read)
    by (KindOf q) = ap (λ (c : Changes). c.kind) (row q) ∙ kind (same_path q directory) (same_path q path)
        (changes_at rows q)
    by (TextOf q) = ap (λ (c : Changes). c.text) (row q) ∙ text (same_path q directory) (same_path q path)
        (changes_at rows q)
    by (NamesOf q) = ap (λ (c : Changes). c.names) (row q) ∙ names (same_path q directory) (same_path q path) is_dir
        (changes_at rows q)

-- What was made first, and what was made below it then, is marked when both are there.
pub Grows-around : (number : ℕ) (w new : World) (rows first after : ChangeMap) (directory path : Path) (node : Node)
    → IsStep w directory path → IsSome (get after directory) → IsSome (get after path) → SameRows rows first
    → Grows number (insert w path node) new first after
    → Grows number w new rows (made_in after directory path (is_dir (Some node)) number)
Grows-around number w new rows first after directory path node step at_directory at_path same grows read =
    let is_dir_made = is_dir (Some node) in
    let last = last_change-made after directory path is_dir_made number at_directory at_path read in
    let t = touches directory path is_dir_made read in
    ⊎_elim
    (λ yes.
    let more = made_grows w directory path node step read yes in
    let at_number = last ∙ cond-true t number (last_change after read) yes in
    ⊎_elim
    (λ s. let size_same = size-shown new (insert w path node) read s.0 in inr (omega arith, at_number))
    (λ m. let m0 = m.0 in inr (omega arith, at_number))
    (grows read))
    (λ no.
    let shown = others_shown w directory path node step read no in
    let kept = last ∙ cond-false t number (last_change after read) no in
    ⊎_elim
    (λ s. inl (s.0 ∙ shown, kept ∙ s.1 ∙ last_change-same rows first same read))
    (λ m. let m0 = m.0 in let size_same = size-shown (insert w path node) w read shown in
    inr (omega arith, kept ∙ m.1))
    (grows read))
    (cases_Bool t)

-- ---- from component to component

pub IsStep-path : (w : World) (directory path : Path) (from : ℕ) → IsPlace w directory path from
    → HasNoSlash path from (length path) → IsStep w directory path
IsStep-path w directory path from place none = record {
  keys_are_paths = place.keys_are_paths;
  stands = place.stands;
  free = place.free;
  named = named_path directory path from place.below none;
}

pub IsStep-front : (w : World) (directory path : Path) (from slash : ℕ) → IsPlace w directory path from
    → IsNextSlash path from slash → get w (take slash path) ≡ None → IsStep w directory (take slash path)
IsStep-front w directory path from slash place next free = record {
  keys_are_paths = place.keys_are_paths;
  stands = place.stands;
  free = free;
  named = named_front directory path from slash place.below next;
}

pub IsPlace-next : (w : World) (directory path : Path) (from slash : ℕ) → IsPlace w directory path from
    → IsNextSlash path from slash → get w (take slash path) ≡ Some dir
    → IsPlace w (take slash path) path (slash + 1)
IsPlace-next w directory path from slash place next stands = record {
  keys_are_paths = place.keys_are_paths;
  stands = stands;
  free = place.free;
  formed = place.formed;
  below = IsBelow-next directory path from slash place.formed place.below next;
}

pub IsPlace-made : (w : World) (directory path : Path) (from slash : ℕ) → IsPlace w directory path from
    → IsNextSlash path from slash → IsPlace (insert w (take slash path) dir) (take slash path) path (slash + 1)
IsPlace-made w directory path from slash place next =
    let above = take slash path in
    let below = IsBelow-next directory path from slash place.formed place.below next in
    let formed : is_path above ≡ true =
    parent_is_path path above place.formed (is_among-from_Contains (parents path) above below.above) in
    let room = next.within in
    let short : length above ≡ slash = length-take-le slash path (omega arith) in
    let apart : same_path path above ≡ false =
    false_from_ne_true _
    (λ e. let size : length path ≡ length above = ap length (same_path-true path above e) in omega arith) in
    record {
      keys_are_paths = λ q there. ⊎_elim
          (λ e. ap is_path (same_path-true q above e) ∙ formed)
          (λ e. place.keys_are_paths q (subst IsSome (get_other w above dir q e) there))
          (cases_Bool (same_path q above));
      stands = get_same w above dir above (same_path-itself above);
      free = get_other w above dir path apart ∙ place.free;
      formed = place.formed;
      below = below;
    }

-- The first place below the root.
pub IsPlace-first : (w : World) (path : Path) → IsWorld w → is_path path ≡ true → get w path ≡ None
    → IsPlace w root path 1
IsPlace-first w path is formed free = record {
  keys_are_paths = is.keys_are_paths;
  stands = is.root_is_dir;
  free = free;
  formed = formed;
  below = IsBelow-first path formed (λ e. none_some dir (sym free ∙ ap (get w) e ∙ is.root_is_dir));
}
  where
    none_some : (node : Node) → None ≡ Some node → ⊥
    none_some node e = cc

pub FilesMarked-from_grown : (result : Result ⊤ (Fault ℕ)) (number : ℕ) (old new : World) (rows after : ChangeMap)
    → FilesGrown result number old new rows after → FilesMarked result number old new rows after
FilesMarked-from_grown (Ok _) number old new rows after grown = Marks-from_Grows number old new rows after grown
FilesMarked-from_grown (Err fault) number old new rows after same = same

-- ---- what is written over a file

-- The text alone changes.
abbrev rewrites : Path → Bool → Read → Bool
rewrites path same (KindOf q) = false
rewrites path same (TextOf q) = same_path q path && not same
rewrites path same (NamesOf q) = false

last_change-written : (rows : ChangeMap) (path : Path) (same : Bool) (number : ℕ) → IsSome (get rows path)
    → (read : Read) → last_change (written rows path same number) read ≡ cond (rewrites path same read) number
    (last_change rows read)
last_change-written rows path true number there (KindOf q) = refl
last_change-written rows path true number there (TextOf q) =
    elim (same_path q path) as (λ b. (changes_at rows q).text ≡ cond (b && false) number (changes_at rows q).text)
    [ true ↦ refl | false ↦ refl ]
last_change-written rows path true number there (NamesOf q) = refl
last_change-written rows path false number there (KindOf q) =
    ap (λ (c : Changes). c.kind) (changes_at-adjusted rows path (with_text number) q there)
    ∙ elim (same_path q path) as (λ b. (cond b (with_text number (changes_at rows q)) (changes_at rows q)).kind
    ≡ (changes_at rows q).kind) [ true ↦ refl | false ↦ refl ]
last_change-written rows path false number there (TextOf q) =
    ap (λ (c : Changes). c.text) (changes_at-adjusted rows path (with_text number) q there)
    ∙ elim (same_path q path) as (λ b. (cond b (with_text number (changes_at rows q)) (changes_at rows q)).text
    ≡ cond (b && true) number (changes_at rows q).text) [ true ↦ refl | false ↦ refl ]
last_change-written rows path false number there (NamesOf q) =
    ap (λ (c : Changes). c.names) (changes_at-adjusted rows path (with_text number) q there)
    ∙ elim (same_path q path) as (λ b. (cond b (with_text number (changes_at rows q)) (changes_at rows q)).names
    ≡ (changes_at rows q).names) [ true ↦ refl | false ↦ refl ]

file_kind : (o : Option Node) → is_file o ≡ true → kind_of o ≡ File
file_kind None h = absurd (false≢true h)
file_kind (Some dir) h = absurd (false≢true h)
file_kind (Some file) h = refl
file_kind (Some (text bytes)) h = refl

text_same : (a b : Option Path) → option_eq bytes_eq a b ≡ true → a ≡ b
text_same None None h = refl
text_same None (Some b) h = absurd (false≢true h)
text_same (Some a) None h = absurd (false≢true h)
text_same (Some a) (Some b) h = ap Some ((bytes_decides a b).0 h)

text_apart : (a b : Option Path) → option_eq bytes_eq a b ≡ false → a ≢ b
text_apart None b h e = absurd (true≢false (ap (option_eq bytes_eq None) e ∙ h))
text_apart (Some a) b h e =
    absurd (true≢false (sym ((bytes_decides a a).1 refl) ∙ ap (option_eq bytes_eq (Some a)) e ∙ h))

module _ (w : World) (path : Path) (node : Node) (is_old : is_file (get w path) ≡ true)
    (is_new : is_file (Some node) ≡ true) where
  same_shown : (same : Bool) → same ≡ option_eq bytes_eq (text_of (get w path)) (text_of (Some node))
      → (read : Read) → rewrites path same read ≡ false → shown_by (insert w path node) read ≡ shown_by w read
  same_shown same is (KindOf q) doesnt = ⊎_elim
      (λ at. ap kind_of (get_same w path node q at) ∙ file_kind (Some node) is_new
      ∙ sym (ap (λ p. kind_of (get w p)) (same_path-true q path at) ∙ file_kind (get w path) is_old))
      (λ other. ap kind_of (get_other w path node q other))
      (cases_Bool (same_path q path))
  same_shown same is (TextOf q) doesnt = ⊎_elim
      (λ at.
      let is_same : same ≡ true = left_alone (same_path q path) same at doesnt in
      let texts : text_of (Some node) ≡ text_of (get w path) =
      sym (text_same (text_of (get w path)) (text_of (Some node)) (sym is ∙ is_same)) in
      let kinds : kind_of (Some node) ≡ kind_of (get w path) = file_kind (Some node) is_new
      ∙ sym (file_kind (get w path) is_old) in
      ap found (get_same w path node q at) ∙ (λ i. record { kind = kinds i; text = texts i })
      ∙ sym (ap (λ p. found (get w p)) (same_path-true q path at)))
      (λ other. ap found (get_other w path node q other))
      (cases_Bool (same_path q path))
    where
      left_alone : (a b : Bool) → a ≡ true → (a && not b) ≡ false → b ≡ true
      left_alone true true at doesnt = refl
      left_alone true false at doesnt = absurd (true≢false doesnt)
      left_alone false b at doesnt = absurd (false≢true at)
  same_shown same is (NamesOf q) doesnt =
      let news = filter_map (name_in q) (keys (insert w path node)) in
      let olds = filter_map (name_in q) (keys w) in
      let names : news ≡ olds =
      ap (filter_map (name_in q)) (keys_written w path node (is_some_file (get w path) is_old)) in
      ⊎_elim
      (λ at. ap (λ o. names_if (is_dir o) news) (get_same w path node q at)
      ∙ ap (λ b. names_if b news) (file_no_dir (Some node) is_new)
      ∙ sym (ap (λ p. names_if (is_dir (get w p)) olds) (same_path-true q path at)
      ∙ ap (λ b. names_if b olds) (file_no_dir (get w path) is_old)))
      (λ other. ap (λ o. names_if (is_dir o) news) (get_other w path node q other)
      ∙ ap (names_if (is_dir (get w q))) names)
      (cases_Bool (same_path q path))

  other_shown : (same : Bool) → same ≡ option_eq bytes_eq (text_of (get w path)) (text_of (Some node))
      → (read : Read) → rewrites path same read ≡ true → shown_by (insert w path node) read ≢ shown_by w read
  other_shown same is (KindOf q) does e = false≢true does
  other_shown same is (TextOf q) does e =
      let parts = and_parts (same_path q path) (not same) does in
      let apart : same ≡ false = turned same parts.1 in
      text_apart (text_of (get w path)) (text_of (Some node)) (sym is ∙ apart)
      (sym (ap (λ p. text_of (get w p)) (same_path-true q path parts.0)) ∙ sym (ap (λ (f : Found). f.text) e)
      ∙ ap text_of (get_same w path node q parts.0))
    where
      turned : (b : Bool) → not b ≡ true → b ≡ false
      turned true h = absurd (false≢true h)
      turned false h = refl
  other_shown same is (NamesOf q) does e = false≢true does

  pub Marks-written : (number : ℕ) (rows first : ChangeMap) (same : Bool)
      → same ≡ option_eq bytes_eq (text_of (get w path)) (text_of (Some node)) → SameRows rows first
      → IsSome (get first path) → Marks number w (insert w path node) rows (written first path same number)
  Marks-written number rows first same is kept there read =
      let last = last_change-written first path same number there read in
      let t = rewrites path same read in
      ⊎_elim
      (λ does. inr (other_shown same is read does, last ∙ cond-true t number (last_change first read) does))
      (λ doesnt. inl (
        same_shown same is read doesnt,
        last ∙ cond-false t number (last_change first read) doesnt
            ∙ last_change-same rows first kept read,
      ))
      (cases_Bool t)
