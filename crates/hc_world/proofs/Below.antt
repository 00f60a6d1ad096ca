-- What stands in which directory.
use Rattle.hc_world.proofs.Common.{◌≡◌, ◌≢◌, ℕ, zero, suc, ◌+◌, ◌<◌, ◌≤◌, Bool, true, false}
use Rattle.hc_world.proofs.Common.{cond, ◌||◌, List, [], ◌∷◌, ◌++◌, length, take, drop, slice_index}
use Rattle.hc_world.proofs.Common.{nat_eq, Some, None, IsSome, Contains, refl, sym, ap, ◌∙◌, subst, inl, inr}
use Rattle.hc_world.proofs.Common.{◌⊎◌, arith, rules, ⊎_elim, list_all, list_any, slice_split, starts_with, not}
use Rattle.hc_world.proofs.Common.{nat_lt, ◌&&◌, ◌-◌, tests, append_assoc, length-append, take_all, and_parts}
use Rattle.hc_world.proofs.Common.{or_left, or_right, eqb-true, ne_eqb, false≢true, false_from_ne_true, cases_Bool}
use Rattle.hc_world.proofs.Common.{drop_more, take-append-drop, length-take-le, bytes_decides, is_slash}
use Rattle.hc_world.proofs.Common.{ends_with_slash, root, is_component, is_path, parents, as_name, name_in, front_of}
use Rattle.hc_world.proofs.Common.{name_behind, IsNextSlash, HasNoSlash}
use Rattle.std.specs.Str.{bytes_eq}
use Rattle.std.proofs.lemmas.List.{get_or-drop, get_or-take, length-drop, take-take}
use Rattle.std.proofs.lemmas.List.Prefix.{front_rest}
use Rattle.std.proofs.lemmas.List.Elements.{Contains-append_right}
use Rattle.std.proofs.lemmas.List.Folds.{list_all-append}
use Rattle.hc_world.specs.Edits.{is_within}
use Rattle.hc_world.specs.Slashes.{IsBelow}
use Rattle.hc_world.proofs.Parents.{components, is_among-from_Contains, parent_is_path, parents-long, split_at_slash}
use Rattle.hc_world.proofs.Places.{any_slash, name_in-behind}
use Rattle.hc_world.proofs.Slashes.{fronts_from-some, take_slash}

-- ---- components

-- Components have bytes, and the first of these is no slash.
begun : (bs : List ℕ) → list_all is_component (slice_split is_slash bs) ≡ true → (0 < length bs)
    × (slice_index bs 0 ≢ 47)
begun [] h = absurd (false≢true h)
begun (b ∷ bs) h =
    (omega arith, λ e. false≢true (ap (λ x. list_all is_component (slice_split is_slash (x ∷ bs))) (sym e) ∙ h))

behind : (front rest : List ℕ) → list_all is_component (slice_split is_slash (front ++ 47 ∷ rest)) ≡ true
    → list_all is_component (slice_split is_slash rest) ≡ true
behind front rest h =
    (and_parts _ _ (sym (list_all-append is_component (slice_split is_slash front) (slice_split is_slash rest))
    ∙ ap (list_all is_component) (sym (split_at_slash front rest)) ∙ h)).1

at_slash : (bs : List ℕ) (k : ℕ) → k < length bs → slice_index bs k ≡ 47
    → bs ≡ take k bs ++ 47 ∷ drop (k + 1) bs
at_slash bs k l e =
    sym (take-append-drop k bs)
    ∙ ap (λ r. take k bs ++ r) (drop_more bs k 0 l ∙ ap (λ b. b ∷ drop (k + 1) bs) e)

-- Behind a slash of a path that is not the root a component begins.
begun_behind : (path : List ℕ) (k : ℕ) → is_path path ≡ true → 1 < length path → k < length path
    → slice_index path k ≡ 47 → (k + 1 < length path) × (slice_index path (k + 1) ≢ 47)
begun_behind [] k is long l e = absurd (omega arith)
begun_behind (x ∷ []) k is long l e = absurd (omega arith)
begun_behind (x ∷ y ∷ rest) zero is long l e =
    let b = begun (y ∷ rest) (components x y rest is).1 in
    (omega arith, b.1)
begun_behind (x ∷ y ∷ rest) (suc k) is long l e =
    let bs = y ∷ rest in
    let parts : list_all is_component (slice_split is_slash (take k bs ++ 47 ∷ drop (k + 1) bs)) ≡ true =
    subst (λ t. list_all is_component (slice_split is_slash t) ≡ true) (at_slash bs k (omega arith) e)
    (components x y rest is).1 in
    let b = begun (drop (k + 1) bs) (behind (take k bs) (drop (k + 1) bs) parts) in
    let place : suc (k + 1 + 0) ≡ suc k + 1 = omega arith in
    (within bs k b.0, λ s. b.1 (get_or-drop (k + 1) bs 0 0 ∙ ap (slice_index (x ∷ bs)) place ∙ s))
  where
    within : (bs : List ℕ) (k : ℕ) → 0 < length (drop (k + 1) bs) → suc k + 1 < suc (length bs)
    within bs k l = omega (arith, length-drop (k + 1) bs)

-- ---- a path that is read from component to component

ends_so : (q : List ℕ) → ends_with_slash q ≡ true → (front : List ℕ) × (q ≡ front ++ 47 ∷ [])
ends_so [] e = absurd (false≢true e)
ends_so (b ∷ []) e = ([], ap (λ x. x ∷ []) (eqb-true b 47 e))
ends_so (b ∷ c ∷ bs) e = let rest = ends_so (c ∷ bs) e in (b ∷ rest.0, ap (λ l. b ∷ l) rest.1)

no_end : (front : List ℕ) → is_path (front ++ 47 ∷ []) ≡ true → front ≡ []
no_end [] is = refl
no_end (x ∷ []) is = absurd ((begun (47 ∷ []) (components x 47 [] is).1).1 refl)
no_end (x ∷ y ∷ front) is =
    absurd (false≢true (behind (y ∷ front) [] (components x y (front ++ 47 ∷ []) is).1))

-- The root alone ends with a slash.
ends_apart : (q : List ℕ) → is_path q ≡ true → q ≢ root → ends_with_slash q ≡ false
ends_apart q is apart = false_from_ne_true _ (λ e.
    let last = ends_so q e in
    apart (last.1 ∙ ap (λ front. front ++ 47 ∷ []) (no_end last.0 (subst (λ t. is_path t ≡ true) last.1 is))))

pub IsBelow-first : (path : List ℕ) → is_path path ≡ true → path ≢ root → IsBelow root path 1
IsBelow-first [] is apart = absurd (false≢true is)
IsBelow-first (x ∷ []) is apart = absurd (apart (root_only x is))
  where
    root_only : (x : ℕ) → is_path (x ∷ []) ≡ true → x ∷ [] ≡ root
    root_only x is =
        ap (λ b. b ∷ []) (eqb-true x 47 (and_parts (nat_eq x 47) _ (and_parts (nat_eq x 47 && true) _ is).0).0)
IsBelow-first (x ∷ y ∷ rest) is apart =
    let parts = components x y rest is in
    let shape = parents-long (x ∷ y ∷ rest) (omega arith) in
    record {
      from_one = omega arith;
      front = ap (λ b. b ∷ []) (sym parts.0);
      inside = omega arith;
      begins = (begun (y ∷ rest) parts.1).1;
      above = subst (λ ps. Contains ps root) (sym shape) (0, omega arith, refl);
      later = λ q c. subst (λ ps. Contains ps q) (sym shape) (Contains-append_right (root ∷ []) _ q c);
    }

-- No component is empty.
further : (directory path : List ℕ) (from slash : ℕ) → IsBelow directory path from → IsNextSlash path from slash
    → from < slash
further directory path from slash below next =
    let apart : from ≢ slash = λ e. below.begins (ap (slice_index path) e ∙ next.is_slash) in
    let from_on = next.from_on in
    omega arith

pub IsBelow-next : (directory path : List ℕ) (from slash : ℕ) → is_path path ≡ true
    → IsBelow directory path from → IsNextSlash path from slash → IsBelow (take slash path) path (slash + 1)
IsBelow-next directory path from slash is below next =
    let front = take slash path in
    let more = further directory path from slash below next in
    let some = below.from_one in
    let room = next.within in
    let long : 1 < length path = omega arith in
    let inside : slash ≤ length path = omega arith in
    let size : length front ≡ slash = length-take-le slash path inside in
    let list = fronts_from-some path from slash next in
    let above : Contains (parents path) front =
    below.later front (subst (λ ps. Contains ps front) (sym list) (0, omega arith, refl)) in
    let formed : is_path front ≡ true =
    parent_is_path path front is (is_among-from_Contains (parents path) front above) in
    let apart : front ≢ root = λ e. let one : length front ≡ 1 = ap length e in omega arith in
    let next_begins = begun_behind path slash is long next.within next.is_slash in
    record {
      from_one = omega arith;
      front = ap (λ b. cond b front (front ++ 47 ∷ [])) (ends_apart front formed apart)
          ∙ take_slash path from slash next;
      inside = next_begins.0;
      begins = next_begins.1;
      above = above;
      later = λ q c. below.later q
          (subst (λ ps. Contains ps q) (sym list) (Contains-append_right (front ∷ []) _ q c));
    }

-- ---- names

take_front : (front name : List ℕ) → take (length front) (front ++ name) ≡ front
take_front [] name = refl
take_front (x ∷ xs) name = ap (λ l. x ∷ l) (take_front xs name)

pub begins_so : (front name : List ℕ) → starts_with nat_eq (front ++ name) front ≡ true
begins_so front name = (bytes_decides front (take (length front) (front ++ name))).1 (sym (take_front front name))

as_name-free : (name : List ℕ) → 0 < length name → list_any is_slash name ≡ false → as_name name ≡ Some name
as_name-free name some free =
    ap (λ b. cond (b && not (list_any is_slash name)) (Some name) None) (lt_true (length name) some)
    ∙ ap (λ b. cond (not b) (Some name) None) free
  where
    lt_true : (n : ℕ) → 0 < n → nat_lt 0 n ≡ true
    lt_true n l = search (tests, rules)

named : (directory front name : List ℕ) → front_of directory ≡ front → 0 < length name
    → list_any is_slash name ≡ false → IsSome (name_in directory (front ++ name))
named directory front name is some free =
    let behind : name_in directory (front ++ name) ≡ Some name =
    name_in-behind directory (front ++ name) ∙ ap (λ f. name_behind f (front ++ name)) is
    ∙ ap (λ b. cond b (as_name (drop (length front) (front ++ name))) None) (begins_so front name)
    ∙ ap as_name (front_rest (front ++ name) front name refl) ∙ as_name-free name some free in
    subst IsSome (sym behind) (search rules)

no_slash : (xs : List ℕ) → ((k : ℕ) → k < length xs → slice_index xs k ≢ 47)
    → list_any is_slash xs ≡ false
no_slash [] h = refl
no_slash (x ∷ xs) h = ap (λ b. b || list_any is_slash xs) (ne_eqb x 47 (h 0 (omega arith)))
    ∙ no_slash xs (λ k l. h (suc k) (omega arith))

named_to : (directory path : List ℕ) (from end : ℕ) → IsBelow directory path from → HasNoSlash path from end
    → from < end → end ≤ length path → IsSome (name_in directory (take end path))
named_to directory path from end below free more room =
    let name = drop from (take end path) in
    let size : length name ≡ end - from = length-drop from (take end path)
    ∙ ap (λ n. n - from) (length-take-le end path room) in
    let front : take from (take end path) ≡ take from path = take-take from end path (omega arith) in
    let whole : take from path ++ name ≡ take end path = ap (λ f. f ++ name) (sym front)
    ∙ take-append-drop from (take end path) in
    subst (λ p. IsSome (name_in directory p)) whole
    (named directory (take from path) name below.front (omega arith) (no_slash name (λ k l e.
    free (from + k) (omega arith) (omega arith) (sym (get_or-take end path (from + k) 0 (omega arith))
    ∙ sym (get_or-drop from (take end path) k 0) ∙ e))))

pub named_front : (directory path : List ℕ) (from slash : ℕ) → IsBelow directory path from
    → IsNextSlash path from slash → IsSome (name_in directory (take slash path))
named_front directory path from slash below next =
    let room = next.within in
    named_to directory path from slash below next.first (further directory path from slash below next) (omega arith)

pub named_path : (directory path : List ℕ) (from : ℕ) → IsBelow directory path from
    → HasNoSlash path from (length path) → IsSome (name_in directory path)
named_path directory path from below free =
    subst (λ p. IsSome (name_in directory p)) (take_all (length path) path (omega arith))
    (named_to directory path from (length path) below free below.inside (omega arith))

-- ---- the directory of a path is the only one

abbrev directory_from : List ℕ → List ℕ
directory_from [] = root
directory_from (b ∷ bs) = b ∷ bs

-- A path is cut at its last slash.
record IsIn (directory path : List ℕ) : Type 0 where
  front : List ℕ
  name : List ℕ
  whole : path ≡ front ++ 47 ∷ name
  free : list_any is_slash name ≡ false
  is : directory ≡ directory_from front

name_free : (a b : Bool) (name : List ℕ) → IsSome (cond (a && not b) (Some name) None) → b ≡ false
name_free true true name h = absurd (search (rules, h))
name_free true false name h = refl
name_free false b name h = absurd (search (rules, h))

behind_some : (front path : List ℕ) → IsSome (name_behind front path)
    → (path ≡ front ++ drop (length front) path) × (list_any is_slash (drop (length front) path) ≡ false)
behind_some front path h =
    let rest = drop (length front) path in
    elim (starts_with nat_eq path front) as (λ b. starts_with nat_eq path front ≡ b
    → IsSome (cond b (as_name rest) None) → (path ≡ front ++ rest) × (list_any is_slash rest ≡ false)) [
      | true ↦ λ e s. (
        sym (take-append-drop (length front) path)
            ∙ ap (λ f. f ++ rest) (sym ((bytes_decides front (take (length front) path)).0 e)),
        name_free (nat_lt 0 (length rest)) _ rest s,
      )
      | false ↦ λ _ s. absurd (search (rules, s))
    ] refl h

directory_from_path : (d : List ℕ) → is_path d ≡ true → d ≡ directory_from d
directory_from_path [] is = absurd (false≢true is)
directory_from_path (b ∷ bs) is = refl

is_in : (directory path : List ℕ) → is_path directory ≡ true → IsSome (name_in directory path)
    → IsIn directory path
is_in directory path is h =
    let cut = behind_some (front_of directory) path (subst IsSome (name_in-behind directory path) h) in
    let rest = drop (length (front_of directory)) path in
    ⊎_elim
    (λ ends.
    let last = ends_so directory ends in
    let none : last.0 ≡ [] = no_end last.0 (subst (λ t. is_path t ≡ true) last.1 is) in
    let at_root : directory ≡ root = last.1 ∙ ap (λ f. f ++ 47 ∷ []) none in
    record {
      front = [];
      name = rest;
      whole = cut.0 ∙ ap (λ f. f ++ rest) (ap front_of at_root);
      free = cut.1;
      is = at_root;
    })
    (λ apart.
    let so : front_of directory ≡ directory ++ 47 ∷ [] =
    ap (λ b. cond b directory (directory ++ 47 ∷ [])) apart in
    record {
      front = directory;
      name = rest;
      whole = cut.0 ∙ ap (λ f. f ++ rest) so
          ∙ append_assoc directory (47 ∷ []) rest;
      free = cut.1;
      is = directory_from_path directory is;
    })
    (cases_Bool (ends_with_slash directory))

-- The last slash stands where another one stands, or later.
last_slash : (a b rest name : List ℕ) → a ++ 47 ∷ rest ≡ b ++ 47 ∷ name → list_any is_slash name ≡ false
    → (b ≡ a) ⊎ ((more : List ℕ) × (b ≡ a ++ 47 ∷ more))
last_slash [] [] rest name e free = inl refl
last_slash [] (c ∷ b) rest name e free = let head : c ≡ 47 = cc in inr (b, ap (λ x. x ∷ b) head)
last_slash (c ∷ a) [] rest name e free =
    let tail : name ≡ a ++ 47 ∷ rest = cc in
    absurd (false≢true (sym free ∙ ap (list_any is_slash) tail ∙ any_slash a rest))
last_slash (c ∷ a) (d ∷ b) rest name e free =
    let head : d ≡ c = cc in
    let tail : a ++ 47 ∷ rest ≡ b ++ 47 ∷ name = cc in
    ⊎_elim
    (λ same. inl (ap (λ x. x ∷ b) head ∙ ap (λ l. c ∷ l) same))
    (λ m. inr (m.0, ap (λ x. x ∷ b) head ∙ ap (λ l. c ∷ l) m.1))
    (last_slash a b rest name tail free)

pub same_directory : (a b path : List ℕ) → is_path a ≡ true → is_path b ≡ true → IsSome (name_in a path)
    → IsSome (name_in b path) → a ≡ b
same_directory a b path is_a is_b in_a in_b =
    let i = is_in a path is_a in_a in
    let j = is_in b path is_b in_b in
    let fronts_same : i.front ≡ j.front =
    ⊎_elim
    (λ same. sym same)
    (λ m. ⊎_elim
    (λ same. same)
    (λ n. absurd (longer i.front j.front m.0 n.0 m.1 n.1))
    (last_slash j.front i.front j.name i.name (sym j.whole ∙ i.whole) i.free))
    (last_slash i.front j.front i.name j.name (sym i.whole ∙ j.whole) j.free) in
    i.is ∙ ap directory_from fronts_same ∙ sym j.is
  where
    longer : (a b m n : List ℕ) → b ≡ a ++ 47 ∷ m → a ≡ b ++ 47 ∷ n → ⊥
    longer a b m n e f =
        omega (arith, ap length e ∙ length-append a (47 ∷ m), ap length f ∙ length-append b (47 ∷ n))

-- Where a path below another one has a name, that directory is within.
pub within-from_name : (q path rest : List ℕ) → is_path q ≡ true → is_path path ≡ true
    → IsSome (name_in q (path ++ 47 ∷ rest)) → is_within path q ≡ true
within-from_name q path rest is formed h =
    let i = is_in q (path ++ 47 ∷ rest) is h in
    ⊎_elim
    (λ same.
    let e : q ≡ path = i.is ∙ ap directory_from same ∙ sym (directory_from_path path formed) in
    or_left (bytes_eq q path) _ ((bytes_decides q path).1 e))
    (λ m.
    let e : q ≡ (path ++ 47 ∷ []) ++ m.0 = i.is ∙ ap directory_from m.1 ∙ longer path m.0 formed
    ∙ sym (append_assoc path (47 ∷ []) m.0) in
    or_right (bytes_eq q path) _ (ap (λ t. starts_with nat_eq t (path ++ 47 ∷ [])) e
    ∙ begins_so (path ++ 47 ∷ []) m.0))
    (last_slash path i.front rest i.name i.whole i.free)
  where
    longer : (path more : List ℕ) → is_path path ≡ true → directory_from (path ++ 47 ∷ more)
        ≡ path ++ 47 ∷ more
    longer [] more is = absurd (false≢true is)
    longer (b ∷ bs) more is = refl
