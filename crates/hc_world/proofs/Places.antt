-- The names in a directory, found from place to place.
use Rattle.hc_world.proofs.Common.{◌≡◌, ℕ, ◌+◌, ◌<◌, ◌≤◌, Bool, true, false, not, ◌&&◌}
use Rattle.hc_world.proofs.Common.{◌||◌, cond, List, [], ◌∷◌, ◌++◌, length, take, drop, map, nat_eq}
use Rattle.hc_world.proofs.Common.{nat_lt, Option, Some, None, Vec, refl, sym, ap, ◌∙◌, subst, inl, inr}
use Rattle.hc_world.proofs.Common.{◌⊎◌, append_assoc, append-nil, arith, rules, ⊎_elim, Global, Less, keys}
use Rattle.hc_world.proofs.Common.{AllByRecursion, cons_option, filter, filter_map, list_any, starts_with, keys_of}
use Rattle.hc_world.proofs.Common.{is_lt, nat_cmp, slice_cmp, bytes_decides, false≢true, cases_Bool}
use Rattle.hc_world.proofs.Common.{false_from_ne_true, drop-append-le, drop_more, length-take-le, take-append-drop}
use Rattle.hc_world.proofs.Common.{ends_with_slash, is_slash, World, as_name, name_behind_slash, name_in, Entry}
use Rattle.hc_world.proofs.Common.{entry_of, world_of, GoesOn, IsFirstFrom, front_of, is_before, is_up_to, keys_behind}
use Rattle.hc_world.proofs.Common.{keys_from, name_behind, IsNextSlash}
use Rattle.std.specs.declared.ops.Bound.TheVariants.{Included, Unbounded}
use Rattle.std.proofs.Math.Bool.{or-true}
use Rattle.std.specs.BTreeMap.Range.{entries_between}
use Rattle.std.specs.List.Sorted.{IsStrictlySortedBy}
use Rattle.hc_world.proofs.Ascending.{Ascend, Entries, keys-world_of}
use Rattle.hc_world.proofs.Order.{before-from_not_up_to, before_all_below, before_if_up_to, before_longer}
use Rattle.hc_world.proofs.Order.{before_then_up_to, below_child, none_between, not_before_front, not_before_itself}
use Rattle.hc_world.proofs.Order.{starts_so, up_to-from_before}

-- ---- a name in a directory is one behind its front

slash_either_way : (b : ℕ) (name : Option (List ℕ)) → cond (is_slash b) name None
    ≡ cond (nat_eq 47 b && true) name None
slash_either_way b name = grind arith

behind_slash : (directory path : List ℕ)
    → cond (starts_with nat_eq path directory) (name_behind_slash (drop (length directory) path)) None
    ≡ name_behind (directory ++ 47 ∷ []) path
behind_slash [] [] = refl
behind_slash [] (b ∷ bs) = slash_either_way b (as_name bs)
behind_slash (x ∷ xs) [] = refl
behind_slash (x ∷ xs) (y ∷ ys) =
    elim (nat_eq x y) as (λ b.
    cond (b && starts_with nat_eq ys xs) (name_behind_slash (drop (length xs) ys)) None
    ≡ cond (b && starts_with nat_eq ys (xs ++ 47 ∷ [])) (as_name (drop (length (xs ++ 47 ∷ [])) ys)) None) [
      | true ↦ behind_slash xs ys
      | false ↦ refl
    ]

pub name_in-behind : (directory path : List ℕ) → name_in directory path ≡ name_behind (front_of directory) path
name_in-behind directory path =
    let rest = drop (length directory) path in
    elim (ends_with_slash directory) as (λ b.
    cond (starts_with nat_eq path directory) (cond b (as_name rest) (name_behind_slash rest)) None
    ≡ name_behind (cond b directory (directory ++ 47 ∷ [])) path) [
      | true ↦ refl
      | false ↦ behind_slash directory path
    ]

-- ---- where the search goes on

-- To have no name it is enough to have none where the path begins so.
unless_begun : (front key : List ℕ) → ((rest : List ℕ) → key ≡ front ++ rest → as_name rest ≡ None)
    → name_behind front key ≡ None
unless_begun front key h =
    let rest = drop (length front) key in
    elim (starts_with nat_eq key front) as (λ b.
    starts_with nat_eq key front ≡ b → cond b (as_name rest) None ≡ None) [
      | true ↦ λ e.
          let same = (bytes_decides front (take (length front) key)).0 e in
          h rest (sym (take-append-drop (length front) key) ∙ ap (λ s. s ++ rest) (sym same))
      | false ↦ λ _. refl
    ] refl

pub GoesOn-front : (front path : List ℕ) → is_before path front ≡ true → GoesOn front path (Some front)
GoesOn-front front path h = (
  h,
  λ key _ k. unless_begun front key (λ rest e.
      absurd (false≢true (sym (not_before_front front rest) ∙ ap (λ s. is_before s front) (sym e) ∙ k))),
)

pub GoesOn-end : (front path : List ℕ) → is_before path front ≡ false → starts_with nat_eq path front ≡ false
    → GoesOn front path None
GoesOn-end front path h apart =
    λ key k. unless_begun front key (λ rest e.
    absurd (false≢true (sym apart ∙ starts_so front path rest h (ap (is_before path) (sym e) ∙ k))))

pub GoesOn-behind : (front path place : List ℕ) → place ≡ path ++ 0 ∷ [] → GoesOn front path (Some place)
GoesOn-behind front path place is =
    subst (λ p. GoesOn front path (Some p)) (sym is)
    (before_longer path 0, λ key h k. absurd (none_between path key h k))

pub any_slash : (front rest : List ℕ) → list_any is_slash (front ++ 47 ∷ rest) ≡ true
any_slash [] rest = refl
any_slash (x ∷ xs) rest = ap (λ b. is_slash x || b) (any_slash xs rest) ∙ or-true (is_slash x)

no_name : (front rest : List ℕ) → as_name (front ++ 47 ∷ rest) ≡ None
no_name front rest =
    ap (λ b. cond (nat_lt 0 (length (front ++ 47 ∷ rest)) && not b) (Some (front ++ 47 ∷ rest)) None)
    (any_slash front rest)
    ∙ and_false (nat_lt 0 (length (front ++ 47 ∷ rest)))
  where
    and_false : (b : Bool) → cond (b && false) (Some (front ++ 47 ∷ rest)) None ≡ None
    and_false true = refl
    and_false false = refl

none_below : (front child rest : List ℕ) → length front ≤ length child
    → name_behind front (child ++ 47 ∷ rest) ≡ None
none_below front child rest l =
    elim (starts_with nat_eq (child ++ 47 ∷ rest) front) as (λ b.
    cond b (as_name (drop (length front) (child ++ 47 ∷ rest))) None ≡ None) [
      | true ↦ ap as_name (drop-append-le (length front) child (47 ∷ rest) l)
          ∙ no_name (drop (length front) child) rest
      | false ↦ refl
    ]

skips_child : (front child more : List ℕ) → length front ≤ length child
    → GoesOn front (child ++ 47 ∷ more) (Some (child ++ 48 ∷ []))
skips_child front child more l = (
  before_all_below child more,
  λ key h k.
      let below = below_child child more key h k in
      ap (name_behind front) below.1 ∙ none_below front child below.0 l,
)

pub GoesOn-child : (front path place : List ℕ) (slash : ℕ) → IsNextSlash path (length front) slash
    → place ≡ take slash path ++ 48 ∷ [] → GoesOn front path (Some place)
GoesOn-child front path place slash next is =
    let child = take slash path in
    let size : length child ≡ slash = length-take-le slash path (le next.within) in
    let from : length front ≤ slash = next.from_on in
    let long : length front ≤ length child = omega arith in
    let whole : child ++ 47 ∷ drop (slash + 1) path ≡ path =
    ap (λ s. child ++ s)
    (sym (drop_more path slash 0 next.within ∙ ap (λ b. b ∷ drop (slash + 1) path) next.is_slash))
    ∙ take-append-drop slash path in
    subst (λ p. GoesOn front path (Some p)) (sym is)
    (subst (λ p. GoesOn front p (Some (child ++ 48 ∷ []))) whole
    (skips_child front child (drop (slash + 1) path) long))
  where
    le : {a b : ℕ} → a < b → a ≤ b
    le l = omega arith

-- ---- names among keys

-- Tests that differ only where there is no name leave the same names.
same_names : (f : List ℕ → Option (List ℕ)) (p q : List ℕ → Bool)
    → ((key : List ℕ) → (p key ≡ q key) ⊎ (f key ≡ None)) → (ks : List (List ℕ))
    → filter_map f (filter p ks) ≡ filter_map f (filter q ks)
same_names f p q h [] = refl
same_names f p q h (k ∷ ks) =
    ⊎_elim
    (λ e. ap (λ b. filter_map f (cond b (k ∷ filter p ks) (filter p ks))) e ∙ more (q k) (same_names f p q h ks))
    (λ n. nothing (p k) (filter p ks) n ∙ same_names f p q h ks ∙ sym (nothing (q k) (filter q ks) n))
    (h k)
  where
    more : (b : Bool) → filter_map f (filter p ks) ≡ filter_map f (filter q ks)
        → filter_map f (cond b (k ∷ filter p ks) (filter p ks))
        ≡ filter_map f (cond b (k ∷ filter q ks) (filter q ks))
    more true e = ap (cons_option (f k)) e
    more false e = e

    nothing : (b : Bool) (xs : List (List ℕ)) → f k ≡ None → filter_map f (cond b (k ∷ xs) xs)
        ≡ filter_map f xs
    nothing true xs n = ap (λ o. cons_option o (filter_map f xs)) n
    nothing false xs n = refl

fewer : (p q : List ℕ → Bool) → ((key : List ℕ) → q key ≡ true → p key ≡ true)
    → (ks : List (List ℕ))
    → length (filter q ks) ≤ length (filter p ks)
fewer p q h [] = omega arith
fewer p q h (k ∷ ks) =
    let rest = fewer p q h ks in
    elim (q k) as (λ b. q k ≡ b → length (cond b (k ∷ filter q ks) (filter q ks))
    ≤ length (filter p (k ∷ ks))) [
      | true ↦ λ e.
          let kept : length (filter p (k ∷ ks)) ≡ length (k ∷ filter p ks) =
          ap (λ b. length (cond b (k ∷ filter p ks) (filter p ks))) (h k e) in
          omega arith
      | false ↦ λ _. elim (p k) as (λ b. length (filter q ks)
          ≤ length (cond b (k ∷ filter p ks) (filter p ks))) [
            | true ↦ omega arith
            | false ↦ rest
          ]
    ] refl

filter_all : (p : List ℕ → Bool) → ((key : List ℕ) → p key ≡ true) → (ks : List (List ℕ))
    → filter p ks ≡ ks
filter_all p h [] = refl
filter_all p h (k ∷ ks) = ap (λ b. cond b (k ∷ filter p ks) (filter p ks)) (h k)
    ∙ ap (λ xs. k ∷ xs) (filter_all p h ks)

filter_none : (ks : List (List ℕ)) → filter (λ _. false) ks ≡ []
filter_none [] = refl
filter_none (k ∷ ks) = filter_none ks

up_to_from_nil : (key : List ℕ) → is_up_to [] key ≡ true
up_to_from_nil [] = refl
up_to_from_nil (b ∷ bs) = refl

-- All keys stand at the empty path or behind it.
pub keys_from-nil : (world : World) → keys_from [] world ≡ keys world
keys_from-nil world = filter_all (is_up_to []) up_to_from_nil (keys world)

filter_map-cons : (f : List ℕ → Option (List ℕ)) (path : List ℕ) (ks : List (List ℕ))
    → filter_map f (path ∷ ks) ≡ filter_map f (path ∷ []) ++ filter_map f ks
filter_map-cons f path ks = by (f path)
  where
    by : (o : Option (List ℕ)) → cons_option o (filter_map f ks) ≡ cons_option o [] ++ filter_map f ks
    by None = refl
    by (Some name) = refl

-- Where the names so far and those from a place on are the whole, so are they with the name of the
-- first path, and those from the next place on.
pub names_go_on : (front place path next : List ℕ) (names whole : List (List ℕ)) (world : World)
    → names ++ filter_map (name_behind front) (keys_from place world) ≡ whole
    → IsFirstFrom place path world → GoesOn front path (Some next)
    → (names ++ filter_map (name_behind front) (path ∷ [])) ++ filter_map (name_behind front) (keys_from next world)
    ≡ whole
names_go_on front place path next names whole world so_far first on =
    append_assoc names (filter_map f (path ∷ [])) (filter_map f (keys_from next world))
    ∙ ap (λ more. names ++ more) (ap (λ more. filter_map f (path ∷ []) ++ more)
    (sym (same_names f (is_before path) (is_up_to next) same (keys world)))
    ∙ sym (filter_map-cons f path (keys_behind path world)) ∙ ap (filter_map f) (sym first))
    ∙ so_far
  where
    f : List ℕ → Option (List ℕ)
    f = name_behind front

    same : (key : List ℕ) → (is_before path key ≡ is_up_to next key) ⊎ (name_behind front key ≡ None)
    same key = ⊎_elim
        (λ u. inl (before_then_up_to path next key on.0 u ∙ sym u))
        (λ u. ⊎_elim
        (λ b. inr (on.1 key b (before-from_not_up_to key next u)))
        (λ b. inl (b ∙ sym u))
        (cases_Bool (is_before path key)))
        (cases_Bool (is_up_to next key))

pub names_end : (front place path : List ℕ) (names whole : List (List ℕ)) (world : World)
    → names ++ filter_map (name_behind front) (keys_from place world) ≡ whole
    → IsFirstFrom place path world → GoesOn front path None
    → names ++ filter_map (name_behind front) (path ∷ []) ≡ whole
names_end front place path names whole world so_far first on =
    ap (λ more. names ++ more) (sym (append-nil (filter_map f (path ∷ [])))
    ∙ ap (λ more. filter_map f (path ∷ []) ++ more)
    (sym (same_names f (is_before path) (λ _. false) none (keys world)
    ∙ ap (filter_map f) (filter_none (keys world))))
    ∙ sym (filter_map-cons f path (keys_behind path world)) ∙ ap (filter_map f) (sym first))
    ∙ so_far
  where
    f : List ℕ → Option (List ℕ)
    f = name_behind front

    none : (key : List ℕ) → (is_before path key ≡ false) ⊎ (name_behind front key ≡ None)
    none key = ⊎_elim (λ b. inr (on key b)) (λ b. inl b) (cases_Bool (is_before path key))

pub names-behind : (directory front : List ℕ) (ks : List (List ℕ)) → front ≡ front_of directory
    → filter_map (name_behind front) ks ≡ filter_map (name_in directory) ks
names-behind directory front ks is =
    ap (λ s. filter_map (name_behind s) ks) is
    ∙ (λ i. filter_map (λ path. sym (name_in-behind directory path) i) ks)

pub fewer_left : (front place path next : List ℕ) (world : World)
    → IsFirstFrom place path world → GoesOn front path (Some next)
    → length (keys_from next world) < length (keys_from place world)
fewer_left front place path next world first on =
    let size : length (keys_from place world) ≡ length (path ∷ keys_behind path world) = ap length first in
    let less : length (keys_from next world) ≤ length (keys_behind path world) =
    fewer (is_before path) (is_up_to next) (λ key u. before_then_up_to path next key on.0 u) (keys world) in
    omega arith

-- ---- the first entry of a range

abbrev paths : Entries → List (List ℕ)
paths entries = map (λ e. e.0) (map entry_of entries)

-- The entries from a key on, as `range` has them.
abbrev entries_from : Vec ℕ Global → Entries → Entries
entries_from place =
    entries_between (λ a b. slice_cmp nat_cmp a.items b.items) (Included place) Unbounded

paths-entries_from : (place : Vec ℕ Global) (entries : Entries)
    → filter (is_up_to place.items) (paths entries) ≡ paths (entries_from place entries)
paths-entries_from place [] = refl
paths-entries_from place (e ∷ es) =
    let from = filter (is_up_to place.items) (paths es) in
    elim (is_up_to place.items e.0.items) as (λ b.
    cond b (e.0.items ∷ from) from
    ≡ paths (cond (b && true) (e ∷ entries_from place es) (entries_from place es))) [
      | true ↦ ap (λ ps. e.0.items ∷ ps) (paths-entries_from place es)
      | false ↦ paths-entries_from place es
    ]

all_behind : (place key : List ℕ) (entries : Entries) → is_up_to place key ≡ true
    → AllByRecursion (λ y. slice_cmp nat_cmp key y.items ≡ Less) (keys_of entries)
    → filter (is_up_to place) (paths entries) ≡ filter (is_before key) (paths entries)
all_behind place key [] h all = refl
all_behind place key (e ∷ es) h all =
    let behind : is_before key e.0.items ≡ true = ap is_lt all.0 in
    let from : is_up_to place e.0.items ≡ true =
    up_to-from_before place e.0.items (before_if_up_to place key e.0.items h behind) in
    let rest = all_behind place key es h all.1 in
    ap (λ b. cond b (e.0.items ∷ filter (is_up_to place) (paths es)) (filter (is_up_to place) (paths es))) from
    ∙ ap (λ ps. e.0.items ∷ ps) rest
    ∙ sym (ap (λ b. cond b (e.0.items ∷ filter (is_before key) (paths es)) (filter (is_before key) (paths es)))
    behind)

-- The paths behind the first.
abbrev IsFirstAmong : List ℕ → Entries → List ℕ → Type 0
IsFirstAmong place entries path =
    (is_up_to place path ≡ true)
    × (filter (is_up_to place) (paths entries) ≡ path ∷ filter (is_before path) (paths entries))

skip : (b : Bool) (key : List ℕ) (ks : List (List ℕ)) → b ≡ false → cond b (key ∷ ks) ks ≡ ks
skip b key ks h = ap (λ c. cond c (key ∷ ks) ks) h

first_from : (place path : List ℕ) (rest : List (List ℕ)) (entries : Entries) → Ascend entries
    → filter (is_up_to place) (paths entries) ≡ path ∷ rest → IsFirstAmong place entries path
unfolding IsStrictlySortedBy
first_from place path rest [] s h = absurd (search rules)
first_from place path rest (e ∷ es) s h =
    let key = e.0.items in
    let from = filter (is_up_to place) (paths es) in
    elim (is_up_to place key) as (λ b.
    is_up_to place key ≡ b → cond b (key ∷ from) from ≡ path ∷ rest
    → (is_up_to place path ≡ true)
    × (cond b (key ∷ from) from ≡ path ∷ filter (is_before path) (key ∷ paths es))) [
      | true ↦ λ u k.
          let same : key ≡ path = cc in
          subst (λ p. (is_up_to place p ≡ true) × (key ∷ from ≡ p ∷ filter (is_before p) (key ∷ paths es)))
          same (
            u,
            ap (λ ps. key ∷ ps) (all_behind place key es u s.0
                ∙ sym (skip (is_before key key) key (filter (is_before key) (paths es)) (not_before_itself key))),
          )
      | false ↦ λ u k.
          let later = first_from place path rest es s.1 k in
          let earlier : is_before path key ≡ false =
          false_from_ne_true _ (λ b.
          false≢true (sym u ∙ up_to-from_before place key (before_if_up_to place path key later.0 b))) in (
            later.0,
            later.1
                ∙ ap (λ ps. path ∷ ps)
                (sym (skip (is_before path key) key (filter (is_before path) (paths es)) earlier)),
          )
    ] refl h

pub first_in_world : (place : Vec ℕ Global) (entries rest : Entries) (e : Vec ℕ Global × Entry) → Ascend entries
    → entries_from place entries ≡ e ∷ rest
    → keys_from place.items (world_of entries) ≡ e.0.items ∷ keys_behind e.0.items (world_of entries)
first_in_world place entries rest e s is =
    let keys-is = keys-world_of entries s in
    ap (filter (is_up_to place.items)) keys-is
    ∙ (first_from place.items e.0.items (paths rest) entries s (paths-entries_from place entries ∙ ap paths is)).1
    ∙ ap (λ ks. e.0.items ∷ filter (is_before e.0.items) ks) (sym keys-is)

pub none_in_world : (place : Vec ℕ Global) (entries : Entries) → Ascend entries
    → entries_from place entries ≡ [] → keys_from place.items (world_of entries) ≡ []
none_in_world place entries s is =
    ap (filter (is_up_to place.items)) (keys-world_of entries s) ∙ paths-entries_from place entries ∙ ap paths is
