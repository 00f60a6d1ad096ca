-- The map's entries, seen as what is kept.
use Rattle.std.proofs.Common.{◌≡◌, ◌<◌, ◌≤◌, ◌+◌, ◌-◌, ◌++◌, ℕ, zero, suc, List, []}
use Rattle.std.proofs.Common.{◌∷◌, length, map, take, drop, insert, remove, swap_remove, slice_get, slice_set}
use Rattle.std.proofs.Common.{slice_index_or, position, Bool, true, false, not, cond, nat_lt, if◌then◌else◌}
use Rattle.std.proofs.Common.{Option, Some, None, IfSome, option_and_then, refl, ap, sym, subst, ◌∙◌, arith}
use Rattle.std.specs.Cmp.{IsEquivalence}
use Rattle.std.specs.List.{IsDistinct, position_or_len}
use Rattle.std.specs.Option.{option_or, option_map_or}
use Rattle.std.specs.Map.{keys_of, lookup, remove_entry}
use Rattle.std.proofs.lemmas.List.{append-nil, append_assoc, map-append, length-append, length-drop, length-set}
use Rattle.std.proofs.lemmas.List.{take-append-drop, take_all, length-take-le, drop-drop, drop-append-le}
use Rattle.std.proofs.lemmas.List.{set-append_left, set_split}
use Rattle.std.proofs.lemmas.List.Elements.{filter-append}
use Rattle.std.proofs.lemmas.Bool.Decides.{nat_tests}
use Rattle.std.proofs.lemmas.Map.{lookup-none}
use Rattle.std.proofs.lemmas.Map.Entries.{none_past_head}
use Rattle.std.proofs.lemmas.Map.Keys.{IsDistinct-tail}
use Rattle.std.proofs.Math.Seq.{drop-append-add, take-append-add, take-append_seam, get_or-append_seam}
use Rattle.std.proofs.Math.ListN.{drop_of_length-le}
use Rattle.hc_cache.specs.Entries.{value_of, without}
use Rattle.hc_cache.specs.Views.{entry_of, in_order, value_kept}
use Rattle.hc_cache.specs.declared.cache.Kept.{Kept}
use Rattle.hc_world.specs.Edits.{Edited}
use Rattle.indexmap.specs.IndexMap.{IndexMap, get, insert_entry, move_index}
use Rattle.indexmap.proofs.CallerLemmas.{insert_entry-new}

module _ {K X : Type 0} (test : K → Bool) where
  -- What is found in front is found; else what is found behind.
  lookup_both : (xs ys : List (K × X)) → lookup test (xs ++ ys) ≡ option_or (lookup test xs) (lookup test ys)
  lookup_both [] ys = refl
  lookup_both (x ∷ xs) ys = first (test x.0) refl (lookup_both xs ys)
    where
      first : (is : Bool) → test x.0 ≡ is → lookup test (xs ++ ys) ≡ option_or (lookup test xs) (lookup test ys)
          → lookup test (x ∷ (xs ++ ys)) ≡ option_or (lookup test (x ∷ xs)) (lookup test ys)
      first true is rest = rw is refl
      first false is rest = rw is rest

none_behind : {X : Type 0} (front behind : Option X) → option_or front behind ≡ None → behind ≡ None
none_behind None behind none = none
none_behind (Some x) behind none = cc

front_none : {X : Type 0} (front behind : Option X) → option_or front behind ≡ None → front ≡ None
front_none None behind none = refl
front_none (Some x) behind none = cc

module _ {K X : Type 0} (eq : K → K → Bool) (key : K) where
  -- Where no two keys are equal, a front may stand behind the rest.
  lookup_turned : IsEquivalence eq → (xs ys : List (K × X)) → IsDistinct eq (keys_of (xs ++ ys))
      → lookup (eq key) (ys ++ xs) ≡ lookup (eq key) (xs ++ ys)
  lookup_turned o [] ys distinct = ap (lookup (eq key)) (append-nil ys)
  lookup_turned o (x ∷ xs) ys distinct =
      first (eq key x.0) refl (lookup_turned o xs ys (IsDistinct-tail eq x.0 (keys_of (xs ++ ys)) distinct))
    where
      first : (is : Bool) → eq key x.0 ≡ is → lookup (eq key) (ys ++ xs) ≡ lookup (eq key) (xs ++ ys)
          → lookup (eq key) (ys ++ x ∷ xs) ≡ lookup (eq key) (x ∷ (xs ++ ys))
      first true is rest =
          let none = lookup-none (eq key) (xs ++ ys) (none_past_head o key x (xs ++ ys) distinct is) in
          let behind =
          none_behind (lookup (eq key) xs) (lookup (eq key) ys) (sym (lookup_both (eq key) xs ys) ∙ none) in
          lookup_both (eq key) ys (x ∷ xs) ∙ rw (is, behind) refl
      first false is rest =
          lookup_both (eq key) ys (x ∷ xs) ∙ rw is (sym (lookup_both (eq key) ys xs) ∙ rest)

  -- Whatever the place that the order begins at.
  lookup_in_ring : IsEquivalence eq → (oldest : ℕ) (ring : List (K × X)) → IsDistinct eq (keys_of ring)
      → lookup (eq key) (drop oldest ring ++ take oldest ring) ≡ lookup (eq key) ring
  lookup_in_ring o oldest ring distinct =
      let whole = take-append-drop oldest ring in
      lookup_turned o (take oldest ring) (drop oldest ring)
      (subst (λ es. IsDistinct eq (keys_of es)) (sym whole) distinct)
      ∙ ap (lookup (eq key)) whole

-- Where the order begins once the entry at this place has left.
abbrev before : ℕ → ℕ → ℕ
before place oldest = if nat_lt place oldest then oldest - 1 else oldest

lt_next : (place oldest : ℕ) → nat_lt (suc place) (suc oldest) ≡ nat_lt place oldest
lt_next place oldest = among (nat_lt place oldest) refl
  where
    among : (is : Bool) → nat_lt place oldest ≡ is → nat_lt (suc place) (suc oldest) ≡ nat_lt place oldest
    among true is = grind (arith, nat_tests)
    among false is = grind (arith, nat_tests)

before_first : (oldest : ℕ) → before 0 (suc oldest) ≡ oldest
before_first oldest =
    let first : nat_lt 0 (suc oldest) ≡ true = grind (arith, nat_tests) in
    rw first (omega arith)

before_next : (place oldest : ℕ) → before (suc place) (suc oldest)
    ≡ (if nat_lt place oldest then oldest else suc oldest)
before_next place oldest =
    let less : suc oldest - 1 ≡ oldest = omega arith in
    ap (λ (is : Bool). if is then suc oldest - 1 else suc oldest) (lt_next place oldest)
    ∙ ap (λ n. if nat_lt place oldest then n else suc oldest) less

module _ {K V : Type 0} (eq : K → K → Bool) (key : K) where
  abbrev values : Edited → List (K × Kept V) → Option V
  values world es = option_and_then (value_kept world) (lookup (eq key) es)

  value_found : (world : Edited) (es : List (K × Kept V)) → value_of eq world key (map entry_of es)
      ≡ values world es
  value_found world [] = refl
  value_found world (e ∷ es) = first (eq key e.0) refl (value_found world es)
    where
      first : (is : Bool) → eq key e.0 ≡ is → value_of eq world key (map entry_of es) ≡ values world es
          → value_of eq world key (map entry_of (e ∷ es)) ≡ values world (e ∷ es)
      first true is rest = rw is refl
      first false is rest = rw is rest

  pub value_in_order : IsEquivalence eq → (world : Edited) (oldest : ℕ) (ring : List (K × Kept V))
      → IsDistinct eq (keys_of ring)
      → value_of eq world key (in_order oldest ring) ≡ option_and_then (value_kept world) (lookup (eq key) ring)
  value_in_order o world oldest ring distinct =
      value_found world (drop oldest ring ++ take oldest ring)
      ∙ ap (option_and_then (value_kept world)) (lookup_in_ring eq key o oldest ring distinct)

  -- Where a key is not, nothing leaves.
  absent_stays : (es : List (K × Kept V)) → lookup (eq key) es ≡ None
      → map entry_of es ≡ without eq key (map entry_of es)
  absent_stays [] none = refl
  absent_stays (e ∷ es) none = first (eq key e.0) refl none (absent_stays es)
    where
      first : (is : Bool) → eq key e.0 ≡ is → lookup (eq key) (e ∷ es) ≡ None
          → (lookup (eq key) es ≡ None → map entry_of es ≡ without eq key (map entry_of es))
          → map entry_of (e ∷ es) ≡ without eq key (map entry_of (e ∷ es))
      first true is none rest = let some = rw is at none in cc
      first false is none rest = let behind = rw is at none in rw is (ap (λ es. entry_of e ∷ es) (rest behind))

  pub absent_in_order : IsEquivalence eq → (oldest : ℕ) (ring : List (K × Kept V)) → IsDistinct eq (keys_of ring)
      → lookup (eq key) ring ≡ None
      → in_order oldest ring ≡ without eq key (in_order oldest ring)
  absent_in_order o oldest ring distinct none =
      absent_stays (drop oldest ring ++ take oldest ring) (lookup_in_ring eq key o oldest ring distinct ∙ none)

  -- The entry leaves the part that it stands in.
  abbrev Leaves : ℕ → ℕ → List (K × Kept V) → List (K × Kept V) → Type 0
  Leaves oldest begun es left =
      (map entry_of (take begun left) ≡ without eq key (map entry_of (take oldest es)))
      × (map entry_of (drop begun left) ≡ without eq key (map entry_of (drop oldest es)))

  none_in_front : (front behind : List (K × Kept V)) → lookup (eq key) (front ++ behind) ≡ None
      → (lookup (eq key) front ≡ None) × (lookup (eq key) behind ≡ None)
  none_in_front front behind none =
      let both = sym (lookup_both (eq key) front behind) ∙ none in (
        front_none (lookup (eq key) front) (lookup (eq key) behind) both,
        none_behind (lookup (eq key) front) (lookup (eq key) behind) both,
      )

  -- The entry of a key leaves a list whose keys differ.
  removed : IsEquivalence eq → (es : List (K × Kept V)) → IsDistinct eq (keys_of es)
      → map entry_of (remove_entry (eq key) es) ≡ without eq key (map entry_of es)
  removed o [] distinct = refl
  removed o (e ∷ es) distinct = first (eq key e.0) refl (removed o es (IsDistinct-tail eq e.0 (keys_of es) distinct))
    where
      first : (is : Bool) → eq key e.0 ≡ is → map entry_of (remove_entry (eq key) es)
          ≡ without eq key (map entry_of es)
          → map entry_of (remove_entry (eq key) (e ∷ es)) ≡ without eq key (map entry_of (e ∷ es))
      first true is rest = rw is (absent_stays es (lookup-none (eq key) es (none_past_head o key e es distinct is)))
      first false is rest = rw is (ap (λ es. entry_of e ∷ es) rest)

  abbrev place_in : List (K × Kept V) → ℕ
  place_in es = position_or_len (eq key) (keys_of es)

  place_first : (e : K × Kept V) (es : List (K × Kept V)) → eq key e.0 ≡ true → place_in (e ∷ es) ≡ 0
  place_first e es is = rw is refl

  place_next : (e : K × Kept V) (es : List (K × Kept V)) → eq key e.0 ≡ false
      → place_in (e ∷ es) ≡ suc (place_in es)
  place_next e es differs = rw differs (omega arith)

  leaves : IsEquivalence eq → (es : List (K × Kept V)) → IsDistinct eq (keys_of es) → (oldest : ℕ)
      → nat_lt (place_in es) (length (keys_of es)) ≡ true
      → Leaves oldest (before (place_in es) oldest) es (remove_entry (eq key) es)
  leaves o [] distinct oldest there = cc
  leaves o (e ∷ es) distinct zero there = at_start (nat_lt (place_in (e ∷ es)) zero) refl
    where
      at_start : (is : Bool) → nat_lt (place_in (e ∷ es)) zero ≡ is
          → Leaves zero (before (place_in (e ∷ es)) zero) (e ∷ es) (remove_entry (eq key) (e ∷ es))
      at_start true is = rw is (refl, removed o (e ∷ es) distinct)
      at_start false is = rw is (refl, removed o (e ∷ es) distinct)
  leaves o (e ∷ es) distinct (suc oldest) there =
      first (eq key e.0) refl there (leaves o es (IsDistinct-tail eq e.0 (keys_of es) distinct) oldest)
    where
      second : (n : ℕ) (is : Bool) → nat_lt (place_in es) n ≡ is
          → Leaves n (before (place_in es) n) es (remove_entry (eq key) es) → eq key e.0 ≡ false
          → Leaves (suc n) (if is then n else suc n) (e ∷ es) (remove_entry (eq key) (e ∷ es))
      second zero true is rest differs = let no : ⊥ = grind (arith, nat_tests) in absurd no
      second (suc n) true is rest differs =
          let less : suc n - 1 ≡ n = omega arith in
          let parts = rw (is, less) at rest in rw differs (ap (λ es. entry_of e ∷ es) parts.0, parts.1)
      second n false is rest differs =
          let parts = rw is at rest in rw differs (ap (λ es. entry_of e ∷ es) parts.0, parts.1)

      first : (is : Bool) → eq key e.0 ≡ is → nat_lt (place_in (e ∷ es)) (length (keys_of (e ∷ es))) ≡ true
          → (nat_lt (place_in es) (length (keys_of es)) ≡ true
          → Leaves oldest (before (place_in es) oldest) es (remove_entry (eq key) es))
          → Leaves (suc oldest) (before (place_in (e ∷ es)) (suc oldest)) (e ∷ es)
          (remove_entry (eq key) (e ∷ es))
      first true is there rest =
          let none = lookup-none (eq key) es (none_past_head o key e es distinct is) in
          let parts =
          none_in_front (take oldest es) (drop oldest es) (ap (lookup (eq key)) (take-append-drop oldest es)
          ∙ none) in
          subst (λ begun. Leaves (suc oldest) begun (e ∷ es) (remove_entry (eq key) (e ∷ es)))
          (sym (ap (λ place. before place (suc oldest)) (place_first e es is) ∙ before_first oldest))
          (rw is (absent_stays (take oldest es) parts.0, absent_stays (drop oldest es) parts.1))
      first false is there rest =
          let next = place_next e es is in
          let inside = rw (next, lt_next (place_in es) (length (keys_of es))) at there in
          subst (λ begun. Leaves (suc oldest) begun (e ∷ es) (remove_entry (eq key) (e ∷ es)))
          (sym (ap (λ place. before place (suc oldest)) next ∙ before_next (place_in es) oldest))
          (second oldest (nat_lt (place_in es) oldest) refl (rest inside) is)

  found_place : (es : List (K × Kept V)) (place : ℕ) → position (eq key) (keys_of es) ≡ Some place
      → (nat_lt (place_in es) (length (keys_of es)) ≡ true) × (place_in es ≡ place)
  found_place es place found = among (nat_lt (place_in es) (length (keys_of es))) refl found
    where
      among : (is : Bool) → nat_lt (place_in es) (length (keys_of es)) ≡ is → cond is (Some (place_in es)) None
          ≡ Some place
          → (nat_lt (place_in es) (length (keys_of es)) ≡ true) × (place_in es ≡ place)
      among true is found = (is, cc)
      among false is found = cc

  removed_in_order : IsEquivalence eq → (oldest place : ℕ) (ring : List (K × Kept V))
      → IsDistinct eq (keys_of ring)
      → position (eq key) (keys_of ring) ≡ Some place
      → in_order (before place oldest) (remove_entry (eq key) ring) ≡ without eq key (in_order oldest ring)
  removed_in_order o oldest place ring distinct found =
      let there = found_place ring place found in
      let parts = subst (λ at. Leaves oldest (before at oldest) ring (remove_entry (eq key) ring)) there.1
      (leaves o ring distinct oldest there.0) in
      let begun = before place oldest in
      let left = remove_entry (eq key) ring in
      map-append entry_of (drop begun left) (take begun left)
      ∙ ap (λ es. es ++ map entry_of (take begun left)) parts.1
      ∙ ap (λ es. without eq key (map entry_of (drop oldest ring)) ++ es) parts.0
      ∙ sym (ap (without eq key) (map-append entry_of (drop oldest ring) (take oldest ring))
      ∙ filter-append (λ entry. not (eq key entry.key)) (map entry_of (drop oldest ring))
      (map entry_of (take oldest ring)))

  pub removed_before : IsEquivalence eq → (oldest place : ℕ) (ring : List (K × Kept V))
      → IsDistinct eq (keys_of ring)
      → position (eq key) (keys_of ring) ≡ Some place → place < oldest
      → in_order (oldest - 1) (remove_entry (eq key) ring) ≡ without eq key (in_order oldest ring)
  removed_before o oldest place ring distinct found h =
      let e : nat_lt place oldest ≡ true = grind (arith, nat_tests) in
      subst (λ (b : Bool). in_order (if b then oldest - 1 else oldest) (remove_entry (eq key) ring)
      ≡ without eq key (in_order oldest ring)) e
      (removed_in_order o oldest place ring distinct found)

  pub removed_behind : IsEquivalence eq → (oldest place : ℕ) (ring : List (K × Kept V))
      → IsDistinct eq (keys_of ring)
      → position (eq key) (keys_of ring) ≡ Some place → oldest ≤ place
      → in_order oldest (remove_entry (eq key) ring) ≡ without eq key (in_order oldest ring)
  removed_behind o oldest place ring distinct found h =
      let e : nat_lt place oldest ≡ false = grind (arith, nat_tests) in
      subst (λ (b : Bool). in_order (if b then oldest - 1 else oldest) (remove_entry (eq key) ring)
      ≡ without eq key (in_order oldest ring)) e
      (removed_in_order o oldest place ring distinct found)

module _ {X : Type 0} where
  slice_get-last : (xs : List X) (x : X) → slice_get (xs ++ x ∷ []) (length xs) ≡ Some x
  slice_get-last [] x = refl
  slice_get-last (y ∷ xs) x = slice_get-last xs x

  is_there : (xs ys : List X) (i : ℕ) → i < length xs → slice_get (xs ++ ys) i ≡ None → ⊥
  is_there [] ys i within none = omega (arith, within)
  is_there (x ∷ xs) ys zero within none = cc
  is_there (x ∷ xs) ys (suc i) within none = is_there xs ys i (omega (arith, within)) none

  remove_last : (xs : List X) (x : X) → remove (xs ++ x ∷ []) (length xs) ≡ xs
  remove_last [] x = refl
  remove_last (y ∷ xs) x = ap (λ ys. y ∷ ys) (remove_last xs x)

  swapped : (xs : List X) (i : ℕ) (x d : X) → i < length xs → swap_remove (xs ++ x ∷ []) i d ≡ take i xs ++ x
      ∷ drop (suc i) xs
  swapped xs i x d within =
      let len : length (xs ++ x ∷ []) - 1 ≡ length xs = omega (arith, length-append xs (x ∷ [])) in
      ap (λ n. take n (slice_set (xs ++ x ∷ []) i (slice_index_or (xs ++ x ∷ []) n d))) len
      ∙ ap (λ y. take (length xs) (slice_set (xs ++ x ∷ []) i y)) (get_or-append_seam xs x [] d)
      ∙ ap (take (length xs)) (set-append_left xs (x ∷ []) i x within)
      ∙ subst (λ n. take n (slice_set xs i x ++ x ∷ []) ≡ slice_set xs i x) (length-set xs i x)
      (take-append_seam (slice_set xs i x) (x ∷ []))
      ∙ set_split xs i x within

module _ {K V : Type 0} where
  drop_map : (es : List (K × Kept V)) → map entry_of (drop 1 es) ≡ drop 1 (map entry_of es)
  drop_map [] = refl
  drop_map (e ∷ es) = refl

  first_left : (ring : List (K × Kept V)) (oldest : ℕ) → oldest < length ring
      → map entry_of (drop (suc oldest) ring ++ take oldest ring) ≡ drop 1 (in_order oldest ring)
  first_left ring oldest within =
      let some : 1 ≤ length (drop oldest ring) = omega (arith, length-drop oldest ring, within) in
      let next : suc oldest ≡ oldest + 1 = omega arith in
      ap (λ es. map entry_of (es ++ take oldest ring)) (ap (λ n. drop n ring) next ∙ sym (drop-drop 1 oldest ring))
      ∙ ap (map entry_of) (sym (drop-append-le 1 (drop oldest ring) (take oldest ring) some))
      ∙ drop_map (drop oldest ring ++ take oldest ring)

  pub begun : (oldest : ℕ) (ring : List (K × Kept V)) → length ring ≤ oldest
      → in_order 0 ring ≡ in_order oldest ring
  begun oldest ring past =
      ap (map entry_of)
      (append-nil ring
      ∙ sym (ap (λ es. es ++ take oldest ring) (drop_of_length-le ring past) ∙ take_all oldest ring past))

  -- What stands before the new one, and what behind it.
  renewed : (oldest : ℕ) (ring rest : List (K × Kept V)) (e : K × Kept V) → oldest ≤ length ring
      → in_order (oldest + 1) (take oldest ring ++ e ∷ rest) ≡ map entry_of (rest ++ take oldest ring)
      ++ entry_of e ∷ []
  renewed oldest ring rest e within =
      let front = length-take-le oldest ring within in
      ap (map entry_of) (ap (λ es. es ++ take (oldest + 1) (take oldest ring ++ e ∷ rest))
      (subst (λ n. drop (n + 1) (take oldest ring ++ e ∷ rest) ≡ rest) front
      (drop-append-add (take oldest ring) (e ∷ rest) 1))
      ∙ ap (λ es. rest ++ es)
      (subst (λ n. take (n + 1) (take oldest ring ++ e ∷ rest) ≡ take oldest ring ++ e ∷ []) front
      (take-append-add (take oldest ring) (e ∷ rest) 1))
      ∙ sym (append_assoc rest (take oldest ring) (e ∷ [])))
      ∙ map-append entry_of (rest ++ take oldest ring) (e ∷ [])

  pub last_put : (eq : K → K → Bool) {S : Type 0} (m : IndexMap K (Kept V) S) (key : K) (kept : Kept V)
      → get eq m key ≡ None
      → in_order 0 (insert_entry eq m.entries key kept) ≡ in_order 0 m.entries ++ entry_of (key, kept) ∷ []
  last_put eq m key kept new =
      ap (map entry_of) (append-nil (insert_entry eq m.entries key kept) ∙ insert_entry-new eq m key kept new)
      ∙ map-append entry_of m.entries ((key, kept) ∷ [])
      ∙ ap (λ es. map entry_of es ++ entry_of (key, kept) ∷ []) (sym (append-nil m.entries))

  pub last_moved : (eq : K → K → Bool) {S : Type 0} (m : IndexMap K (Kept V) S) (key : K) (kept : Kept V)
      (oldest : ℕ) → get eq m key ≡ None
      → oldest ≤ length m.entries
      → in_order (oldest + 1) (move_index (insert_entry eq m.entries key kept) (length m.entries) oldest)
      ≡ in_order oldest m.entries ++ entry_of (key, kept) ∷ []
  last_moved eq m key kept oldest new within =
      let es = m.entries in
      let e : K × Kept V = (key, kept) in
      ap (λ all. in_order (oldest + 1) (move_index all (length es) oldest)) (insert_entry-new eq m key kept new)
      ∙ ap (λ found. in_order (oldest + 1)
      (option_map_or (λ x. insert (remove (es ++ e ∷ []) (length es)) oldest x) found (es ++ e ∷ [])))
      (slice_get-last es e)
      ∙ ap (λ all. in_order (oldest + 1) (insert all oldest e)) (remove_last es e)
      ∙ renewed oldest es (drop oldest es) e within

  pub oldest_replaced : (eq : K → K → Bool) {S : Type 0} (m : IndexMap K (Kept V) S) (key : K) (kept : Kept V)
      (oldest : ℕ)
      → get eq m key ≡ None → oldest < length m.entries
      → (left : Option (K × Kept V)) (ring : List (K × Kept V))
      → left ≡ slice_get (insert_entry eq m.entries key kept) oldest
      → IfSome left (λ e. ring ≡ swap_remove (insert_entry eq m.entries key kept) oldest e)
      → in_order (oldest + 1) ring ≡ drop 1 (in_order oldest m.entries) ++ entry_of (key, kept) ∷ []
  oldest_replaced eq m key kept oldest new within None ring there swaps =
      absurd (is_there m.entries ((key, kept) ∷ []) oldest within
      (ap (λ es. slice_get es oldest) (sym (insert_entry-new eq m key kept new)) ∙ sym there))
  oldest_replaced eq m key kept oldest new within (Some p) ring there swaps =
      let es = m.entries in
      let e : K × Kept V = (key, kept) in
      ap (in_order (oldest + 1)) (swaps ∙ ap (λ all. swap_remove all oldest p) (insert_entry-new eq m key kept new)
      ∙ swapped es oldest e p within)
      ∙ renewed oldest es (drop (suc oldest) es) e (omega (arith, within))
      ∙ ap (λ es. es ++ entry_of e ∷ []) (first_left es oldest within)
