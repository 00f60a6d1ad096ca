-- The rows of the code, and what marks leave.
use Rattle.hc_world.proofs.Common.{◌≡◌, ℕ, Bool, true, false, ◌&&◌, ◌==◌, not, cond, List, Option, Some}
use Rattle.hc_world.proofs.Common.{None, IsSome, Vec, refl, sym, ap, ◌∙◌, subst, rules, Global, option_map}
use Rattle.hc_world.proofs.Common.{nat_cmp, slice_cmp, get, insert, empty, get-empty, eqb-true, and_parts, false≢true}
use Rattle.hc_world.proofs.Common.{cond-true}
use Rattle.std.specs.declared.collections.BTreeMap.{BTreeMap}
use Rattle.std.specs.Option.{is_some, unwrap_or}
use Rattle.std.specs.FinMap.{get-retain_keys}
use Rattle.std.proofs.lemmas.Map.Lookups.{exact_bytes}
use Rattle.hc_model.specs.declared.read.Read.{Read}
use Rattle.hc_model.specs.declared.read.Read.TheVariants.{KindOf, NamesOf, TextOf}
use Rattle.hc_steps.specs.Step.{Path}
use Rattle.hc_world.specs.Changes.{ChangeMap, Changes, changes_at, last_change, never}
use Rattle.hc_world.specs.Rows.{KeepsRows, SameRows, adjusted, adjusted_to, is_never, made_in, numbers_of, rows_of}
use Rattle.hc_world.specs.Rows.{seen_rows, with_all, with_names}
use Rattle.hc_world.specs.declared.changes.Changes as code
use Rattle.hc_world.proofs.Lookups.{ChangesAt, entry_at, get-map_of, get_inserted, map_written, same_answers, same_path}
use Rattle.hc_world.proofs.Lookups.{same_path-itself, same_path-true}

abbrev Entries : Type 0
Entries = List (Vec ℕ Global × code.Changes)

-- ---- what a mark writes

pub adjusted-some : (before after : Entries) (path : List ℕ) (mark : Changes → Changes) (old new : code.Changes)
    → Some old ≡ entry_at before path → numbers_of new ≡ mark (numbers_of old)
    → ((q : Vec ℕ Global) → ChangesAt before after path (Some new) q.items)
    → rows_of after ≡ adjusted (rows_of before) path mark
adjusted-some before after path mark old new there is h =
    map_written numbers_of before after path old new there h ∙ ap (insert (rows_of before) path) is
    ∙ sym (ap (adjusted_to (rows_of before) path mark)
    (get-map_of numbers_of before path ∙ ap (option_map numbers_of) (sym there)))

pub adjusted-none : (before after : BTreeMap (Vec ℕ Global) code.Changes Global) (path : List ℕ)
    (mark : Changes → Changes) → after ≡ before → None ≡ entry_at before.entries path
    → rows_of after.entries ≡ adjusted (rows_of before.entries) path mark
adjusted-none before after path mark same none =
    ap (λ m. rows_of m.entries) same
    ∙ sym (ap (adjusted_to (rows_of before.entries) path mark)
    (get-map_of numbers_of before.entries path ∙ ap (option_map numbers_of) (sym none)))

pub changes_at-entry : (entries : Entries) (path : List ℕ) (row : Option code.Changes)
    → row ≡ entry_at entries path → changes_at (rows_of entries) path ≡ unwrap_or (option_map numbers_of row)
    never
changes_at-entry entries path row e =
    ap (λ o. unwrap_or o never) (get-map_of numbers_of entries path ∙ ap (option_map numbers_of) (sym e))

option_is : {A B : Type 0} (f : A → B) (o : Option A) → is_some o ≡ true → IsSome (option_map f o)
option_is f None h = absurd (false≢true h)
option_is f (Some x) h = search rules

option_isnt : {A B : Type 0} (f : A → B) (o : Option A) → is_some o ≡ false → option_map f o ≡ None
option_isnt f None h = refl
option_isnt f (Some x) h = absurd (false≢true (sym h))

pub some_there : (entries : Entries) (path : List ℕ) → is_some (entry_at entries path) ≡ true
    → IsSome (get (rows_of entries) path)
some_there entries path h =
    subst IsSome (sym (get-map_of numbers_of entries path)) (option_is numbers_of (entry_at entries path) h)

pub none_there : (entries : Entries) (path : List ℕ) → is_some (entry_at entries path) ≡ false
    → get (rows_of entries) path ≡ None
none_there entries path h = get-map_of numbers_of entries path ∙ option_isnt numbers_of (entry_at entries path) h

-- ---- what a row says

unwrap_or-cond : (b : Bool) (x : Changes) (o : Option Changes) → unwrap_or (cond b (Some x) o) never
    ≡ cond b x (unwrap_or o never)
unwrap_or-cond true x o = refl
unwrap_or-cond false x o = refl

changes_at-inserted : (rows : ChangeMap) (path : Path) (row : Changes) (q : Path)
    → changes_at (insert rows path row) q ≡ cond (same_path q path) row (changes_at rows q)
changes_at-inserted rows path row q = ap (λ o. unwrap_or o never) (get_inserted rows path row q)
    ∙ unwrap_or-cond (same_path q path) row (get rows q)

is_some_if : (b : Bool) (x : Changes) (o : Option Changes) → (b ≡ false → IsSome o) → IsSome (cond b (Some x) o)
is_some_if true x o h = search rules
is_some_if false x o h = h refl

pub KeepsRows-inserted : (rows : ChangeMap) (path : Path) (row : Changes) → KeepsRows rows (insert rows path row)
KeepsRows-inserted rows path row q there =
    subst IsSome (sym (get_inserted rows path row q)) (is_some_if (same_path q path) row (get rows q) (λ _. there))

pub there-inserted : (rows : ChangeMap) (path : Path) (row : Changes) → IsSome (get (insert rows path row) path)
there-inserted rows path row =
    subst IsSome
    (sym (get_inserted rows path row path ∙ cond-true (same_path path path) (Some row) (get rows path)
    (same_path-itself path))) (search rules)

-- A row that is made ahead says what no row says.
pub SameRows-inserted : (rows : ChangeMap) (path : Path) → get rows path ≡ None
    → SameRows rows (insert rows path never)
SameRows-inserted rows path none q =
    changes_at-inserted rows path never q
    ∙ elim (same_path q path) as (λ b. same_path q path ≡ b → cond b never (changes_at rows q)
    ≡ changes_at rows q) [
      | true ↦ λ e. sym (ap (λ p. changes_at rows p) (same_path-true q path e)
          ∙ ap (λ o. unwrap_or o never) none)
      | false ↦ λ _. refl
    ] refl

-- ---- what marks leave

adjusted-is : (rows : ChangeMap) (path : Path) (mark : Changes → Changes) → IsSome (get rows path)
    → (row : Changes) × (get rows path ≡ Some row) × (adjusted rows path mark ≡ insert rows path (mark row))
adjusted-is rows path mark there = by (get rows path) refl there
  where
    by : (o : Option Changes) → get rows path ≡ o → IsSome o → (row : Changes) × (get rows path ≡ Some row)
        × (adjusted rows path mark ≡ insert rows path (mark row))
    by None e h = absurd (search (rules, h))
    by (Some row) e h = (row, e, ap (adjusted_to rows path mark) e)

pub changes_at-adjusted : (rows : ChangeMap) (path : Path) (mark : Changes → Changes) (q : Path)
    → IsSome (get rows path) → changes_at (adjusted rows path mark) q
    ≡ cond (same_path q path) (mark (changes_at rows q)) (changes_at rows q)
changes_at-adjusted rows path mark q there =
    let a = adjusted-is rows path mark there in
    ap (λ m. changes_at m q) a.2 ∙ changes_at-inserted rows path (mark a.0) q
    ∙ elim (same_path q path) as (λ b. same_path q path ≡ b → cond b (mark a.0) (changes_at rows q)
    ≡ cond b (mark (changes_at rows q)) (changes_at rows q)) [
      | true ↦ λ e. ap mark
          (sym (ap (changes_at rows) (same_path-true q path e) ∙ ap (λ o. unwrap_or o never) a.1))
      | false ↦ λ _. refl
    ] refl

pub KeepsRows-adjusted : (rows : ChangeMap) (path : Path) (mark : Changes → Changes)
    → KeepsRows rows (adjusted rows path mark)
KeepsRows-adjusted rows path mark q there = by (get rows path) refl
  where
    by : (o : Option Changes) → get rows path ≡ o → IsSome (get (adjusted_to rows path mark o) q)
    by None e = there
    by (Some row) e = KeepsRows-inserted rows path (mark row) q there

pub last_change-same : (rows after : ChangeMap) → SameRows rows after → (read : Read)
    → last_change after read ≡ last_change rows read
last_change-same rows after same (KindOf path) = ap (λ (c : Changes). c.kind) (same path)
last_change-same rows after same (TextOf path) = ap (λ (c : Changes). c.text) (same path)
last_change-same rows after same (NamesOf path) = ap (λ (c : Changes). c.names) (same path)

-- ---- the rows that are seen

not_never : (row : Changes) → is_never row ≡ true → row ≡ never
not_never row h =
    let a = and_parts ((row.kind == 0) && (row.text == 0)) _ h in
    let b = and_parts (row.kind == 0) _ a.0 in
    λ i. record {
      kind = eqb-true row.kind 0 b.0 i;
      text = eqb-true row.text 0 b.1 i;
      names = eqb-true row.names 0 a.1 i;
    }

get-seen_rows : (rows : ChangeMap) (q : Path) → get (seen_rows rows) q ≡ cond (not (is_never (changes_at rows q)))
    (get rows q) None
get-seen_rows rows q = get-retain_keys rows (λ path. not (is_never (changes_at rows path))) q
    (λ x tied. ap (λ p. not (is_never (changes_at rows p))) (sym (exact_bytes q x tied)))

-- A path is seen as its numbers say.
seen_as : (rows : ChangeMap) (q : Path) → get (seen_rows rows) q ≡ cond (is_never (changes_at rows q)) None
    (Some (changes_at rows q))
seen_as rows q = get-seen_rows rows q ∙ by (get rows q) refl
  where
    turned : (b : Bool) (o p : Option Changes) → cond (not b) o p ≡ cond b p o
    turned true o p = refl
    turned false o p = refl

    by : (o : Option Changes) → get rows q ≡ o → cond (not (is_never (changes_at rows q))) (get rows q) None
        ≡ cond (is_never (changes_at rows q)) None (Some (changes_at rows q))
    by None e = ap (λ o. cond (not (is_never (unwrap_or o never))) o None) e
        ∙ sym (ap (λ o. cond (is_never (unwrap_or o never)) None (Some (unwrap_or o never))) e)
    by (Some row) e =
        ap (λ o. cond (not (is_never (unwrap_or o never))) o None) e ∙ turned (is_never row) (Some row) None
        ∙ sym (ap (λ o. cond (is_never (unwrap_or o never)) None (Some (unwrap_or o never))) e)

pub seen_rows-same : (rows after : ChangeMap) → SameRows rows after → seen_rows after ≡ seen_rows rows
seen_rows-same rows after same =
    same_answers _ _ (λ q. seen_as after q ∙ ap (λ c. cond (is_never c) None (Some c)) (same q)
    ∙ sym (seen_as rows q))

pub SameRows-seen : (rows : ChangeMap) → SameRows rows (seen_rows rows)
SameRows-seen rows q = ap (λ o. unwrap_or o never) (seen_as rows q)
    ∙ elim (is_never (changes_at rows q)) as (λ b. is_never (changes_at rows q) ≡ b
    → unwrap_or (cond b None (Some (changes_at rows q))) never ≡ changes_at rows q) [
      | true ↦ λ e. sym (not_never _ e)
      | false ↦ λ _. refl
    ] refl

pub seen_rows-empty : seen_rows empty ≡ empty
seen_rows-empty =
    same_answers _ _
    (λ q. seen_as empty q ∙ ap (λ o. cond (is_never (unwrap_or o never)) None (Some (unwrap_or o never)))
    (get-empty (slice_cmp nat_cmp) q) ∙ sym (get-empty (slice_cmp nat_cmp) q))

pub KeepsRows-made : (rows : ChangeMap) (directory path : Path) (is_dir : Bool) (number : ℕ)
    → KeepsRows rows (made_in rows directory path is_dir number)
KeepsRows-made rows directory path is_dir number q there =
    KeepsRows-adjusted (adjusted rows path (with_all is_dir number)) directory (with_names number) q
    (KeepsRows-adjusted rows path (with_all is_dir number) q there)
