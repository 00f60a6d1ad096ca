-- Each end of a walk is met again by the name that it gives, with no path information.
use Rattle.hc_abs_again.proofs.Common.{◌≡◌, ◌∙◌, inl, inr, ℕ, zero, suc, List, [], ◌∷◌, ◌++◌, map, Bool, true, false}
use Rattle.hc_abs_again.proofs.Common.{not, ◌&&◌, Some, refl, sym, ap, subst, append_assoc, append-nil, arith}
use Rattle.hc_abs_again.proofs.Common.{true≢false, eqb-true, Outcome, Way, goes_on, run, Shown, Step}
use Rattle.std.specs.Prelude.{drop}
use Rattle.std.specs.List.{AllByRecursion, flat_map, list_any}
use Rattle.std.specs.Str.{bytes_eq}
use Rattle.std.proofs.lemmas.Bool.{and_from, and_parts}
use Rattle.hc_base.specs.Bytes.{slash}
use Rattle.hc_base.specs.Paths.{begins_with_slash, has_double_slash, is_slash}
use Rattle.hc_model.specs.declared.read.Read.TheVariants.{KindOf}
use Rattle.hc_model.specs.declared.walk.Kind.{Kind}
use Rattle.hc_model.specs.declared.walk.Kind.TheVariants as kind
use Rattle.hc_model.specs.declared.walk.Walk.{Walk}
use Rattle.hc_plan.specs.Cover.{Among}
use Rattle.hc_plan.proofs.Slots.{own_bytes, same_bytes}
unfoldable use Rattle.hc_steps.specs.Walking.{walk as followed}
use Rattle.hc_abs_pass.specs.Again.{exactly}
use Rattle.hc_abs_pass.specs.Walks.{Followed, IsListed, WalkEnd, absent_end, any_rest, at_root, behind_component}
use Rattle.hc_abs_pass.specs.Walks.{behind_slash, below, component, dir_end, ends_by, ends_named, file_end, front_end}
use Rattle.hc_abs_pass.specs.Walks.{into, is_absent, is_empty, named_then, names_at}
unfoldable use Rattle.hc_abs_pass.specs.Walks.{ends_in}
use Rattle.hc_abs_pass.proofs.Finding.{all_both}
use Rattle.hc_abs_pass.proofs.Components.{cut, cut_at, none_left, or_false}
use Rattle.hc_abs_pass.proofs.Walks.{first_in, found_in, walk_of}

-- Behind the slash of a directory, what leads to the end with no path information.
pub record IsExact (at : Followed) (end : WalkEnd) (rest : List ℕ) : Type 0 where
  pub own : List ℕ
  pub named : end.name rest ≡ at.front ++ own
  pub rests : end.rests own ≡ true
  pub info : end.info own ≡ []

abbrev Exact : Followed → WalkEnd → Type 0
Exact at end = (rest : List ℕ) → has_double_slash (slash ∷ rest) ≡ false → end.rests rest ≡ true → IsExact at end rest

abbrev AllExact : Followed → List WalkEnd → Type 0
AllExact at ends = AllByRecursion (Exact at) ends

-- ---- texts

-- A component is its own.
component_once : (rest : List ℕ)
    → (component (component rest) ≡ component rest) × (behind_component (component rest) ≡ [])
component_once rest =
    let is = cut_at (component rest) [] (cut rest).plain refl in
    let whole = append-nil (component rest) in
    (sym (ap component whole) ∙ is.0, sym (ap behind_component whole) ∙ is.1)

single_behind : (own tail : List ℕ) → has_double_slash (own ++ tail) ≡ false → has_double_slash tail ≡ false
single_behind [] tail none = none
single_behind (b ∷ own) tail none = single_behind own tail (by (own ++ tail) none)
  where
    by : (rest : List ℕ) → has_double_slash (b ∷ rest) ≡ false → has_double_slash rest ≡ false
    by [] none = refl
    by (c ∷ rest) none = (or_false _ _ none).1

module _ (name : List ℕ) where
  named_parts : (set : List ℕ → Bool) (rest : List ℕ) → named_then name set rest ≡ true
      → (component rest ≡ name) × (set (behind_component rest) ≡ true)
  named_parts set rest is =
      let both = and_parts _ _ is in (same_bytes (component rest) name both.0, both.1)

  named_from : (set : List ℕ → Bool) (rest tail : List ℕ) → component rest ≡ name → behind_component rest ≡ tail
      → set tail ≡ true → named_then name set rest ≡ true
  named_from set rest tail first behind is =
      and_from _ _ (ap (λ own. bytes_eq own name) first ∙ own_bytes name) (ap set behind ∙ is)

  plain_name : (rest : List ℕ) → component rest ≡ name → list_any is_slash name ≡ false
  plain_name rest is = subst (λ own. list_any is_slash own ≡ false) is (cut rest).plain

-- ---- ends

front_exact : (at : Followed) → Exact at (front_end at)
front_exact at rest single is = record { own = []; named = sym (append-nil at.front); rests = refl; info = refl }

dir_exact : (at : Followed) (name : List ℕ) → Exact at (dir_end at name)
dir_exact at name rest single is =
    let parts = named_parts name is_empty rest is in
    let whole = (cut rest).whole ∙ ap (λ tail. component rest ++ tail) (none_left (behind_component rest) parts.1)
    ∙ append-nil (component rest) ∙ parts.0 in
    record { own = rest; named = ap (λ own. at.front ++ own) (sym whole); rests = is; info = refl }

file_exact : (at : Followed) (name : List ℕ) → Exact at (file_end at name)
file_exact at name rest single is =
    let parts = named_parts name any_rest rest is in
    let once = component_once rest in record {
      own = component rest;
      named = ap (λ own. at.front ++ own) (sym parts.0);
      rests = named_from name any_rest (component rest) [] (once.0 ∙ parts.0) once.1 refl;
      info = once.1;
    }

absent_exact : (shown : Shown) (at : Followed) → Exact at (absent_end shown at)
absent_exact shown at [] single is = absurd (true≢false (sym is))
absent_exact shown at (b ∷ bs) single is =
    let once = component_once (b ∷ bs) in record {
      own = component (b ∷ bs);
      named = refl;
      rests = and_from _ _ (ap (λ slash. not (is_empty (elim slash [ true ↦ [] | false ↦ b ∷ component bs ])))
          (or_false _ _ single).0)
          (ap (λ own. is_absent (shown (KindOf (at.front ++ own)))) once.0 ∙ is);
      info = once.1;
    }

below_exact : (at : Followed) (name : List ℕ) (end : WalkEnd) → Exact (into at name) end → Exact at (below name end)
below_exact at name end each rest single is =
    let parts = named_parts name (behind_slash end.rests) rest is in
    elim (cut rest).next [
      | inl none ↦ absurd (true≢false (sym (sym (ap (behind_slash end.rests) none) ∙ parts.1)))
      | inr next ↦ by parts.0 next.0 next.1 next.2 (sym (ap (behind_slash end.rests) next.2) ∙ parts.1)
    ]
  where
    by : component rest ≡ name → (b : ℕ) (more : List ℕ) → behind_component rest ≡ b ∷ more
        → (is_slash b && end.rests more) ≡ true → IsExact at (below name end) rest
    by first b more behind is =
        let both = and_parts _ _ is in
        let tail = behind ∙ ap (λ b. b ∷ more) (eqb-true b slash both.0) in
        let inner : IsExact (into at name) end more = each more (single_behind (slash ∷ component rest) (slash ∷ more)
        (subst (λ rest. has_double_slash (slash ∷ rest) ≡ false)
        ((cut rest).whole ∙ ap (λ tail. component rest ++ tail) tail) single)) both.1 in
        let own = name ++ slash ∷ inner.own in
        let at_name = cut_at name (slash ∷ inner.own) (plain_name name rest first) refl in record {
          own = own;
          named = ap (λ tail. end.name (drop 1 tail)) behind ∙ inner.named
              ∙ append_assoc (at.front ++ name) (slash ∷ []) inner.own
              ∙ append_assoc at.front name (slash ∷ inner.own);
          rests = named_from name (behind_slash end.rests) own (slash ∷ inner.own) at_name.0 at_name.1 inner.rests;
          info = ap (λ tail. end.info (drop 1 tail)) at_name.1 ∙ inner.info;
        }

all_below : (at : Followed) (name : List ℕ) (ends : List WalkEnd) → AllExact (into at name) ends
    → AllExact at (map (below name) ends)
all_below at name [] all = tt
all_below at name (end ∷ ends) all = (below_exact at name end all.0, all_below at name ends all.1)

module _ (further : Followed → List WalkEnd) (each : (at : Followed) → AllExact at (further at)) (shown : Shown)
    (at : Followed) where
  by_exact : (name : List ℕ) (found : Kind) → AllExact at (ends_by further at name found)
  by_exact name kind.Absent = tt
  by_exact name kind.File = (file_exact at name, tt)
  by_exact name kind.Dir =
      (dir_exact at name, all_below at name (further (into at name)) (each (into at name)))

  names_exact : (names : List (List ℕ)) → AllExact at (flat_map (ends_named further shown at) names)
  names_exact [] = tt
  names_exact (name ∷ names) =
      all_both (Exact at) (ends_named further shown at name) (flat_map (ends_named further shown at) names)
      (by_exact name (shown (KindOf (at.front ++ name)))) (names_exact names)

all_exact : (levels : ℕ) (shown : Shown) (at : Followed) → AllExact at (ends_in levels shown at)
unfolding ends_in
all_exact zero shown at = tt
all_exact (suc levels) shown at = (
  front_exact at,
  all_both (Exact at) _ _
      (names_exact (λ at. ends_in levels shown at) (λ at. all_exact levels shown at) shown at (names_at shown at.path))
      (absent_exact shown at, tt),
)

-- ---- the end that a walk leads to

record IsFirst (P : WalkEnd → Type 0) (ends : List WalkEnd) (rest : List ℕ) (end : WalkEnd) : Type 0 where
  among : Among end ends
  is : P end
  rests : end.rests rest ≡ true

first_is : (P : WalkEnd → Type 0) (ends : List WalkEnd) → AllByRecursion P ends → (rest : List ℕ) (end : WalkEnd)
    → first_in ends rest ≡ Some end → IsFirst P ends rest end
first_is P [] all rest end is = absurd (let none = is in cc)
first_is P (own ∷ ends) all rest end is =
    by (own.rests rest) refl (λ is. first_is P ends all.1 rest end is) is
  where
    inside : (one other : WalkEnd) → Some one ≡ Some other → one ≡ other
    inside one other same = let e = same in cc

    by : (in_set : Bool) → own.rests rest ≡ in_set
        → (first_in ends rest ≡ Some end → IsFirst P ends rest end)
        → (elim in_set [ true ↦ Some own | false ↦ first_in ends rest ]) ≡ Some end → IsFirst P (own ∷ ends) rest end
    by true there later is =
        let same = inside own end is in record {
          among = inl (sym same);
          is = subst P same all.0;
          rests = subst (λ (end : WalkEnd). end.rests rest ≡ true) same there;
        }
    by false there later is =
        let found = later is in record { among = inr found.among; is = found.is; rests = found.rests }

-- Its name leads there again.
pub record IsMet (levels : ℕ) (shown : Shown) (walk : Walk) : Type 0 where
  pub end : WalkEnd
  pub among : Among end (ends_in levels shown at_root)
  pub exact : exactly end walk.name ≡ true
  pub kind : end.kind ≡ walk.kind
  pub dirs : end.dirs ≡ walk.dirs

abbrev walk_from : List ℕ → Step Outcome Walk
walk_from name = followed name

met_so : (levels : ℕ) (shown : Shown) (listed : IsListed levels shown) (rest : List ℕ)
    → has_double_slash (slash ∷ rest) ≡ false → (walk : Walk) (end : WalkEnd)
    → IsFirst (Exact at_root) (ends_in levels shown at_root) rest end → walk ≡ walk_of levels shown listed end rest
    → IsMet levels shown walk
met_so levels shown listed rest single walk end first walked =
    let own = first.is rest single first.rests in record {
      end = end;
      among = first.among;
      exact = ap (λ (walk : Walk). exactly end walk.name) walked ∙ ap (exactly end) own.named
          ∙ and_from _ _ own.rests (ap is_empty own.info);
      kind = sym (ap (λ (walk : Walk). walk.kind) walked);
      dirs = sym (ap (λ (walk : Walk). walk.dirs) walked);
    }

pub met_again : (levels : ℕ) (shown : Shown) → IsListed levels shown → (name : List ℕ)
    → begins_with_slash name ≡ true → has_double_slash name ≡ false → (walk : Walk)
    → (run (walk_from name) shown).way ≡ goes_on walk → IsMet levels shown walk
unfolding followed
met_again levels shown listed [] begins single walk is = absurd (true≢false (sym begins))
met_again levels shown listed (b ∷ rest) begins single walk is =
    by (subst (λ b. has_double_slash (b ∷ rest) ≡ false) is_one single)
    (sym (ap (λ b. (run (walk_from (b ∷ rest)) shown).way) is_one) ∙ is)
  where
    is_one : b ≡ slash
    is_one = eqb-true b slash begins

    inside : (one other : Walk) → ◌≡◌ {A = Way Outcome Walk} (goes_on one) (goes_on other) → one ≡ other
    inside one other same = let e = same in cc

    by : has_double_slash (slash ∷ rest) ≡ false → (run (walk_from (slash ∷ rest)) shown).way ≡ goes_on walk
        → IsMet levels shown walk
    by single is =
        let found = found_in levels shown listed levels at_root rest (record {
          names = listed.at_root;
          enough = omega arith;
          short = listed.some;
          slashed = refl;
        }) single in
        met_so levels shown listed rest single walk found.0
        (first_is (Exact at_root) (ends_in levels shown at_root) (all_exact levels shown at_root) rest found.0 found.1)
        (inside walk (walk_of levels shown listed found.0 rest) (sym is ∙ found.2.1))
