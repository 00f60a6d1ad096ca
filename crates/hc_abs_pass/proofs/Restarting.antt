-- What stands at the end of a directory's list, and the pass that follows.
use Rattle.hc_abs_pass.proofs.Common.{◌≡◌, ◌∙◌, ℕ, List, [], ◌∷◌, ◌++◌, length, drop, Bool}
use Rattle.hc_abs_pass.proofs.Common.{true, false, if◌then◌else◌, Some, refl, sym, ap, ap₂, subst, arith}
use Rattle.hc_abs_pass.proofs.Common.{true≢false, append-nil, unwrap_or, State, plan_run, run, Shown, Like, Slot}
use Rattle.hc_abs_pass.proofs.Common.{RwState, is_over, ends, in_hand, done}
use Rattle.std.specs.Prelude.{codes, cond, nat_eq, take}
use Rattle.std.specs.List.{AllByRecursion, starts_with}
use Rattle.std.specs.Map.{keys_of, lookup}
use Rattle.std.specs.Str.{bytes_eq}
use Rattle.std.proofs.lemmas.List.{take-append-drop}
use Rattle.std.proofs.lemmas.Map.Keys.{IsDistinct-cons, IsDistinct-from_apart, IsDistinct-head, IsDistinct-tail}
use Rattle.hc_base.specs.Paths.{has_dots, has_double_slash, merge_slashes}
use Rattle.hc_model.specs.declared.event.Event.TheVariants as event
use Rattle.hc_model.specs.declared.outcome.LimitKind.TheVariants.{Redirects}
use Rattle.hc_model.specs.declared.outcome.Outcome.TheVariants.{Limit, Outside}
use Rattle.hc_model.specs.declared.outcome.Reason.TheVariants.{DotSegment}
use Rattle.hc_plan.specs.Plan.{from_slot, from_text, make, take_up}
use Rattle.hc_plan.specs.Running.{source_text, tidied}
use Rattle.hc_plan.proofs.Slots.{own_bytes, same_bytes}
use Rattle.hc_rw_expand.specs.Variables.{Variables, renamed, renamed_onto, variable_set, with_value}
use Rattle.hc_serve.specs.DirectoryRules.{is_last, path_for, vars_behind}
use Rattle.hc_serve.specs.DirectoryRules.{next_pass as next_pass_of}
unfoldable use Rattle.hc_serve.specs.Passing.{answered_by, redirected, restarted, restarted_at}
use Rattle.hc_serve.specs.Passing.{outcome_at}
use Rattle.hc_serve.specs.Site.{Site}
use Rattle.hc_serve.specs.declared.stage.Here.{Here}
use Rattle.hc_steps.specs.Step.{told}
use Rattle.hc_abs_rw.specs.Templates.{main, slot_item}
use Rattle.hc_abs_rw.proofs.Variables.{set_again}
use Rattle.hc_abs_pass.specs.Ends.{AreOnce, EndsLike, MeetsHere, found, outside}
use Rattle.hc_abs_pass.specs.Restarting.{begun_again, front, restart_plan, status_name, unless_last, variable_source}
use Rattle.hc_abs_pass.proofs.Slashes.{tidied_is}

-- ---- variables

differ : (one other : List ℕ) → (one ≡ other → ⊥) → bytes_eq one other ≡ false
differ one other apart = by (bytes_eq one other) refl
  where
    by : (is : Bool) → bytes_eq one other ≡ is → is ≡ false
    by true is = absurd (apart (same_bytes one other is))
    by false is = refl

apart : (one other : List ℕ) → bytes_eq one other ≡ false → one ≡ other → ⊥
apart one other is same = true≢false (sym (own_bytes one) ∙ ap (bytes_eq one) same ∙ is)

turned : (one other : List ℕ) → bytes_eq one other ≡ bytes_eq other one
turned one other = by (bytes_eq one other) refl
  where
    by : (is : Bool) → bytes_eq one other ≡ is → is ≡ bytes_eq other one
    by true is = sym (ap (bytes_eq other) (same_bytes one other is) ∙ own_bytes other)
    by false is = sym (differ other one (λ same. apart one other is (sym same)))

-- The last value of a name, or this.
last_or : List ℕ → Variables → List ℕ → List ℕ
last_or value [] name = value
last_or value (each ∷ vars) name = last_or (if bytes_eq each.0 name then each.1 else value) vars name

abbrev first_or : List ℕ → Bool → List ℕ × List ℕ → Variables → List ℕ → List ℕ
first_or value is each vars name = unwrap_or (cond is (Some each.1) (lookup (bytes_eq name) vars)) value

abbrev HasNone : List ℕ → List (List ℕ) → Type 0
HasNone name names = AllByRecursion (λ other. bytes_eq name other ≡ false) names

none_last : (value : List ℕ) (vars : Variables) (name : List ℕ) → HasNone name (keys_of vars)
    → last_or value vars name ≡ value
unfolding last_or
none_last value [] name none = refl
none_last value (each ∷ vars) name none =
    ap (λ is. last_or (if is then each.1 else value) vars name) (turned each.0 name ∙ none.0)
    ∙ none_last value vars name none.1

-- Where no name stands twice, the last value is the first.
last_is_first : (value : List ℕ) (vars : Variables) (name : List ℕ) → AreOnce vars
    → last_or value vars name ≡ unwrap_or (lookup (bytes_eq name) vars) value
unfolding last_or
last_is_first value [] name once = refl
last_is_first value (each ∷ vars) name once =
    by (bytes_eq each.0 name) refl
    (last_is_first value vars name (IsDistinct-tail bytes_eq each.0 (keys_of vars) once))
    ∙ ap (λ is. first_or value is each vars name) (turned each.0 name)
  where
    by : (is : Bool) → bytes_eq each.0 name ≡ is
        → last_or value vars name ≡ unwrap_or (lookup (bytes_eq name) vars) value
        → last_or (if is then each.1 else value) vars name ≡ first_or value is each vars name
    by true is later = none_last each.1 vars name
        (subst (λ name. HasNone name (keys_of vars)) (same_bytes each.0 name is)
        (IsDistinct-head bytes_eq each.0 (keys_of vars) once))
    by false is later = later

-- Behind the front the name is that of a variable before.
same_behind : (x m : List ℕ) → bytes_eq (front ++ x) (front ++ m) ≡ bytes_eq x m
same_behind x m = by (bytes_eq x m) refl
  where
    by : (same : Bool) → bytes_eq x m ≡ same → bytes_eq (front ++ x) (front ++ m) ≡ same
    by true same = ap (λ x. bytes_eq (front ++ x) (front ++ m)) (same_bytes x m same) ∙ own_bytes (front ++ m)
    by false other = differ (front ++ x) (front ++ m) (λ same. apart x m other (ap (drop (length front)) same))

found_behind : (had vars : Variables) (m : List ℕ)
    → variable_set (renamed_onto front had vars) (front ++ m) ≡ last_or (variable_set had (front ++ m)) vars m
unfolding last_or
found_behind had [] m = refl
found_behind had (each ∷ vars) m =
    found_behind (with_value had (front ++ each.0) each.1) vars m
    ∙ ap (λ value. last_or value vars m)
    (set_again (front ++ each.0) each.1 (front ++ m) (bytes_eq each.0 m) (same_behind each.0 m) had)

none_behind : (had vars : Variables) (name : List ℕ) → starts_with nat_eq name front ≡ false
    → variable_set (renamed_onto front had vars) name ≡ variable_set had name
none_behind had [] name none = refl
none_behind had (each ∷ vars) name none =
    none_behind (with_value had (front ++ each.0) each.1) vars name none
    ∙ set_again (front ++ each.0) each.1 name false
    (differ (front ++ each.0) name (λ same.
    true≢false (sym (own_bytes front) ∙ ap (λ name. starts_with nat_eq name front) same ∙ none))) had

begins : (name : List ℕ) → starts_with nat_eq name front ≡ true → name ≡ front ++ drop (length front) name
begins name is =
    sym (take-append-drop (length front) name)
    ∙ ap (λ begin. begin ++ drop (length front) name) (sym (same_bytes front (take (length front) name) is))

pub variable_is : (slots : Slot → List ℕ) (vars : Variables) → AreOnce vars
    → ((name : List ℕ) → slots (Slot.Env name) ≡ variable_set vars name) → (name : List ℕ)
    → source_text slots (variable_source name) ≡ variable_set (vars_behind vars) name
variable_is slots vars once are name = by (bytes_eq name status_name) refl
  where
    front_by : (is : Bool) → starts_with nat_eq name front ≡ is
        → source_text slots (if is then from_slot (Slot.Env (drop (length front) name)) else from_text [])
        ≡ variable_set (renamed front vars) name
    front_by true is =
        let m = drop (length front) name in
        are m ∙ sym (last_is_first [] vars m once) ∙ sym (found_behind [] vars m)
        ∙ ap (variable_set (renamed front vars)) (sym (begins name is))
    front_by false is = sym (none_behind [] vars name is)

    by : (is : Bool) → bytes_eq name status_name ≡ is
        → source_text slots (if is then from_text (codes "200") else (if starts_with nat_eq name front
        then from_slot (Slot.Env (drop (length front) name)) else from_text []))
        ≡ variable_set (vars_behind vars) name
    by true is =
        sym (set_again status_name (codes "200") name true (turned status_name name ∙ is) (renamed front vars))
    by false is =
        front_by (starts_with nat_eq name front) refl
        ∙ sym (set_again status_name (codes "200") name false (turned status_name name ∙ is) (renamed front vars))

-- ---- names

-- What differs from all names and from the one that is set differs from all names then.
none_more : (other name value : List ℕ) (vars : Variables) → bytes_eq other name ≡ false
    → HasNone other (keys_of vars) → HasNone other (keys_of (with_value vars name value))
none_more other name value [] apart none = (apart, none)
none_more other name value (each ∷ vars) apart none =
    by (bytes_eq name each.0) (none_more other name value vars apart none.1)
  where
    by : (is : Bool) → HasNone other (keys_of (with_value vars name value))
        → HasNone other (keys_of (if is then (each.0, value) ∷ vars else each ∷ with_value vars name value))
    by true later = none
    by false later = (none.0, later)

pub once_more : (name value : List ℕ) (vars : Variables) → AreOnce vars → AreOnce (with_value vars name value)
once_more name value [] once = IsDistinct-cons bytes_eq name [] tt once
once_more name value (each ∷ vars) once =
    by (bytes_eq name each.0) refl
    (once_more name value vars (IsDistinct-tail bytes_eq each.0 (keys_of vars) once))
  where
    by : (is : Bool) → bytes_eq name each.0 ≡ is → AreOnce (with_value vars name value)
        → AreOnce (if is then (each.0, value) ∷ vars else each ∷ with_value vars name value)
    by true is later = once
    by false is later = IsDistinct-cons bytes_eq each.0 (keys_of (with_value vars name value))
        (none_more each.0 name value vars (turned each.0 name ∙ is)
        (IsDistinct-head bytes_eq each.0 (keys_of vars) once)) later

once_behind : (had vars : Variables) → AreOnce had → AreOnce (renamed_onto front had vars)
once_behind had [] once = once
once_behind had (each ∷ vars) once =
    once_behind (with_value had (front ++ each.0) each.1) vars (once_more (front ++ each.0) each.1 had once)

pub none_once : AreOnce []
none_once = IsDistinct-from_apart bytes_eq [] (λ i j d before within. absurd (omega (arith, within)))

behind_once : (vars : Variables) → AreOnce (vars_behind vars)
behind_once vars = once_more status_name (codes "200") (renamed front vars) (once_behind [] vars none_once)

-- ---- the pass that follows

module _ (site : Site) (here : Here) (left : RwState) (shown : Shown) (names : List ℕ → Bool) (s : State)
    (meets : MeetsHere site here left s) where
  abbrev placed : List ℕ → List ℕ
  placed text = path_for site here here.force.dir text

  abbrev path : List ℕ
  path = placed (s.slots Slot.Text ++ [])

  abbrev tidy_path : List ℕ
  tidy_path = tidied has_double_slash merge_slashes path

  same_path : path ≡ placed left.text
  same_path = ap placed (append-nil (s.slots Slot.Text) ∙ meets.meets.text)

  abbrev begun_like : Bool → Type 0
  begun_like dots = Like (EndsLike site)
      (plan_run (elim dots [ true ↦ done (outside DotSegment) | false ↦ unless_last (is_last site here) names ])
      (in_hand (in_hand (in_hand s main (s.slots Slot.Text ++ [])) main path) main tidy_path))
      (run (if dots then ends (Outside DotSegment)
      else (if is_last site here then ends (Limit Redirects)
      else told (event.Restart (merge_slashes (placed left.text)))
      (next_pass_of here left (merge_slashes (placed left.text))))) shown)

  begun_by : (dots : Bool) → begun_like dots
  unfolding plan_run run
  begun_by true = (refl, refl)
  begun_by false = by (is_last site here)
    where
      by : (last : Bool) → Like (EndsLike site)
          (plan_run (unless_last last names)
          (in_hand (in_hand (in_hand s main (s.slots Slot.Text ++ [])) main path) main tidy_path))
          (run (if last then ends (Limit Redirects) else told (event.Restart (merge_slashes (placed left.text)))
          (next_pass_of here left (merge_slashes (placed left.text)))) shown)
      by true = (refl, refl)
      by false = (
        refl,
        (
          next_pass_of here left (merge_slashes (placed left.text)),
          refl,
          record {
            text = tidied_is path ∙ ap merge_slashes same_path;
            query = meets.meets.query;
            info = refl;
            end = meets.meets.end;
            path = tidied_is path ∙ ap merge_slashes same_path;
            method = meets.meets.method;
            request = meets.meets.request;
            variables = λ name. variable_is _ left.vars meets.once meets.meets.variables name;
            headers = meets.meets.headers;
            caller = meets.meets.caller;
          },
          behind_once left.vars,
        ),
      )

  pub restart_like : Like (EndsLike site) (plan_run (restart_plan here.walk.kind (is_last site here) placed names) s)
      (run (answered_by site here left) shown)
  unfolding run plan_run answered_by restarted redirected restarted_at restart_plan
  restart_like =
      subst (λ is. Like (EndsLike site) (plan_run (elim is [
        | true ↦ done (found here.walk.kind)
        | false ↦ take_up main (slot_item Slot.Text ∷ [])
            (make main (λ text also. placed text) main main (begun_again (is_last site here) names))
      ]) s) (run (answered_by site here left) shown))
      (sym (ap₂ bytes_eq meets.meets.text meets.name)) (by (bytes_eq left.text here.walk.name))
    where
      by : (is : Bool) → Like (EndsLike site) (plan_run (elim is [
        | true ↦ done (found here.walk.kind)
        | false ↦ take_up main (slot_item Slot.Text ∷ [])
            (make main (λ text also. placed text) main main (begun_again (is_last site here) names))
      ]) s) (run (if is then ends (outcome_at here.walk.kind here.walk.name left.info) else restarted site here left)
          shown)
      by true = (
        refl,
        ap₂ (λ name info. is_over (outcome_at here.walk.kind name info)) (sym meets.name) (sym meets.meets.info),
      )
      by false =
          subst (λ dots. Like (EndsLike site)
          (plan_run (elim dots [ true ↦ done (outside DotSegment) | false ↦ unless_last (is_last site here) names ])
          (in_hand (in_hand (in_hand s main (s.slots Slot.Text ++ [])) main path) main tidy_path))
          (run (restarted site here left) shown))
          (sym (ap has_dots (tidied_is path ∙ ap merge_slashes same_path)))
          (begun_by (has_dots (merge_slashes (placed left.text))))
