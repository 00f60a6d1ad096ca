-- The plan of a list of rules stores no file name, and what it answers is no going on.
use Rattle.hc_abs_segments.proofs.Common.{◌≡◌, ◌∙◌, ℕ, zero, suc, List, [], ◌∷◌, ◌++◌, Bool, true, false}
use Rattle.hc_abs_segments.proofs.Common.{not, ◌&&◌, ◌||◌, if◌then◌else◌, Option, Some, None, refl, sym, ap, subst}
use Rattle.hc_abs_segments.proofs.Common.{State, PlanRun, ended, too_long, left_out, plan_run, Plan, done, and_then}
use Rattle.hc_abs_segments.proofs.Common.{Slot, Decision}
use Rattle.std.specs.Prelude.{Result, Ok, Err, is_some}
use Rattle.hc_model.specs.declared.outcome.Reason.{Reason}
use Rattle.hc_model.specs.declared.rewrite.Cond.{Cond}
use Rattle.hc_model.specs.declared.rewrite.CondKind.{CondKind}
use Rattle.hc_model.specs.declared.rewrite.CondKind.TheVariants.{Equals, IsDir, IsFile, Search}
use Rattle.hc_model.specs.declared.rewrite.EnvSet.{EnvSet}
use Rattle.hc_model.specs.declared.rewrite.Flags.{Flags}
use Rattle.hc_model.specs.declared.rewrite.Rule.{Rule}
use Rattle.hc_model.specs.declared.template.Piece.{Piece, out-Piece}
use Rattle.hc_model.specs.declared.template.Piece.TheOpen.{Piece-F, Lookup}
use Rattle.hc_pattern.specs.Pattern.{Pattern}
use Rattle.hc_plan.specs.Plan.{take_up, test, sort, look_for, shorten, tidy, make, look_up, bound, store, rename}
use Rattle.hc_plan.specs.Plan.{let_go, choose, compare, leave_out, Stored}
use Rattle.hc_plan.specs.Running.{stored_in, stored_text, with_groups, place_in, answer, compares}
use Rattle.hc_plan.specs.Slots.{put, same_slot}
use Rattle.hc_plan.specs.Texts.{Key, pick}
use Rattle.hc_rw_eval.specs.Conditions.{or_groups}
use Rattle.hc_rw_eval.specs.Lists.{skipped_chain, stops_run}
use Rattle.hc_rw_eval.specs.Substitutions.{redirects, status_of, stops}
use Rattle.hc_rw_expand.specs.Contexts.{Engine}
use Rattle.hc_ways.specs.Kept.{Held, first_match}
unfoldable use Rattle.hc_plan.specs.Plan.{and_then as joined_plan}
use Rattle.hc_abs_rw.specs.Attempts.{ended_with, held_plan, subject_plan, tested_plan}
unfoldable use Rattle.hc_abs_rw.specs.Attempts.{attempt_plan, pattern_plan}
use Rattle.hc_abs_rw.specs.Conditions.{Tried, decided, find, test_by, unless_held, while_held}
unfoldable use Rattle.hc_abs_rw.specs.Conditions.{cond_plan, conds_plan, group_plan}
use Rattle.hc_abs_rw.specs.Frames.{Frame}
use Rattle.hc_abs_rw.specs.Lists.{Listed, SoFar, Stop, after, behind_plan, end_stored, flags_plan, setting_of}
use Rattle.hc_abs_rw.specs.Lists.{stopped as stopped_plan, unless_answered, over, answered}
unfoldable use Rattle.hc_abs_rw.specs.Lists.{list_plan}
use Rattle.hc_abs_rw.specs.declared.apply.Setting.{Setting}
use Rattle.hc_abs_rw.specs.Substitutions.{Made, Then, answered_plan, front_plan, left_plan, own_plan, path_plan}
use Rattle.hc_abs_rw.specs.Substitutions.{placed_plan, query_plan, query_stored, relative_plan, scheme_plan, sent_plan}
use Rattle.hc_abs_rw.specs.Substitutions.{set_by, slash_plan, substituted_plan, url_plan, info_stored}
unfoldable use Rattle.hc_abs_rw.specs.Substitutions.{applied_plan, sets_plan, split_plan, text_plan}
use Rattle.hc_abs_rw.specs.Substitutions.{goes_on as on, status, redirect, outside}
unfoldable use Rattle.hc_abs_rw.specs.Templates.{expand}
use Rattle.hc_abs_rw.specs.Templates.{looks_from, open_look}

-- ---- plans that store no file name

abbrev AreOthers : List (Slot × Stored) → Type 0
AreOthers [] = Unit {0}
AreOthers (one ∷ more) = (same_slot one.0 Slot.Name ≡ false) × AreOthers more

-- Nothing is stored as file name, and each end is so.
abbrev Leaves : {A : Type 0} → (A → Type 0) → Plan A → Type 0
Leaves P (done end) = P end
Leaves P (take_up key items plan) = Leaves P plan
Leaves P (test key set plan) = (is : Bool) → Leaves P (plan is)
Leaves P (sort key sets plan) = (at : ℕ) → Leaves P (plan at)
Leaves P (look_for to pattern key plan) = (is : Bool) → Leaves P (plan is)
Leaves P (shorten key count plan) = Leaves P plan
Leaves P (tidy key set image plan) = Leaves P plan
Leaves P (make key image one other plan) = Leaves P plan
Leaves P (look_up to at table key fallback plan) = Leaves P plan
Leaves P (bound key set plan) = Leaves P plan
Leaves P (store stored plan) = AreOthers stored × Leaves P plan
Leaves P (rename sources looked kept plan) = ⊥
Leaves P (let_go key plan) = Leaves P plan
Leaves P (choose question plan) = (is : Bool) → Leaves P (plan is)
Leaves P (compare one other asked plan) = (is : Bool) → Leaves P (plan is)
Leaves P leave_out = Unit {0}

name_stays : (stored : List (Slot × Stored)) → AreOthers stored → (s : State) (slots : Slot → List ℕ)
    → slots Slot.Name ≡ stored_in s stored slots Slot.Name
name_stays [] others s slots = refl
name_stays (one ∷ more) others s slots =
    ap (λ is. if is then stored_text s one.1 else slots Slot.Name) (sym others.0)
    ∙ name_stays more others.1 s (put one.0 (stored_text s one.1) slots)

-- At the end the file name is this one.
abbrev pub After : {A : Type 0} → (A → Type 0) → List ℕ → PlanRun A → Type 0
After P name (ended later end) = (later.slots Slot.Name ≡ name) × P end
After P name too_long = Unit {0}
After P name left_out = Unit {0}

module _ {A : Type 0} (P : A → Type 0) where
  found_after : (name : List ℕ) (own : Option Held) (one : Held → PlanRun A) (other : PlanRun A)
      → ((groups : Held) → After P name (one groups)) → After P name other
      → After P name (elim own [ Some groups ↦ one groups | None ↦ other ])
  found_after name (Some groups) one other first rest = first groups
  found_after name None one other first rest = rest

  long_after : (name : List ℕ) (is : Bool) (one : PlanRun A) → After P name one
      → After P name (elim is [ true ↦ too_long | false ↦ one ])
  long_after name true one is = tt
  long_after name false one is = is

  leaves_run : (plan : Plan A) → Leaves P plan → (s : State) → After P (s.slots Slot.Name) (plan_run plan s)
  unfolding plan_run
  leaves_run (done end) is s = (refl, is)
  leaves_run (take_up key items plan) is s = leaves_run plan is _
  leaves_run (test key set plan) is s = leaves_run (plan (set (pick s.texts key))) (is (set (pick s.texts key))) s
  leaves_run (sort key sets plan) is s =
      leaves_run (plan (place_in 0 sets (pick s.texts key))) (is (place_in 0 sets (pick s.texts key))) s
  leaves_run (look_for to pattern key plan) is s =
      let own = pick s.texts key in
      found_after (s.slots Slot.Name) (first_match own pattern)
      (λ groups. plan_run (plan true) (with_groups s to own groups)) (plan_run (plan false) s)
      (λ groups. leaves_run (plan true) (is true) (with_groups s to own groups)) (leaves_run (plan false) (is false) s)
  leaves_run (shorten key count plan) is s = leaves_run plan is _
  leaves_run (tidy key set image plan) is s = leaves_run plan is _
  leaves_run (make key image one other plan) is s = leaves_run plan is _
  leaves_run (look_up to at table key fallback plan) is s = leaves_run plan is _
  leaves_run (bound key set plan) is s =
      long_after (s.slots Slot.Name) (set (pick s.texts key)) (plan_run plan s) (leaves_run plan is s)
  leaves_run (store stored plan) is s =
      subst (λ name. After P name (plan_run (store stored plan) s)) (sym (name_stays stored is.0 s s.slots))
      (leaves_run plan is.1 _)
  leaves_run (rename sources looked kept plan) is s = absurd is
  leaves_run (let_go key plan) is s = leaves_run plan is _
  leaves_run (choose question plan) is s = leaves_run (plan (answer question s)) (is (answer question s)) s
  leaves_run (compare one other asked plan) is s =
      let same = compares asked (pick s.texts one) (pick s.texts other) in
      leaves_run (plan same) (is same) s
  leaves_run leave_out is s = tt

  either : (is : Bool) (one other : Plan A) → Leaves P one → Leaves P other
      → Leaves P (elim is [ true ↦ one | false ↦ other ])
  either true one other first rest = first
  either false one other first rest = rest

leaves_then : {A B : Type 0} (P : A → Type 0) (Q : B → Type 0) (plan : Plan A) (next : A → Plan B) → Leaves P plan
    → ((end : A) → P end → Leaves Q (next end)) → Leaves Q (and_then plan next)
unfolding joined_plan
leaves_then P Q (done end) next is each = each end is
leaves_then P Q (take_up key items plan) next is each = leaves_then P Q plan next is each
leaves_then P Q (test key set plan) next is each = λ own. leaves_then P Q (plan own) next (is own) each
leaves_then P Q (sort key sets plan) next is each = λ own. leaves_then P Q (plan own) next (is own) each
leaves_then P Q (look_for to pattern key plan) next is each = λ own. leaves_then P Q (plan own) next (is own) each
leaves_then P Q (shorten key count plan) next is each = leaves_then P Q plan next is each
leaves_then P Q (tidy key set image plan) next is each = leaves_then P Q plan next is each
leaves_then P Q (make key image one other plan) next is each = leaves_then P Q plan next is each
leaves_then P Q (look_up to at table key fallback plan) next is each = leaves_then P Q plan next is each
leaves_then P Q (bound key set plan) next is each = leaves_then P Q plan next is each
leaves_then P Q (store stored plan) next is each = (is.0, leaves_then P Q plan next is.1 each)
leaves_then P Q (rename sources looked kept plan) next is each = absurd is
leaves_then P Q (let_go key plan) next is each = leaves_then P Q plan next is each
leaves_then P Q (choose question plan) next is each = λ own. leaves_then P Q (plan own) next (is own) each
leaves_then P Q (compare one other asked plan) next is each = λ own. leaves_then P Q (plan own) next (is own) each
leaves_then P Q leave_out next is each = tt

abbrev Any : {A : Type 0} → A → Type 0
Any end = Unit {0}

-- An answer is none that goes on.
abbrev pub IsStop : Stop → Type 0
IsStop (answered on) = ⊥
IsStop other = Unit {0}

abbrev pub Stops : Listed → Type 0
Stops listed = IsStop listed.stop

-- ---- a rule

module _ (frame : Frame) where
  module _ {A : Type 0} (P : A → Type 0) where
    looked_by : (at : ℕ) (own : Piece-F Piece) (plan : Plan A) → Leaves P plan → Leaves P (open_look frame at own plan)
    looked_by at (Lookup name key fallback) plan is = is
    looked_by at other plan is = is

    looks_leave : (at : ℕ) (pieces : List Piece) (plan : Plan A) → Leaves P plan
        → Leaves P (looks_from frame at pieces plan)
    looks_leave at [] plan is = is
    looks_leave at (piece ∷ pieces) plan is =
        looked_by at (out-Piece piece) (looks_from frame (suc at) pieces plan) (looks_leave (suc at) pieces plan is)

    expand_leaves : (pieces : List Piece) (plan : Plan A) → Leaves P plan → Leaves P (expand frame pieces plan)
    unfolding expand
    expand_leaves pieces plan is = looks_leave 0 pieces _ is

    find_leaves : (to : Key) (pattern : Pattern) (negated : Bool) (plan : Bool → Plan A)
        → ((is : Bool) → Leaves P (plan is)) → Leaves P (find to pattern negated plan)
    find_leaves to pattern true plan is = is
    find_leaves to pattern false plan is = is

    test_leaves : (kind : CondKind) (negated nocase : Bool) (plan : Bool → Plan A)
        → ((is : Bool) → Leaves P (plan is)) → Leaves P (test_by frame kind negated nocase plan)
    test_leaves (Search pattern) negated nocase plan is = find_leaves _ pattern negated plan is
    test_leaves (Equals wanted) negated nocase plan is = is
    test_leaves IsFile negated nocase plan is = is
    test_leaves IsDir negated nocase plan is = is

    subject_leaves : (engine : Option Engine) (plan : Plan A) → Leaves P plan → Leaves P (subject_plan engine plan)
    subject_leaves None plan is = is
    subject_leaves (Some engine) plan is = λ within. either P within _ plan is is

    sets_leave : (sets : List EnvSet) (plan : Plan A) → Leaves P plan → Leaves P (sets_plan frame sets plan)
    unfolding sets_plan
    sets_leave [] plan is = is
    sets_leave (set ∷ sets) plan is = by set.value (sets_leave sets plan is)
      where
        by : (value : Option (List Piece)) → Leaves P (sets_plan frame sets plan)
            → Leaves P (set_by frame set.name value (sets_plan frame sets plan))
        by None is = ((refl, tt), is)
        by (Some value) is = expand_leaves value _ ((refl, tt), is)

  -- ---- conditions

  cond_leaves : (so_far : List Decision) (cond : Cond) → Leaves Any (cond_plan frame so_far cond)
  unfolding cond_plan
  cond_leaves so_far cond =
      expand_leaves Any cond.test (test_by frame cond.kind cond.negated cond.nocase (decided cond so_far))
      (test_leaves Any cond.kind cond.negated cond.nocase (decided cond so_far) (λ is. (tt, tt)))

  group_leaves : (so_far : List Decision) (group : List Cond) → Leaves Any (group_plan frame so_far group)
  unfolding group_plan
  group_leaves so_far [] = tt
  group_leaves so_far (cond ∷ conds) =
      leaves_then Any Any (cond_plan frame so_far cond) (unless_held (λ so_far. group_plan frame so_far conds))
      (cond_leaves so_far cond)
      (λ tried is. either Any tried.holds (done tried) (group_plan frame tried.decisions conds) tt
      (group_leaves tried.decisions conds))

  conds_leave : (so_far : List Decision) (groups : List (List Cond)) → Leaves Any (conds_plan frame so_far groups)
  unfolding conds_plan
  conds_leave so_far [] = tt
  conds_leave so_far (group ∷ groups) =
      leaves_then Any Any (group_plan frame so_far group) (while_held (λ so_far. conds_plan frame so_far groups))
      (group_leaves so_far group)
      (λ tried is. either Any tried.holds (conds_plan frame tried.decisions groups) (done tried)
      (conds_leave tried.decisions groups) tt)

  -- ---- the substitution

  module _ (flags : Flags) (setting : Setting) where
    others_with : (replaced : Bool) (info : List (Slot × Stored)) → AreOthers info
        → AreOthers (query_stored replaced ++ info)
    others_with false info is = is
    others_with true info is = (refl, is)

    info_others : (discard : Bool) → AreOthers (info_stored discard)
    info_others true = (refl, tt)
    info_others false = tt

    left_leaves : (replaced : Bool) → Leaves Any (left_plan flags replaced)
    left_leaves replaced =
        ((refl, others_with replaced (info_stored flags.discard) (info_others flags.discard)), tt)

    query_others : (replaced : Bool) → AreOthers (query_stored replaced)
    query_others false = tt
    query_others true = (refl, tt)

    sent_leaves : (replaced : Bool) (front : List ℕ) → Leaves Any (sent_plan flags setting replaced front)
    sent_leaves replaced front =
        either Any (setting.followed && not (stops flags)) _ _ tt ((refl, query_others replaced), tt)

    module _ (replaced : Bool) where
      own_leaves : Leaves Any (own_plan frame flags setting replaced)
      own_leaves = λ own. either Any own _ _ (left_leaves replaced) (sent_leaves replaced [])

      url_leaves : Leaves Any (url_plan frame flags setting replaced)
      url_leaves = either Any (redirects flags) _ _ (sent_leaves replaced []) own_leaves

      path_leaves : (engine : Option Engine) (plan : Plan Made) → Leaves Any plan
          → Leaves Any (path_plan frame flags setting replaced engine plan)
      path_leaves None plan is = is
      path_leaves (Some engine) plan is = is

      placed_leaves : Leaves Any (placed_plan frame flags setting replaced)
      placed_leaves =
          either Any (redirects flags) _ _ (path_leaves frame.engine _ (sent_leaves replaced _)) (left_leaves replaced)

      front_leaves : (front : Result (List ℕ) Reason) → Leaves Any (front_plan frame flags setting replaced front)
      front_leaves (Err reason) = tt
      front_leaves (Ok []) = placed_leaves
      front_leaves (Ok (b ∷ bs)) = placed_leaves

      relative_leaves : Leaves Any (relative_plan frame flags setting replaced)
      relative_leaves = either Any (redirects flags || is_some frame.engine) (slash_plan frame flags setting replaced)
          (placed_plan frame flags setting replaced) (λ relative. front_leaves _) placed_leaves

      scheme_leaves : Leaves Any (scheme_plan frame flags setting replaced)
      scheme_leaves = λ other. either Any other _ _ tt relative_leaves

      text_leaves : Leaves Any (text_plan frame flags setting replaced)
      unfolding text_plan
      text_leaves = λ url. either Any url _ _ url_leaves scheme_leaves

    query_leaves : (plan : Plan Made) → Leaves Any plan → Leaves Any (query_plan flags plan)
    query_leaves plan is = either Any (flags.qsa && not flags.qsd) _ plan is is

    split_leaves : Leaves Any (split_plan frame flags setting)
    unfolding split_plan
    split_leaves = λ has. either Any has _ _ (query_leaves _ (text_leaves true)) (text_leaves flags.qsd)

  module _ (rule : Rule) (setting : Setting) where
    substituted_leaves : (template : Option (List Piece))
        → Leaves Any (substituted_plan frame rule.flags setting template)
    substituted_leaves None = tt
    substituted_leaves (Some template) = expand_leaves Any template _ (split_leaves rule.flags setting)

    answered_leaves : (number : Option ℕ) → Leaves Any (answered_plan frame rule setting number)
    answered_leaves (Some number) = tt
    answered_leaves None = substituted_leaves rule.subst

    applied_leaves : Leaves Any (applied_plan frame rule setting)
    unfolding applied_plan
    applied_leaves = sets_leave Any rule.flags.sets _ (answered_leaves (status_of rule.flags))

    tested_leaves : (tried : Tried) → Leaves Any (tested_plan frame rule setting tried)
    tested_leaves tried =
        either Any tried.holds _ _
        (leaves_then Any Any (applied_plan frame rule setting) (ended_with tried.decisions rule true) applied_leaves
        (λ made is. (tt, tt)))
        (tt, tt)

    held_leaves : (so_far : List Decision) (holds : Bool) → Leaves Any (held_plan frame rule setting so_far holds)
    held_leaves so_far holds =
        either Any holds _ _
        (leaves_then Any Any (conds_plan frame so_far (or_groups rule.conds)) (tested_plan frame rule setting)
        (conds_leave so_far (or_groups rule.conds)) (λ tried is. tested_leaves tried))
        (tt, tt)

    pattern_leaves : Leaves Any (pattern_plan frame rule)
    unfolding pattern_plan
    pattern_leaves = subject_leaves Any frame.engine _ (find_leaves Any _ rule.pat rule.negated _ (λ is. (tt, tt)))

    attempt_leaves : (so_far : List Decision) → Leaves Any (attempt_plan frame rule setting so_far)
    unfolding attempt_plan
    attempt_leaves so_far =
        leaves_then Any Any (pattern_plan frame rule) (held_plan frame rule setting so_far) pattern_leaves
        (λ holds is. held_leaves so_far holds)

  -- ---- the list

  end_leaves : (is passed : Bool) (left : SoFar) → Leaves Stops (end_stored is (stopped_plan left (over passed)))
  end_leaves true passed left = ((refl, tt), tt)
  end_leaves false passed left = tt

  unless_leaves : (left : SoFar) (next : Then) (plan : Plan Listed) → Leaves Stops plan
      → Leaves Stops (unless_answered left next plan)
  unless_leaves left on plan is = is
  unless_leaves left (status number) plan is = tt
  unless_leaves left (redirect number front noescape) plan is = tt
  unless_leaves left (outside reason) plan is = tt

  list_leaves : (skipped : ℕ) (rules : List Rule) (so_far : SoFar) → Leaves Stops (list_plan frame skipped rules so_far)
  unfolding list_plan
  list_leaves skipped [] so_far = tt
  list_leaves (suc skipped) (rule ∷ rules) so_far = list_leaves skipped rules so_far
  list_leaves zero (rule ∷ rules) so_far =
      leaves_then Any Stops (attempt_plan frame rule (setting_of rules) so_far.decisions)
      (behind_plan (λ skipped so_far. list_plan frame skipped rules so_far) rule rules so_far)
      (attempt_leaves rule (setting_of rules) so_far.decisions)
      (λ attempted is.
      let left = after so_far attempted in
      unless_leaves left attempted.made.next _
      (either Stops attempted.matched
      (flags_plan (λ skipped so_far. list_plan frame skipped rules so_far) rule left)
      (list_plan frame (skipped_chain rule rules) rules left)
      (either Stops (stops_run rule.flags) _ _ (end_leaves rule.flags.end rule.flags.pass left)
      (either Stops rule.flags.next _ _ tt (list_leaves rule.flags.skip rules left)))
      (list_leaves (skipped_chain rule rules) rules left)))

  pub list_keeps : (skipped : ℕ) (rules : List Rule) (so_far : SoFar) (s : State)
      → After Stops (s.slots Slot.Name) (plan_run (list_plan frame skipped rules so_far) s)
  list_keeps skipped rules so_far s =
      leaves_run Stops (list_plan frame skipped rules so_far) (list_leaves skipped rules so_far) s
