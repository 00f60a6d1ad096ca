-- No name stands twice among the variables behind a list of rules, where none does before it.
use Rattle.hc_abs_segments.proofs.Common.{◌≡◌, ◌∙◌, ℕ, zero, suc, List, [], ◌∷◌, Bool, true, false, ◌||◌, ◌&&◌, not}
use Rattle.hc_abs_segments.proofs.Common.{if◌then◌else◌, Option, Some, None, refl, sym, ap, subst, true≢false}
use Rattle.hc_abs_segments.proofs.Common.{RwState, Way, goes_on, run, Shown, Step, leaves, ends, say, look}
use Rattle.hc_abs_segments.proofs.Common.{◌>>=◌}
use Rattle.std.specs.Prelude.{Result, Ok, Err, nat_le}
use Rattle.std.specs.Str.{bytes_eq}
use Rattle.hc_model.specs.declared.outcome.Outcome.TheVariants as outcome
use Rattle.hc_model.specs.declared.outcome.Reason.{Reason}
use Rattle.hc_model.specs.declared.outcome.Reason.TheVariants.{Scheme}
use Rattle.hc_model.specs.declared.rewrite.Cond.{Cond}
use Rattle.hc_model.specs.declared.rewrite.EnvSet.{EnvSet}
use Rattle.hc_model.specs.declared.rewrite.Flags.{Flags}
use Rattle.hc_model.specs.declared.rewrite.Rule.{Rule}
use Rattle.hc_model.specs.declared.template.Piece.{Piece}
use Rattle.hc_plan.proofs.Slots.{own_bytes, same_bytes}
unfoldable use Rattle.hc_rw_eval.specs.Attempts.{attempt, if_tested, matched, not_matched, pattern_held, pattern_tried}
use Rattle.hc_rw_eval.specs.Attempts.{found_in, with_found}
unfoldable use Rattle.hc_rw_eval.specs.Conditions.{cond_told, cond_tried, conds_tried, group_tried, text_tested}
unfoldable use Rattle.hc_rw_eval.specs.Conditions.{unless_held, while_held}
use Rattle.hc_rw_eval.specs.Conditions.{counted, is_found, or_groups, seen_by, tested_so_far}
unfoldable use Rattle.hc_rw_eval.specs.Lists.{begun_again, behind_attempt, behind_match, from_place}
use Rattle.hc_rw_eval.specs.Lists.{is_followed, skipped_chain, stops_run, with_end}
unfoldable use Rattle.hc_rw_eval.specs.Substitutions.{applied, front_placed, path_placed, sent}
unfoldable use Rattle.hc_rw_eval.specs.Substitutions.{set_by, set_to, substituted}
unfoldable use Rattle.hc_rw_eval.specs.Substitutions.{text_made, text_placed, told_text, unless_answered, unless_long}
unfoldable use Rattle.hc_rw_eval.specs.Substitutions.{url_placed, variables_set, with_set}
use Rattle.hc_rw_eval.specs.Substitutions.{is_long, redirects, status_of, stops, with_front}
use Rattle.hc_rw_eval.specs.Substitutions.{with_state, with_text, status_sent}
use Rattle.hc_rw_eval.specs.Locations.{has_scheme}
use Rattle.hc_rw_eval.specs.declared.attempt.Attempt.{Attempt}
use Rattle.hc_rw_eval.specs.declared.attempt.Rewritten.{Rewritten}
use Rattle.hc_rw_eval.specs.declared.conditions.Tested.{Tested}
use Rattle.hc_rw_eval.specs.declared.run.Round.{Round}
use Rattle.hc_rw_eval.specs.declared.run.Round.TheVariants.{Again, Over}
use Rattle.hc_rw_expand.specs.Contexts.{Context}
use Rattle.hc_rw_expand.specs.Lookups.{Looks, expanded}
use Rattle.hc_rw_expand.specs.Values.{filling_in}
use Rattle.hc_rw_expand.specs.declared.groups.Matched.{Matched}
use Rattle.hc_steps.specs.Step.{Shows, in_order}
use Rattle.hc_target.specs.Urls.{is_url}
pub use Rattle.hc_abs_pass.proofs.Restarting.{none_once, once_more}
pub use Rattle.hc_abs_pass.specs.Ends.{AreOnce}

-- ---- names

differ : (one other : List ℕ) → (one ≡ other → ⊥) → bytes_eq one other ≡ false
differ one other apart = by (bytes_eq one other) refl
  where
    by : (is : Bool) → bytes_eq one other ≡ is → is ≡ false
    by true is = absurd (apart (same_bytes one other is))
    by false is = refl

turned : (one other : List ℕ) → bytes_eq one other ≡ false → bytes_eq other one ≡ false
turned one other is =
    differ other one (λ same. true≢false (sym (own_bytes one) ∙ ap (bytes_eq one) (sym same) ∙ is))

pub same_turned : (one other : List ℕ) → bytes_eq one other ≡ bytes_eq other one
same_turned one other = by (bytes_eq one other) refl
  where
    by : (is : Bool) → bytes_eq one other ≡ is → is ≡ bytes_eq other one
    by true is = sym (ap (bytes_eq other) (same_bytes one other is) ∙ own_bytes other)
    by false is = sym (turned one other is)

-- ---- what steps leave

-- Whatever is looked at, what is left is so.
abbrev pub Gives : {E A : Type 0} → (A → Type 0) → Step E A → Type 0
Gives P (leaves left) = P left
Gives P (ends end) = Unit {0}
Gives P (say event rest) = Gives P rest
Gives P (look read rest) = (shown : Shows read) → Gives P (rest shown)

pub gives_run : {E A : Type 0} (P : A → Type 0) (step : Step E A) → Gives P step → (shown : Shown) (left : A)
    → (run step shown).way ≡ goes_on left → P left
unfolding run
gives_run {E} {A} P (leaves own) is shown left same = subst P (inside own left same) is
  where
    inside : (one other : A) → ◌≡◌ {A = Way E A} (goes_on one) (goes_on other) → one ≡ other
    inside one other same = let e = same in cc
gives_run P (ends end) is shown left same = absurd (let none = same in cc)
gives_run P (say event rest) is shown left same = gives_run P rest is shown left same
gives_run P (look read rest) is shown left same =
    gives_run P (rest (shown read)) (is (shown read)) shown left same

pub gives_then : {E A B : Type 0} (P : A → Type 0) (Q : B → Type 0) (step : Step E A) (next : A → Step E B)
    → Gives P step → ((left : A) → P left → Gives Q (next left)) → Gives Q (step >>= next)
unfolding ◌>>=◌
gives_then P Q (leaves left) next is each = each left is
gives_then P Q (ends end) next is each = tt
gives_then P Q (say event rest) next is each = gives_then P Q rest next is each
gives_then P Q (look read rest) next is each = λ shown. gives_then P Q (rest shown) next (is shown) each

abbrev pub Any : {A : Type 0} → A → Type 0
Any left = Unit {0}

pub gives_any : {E A : Type 0} (step : Step E A) → Gives Any step
gives_any (leaves left) = tt
gives_any (ends end) = tt
gives_any (say event rest) = gives_any rest
gives_any (look read rest) = λ shown. gives_any (rest shown)

pub gives_either : {E A : Type 0} (P : A → Type 0) (is : Bool) (one other : Step E A) → Gives P one → Gives P other
    → Gives P (if is then one else other)
gives_either P true one other first rest = first
gives_either P false one other first rest = rest

gives_each : {E A B : Type 0} (P : B → Type 0) (step : B → A → Step E B)
    → ((so_far : B) (item : A) → P so_far → Gives P (step so_far item))
    → (items : List A) (so_far : B) → P so_far → Gives P (in_order step so_far items)
unfolding ◌>>=◌
gives_each P step each [] so_far is = is
gives_each P step each (item ∷ items) so_far is =
    gives_then P P (step so_far item) (λ so_far. in_order step so_far items) (each so_far item is)
    (λ so_far is. gives_each P step each items so_far is)

-- ---- rules

abbrev StateOnce : RwState → Type 0
StateOnce state = AreOnce state.vars

abbrev TestedOnce : Tested → Type 0
TestedOnce tested = AreOnce tested.state.vars

abbrev pub LeftOnce : Rewritten → Type 0
LeftOnce left = AreOnce left.state.vars

abbrev AttemptOnce : Attempt → Type 0
AttemptOnce attempt = AreOnce attempt.left.state.vars

abbrev pub RoundOnce : Round → Type 0
RoundOnce (Over finished) = AreOnce finished.left.state.vars
RoundOnce (Again next) = AreOnce next.left.state.vars

module _ (context : Context) (looks : Looks) where
  -- ---- variables

  set_once : (state : RwState) (set : EnvSet) → StateOnce state → Gives StateOnce (with_set context looks state set)
  unfolding with_set set_by set_to
  set_once state set once = by set.value
    where
      by : (value : Option (List Piece)) → Gives StateOnce (set_by context looks state set.name value)
      by None = once_more set.name [] state.vars once
      by (Some value) =
          gives_then Any StateOnce (expanded looks (filling_in context state) value) (set_to state set.name)
          (gives_any (expanded looks (filling_in context state) value))
          (λ text any. gives_either StateOnce (is_long text) _ _ tt (once_more set.name text state.vars once))

  variables_once : (sets : List EnvSet) (state : RwState) → StateOnce state
      → Gives StateOnce (variables_set context looks state sets)
  unfolding variables_set
  variables_once sets state once = gives_each StateOnce (with_set context looks) set_once sets state once

  -- ---- conditions

  cond_once : (state : RwState) (cond : Cond) → StateOnce state → Gives TestedOnce (cond_tried context looks state cond)
  unfolding cond_tried text_tested cond_told
  cond_once state cond once =
      gives_then Any TestedOnce (expanded looks (filling_in context state) cond.test) (text_tested cond state)
      (gives_any (expanded looks (filling_in context state) cond.test))
      (λ text any.
      gives_then Any TestedOnce (seen_by cond.kind cond.nocase text) _ (gives_any (seen_by cond.kind cond.nocase text))
      (λ seen any. once))

  group_once : (group : List Cond) (state : RwState) → StateOnce state
      → Gives TestedOnce (group_tried context looks state group)
  unfolding group_tried unless_held
  group_once group state once =
      gives_each TestedOnce (unless_held context looks)
      (λ tested cond once.
      gives_either TestedOnce tested.holds (leaves tested) (cond_tried context looks tested.state cond) once
      (cond_once tested.state cond once)) group (tested_so_far false state) once

  conds_once : (conds : List Cond) (state : RwState) → StateOnce state
      → Gives TestedOnce (conds_tried context looks state conds)
  unfolding conds_tried while_held
  conds_once conds state once =
      gives_each TestedOnce (while_held context looks)
      (λ tested group once.
      gives_either TestedOnce tested.holds (group_tried context looks tested.state group) (leaves tested)
      (group_once group tested.state once) once) (or_groups conds) (tested_so_far true state) once

  -- ---- the substitution

  module _ (flags : Flags) (followed : Bool) where
    sent_once : (location : List ℕ) → Gives LeftOnce (sent flags followed location)
    unfolding sent
    sent_once location =
        gives_either LeftOnce (followed && not (stops flags)) (ends (outcome.Outside Scheme))
        (ends (outcome.Redirect (status_sent flags) location)) tt tt

    path_once : (state : RwState) → StateOnce state → Gives LeftOnce (path_placed context flags followed state)
    unfolding path_placed told_text
    path_once state once =
        gives_either LeftOnce (redirects flags) _ (told_text state) (sent_once _) once

    front_once : (state : RwState) → StateOnce state → (front : Result (List ℕ) Reason)
        → Gives LeftOnce (front_placed context flags followed state front)
    unfolding front_placed
    front_once state once (Err reason) = tt
    front_once state once (Ok front) = path_once (with_front front state) once

    url_once : (state : RwState) → StateOnce state → (own : Option (List ℕ))
        → Gives LeftOnce (url_placed context flags followed state own)
    unfolding url_placed told_text
    url_once state once None = sent_once _
    url_once state once (Some path) = once

    text_once : (state : RwState) → StateOnce state → Gives LeftOnce (text_placed context flags followed state)
    unfolding text_placed
    text_once state once =
        gives_either LeftOnce (is_url state.text) _ _ (url_once state once _)
        (gives_either LeftOnce (has_scheme state.text) _ _ tt (front_once state once _))

    long_once : (state : RwState) → StateOnce state → Gives LeftOnce (unless_long context flags followed state)
    unfolding unless_long
    long_once state once =
        gives_either LeftOnce (is_long state.text || is_long state.query) _ _ tt (text_once state once)

    substituted_once : (before : Rewritten) → LeftOnce before → (template : Option (List Piece))
        → Gives LeftOnce (substituted context looks flags followed before template)
    unfolding substituted text_made
    substituted_once before once None = once
    substituted_once before once (Some template) =
        gives_then Any LeftOnce (expanded looks (filling_in context before.state) template)
        (text_made context flags followed before.state)
        (gives_any (expanded looks (filling_in context before.state) template))
        (λ text any. long_once (with_text flags before.state text) once)

  -- ---- a rule

  module _ (rule : Rule) (followed : Bool) where
    answered_once : (before : Rewritten) → LeftOnce before → (number : Option ℕ)
        → Gives LeftOnce (unless_answered context looks rule followed before number)
    unfolding unless_answered
    answered_once before once None = substituted_once rule.flags followed before once rule.subst
    answered_once before once (Some number) = tt

    matched_once : (before : Rewritten) → LeftOnce before
        → Gives AttemptOnce (matched context looks rule followed before)
    unfolding matched applied
    matched_once before once =
        gives_then LeftOnce AttemptOnce (applied context looks rule followed before) _
        (gives_then StateOnce LeftOnce (variables_set context looks before.state rule.flags.sets) _
        (variables_once rule.flags.sets before.state once)
        (λ state once. answered_once (with_state before state) once (status_of rule.flags)))
        (λ left once. once)

    tested_once : (before : Rewritten) (tested : Tested) → TestedOnce tested
        → Gives AttemptOnce (if_tested context looks rule followed before tested)
    unfolding if_tested not_matched
    tested_once before tested once =
        gives_either AttemptOnce tested.holds _ (not_matched rule (with_state before tested.state))
        (matched_once (with_state before tested.state) once) once

    found_once : (before : Rewritten) → LeftOnce before → (found : Option Matched)
        → Gives AttemptOnce (pattern_tried context looks rule followed before found)
    unfolding pattern_tried pattern_held not_matched
    found_once before once found =
        let held = with_state before (with_found rule found before.state) in
        gives_either AttemptOnce (counted rule.negated (is_found found)) _ (not_matched rule before)
        (gives_then TestedOnce AttemptOnce (conds_tried context looks held.state rule.conds)
        (if_tested context looks rule followed held) (conds_once rule.conds held.state once)
        (λ tested once. tested_once held tested once)) once

    attempt_once : (before : Rewritten) → LeftOnce before
        → Gives AttemptOnce (attempt context looks rule followed before)
    unfolding attempt
    attempt_once before once = found_once before once (found_in context rule before.state)

  -- ---- the list

  end_once : (is : Bool) (left : Rewritten) → LeftOnce left → LeftOnce (with_end is left)
  end_once true left once = once
  end_once false left once = once

  pub list_once : (round skipped : ℕ) (rules : List Rule) (before : Rewritten) → LeftOnce before
      → Gives RoundOnce (from_place context looks round skipped rules before)
  unfolding from_place behind_attempt behind_match begun_again
  list_once round skipped [] before once = once
  list_once round (suc skipped) (rule ∷ rules) before once = list_once round skipped rules before once
  list_once round zero (rule ∷ rules) before once =
      gives_then AttemptOnce RoundOnce (attempt context looks rule (is_followed rules) before) _
      (attempt_once rule (is_followed rules) before once)
      (λ attempt once.
      gives_either RoundOnce attempt.matched _ _
      (gives_either RoundOnce (stops_run rule.flags) _ _ (end_once rule.flags.end attempt.left once)
      (gives_either RoundOnce rule.flags.next _ _
      (gives_either RoundOnce (nat_le rule.flags.rounds round) _ _ tt once)
      (list_once round rule.flags.skip rules attempt.left once)))
      (list_once round (skipped_chain rule rules) rules attempt.left once))
