-- A round, rule by rule.
use Rattle.hc_rw_eval.proofs.Common.{◌≡◌, ◌∙◌, ℕ, zero, suc, List, [], ◌∷◌, length, drop, Bool}
use Rattle.hc_rw_eval.proofs.Common.{true, false, Option, refl, sym, ap, subst, if◌then◌else◌, Result, Ok, Err}
use Rattle.hc_rw_eval.proofs.Common.{Fault, Outcome, Context, Looks, Logged, Leads, Ran, Run, run, Shown, Step, leaves}
use Rattle.hc_rw_eval.proofs.Common.{ends, say, look, told, ◌>>=◌, leads_end, Rule, Attempt, Rewritten, Round}
use Rattle.std.proofs.lemmas.List.{nil_from_length}
use Rattle.std.specs.Result.{IsErrAnd}
use Rattle.hc_model.specs.declared.event.Event.TheVariants as event
use Rattle.hc_rw_eval.specs.Attempts.{attempt, found_in, groups_of, not_matched, pattern_held, pattern_tried, rule_spot}
use Rattle.hc_rw_eval.specs.Conditions.{counted, is_found}
use Rattle.hc_rw_eval.specs.Lists.{begun_again, behind_attempt, behind_match, from_place, is_followed, over}
use Rattle.hc_rw_eval.specs.Lists.{skipped_chain, stops_run}
use Rattle.hc_rw_eval.specs.Turns.{looked, rule_held, turned, turned_match, with_groups}
use Rattle.hc_rw_eval.specs.declared.attempt.Looked.{Looked}
use Rattle.hc_rw_eval.specs.declared.attempt.Looked.TheVariants.{Failed, Held}
use Rattle.hc_rw_eval.specs.declared.round.Turn.{Turn}
use Rattle.hc_rw_eval.specs.declared.round.Turn.TheVariants.{Ended, Further}
use Rattle.hc_rw_expand.specs.declared.groups.Matched.{Matched}
use Rattle.hc_rw_eval.proofs.Leading.{leads_off, leads_then}

pub assoc : {E A B C : Type 0} (s : Step E A) (f : A → Step E B) (g : B → Step E C)
    → (s >>= f) >>= g ≡ s >>= (λ a. f a >>= g)
unfolding ◌>>=◌
assoc (leaves a) f g = refl
assoc (ends e) f g = refl
assoc (say event s) f g = ap (say event) (assoc s f g)
assoc (look read rest) f g = ap (look read) (λ i shown. assoc (rest shown) f g i)

-- What follows a rule in a round.
onward : (ℕ → Rewritten → Step Outcome Round) → Turn → Step Outcome Round
onward further (Ended round) = leaves round
onward further (Further skipped left) = further skipped left

match_cases : (stop next late : Bool) (over again : Round) (end : Outcome)
    (further : ℕ → Rewritten → Step Outcome Round) (n : ℕ) (left : Rewritten)
    → (if stop then leaves over else (if next then (if late then ends end else leaves again) else further n left))
    ≡ (if stop then leaves (Ended over)
    else (if next then (if late then ends end else leaves (Ended again)) else leaves (Further n left))) >>= onward
    further
unfolding ◌>>=◌ onward
match_cases true next late over again end further n left = refl
match_cases false true true over again end further n left = refl
match_cases false true false over again end further n left = refl
match_cases false false late over again end further n left = refl

module _ (further : ℕ → Rewritten → Step Outcome Round) where
  behind_turned : (rule : Rule) (rules : List Rule) (round : ℕ) (attempt : Attempt)
      → behind_attempt further rule rules round attempt ≡ turned rule rules round attempt >>= onward further
  unfolding behind_attempt behind_match begun_again turned turned_match ◌>>=◌ onward
  behind_turned rule rules round a = by_match a.matched
    where
      by_match : (is : Bool)
          → (if is then behind_match further rule round a.left else further (skipped_chain rule rules) a.left)
          ≡ (if is then turned_match rule round a.left
          else leaves (Further (skipped_chain rule rules) a.left)) >>= onward further
      by_match true = match_cases (stops_run rule.flags) rule.flags.next _ _ _ _ further _ _
      by_match false = refl

module _ (context : Context) (looks : Looks) (round : ℕ) where
  -- What follows the pattern of a rule.
  behind_looked : Rule → List Rule → Rewritten → Looked → Step Outcome Round
  behind_looked rule rules left Failed = from_place context looks round (skipped_chain rule rules) rules left
  behind_looked rule rules left (Held groups) =
      rule_held context looks rule rules round (with_groups groups left) >>= onward
      (λ skipped left. from_place context looks round skipped rules left)

  held_turned : (rule : Rule) (rules : List Rule) (before : Rewritten)
      (further : ℕ → Rewritten → Step Outcome Round)
      → pattern_held context looks rule (is_followed rules) before >>= behind_attempt further rule rules round
      ≡ rule_held context looks rule rules round before >>= onward further
  unfolding rule_held
  held_turned rule rules before further =
      let held = pattern_held context looks rule (is_followed rules) before in
      ap (λ next. held >>= next) (λ i attempt. behind_turned further rule rules round attempt i)
      ∙ sym (assoc held (turned rule rules round) (onward further))

  first_rule : (rule : Rule) (rules : List Rule) (left : Rewritten)
      → from_place context looks round 0 (rule ∷ rules) left ≡ looked rule (found_in context rule left.state) >>=
      behind_looked rule rules left
  unfolding from_place attempt pattern_tried not_matched looked behind_attempt behind_looked ◌>>=◌
  first_rule rule rules left = by_pattern (counted rule.negated (is_found found))
    where
      found : Option Matched
      found = found_in context rule left.state

      further : ℕ → Rewritten → Step Outcome Round
      further skipped left = from_place context looks round skipped rules left

      by_pattern : (holds : Bool)
          → (if holds
          then pattern_held context looks rule (is_followed rules) (with_groups (groups_of rule.negated found) left)
          else not_matched rule left) >>= behind_attempt further rule rules round
          ≡ (if holds then leaves (Held (groups_of rule.negated found))
          else told (event.Rule (rule_spot rule) false) Failed) >>= behind_looked rule rules left
      by_pattern true = held_turned rule rules (with_groups (groups_of rule.negated found) left) further
      by_pattern false = refl

  from_skipped : (skipped : ℕ) (rules : List Rule) (left : Rewritten)
      → from_place context looks round skipped rules left ≡ from_place context looks round 0 (drop skipped rules)
      left
  unfolding from_place
  from_skipped zero rules left = refl
  from_skipped (suc skipped) [] left = refl
  from_skipped (suc skipped) (rule ∷ rules) left = from_skipped skipped rules left

  -- The loop over the rules: what is left from here on leads to the whole.
  module _ (w : Shown) (old : Logged) (whole : Run Outcome Round) where
    abbrev Left : Logged → List Rule → Rewritten → Type 0
    Left now rules left = Leads old whole now (run (from_place context looks round 0 rules left) w)

    pub rules_end : (now : Logged) (rules : List Rule) (left : Rewritten) → Left now rules left → length rules ≡ 0
        → Ran (Ok (over false left)) old now whole
    unfolding from_place
    rules_end now rules left h none =
        leads_end old now whole (over false left) (over false left) w
        (subst (λ rules. Left now rules left) (nil_from_length rules none) h) refl

    skipped_on : (now : Logged) (skipped : ℕ) (behind more : List Rule) (left : Rewritten)
        → more ≡ drop skipped behind
        → Leads old whole now (run (from_place context looks round skipped behind left) w) → Left now more left
    skipped_on now skipped behind more left is h =
        subst (λ step. Leads old whole now (run step w))
        (from_skipped skipped behind left ∙ ap (λ more. from_place context looks round 0 more left) (sym is)) h

    module _ (now next : Logged) (rule : Rule) (rules behind : List Rule) (left : Rewritten)
        (is : rules ≡ rule ∷ behind) (h : Left now rules left) where
      at_first : Leads old whole now
          (run (looked rule (found_in context rule left.state) >>= behind_looked rule behind left) w)
      at_first =
          subst (λ step. Leads old whole now (run step w))
          (ap (λ rules. from_place context looks round 0 rules left) is ∙ first_rule rule behind left) h

      pub look_faults : (fault : Fault Outcome) (answer : Result Round (Fault Outcome))
          → Ran {A = Looked} (Err fault) now next (run (looked rule (found_in context rule left.state)) w)
          → IsErrAnd answer (λ other. other ≡ fault) → Ran answer old next whole
      look_faults fault answer ran is =
          leads_off (looked rule (found_in context rule left.state)) (behind_looked rule behind left) w fault answer old
          now next whole at_first ran is

      looked_on : (found : Looked) → Ran (Ok found) now next (run (looked rule (found_in context rule left.state)) w)
          → Leads old whole next (run (behind_looked rule behind left found) w)
      looked_on found ran = leads_then (looked rule (found_in context rule left.state)) (behind_looked rule behind left)
          w found old now next whole at_first ran

      pub rule_failed : (more : List Rule)
          → Ran (Ok Failed) now next (run (looked rule (found_in context rule left.state)) w)
          → more ≡ drop (skipped_chain rule behind) behind → Left next more left
      unfolding behind_looked
      rule_failed more ran is = skipped_on next (skipped_chain rule behind) behind more left is (looked_on Failed ran)

      module _ (groups : Option Matched) (last : Logged) (before : Rewritten)
          (is_before : before ≡ with_groups groups left)
          (held : Ran (Ok (Held groups)) now next (run (looked rule (found_in context rule left.state)) w)) where
        further : ℕ → Rewritten → Step Outcome Round
        further skipped left = from_place context looks round skipped behind left

        at_turn : Leads old whole next (run (rule_held context looks rule behind round before >>= onward further) w)
        unfolding behind_looked further
        at_turn =
            subst (λ before. Leads old whole next
            (run (rule_held context looks rule behind round before >>= onward further) w)) (sym is_before)
            (looked_on (Held groups) held)

        pub turn_faults : (fault : Fault Outcome) (answer : Result Round (Fault Outcome))
            → Ran {A = Turn} (Err fault) next last (run (rule_held context looks rule behind round before) w)
            → IsErrAnd answer (λ other. other ≡ fault) → Ran answer old last whole
        turn_faults fault answer ran is = leads_off (rule_held context looks rule behind round before) (onward further)
            w fault answer old next last whole at_turn ran is

        turn_on : (left : Turn) → Ran (Ok left) next last (run (rule_held context looks rule behind round before) w)
            → Leads old whole last (run (onward further left) w)
        turn_on left ran = leads_then (rule_held context looks rule behind round before) (onward further) w left old
            next last whole at_turn ran

        pub turn_ended : (left : Round)
            → Ran (Ok (Ended left)) next last (run (rule_held context looks rule behind round before) w)
            → Ran (Ok left) old last whole
        unfolding onward
        turn_ended left ran = leads_end old last whole left left w (turn_on (Ended left) ran) refl

        pub turn_further : (skipped : ℕ) (more : List Rule) (left : Rewritten)
            → Ran (Ok (Further skipped left)) next last (run (rule_held context looks rule behind round before) w)
            → more ≡ drop skipped behind → Left last more left
        unfolding onward further
        turn_further skipped more left ran is =
            skipped_on last skipped behind more left is (turn_on (Further skipped left) ran)
