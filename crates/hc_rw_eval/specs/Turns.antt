-- A round, rule by rule, as the code goes through it: what a rule leaves is a value, and not what follows it.
use Rattle.std.specs.Prelude.{ℕ, List, false, nat_le, if◌then◌else◌, Option, None}
use Rattle.hc_model.specs.declared.event.Event.TheVariants as event
use Rattle.hc_model.specs.declared.outcome.LimitKind.TheVariants.{Rounds}
use Rattle.hc_model.specs.declared.outcome.Outcome.{Outcome}
use Rattle.hc_model.specs.declared.outcome.Outcome.TheVariants.{Limit}
use Rattle.hc_model.specs.declared.rewrite.Rule.{Rule}
use Rattle.hc_rw_eval.specs.Attempts.{groups_of, pattern_held, rule_spot}
use Rattle.hc_rw_eval.specs.Conditions.{counted, is_found}
use Rattle.hc_rw_eval.specs.Lists.{is_followed, next_by, over, skipped_chain, stops_run, with_end}
use Rattle.hc_rw_eval.specs.declared.attempt.Attempt.{Attempt}
use Rattle.hc_rw_eval.specs.declared.attempt.Looked.{Looked}
use Rattle.hc_rw_eval.specs.declared.attempt.Looked.TheVariants.{Failed, Held}
use Rattle.hc_rw_eval.specs.declared.attempt.Rewritten.{Rewritten}
use Rattle.hc_rw_eval.specs.declared.round.Turn.{Turn}
use Rattle.hc_rw_eval.specs.declared.round.Turn.TheVariants.{Ended, Further}
use Rattle.hc_rw_eval.specs.declared.run.Round.TheVariants.{Again}
use Rattle.hc_rw_expand.specs.Contexts.{Context}
use Rattle.hc_rw_expand.specs.Lookups.{Looks}
use Rattle.hc_rw_expand.specs.declared.groups.Matched.{Matched}
use Rattle.hc_steps.specs.Step.{Step, ends, leaves, told, ◌>>=◌}

-- What the pattern of a rule found.
unfoldable pub looked : Rule → Option Matched → Step Outcome Looked
looked rule found =
    if counted rule.negated (is_found found) then leaves (Held (groups_of rule.negated found))
    else told (event.Rule (rule_spot rule) false) Failed

abbrev pub with_groups : Option Matched → Rewritten → Rewritten
with_groups groups before = record before { state = record before.state { groups = groups; cond_groups = None } }

unfoldable pub turned_match : Rule → ℕ → Rewritten → Step Outcome Turn
turned_match rule round left =
    if stops_run rule.flags then leaves (Ended (over rule.flags.pass (with_end rule.flags.end left)))
    else (if rule.flags.next
    then (if nat_le rule.flags.rounds round then ends (Limit Rounds) else leaves (Ended (Again (next_by rule left))))
    else leaves (Further rule.flags.skip left))

unfoldable pub turned : Rule → List Rule → ℕ → Attempt → Step Outcome Turn
turned rule rules round attempt =
    if attempt.matched then turned_match rule round attempt.left
    else leaves (Further (skipped_chain rule rules) attempt.left)

unfoldable pub rule_held : Context → Looks → Rule → List Rule → ℕ → Rewritten → Step Outcome Turn
rule_held context looks rule rules round before =
    pattern_held context looks rule (is_followed rules) before >>= turned rule rules round
