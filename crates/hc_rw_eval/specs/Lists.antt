-- The run of a list of rules.
-- Apache manual, "Apache mod_rewrite Technical Details", "Ruleset Processing"; "RewriteRule Flags": C, S, N, L, END,
-- PT. The bound of rounds, and that N at its bound ends the request, are our own choice.
use Rattle.std.specs.Prelude.{ℕ, zero, suc, ◌+◌, ◌==◌, List, [], ◌∷◌, length, Bool, true, false, not}
use Rattle.std.specs.Prelude.{◌||◌, nat_le, max, if◌then◌else◌}
use Rattle.std.specs.Prelude.{take_while}
use Rattle.std.specs.List.{fold}
use Rattle.hc_model.specs.declared.event.Event.TheVariants as event
use Rattle.hc_model.specs.declared.outcome.LimitKind.TheVariants.{Rounds}
use Rattle.hc_model.specs.declared.outcome.Outcome.{Outcome}
use Rattle.hc_model.specs.declared.outcome.Outcome.TheVariants.{Limit}
use Rattle.hc_model.specs.declared.rewrite.Flags.{Flags}
use Rattle.hc_model.specs.declared.rewrite.Rule.{Rule}
use Rattle.hc_rw_eval.specs.Attempts.{attempt}
use Rattle.hc_rw_eval.specs.declared.attempt.Attempt.{Attempt}
use Rattle.hc_rw_eval.specs.declared.attempt.Rewritten.{Rewritten}
use Rattle.hc_rw_eval.specs.declared.run.Finished.{Finished}
use Rattle.hc_rw_eval.specs.declared.run.NextRound.{NextRound}
use Rattle.hc_rw_eval.specs.declared.run.Round.{Round}
use Rattle.hc_rw_eval.specs.declared.run.Round.TheVariants.{Again, Over}
use Rattle.hc_rw_expand.specs.Contexts.{Context}
use Rattle.hc_rw_expand.specs.Lookups.{Looks}
use Rattle.hc_rw_expand.specs.declared.state.RwState.{RwState}
use Rattle.hc_steps.specs.Step.{Step, ends, leaves, say, ◌>>=◌}

-- ---- behind a rule

-- The run is over: all rules were tried, or one stopped it.
abbrev pub over : Bool → Rewritten → Round
over passed left = Over (record { left = left; passed = passed })

-- END holds for the rest of the request.
abbrev pub with_end : Bool → Rewritten → Rewritten
with_end true left = record left { state = record left.state { end = true } }
with_end false left = left

-- A rule with C that does not match skips the rules up to and with the first without C.
abbrev pub has_chain : Rule → Bool
has_chain rule = rule.flags.chain

abbrev pub skipped_chain : Rule → List Rule → ℕ
skipped_chain rule rules = if has_chain rule then length (take_while has_chain rules) + 1 else 0

-- PT, L and END stop the run.
abbrev pub stops_run : Flags → Bool
stops_run flags = flags.pass || (flags.last || flags.end)

-- What a further round begins with.
abbrev pub next_by : Rule → Rewritten → NextRound
next_by rule left = record { left = left; place = rule.place; bound = rule.flags.rounds }

-- N in a round that is the rule's bound ends the request; before it the list begins again.
unfoldable pub begun_again : Rule → ℕ → Rewritten → Step Outcome Round
begun_again rule round left =
    if nat_le rule.flags.rounds round then ends (Limit Rounds) else leaves (Again (next_by rule left))

-- Behind a rule that matched: over, begun again, or so many rules are skipped.
unfoldable pub behind_match : (ℕ → Rewritten → Step Outcome Round) → Rule → ℕ → Rewritten
    → Step Outcome Round
behind_match further rule round left =
    if stops_run rule.flags then leaves (over rule.flags.pass (with_end rule.flags.end left))
    else (if rule.flags.next then begun_again rule round left else further rule.flags.skip left)

unfoldable pub behind_attempt : (ℕ → Rewritten → Step Outcome Round) → Rule → List Rule → ℕ → Attempt
    → Step Outcome Round
behind_attempt further rule rules round attempt =
    if attempt.matched then behind_match further rule round attempt.left
    else further (skipped_chain rule rules) attempt.left

-- ---- a round

abbrev pub is_followed : List Rule → Bool
is_followed rules = not (length rules == 0)

-- From a place in the list, so many rules of which are skipped.
unfoldable pub from_place : Context → Looks → ℕ → ℕ → List Rule → Rewritten → Step Outcome Round
from_place context looks round skipped [] left = leaves (over false left)
from_place context looks round (suc skipped) (rule ∷ rules) left = from_place context looks round skipped rules left
from_place context looks round zero (rule ∷ rules) left =
    attempt context looks rule (is_followed rules) left
    >>= behind_attempt (λ skipped left. from_place context looks round skipped rules left) rule rules round

-- ---- all rounds

-- No round comes behind the greatest bound.
abbrev pub most_rounds : List Rule → ℕ
most_rounds rules = fold (λ most rule. max most rule.flags.rounds) 1 rules

-- Behind a round: over, or begun again.
unfoldable pub next_round : (ℕ → Rewritten → Step Outcome Finished) → ℕ → Round → Step Outcome Finished
next_round further round (Over finished) = leaves finished
next_round further round (Again next) = say (event.Round (round + 1)) (further (round + 1) next.left)

-- So many rounds at most, from this one on.
unfoldable pub rounds_from : ℕ → Context → Looks → List Rule → ℕ → Rewritten → Step Outcome Finished
rounds_from zero context looks rules round left = ends (Limit Rounds)
rounds_from (suc more) context looks rules round left =
    from_place context looks round 0 rules left
    >>= next_round (λ round left. rounds_from more context looks rules round left) round

abbrev pub begun : RwState → Rewritten
begun state = record { state = state; substituted = false }

-- A list of rules from its first one on.
unfoldable pub run_rules : Context → Looks → List Rule → RwState → Step Outcome Finished
run_rules context looks rules state = rounds_from (most_rounds rules) context looks rules 1 (begun state)
