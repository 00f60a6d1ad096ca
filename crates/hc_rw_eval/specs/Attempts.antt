-- The attempt of one rule: its pattern first, then its conditions, and then what it does.
-- Apache manual, mod_rewrite, RewriteRule; "Apache mod_rewrite Technical Details", "Ruleset Processing".
use Rattle.std.specs.Prelude.{Bool, true, false, if◌then◌else◌, Option, None}
use Rattle.hc_model.specs.declared.event.Event.TheVariants as event
use Rattle.hc_model.specs.declared.outcome.Outcome.{Outcome}
use Rattle.hc_model.specs.declared.rewrite.Rule.{Rule}
use Rattle.hc_model.specs.declared.spot.Spot.{Spot}
use Rattle.hc_rw_eval.specs.Conditions.{conds_tried, counted, is_found, searched}
use Rattle.hc_rw_eval.specs.Directories.{subject_in}
use Rattle.hc_rw_eval.specs.Substitutions.{applied, with_state}
use Rattle.hc_rw_eval.specs.declared.attempt.Attempt.{Attempt}
use Rattle.hc_rw_eval.specs.declared.attempt.Rewritten.{Rewritten}
use Rattle.hc_rw_eval.specs.declared.conditions.Tested.{Tested}
use Rattle.hc_rw_expand.specs.Contexts.{Context}
use Rattle.hc_rw_expand.specs.Lookups.{Looks}
use Rattle.hc_rw_expand.specs.declared.groups.Matched.{Matched}
use Rattle.hc_rw_expand.specs.declared.state.RwState.{RwState}
use Rattle.hc_steps.specs.Step.{Step, leaves, say, told, ◌>>=◌}

abbrev pub rule_spot : Rule → Spot
rule_spot rule = record { place = rule.place; span = rule.span }

-- What an attempt leaves.
abbrev pub attempted : Bool → Rewritten → Attempt
attempted matched left = record { matched = matched; left = left }

unfoldable pub not_matched : Rule → Rewritten → Step Outcome Attempt
not_matched rule left = told (event.Rule (rule_spot rule) false) (attempted false left)

unfoldable pub matched : Context → Looks → Rule → Bool → Rewritten → Step Outcome Attempt
matched context looks rule followed before =
    say (event.Rule (rule_spot rule) true)
    (applied context looks rule followed before >>= λ left. leaves (attempted true left))

unfoldable pub if_tested : Context → Looks → Rule → Bool → Rewritten → Tested → Step Outcome Attempt
if_tested context looks rule followed before tested =
    if tested.holds then matched context looks rule followed (with_state before tested.state)
    else not_matched rule (with_state before tested.state)

-- A negated pattern sets no groups, and no condition has set any for this rule.
abbrev pub groups_of : Bool → Option Matched → Option Matched
groups_of true found = None
groups_of false found = found

abbrev pub with_found : Rule → Option Matched → RwState → RwState
with_found rule found state = record state { groups = groups_of rule.negated found; cond_groups = None }

unfoldable pub pattern_held : Context → Looks → Rule → Bool → Rewritten → Step Outcome Attempt
pattern_held context looks rule followed before =
    conds_tried context looks before.state rule.conds >>= if_tested context looks rule followed before

unfoldable pub pattern_tried : Context → Looks → Rule → Bool → Rewritten → Option Matched
    → Step Outcome Attempt
pattern_tried context looks rule followed before found =
    if counted rule.negated (is_found found)
    then pattern_held context looks rule followed (with_state before (with_found rule found before.state))
    else not_matched rule before

-- What the pattern of a rule finds: in a server in the text that is rewritten.
abbrev pub found_in : Context → Rule → RwState → Option Matched
found_in context rule state = searched (subject_in context.engine state) rule.pat

unfoldable pub attempt : Context → Looks → Rule → Bool → Rewritten → Step Outcome Attempt
attempt context looks rule followed before =
    pattern_tried context looks rule followed before (found_in context rule before.state)
