-- Where a list of rules shrinks, each further round begins with a shorter text. Our own choice.
use Rattle.std.specs.Prelude.{◌≡◌, ◌≤◌, ◌<◌, ℕ, List, [], length, Option, None, Some, true, is_some}
use Rattle.hc_model.specs.declared.rewrite.Rule.{Rule}
use Rattle.hc_rank.specs.Ranks.{enough_rounds, shrinks}
use Rattle.hc_rw_eval.specs.Directories.{subject_in}
use Rattle.hc_rw_eval.specs.Lists.{from_place}
use Rattle.hc_rw_eval.specs.declared.attempt.Rewritten.{Rewritten}
use Rattle.hc_rw_eval.specs.declared.run.NextRound.{NextRound}
use Rattle.hc_rw_eval.specs.declared.run.Round.TheVariants.{Again}
use Rattle.hc_rw_eval.specs.declared.substitution.TheConstants.{LONGEST_TEXT}
use Rattle.hc_rw_expand.specs.Contexts.{Context, Engine}
use Rattle.hc_rw_expand.specs.Lookups.{Looks}
use Rattle.hc_rw_expand.specs.declared.state.RwState.{RwState}
use Rattle.hc_steps.specs.Run.{goes_on, run}
use Rattle.hc_steps.specs.Step.{Shown}

-- In a directory's list a pattern is looked for in the path information, too: there is none.
abbrev pub HasNoInfo : Option Engine → RwState → Type 0
HasNoInfo None state = Unit {0}
HasNoInfo (Some engine) state = state.info ≡ []

-- How long the text is in which the patterns of the list are looked for.
abbrev pub length_in : Context → RwState → ℕ
length_in context state = length (subject_in context.engine state)

-- What a further round begins with.
pub record IsShort (context : Context) (next : NextRound) : Type 0 where
  pub bound : enough_rounds ≤ next.bound
  pub info : HasNoInfo context.engine next.left.state
  pub short : length_in context next.left.state ≤ LONGEST_TEXT

-- It is short, and shorter than what this round began with.
abbrev pub RoundsShorten : Type 0
RoundsShorten = (context : Context) (looks : Looks) (shown : Shown) (rules : List Rule) (round : ℕ) (before : Rewritten)
    (next : NextRound) → shrinks (is_some context.engine) rules ≡ true
    → (run (from_place context looks round 0 rules before) shown).way ≡ goes_on (Again next)
    → IsShort context next
    × (HasNoInfo context.engine before.state → length_in context next.left.state < length_in context before.state)
