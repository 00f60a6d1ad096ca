-- A round of a list that shrinks.
use Rattle.std.proofs.Common.{◌≡◌, ℕ, zero, suc, ◌<◌, List, [], ◌∷◌, Bool, true, false, is_some, if◌then◌else◌}
use Rattle.std.proofs.Common.{nat_le, arith}
use Rattle.std.proofs.lemmas.Bool.{and_parts}
use Rattle.hc_model.specs.declared.outcome.Outcome.{Outcome}
use Rattle.hc_model.specs.declared.rewrite.Rule.{Rule}
use Rattle.hc_rank.specs.Ranks.{fits, shrinks}
use Rattle.hc_rounds.proofs.Attempting.{AttemptLeaves, IsWithin, Kept, Leaves, attempt_leaves}
use Rattle.hc_rounds.proofs.Steps.{Gives, gives_if, gives_then}
use Rattle.hc_rounds.specs.Shortening.{HasNoInfo, IsShort, length_in}
use Rattle.hc_rw_eval.specs.Attempts.{attempt}
unfoldable use Rattle.hc_rw_eval.specs.Lists.{begun_again, behind_attempt, behind_match, from_place}
use Rattle.hc_rw_eval.specs.Lists.{is_followed, next_by, over, skipped_chain, stops_run, with_end}
use Rattle.hc_rw_eval.specs.declared.attempt.Attempt.{Attempt}
use Rattle.hc_rw_eval.specs.declared.attempt.Rewritten.{Rewritten}
use Rattle.hc_rw_eval.specs.declared.run.Round.{Round}
use Rattle.hc_rw_eval.specs.declared.run.Round.TheVariants.{Again, Over}
use Rattle.hc_rw_expand.specs.Contexts.{Context}
use Rattle.hc_rw_expand.specs.Lookups.{Looks}
use Rattle.hc_rw_expand.specs.declared.state.RwState.{RwState}
use Rattle.hc_steps.specs.Step.{Step, leaves}

module _ (context : Context) (first : RwState) where
  -- So far no longer than what the round began with.
  abbrev SoFar : RwState → Type 0
  SoFar state = HasNoInfo context.engine first → IsWithin context (length_in context first) state

  abbrev pub RoundShortens : Round → Type 0
  RoundShortens (Over finished) = Unit {0}
  RoundShortens (Again next) = IsShort context next
      × (HasNoInfo context.engine first → length_in context next.left.state < length_in context first)

  behind_rule : (further : ℕ → Rewritten → Step Outcome Round) (rule : Rule) (rules : List Rule) (round : ℕ)
      (before : RwState) → SoFar before
      → ((skipped : ℕ) (left : Rewritten) → SoFar left.state → Gives RoundShortens (further skipped left))
      → (tried : Attempt) → AttemptLeaves context rule before tried
      → Gives RoundShortens (behind_attempt further rule rules round tried)
  unfolding behind_attempt behind_match begun_again
  behind_rule further rule rules round before so_far more tried is =
      by tried.matched (stops_run rule.flags) rule.flags.next is
    where
      still : Kept context before tried.left.state → SoFar tried.left.state
      still kept none =
          let held = so_far none in
          let own = kept held.0 in
          (own.0, omega (arith, held.1, own.1))

      by : (matched stops next : Bool) → Leaves context rule before matched stops next tried.left.state
          → Gives RoundShortens
          (if matched then (if stops then leaves (over rule.flags.pass (with_end rule.flags.end tried.left))
          else (if next then begun_again rule round tried.left else further rule.flags.skip tried.left))
          else further (skipped_chain rule rules) tried.left)
      by true true next is = tt
      by true false true is =
          gives_if RoundShortens (nat_le rule.flags.rounds round) _ (leaves (Again (next_by rule tried.left)))
          (λ late. tt)
          (λ early. (
            record { bound = is.bound; info = is.info; short = is.longest },
            λ none. omega (arith, is.shorter, (so_far none).1),
          ))
      by true false false is = more rule.flags.skip tried.left (still is)
      by false stops next is = more (skipped_chain rule rules) tried.left (still is)

  pub round_shortens : (looks : Looks) (round skipped : ℕ) (rules : List Rule) (before : Rewritten)
      → shrinks (is_some context.engine) rules ≡ true → SoFar before.state
      → Gives RoundShortens (from_place context looks round skipped rules before)
  unfolding from_place
  round_shortens looks round skipped [] before forms so_far = tt
  round_shortens looks round (suc skipped) (rule ∷ rules) before forms so_far =
      round_shortens looks round skipped rules before (and_parts (fits (is_some context.engine) rule) _ forms).1 so_far
  round_shortens looks round zero (rule ∷ rules) before forms so_far =
      let parts = and_parts (fits (is_some context.engine) rule) (shrinks (is_some context.engine) rules) forms in
      gives_then (AttemptLeaves context rule before.state) RoundShortens
      (attempt context looks rule (is_followed rules) before) _
      (attempt_leaves context looks rule (is_followed rules) before parts.0)
      (λ tried is.
      behind_rule (λ skipped left. from_place context looks round skipped rules left) rule rules round before.state
      so_far
      (λ skipped left so_far. round_shortens looks round skipped rules left parts.1 so_far) tried is)
