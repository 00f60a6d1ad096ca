-- The run of a list of rules in a world, as a relation: what the first rule that is left does, what follows it, and
-- what follows a round.
-- Apache manual, "Apache mod_rewrite Technical Details", "Ruleset Processing"; "RewriteRule Flags": C, S, N, L, END,
-- PT. The bound of rounds, and that N at its bound ends the request, are our own choice.
use Rattle.std.specs.Prelude.{◌≡◌, ℕ, zero, suc, ◌+◌, ◌<◌, ◌≤◌, List, [], ◌∷◌, true, false}
use Rattle.hc_model.specs.declared.event.Event.TheVariants as event
use Rattle.hc_model.specs.declared.outcome.LimitKind.TheVariants.{Rounds}
use Rattle.hc_model.specs.declared.outcome.Outcome.{Outcome}
use Rattle.hc_model.specs.declared.outcome.Outcome.TheVariants.{Limit}
use Rattle.hc_model.specs.declared.rewrite.Rule.{Rule}
use Rattle.hc_rw_eval.specs.Attempts.{attempt, attempted}
use Rattle.hc_rw_eval.specs.Lists.{begun, from_place, is_followed, next_by, over, run_rules, skipped_chain, stops_run}
use Rattle.hc_rw_eval.specs.Lists.{with_end}
use Rattle.hc_rw_eval.specs.declared.attempt.Attempt.{Attempt}
use Rattle.hc_rw_eval.specs.declared.attempt.Rewritten.{Rewritten}
use Rattle.hc_rw_eval.specs.declared.run.NextRound.{NextRound}
use Rattle.hc_rw_eval.specs.declared.run.Round.{Round}
use Rattle.hc_rw_eval.specs.declared.run.Finished.{Finished}
use Rattle.hc_rw_eval.specs.declared.run.Round.TheVariants.{Again, Over}
use Rattle.hc_rw_expand.specs.Contexts.{Context}
use Rattle.hc_rw_expand.specs.Lookups.{Looks}
use Rattle.hc_rw_expand.specs.declared.state.RwState.{RwState}
use Rattle.hc_steps.specs.Run.{Run, behind, goes_on, is_over, run, saying}
use Rattle.hc_steps.specs.Step.{Shown, ends, leaves}

module _ (context : Context) (looks : Looks) (shown : Shown) where
  -- The attempt of a rule, with these behind it.
  abbrev pub tried : Rule → List Rule → Rewritten → Run Outcome Attempt
  tried rule rest left = run (attempt context looks rule (is_followed rest) left) shown

  -- What is left of a list, so many rules of it skipped, comes to this from a state.
  pub data Comes (round : ℕ) : List Rule → ℕ → Rewritten → Run Outcome Round → Type 0 where
    no_rule : {skipped : ℕ} {left : Rewritten} → Comes round [] skipped left (run (leaves (over false left)) shown)
    skipped_rule : {rule : Rule} {rest : List Rule} {skipped : ℕ} {left : Rewritten} {further : Run Outcome Round}
        → Comes round rest skipped left further → Comes round (rule ∷ rest) (suc skipped) left further
    answered : {rule : Rule} {rest : List Rule} {left : Rewritten} {end : Outcome}
        → (tried rule rest left).way ≡ is_over end
        → Comes round (rule ∷ rest) zero left (behind (tried rule rest left) (run (ends end) shown))
    -- C skips the rules of its chain.
    unmatched : {rule : Rule} {rest : List Rule} {left next : Rewritten} {further : Run Outcome Round}
        → (tried rule rest left).way ≡ goes_on (attempted false next)
        → Comes round rest (skipped_chain rule rest) next further
        → Comes round (rule ∷ rest) zero left (behind (tried rule rest left) further)
    -- L, END or PT.
    stopped : {rule : Rule} {rest : List Rule} {left next : Rewritten}
        → (tried rule rest left).way ≡ goes_on (attempted true next) → stops_run rule.flags ≡ true
        → Comes round (rule ∷ rest) zero left
        (behind (tried rule rest left) (run (leaves (over rule.flags.pass (with_end rule.flags.end next))) shown))
    -- N before its bound begins the list again, and at its bound ends the request.
    again : {rule : Rule} {rest : List Rule} {left next : Rewritten}
        → (tried rule rest left).way ≡ goes_on (attempted true next) → stops_run rule.flags ≡ false
        → rule.flags.next ≡ true → round < rule.flags.rounds
        → Comes round (rule ∷ rest) zero left
        (behind (tried rule rest left) (run (leaves (Again (next_by rule next))) shown))
    at_bound : {rule : Rule} {rest : List Rule} {left next : Rewritten}
        → (tried rule rest left).way ≡ goes_on (attempted true next) → stops_run rule.flags ≡ false
        → rule.flags.next ≡ true → rule.flags.rounds ≤ round
        → Comes round (rule ∷ rest) zero left (behind (tried rule rest left) (run (ends (Limit Rounds)) shown))
    -- S skips so many.
    onward : {rule : Rule} {rest : List Rule} {left next : Rewritten} {further : Run Outcome Round}
        → (tried rule rest left).way ≡ goes_on (attempted true next) → stops_run rule.flags ≡ false
        → rule.flags.next ≡ false → Comes round rest rule.flags.skip next further
        → Comes round (rule ∷ rest) zero left (behind (tried rule rest left) further)

  -- A list of rules, from this round on, comes to this from a state.
  pub data Finishes (rules : List Rule) : ℕ → Rewritten → Run Outcome Finished → Type 0 where
    request_over : {round : ℕ} {left : Rewritten} {once : Run Outcome Round} {end : Outcome}
        → Comes round rules 0 left once → once.way ≡ is_over end
        → Finishes rules round left (behind once (run (ends end) shown))
    rules_over : {round : ℕ} {left : Rewritten} {once : Run Outcome Round} {finished : Finished}
        → Comes round rules 0 left once → once.way ≡ goes_on (Over finished)
        → Finishes rules round left (behind once (run (leaves finished) shown))
    -- N begins the next round.
    next_round : {round : ℕ} {left : Rewritten} {next : NextRound} {once : Run Outcome Round}
        {further : Run Outcome Finished}
        → Comes round rules 0 left once → once.way ≡ goes_on (Again next)
        → Finishes rules (round + 1) next.left further
        → Finishes rules round left (behind once (saying (event.Round (round + 1)) further))

-- A round from a place is one that the rules come to.
abbrev pub RunIsRelated : Type 0
RunIsRelated =
    (context : Context) (looks : Looks) (shown : Shown) (round : ℕ) (rules : List Rule) (skipped : ℕ)
    (left : Rewritten)
    → Comes context looks shown round rules skipped left
    (run (from_place context looks round skipped rules left) shown)

-- Rules come to one run.
abbrev pub OneRun : Type 0
OneRun =
    (context : Context) (looks : Looks) (shown : Shown) (round : ℕ) (rules : List Rule) (skipped : ℕ)
    (left : Rewritten)
    (one other : Run Outcome Round) → Comes context looks shown round rules skipped left one
    → Comes context looks shown round rules skipped left other → one ≡ other

-- What a list comes to is what its rounds come to, from the first one on.
abbrev pub ListIsRelated : Type 0
ListIsRelated = (context : Context) (looks : Looks) (shown : Shown) (rules : List Rule) (state : RwState)
    → Finishes context looks shown rules 1 (begun state) (run (run_rules context looks rules state) shown)

-- A list comes to one run.
abbrev pub OneEnd : Type 0
OneEnd = (context : Context) (looks : Looks) (shown : Shown) (rules : List Rule) (round : ℕ) (left : Rewritten)
    (one other : Run Outcome Finished) → Finishes context looks shown rules round left one
    → Finishes context looks shown rules round left other → one ≡ other
