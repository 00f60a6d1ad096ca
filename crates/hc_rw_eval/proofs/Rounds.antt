-- Rounds, one after another. In the loop `whole` is what they come to from the start.
use Rattle.hc_rw_eval.proofs.Common.{◌≡◌, ℕ, suc, ◌+◌, ◌-◌, ◌<◌, ◌≤◌, List, Result, Ok, Err}
use Rattle.hc_rw_eval.proofs.Common.{refl, subst, arith, Fault, Outcome, Context, Looks, Logged, Leads, Ran, Run, run}
use Rattle.hc_rw_eval.proofs.Common.{Shown, Step, ◌>>=◌, leads_all, leads_end, ran_ends, Rule, Rewritten, Finished}
use Rattle.hc_rw_eval.proofs.Common.{NextRound, Round, Again, Over, Limit}
use Rattle.std.specs.Result.{IsErrAnd}
use Rattle.hc_base.specs.declared.fault.Fault.TheVariants.{Refused}
use Rattle.hc_model.specs.declared.event.Event.TheVariants as event
use Rattle.hc_model.specs.declared.outcome.LimitKind.TheVariants as limit
use Rattle.hc_rw_eval.specs.Lists.{from_place, next_round, rounds_from}
use Rattle.hc_steps.specs.Ran.{with_event}
use Rattle.hc_rw_eval.proofs.Leading.{leads_off, leads_said, leads_then}

module _ (context : Context) (looks : Looks) (rules : List Rule) (w : Shown) where
  -- What is left behind so many rounds.
  abbrev pub left : ℕ → ℕ → Rewritten → Run Outcome Finished
  left most earlier state = run (rounds_from (most - earlier) context looks rules (earlier + 1) state) w

  pub rounds_begin : (most : ℕ) (log : Logged) (state : Rewritten)
      → Leads log (run (rounds_from most context looks rules 1 state) w) log (left most 0 state)
  rounds_begin most log state =
      let all : most ≡ most - 0 = omega arith in
      subst (λ n. Leads log (run (rounds_from most context looks rules 1 state) w) log
      (run (rounds_from n context looks rules 1 state) w)) all
      (leads_all log (run (rounds_from most context looks rules 1 state) w))

  module _ (most earlier : ℕ) (old now : Logged) (whole : Run Outcome Finished) (state : Rewritten)
      (h : Leads old whole now (left most earlier state)) where
    pub rounds_end : most ≤ earlier → Ran {A = Finished} (Err (Refused (Limit limit.Rounds))) old now whole
    unfolding rounds_from
    rounds_end le =
        let none : most - earlier ≡ 0 = omega arith in
        (subst (λ n. Leads old whole now (run (rounds_from n context looks rules (earlier + 1) state) w)) none h).leads
        (Err (Refused (Limit limit.Rounds))) now
        (ran_ends Finished (Limit limit.Rounds) (Limit limit.Rounds) now w refl)

    module _ (lt : earlier < most) (next : Logged) where
      further : ℕ → Rewritten → Step Outcome Finished
      further round state = rounds_from (most - (earlier + 1)) context looks rules round state

      at_round : Leads old whole now
          (run (from_place context looks (earlier + 1) 0 rules state >>= next_round further (earlier + 1)) w)
      unfolding rounds_from further
      at_round =
          let more : most - earlier ≡ suc (most - (earlier + 1)) = omega arith in
          subst (λ n. Leads old whole now (run (rounds_from n context looks rules (earlier + 1) state) w)) more h

      pub round_faults : (fault : Fault Outcome) (answer : Result Finished (Fault Outcome))
          → Ran {A = Round} (Err fault) now next (run (from_place context looks (earlier + 1) 0 rules state) w)
          → IsErrAnd answer (λ other. other ≡ fault) → Ran answer old next whole
      round_faults fault answer ran is =
          leads_off (from_place context looks (earlier + 1) 0 rules state) (next_round further (earlier + 1)) w fault
          answer old now next whole at_round ran is

      round_on : (round : Round)
          → Ran (Ok round) now next (run (from_place context looks (earlier + 1) 0 rules state) w)
          → Leads old whole next (run (next_round further (earlier + 1) round) w)
      round_on round ran = leads_then (from_place context looks (earlier + 1) 0 rules state)
          (next_round further (earlier + 1)) w round old now next whole at_round ran

      pub round_over : (finished : Finished)
          → Ran (Ok (Over finished)) now next (run (from_place context looks (earlier + 1) 0 rules state) w)
          → Ran (Ok finished) old next whole
      unfolding next_round
      round_over finished ran = leads_end old next whole finished finished w (round_on (Over finished) ran) refl

      pub round_again : (again : NextRound) (last : Logged)
          → Ran (Ok (Again again)) now next (run (from_place context looks (earlier + 1) 0 rules state) w)
          → last ≡ with_event next (event.Round (earlier + 1 + 1))
          → Leads old whole last (left most (earlier + 1) again.left)
      unfolding next_round further
      round_again again last ran is =
          leads_said (event.Round (earlier + 1 + 1))
          (rounds_from (most - (earlier + 1)) context looks rules
          (earlier + 1 + 1) again.left) w old next last whole (round_on (Again again) ran) is
