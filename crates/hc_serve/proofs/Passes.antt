-- Passes, one after another. In the loop `whole` is what they come to from the start.
use Rattle.hc_serve.proofs.Common.{◌≡◌, ℕ, suc, ◌+◌, ◌-◌, ◌<◌, ◌≤◌, Result, Ok, Err, refl}
use Rattle.hc_serve.proofs.Common.{sym, subst, arith, passed, passes, Logged, Leads, Ran, Run, run, handed_on}
use Rattle.hc_serve.proofs.Common.{leads_all, leads_end, ran_no_further, ran_then}
use Rattle.std.specs.Result.{IsErrAnd}
use Rattle.hc_base.specs.declared.fault.Fault.{Fault}
use Rattle.hc_serve.specs.Site.{Site}
use Rattle.hc_serve.specs.declared.stage.Ended.{Ended}
use Rattle.hc_serve.specs.declared.stage.Restarted.{Restarted}
use Rattle.hc_steps.specs.Step.{Shown}
use Rattle.hc_serve.proofs.Costs.{passes_cost_begin, passes_cost_end}
use Rattle.hc_steps.proofs.Going.{ran_leaves, ran_no_memory}

-- What is left behind so many passes.
abbrev pub left : ℕ → ℕ → Site → Shown → Restarted → Run Ended Restarted
left most turn site w pass = run (passes (most - turn) site pass) w

pub passes_begin : (most : ℕ) (site : Site) (w : Shown) (log : Logged) (pass : Restarted)
    → Leads log (run (passes most site pass) w) log (left most 0 site w pass)
passes_begin most site w log pass =
    let all : most ≡ most - 0 = omega arith in
    subst (λ n. Leads log (run (passes most site pass) w) log (run (passes n site pass) w)) all
    (leads_all log (run (passes most site pass) w))

one_more : (most turn : ℕ) → turn < most → most - turn ≡ suc (most - (turn + 1))
one_more most turn lt = omega arith

pub pass_more : (most turn : ℕ) (site : Site) (w : Shown) (old now next : Logged) (whole : Run Ended Restarted)
    (pass more : Restarted)
    → Leads old whole now (left most turn site w pass) → turn < most
    → Ran (Ok more) now next (run (passed site pass.pass) w)
    → Leads old whole next (left most (turn + 1) site w more)
unfolding passes
pass_more most turn site w old now next whole pass more h lt k = record {
  leads = λ answer new r. h.leads answer new
      (subst (λ n. Ran answer now new (run (passes n site pass) w)) (sym (one_more most turn lt))
      (ran_then (passed site pass.pass) (passes (most - (turn + 1)) site) w more answer now next new k r));
}

pub pass_faults : (most turn : ℕ) (site : Site) (w : Shown) (old now next : Logged) (whole : Run Ended Restarted)
    (pass : Restarted) (fault : Fault Ended) (answer : Result Restarted (Fault Ended))
    → Leads old whole now (left most turn site w pass) → turn < most
    → Ran {A = Restarted} (Err fault) now next (run (passed site pass.pass) w)
    → IsErrAnd answer (λ other. other ≡ fault) → Ran answer old next whole
unfolding passes
pass_faults most turn site w old now next whole pass fault answer h lt k is =
    handed_on whole answer fault old next is
    (h.leads (Err fault) next
    (subst (λ n. Ran (Err fault) now next (run (passes n site pass) w)) (sym (one_more most turn lt))
    (ran_no_further (passed site pass.pass) (passes (most - (turn + 1)) site) w fault now next k)))

pub passes_end : (most turn : ℕ) (site : Site) (w : Shown) (old now : Logged) (whole : Run Ended Restarted)
    (pass : Restarted)
    → Leads old whole now (left most turn site w pass) → most ≤ turn → Ran (Ok pass) old now whole
unfolding passes
passes_end most turn site w old now whole pass h le =
    let none : most - turn ≡ 0 = omega arith in
    leads_end old now whole pass pass w (subst (λ n. Leads old whole now (run (passes n site pass) w)) none h) refl

pub ruleset passing = (passes_begin, passes_end, passes_cost_begin, passes_cost_end)

-- One step after another, and want of memory between them.
pub ruleset stepping = (ran_then, ran_no_further, ran_leaves, ran_no_memory)
