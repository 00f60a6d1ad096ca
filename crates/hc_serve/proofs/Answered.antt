-- From the end of the way to the answer.
use Rattle.hc_serve.proofs.Common.{◌≡◌, ◌∙◌, ℕ, List, ◌++◌, Option, Ok, Err, sym, ap, subst, IsServed}
use Rattle.hc_serve.proofs.Common.{log_of, outcome_of, tree_of, whole_run, Logged, Ran, grown, with_events, with_read}
use Rattle.hc_serve.proofs.Common.{with_reads, Run, events_then_reads}
use Rattle.std.proofs.lemmas.List.Sums.{fold-append}
use Rattle.hc_base.specs.declared.fault.Fault.TheVariants.{Refused}
use Rattle.hc_model.specs.World.{World}
use Rattle.hc_model.specs.declared.config.Config.{Config}
use Rattle.hc_model.specs.declared.outcome.LimitKind.TheVariants.{Redirects}
use Rattle.hc_model.specs.declared.outcome.Outcome.{Outcome}
use Rattle.hc_model.specs.declared.outcome.Outcome.TheVariants.{Limit}
use Rattle.hc_model.specs.declared.read.Read.{Read}
use Rattle.hc_model.specs.declared.request.Request.{Request}
use Rattle.hc_serve.specs.declared.answer.Served.{Served}
use Rattle.hc_model.specs.declared.authorization.ReqTree.{ReqTree}
use Rattle.hc_serve.specs.declared.stage.Ended.{Ended}
use Rattle.hc_serve.specs.declared.stage.Restarted.{Restarted}
use Rattle.hc_steps.specs.Laws.{Keeps, empty_log}
use Rattle.hc_steps.proofs.Keeping.{run_is_kept}

-- Reads that a log begins with stand before those of the run.
kept_behind : {E A : Type 0} (cap : Option ℕ) (before : List Read) (r : Run E A) (log : Logged)
    → log ≡ grown (log_of cap before) r → Keeps cap log r.events (before ++ r.reads)
kept_behind cap before r log e =
    subst (λ log. Keeps cap log r.events (before ++ r.reads))
    (sym (e ∙ ap (λ l. with_reads l r.reads) (events_then_reads (empty_log cap) before r.events)
    ∙ sym (fold-append with_read (with_events (empty_log cap) r.events) before r.reads)))
    (run_is_kept cap (record r { reads = before ++ r.reads }))

served_by : (cap : Option ℕ) (w : World) (config : Config) (request : Request) (first log : Logged)
    (outcome : Outcome) (require : Option ReqTree)
    → first ≡ log_of cap config.reads → outcome ≡ outcome_of (whole_run w config request).way
    → require ≡ tree_of (whole_run w config request).way → log ≡ grown first (whole_run w config request)
    → (served : Served) → served.outcome ≡ outcome → served.require ≡ require → served.log ≡ log
    → IsServed cap w config request served
served_by cap w config request first log outcome require b o t g served so st sl = record {
  outcome = so ∙ o;
  require = st ∙ t;
  keeps = kept_behind cap config.reads (whole_run w config request) served.log
      (sl ∙ g ∙ ap (λ l. grown l (whole_run w config request)) b);
}

pub served_left : (cap : Option ℕ) (w : World) (config : Config) (request : Request) (first log : Logged)
    (left : Restarted) (served : Served)
    → first ≡ log_of cap config.reads → Ran (Ok left) first log (whole_run w config request)
    → served.outcome ≡ Limit Redirects → served.require ≡ left.require → served.log ≡ log
    → IsServed cap w config request served
unfolding Ran
served_left cap w config request first log left served b h so st sl =
    served_by cap w config request first log (Limit Redirects) left.require b (ap outcome_of (sym h.0))
    (ap tree_of (sym h.0)) h.1 served so st sl

pub served_ended : (cap : Option ℕ) (w : World) (config : Config) (request : Request) (first log : Logged)
    (ended : Ended) (served : Served)
    → first ≡ log_of cap config.reads
    → Ran {A = Restarted} (Err (Refused ended)) first log (whole_run w config request)
    → served.outcome ≡ ended.outcome → served.require ≡ ended.require → served.log ≡ log
    → IsServed cap w config request served
unfolding Ran
served_ended cap w config request first log ended served b h so st sl =
    served_by cap w config request first log ended.outcome ended.require b (ap outcome_of (sym h.0))
    (ap tree_of (sym h.0)) h.1 served so st sl
