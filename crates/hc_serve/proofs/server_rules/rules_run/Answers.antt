use Rattle.hc_serve.proofs.Common.{◌≡◌, ◌∙◌, ap, ran_off, ran_on}
use Rattle.std.proofs.Common.{[]}
use Rattle.hc_rw_eval.specs.Lists.{run_rules}
use Rattle.hc_rw_eval.specs.declared.run.Finished.{Finished}
use Rattle.hc_rw_expand.specs.declared.state.RwState.{RwState}
use Rattle.hc_serve.specs.ServerRules.{context_at, looks_of, maps_at, rules_at, state_at}
use Rattle.hc_serve.specs.Passing.{finished, rules_run}
use Rattle.hc_serve.specs.Site.{Site, site_of}
use Rattle.hc_serve.specs.declared.stage.Pass.{Pass}
use Rattle.hc_serve.proofs.server_rules.rules_run.Goals as goal

-- Neither the run nor what follows it reads the variables that the pass has lost to the state.
module _ (site : Site) (pass left : Pass) (is : left ≡ record pass { vars = [] }) where
  same_run : (state : RwState) → state ≡ state_at pass
      → run_rules (context_at site left) (looks_of (maps_at site)) (rules_at site) state
      ≡ run_rules (context_at site pass) (looks_of (maps_at site)) (rules_at site) (state_at pass)
  same_run state begun =
      ap (λ left. run_rules (context_at site left) (looks_of (maps_at site)) (rules_at site) state) is
      ∙ ap (run_rules (context_at site pass) (looks_of (maps_at site)) (rules_at site)) begun

  same_end : (ran : Finished) → finished site left ran ≡ finished site pass ran
  unfolding finished
  same_end ran = ap (λ left. finished site left ran) is

pub returns-in_err-ran : goal.returns-in_err-ran
unfolding rules_run
returns-in_err-ran c =
    ran_off _ _ _ _ _ _ _ _ c.from_residual-in_err-ran.ensures.1 c.in_err-ran.ensures
    (same_run (site_of c.args.asked.now) c.args.pass _ c.in_ok-state.ensures.pass _ c.in_ok-state.ensures.state)

pub returns : goal.returns
unfolding rules_run
returns c =
    ran_on _ _ _ _ _ _ _ _ _ _ c.in_ok-ran.ensures
    (same_run (site_of c.args.asked.now) c.args.pass _ c.in_ok-state.ensures.pass _ c.in_ok-state.ensures.state)
    c.finished.ensures (same_end (site_of c.args.asked.now) c.args.pass _ c.in_ok-state.ensures.pass _)
