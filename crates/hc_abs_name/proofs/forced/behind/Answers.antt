use Rattle.hc_abs_name.proofs.Common.{◌∙◌, ap, map}
use Rattle.hc_merge.specs.CandidateView.{candidate_of}
use Rattle.hc_merge.specs.Settings.{merged}
use Rattle.std.specs.Rc.{rc_value}
use Rattle.hc_abs_force.specs.Forcing.{marked}
use Rattle.hc_abs_name.proofs.Forcing.{settings_behind}
use Rattle.hc_abs_name.proofs.forced.behind.Goals as goal

pub returns : goal.returns
returns c =
    let ground = c.args.ground in
    let candidates = map candidate_of c.args.candidates.now in
    let made = c.in_ok-settings.ensures.ok in
    settings_behind ground c.args.decisions.now c.args.aliased c.args.kind candidates c.args.one
    (rc_value c.in_ok-settings.settings) c.in_ok-found.found.items
    (ap (λ settings. settings.force) made ∙ c.in_ok-force.ensures
    ∙ ap (merged ground.config.now ground.host)
    (ap (map candidate_of) c.deref-2.ensures.value ∙ c.in_ok-kept.ensures
    ∙ ap (λ marks. marked marks candidates) c.deref.ensures.value))
    (ap (λ settings. settings.aliased) made) (ap (λ settings. settings.kind) made) c.in_ok-found.ensures
