use Rattle.std.proofs.lemmas.List.Elements.{Contains-append_right}
use Rattle.hc_serve.specs.Request.{way, whole_run}
use Rattle.hc_serve.proofs.laws.answers_agree.Goals as goal
use Rattle.hc_steps.specs.Shown.{shown_by}
use Rattle.hc_steps.proofs.Kept.{each_is_kept}
use Rattle.hc_steps.proofs.Running.{agreement}

pub returns : goal.returns
returns c = λ config request one other same.
    let reads = (whole_run one config request).reads in
    agreement (way config request) (shown_by one) (shown_by other)
    (λ read is. same read (each_is_kept _ read (Contains-append_right config.reads reads read is)))
