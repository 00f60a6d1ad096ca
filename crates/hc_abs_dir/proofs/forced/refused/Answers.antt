use Rattle.hc_abs_dir.proofs.Common.{◌∙◌, ◌++◌, ◌∷◌, [], ap}
use Rattle.hc_abs_dir.proofs.Behind.{refused_fits}
use Rattle.hc_abs_dir.proofs.forced.refused.Goals as goal

pub returns : goal.returns
returns c = λ base.
    refused_fits base c.args.settings.now c.args.decisions.now c.args.tied c.push.new.self.items
    (c.in_ok-push.ensures.items ∙ ap (λ before. before ++ c.in_ok-one.one ∷ []) c.new-found.ensures.items
    ∙ ap (λ one. one ∷ []) c.in_ok-one.ensures)
