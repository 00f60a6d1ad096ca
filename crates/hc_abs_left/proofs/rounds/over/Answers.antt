use Rattle.hc_abs_left.proofs.Common.{◌∙◌, ap, subst, true}
use Rattle.hc_abs_left.specs.Rounds.{untied_so}
use Rattle.hc_abs_left.specs.Segments.{AreLeft}
use Rattle.hc_abs_left.proofs.rounds.over.Goals as goal

pub returns : goal.returns
returns c =
    subst (λ tied. AreLeft c.args.ground c.args.settings.now c.args.left.decisions true tied c.in_ok-found.found.items)
    (c.path_untied-tied.ensures ∙ ap (λ is. untied_so is c.args.tied) c.passes_on.ensures)
    (subst (λ decisions. AreLeft c.args.ground c.args.settings.now decisions true c.path_untied-tied.result
    c.in_ok-found.found.items) c.as_slice-decisions.ensures c.in_ok-found.ensures)
