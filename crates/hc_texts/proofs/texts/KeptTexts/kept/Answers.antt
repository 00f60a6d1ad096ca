use Rattle.std.proofs.Common.{◌∙◌, ap}
use Rattle.std.specs.FinMap.{get}
use Rattle.hc_texts.proofs.Entries.{found}
use Rattle.hc_texts.proofs.texts.KeptTexts.kept.Goals as goal

pub returns : goal.returns
returns c =
    c.get.ensures.value ∙ found c.self.inside.by_path.entries c.args.path.now
    ∙ ap (λ texts. get texts c.args.path.now) c.self.view_is
