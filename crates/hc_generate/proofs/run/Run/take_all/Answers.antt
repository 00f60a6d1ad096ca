use Rattle.std.proofs.Common.{[]}
use Rattle.hc_generate.proofs.Going.{goes_on}
use Rattle.hc_generate.specs.Script.{overrides_behind, turns_behind}
use Rattle.hc_generate.proofs.run.Run.take_all.Goals as goal

pub returns : goal.returns
returns g c =
    goes_on _ _ _ _ _ _ _ _ _ (c.take.ensures.goes _)
    (goes_on _ _ _ _ _ _ _ _ _ (c.list_files.ensures.goes overrides_behind)
    (goes_on _ _ _ _ _ _ _ _ _ (c.put_texts.ensures.goes turns_behind) (c.take_turns.ensures.goes (λ last. []))))
