use Rattle.hc_world.proofs.Common.{◌∙◌, ap, sym, Edited}
use Rattle.hc_world.specs.Edits.{changed_at}
use Rattle.hc_world.proofs.Counted.{last_change-seen}
use Rattle.hc_world.proofs.world.World.changed_at.Goals as goal

pub returns : goal.returns
returns c = c.last_change.ensures ∙ sym (last_change-seen _ c.args.read.now)
    ∙ ap (λ (s : Edited). changed_at s c.args.read.now) c.self.view_is
