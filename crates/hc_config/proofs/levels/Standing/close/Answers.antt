use Rattle.hc_config.proofs.Closing.{on_closed}
use Rattle.hc_config.proofs.levels.Standing.close.Goals as goal

pub returns : goal.returns
returns c =
    on_closed c.close.result c.args.self.now c.pop.new.self.items c.in-Some.around c.close.new.self
    c.in-Some.ensures.items
    (rw (c.replace-inner.ensures.value, c.replace-inner.ensures.after) at c.close.ensures)
