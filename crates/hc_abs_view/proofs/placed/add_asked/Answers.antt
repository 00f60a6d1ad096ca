use Rattle.hc_abs_view.specs.Tokens.{fork_of}
use Rattle.hc_abs_view.proofs.Placing.{sides_past}
use Rattle.hc_abs_view.proofs.placed.add_asked.Goals as goal

pub returns : goal.returns
returns c =
    sides_past c.args.scene (fork_of c.args.jump.now) c.args.tied c.in_ok-held.field-0 c.args.later.now.items
    c.add_side.new.later.items c.add_side-2.new.later.items c.in_ok-held.ensures c.in_ok-add_side.ensures
    c.in_ok-add_side-2.ensures
