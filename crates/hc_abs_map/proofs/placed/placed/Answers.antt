use Rattle.hc_steps.specs.Shown.{shown_by}
use Rattle.hc_vhost.specs.Servers.{servers_of}
use Rattle.hc_abs_map.proofs.Placing.{placed_fit, unplaced}
use Rattle.hc_abs_map.proofs.placed.placed.Goals as goal

pub returns-then-not-substituted : goal.returns-then-not-substituted
returns-then-not-substituted c =
    unplaced (shown_by c.args.world.now.files) (servers_of c.args.config.now c.args.host) c.args.passed c.args.tied
    c.args.substituted c.in_ok-found.found.items c.if-not-substituted.true c.in_ok-found.ensures

pub returns : goal.returns
returns c =
    placed_fit (shown_by c.args.world.now.files) (servers_of c.args.config.now c.args.host) c.args.passed c.args.tied
    c.args.substituted c.in_ok-rest.rest c.new-found.result.items c.past_relative.new.found.items
    c.add_text.new.found.items c.if-not-substituted.false c.new-found.ensures.items c.in_ok-rest.ensures
    c.in_ok-add_text.ensures
