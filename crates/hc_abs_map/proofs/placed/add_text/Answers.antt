use Rattle.hc_abs_map.proofs.Common.{false, true}
use Rattle.hc_steps.specs.Shown.{shown_by}
use Rattle.hc_vhost.specs.Servers.{servers_of}
use Rattle.hc_abs_map.proofs.Placing.{text_added}
use Rattle.hc_abs_map.proofs.placed.add_text.Goals as goal

pub returns-then-passed : goal.returns-then-passed
returns-then-passed c =
    let shown = shown_by c.args.world.now.files in
    text_added shown (servers_of c.args.config.now c.args.host) c.args.passed c.in-Some.tied c.args.rest
    c.args.found.now.items c.add_path.new.found.items true c.if-passed.true c.in-Some.is
    (c.in_ok-add_path.ensures shown)

pub returns : goal.returns
returns c =
    text_added (shown_by c.args.world.now.files) (servers_of c.args.config.now c.args.host) c.args.passed c.in-Some.tied
    c.args.rest c.args.found.now.items c.add_file.new.found.items false c.if-passed.false c.in-Some.is
    c.in_ok-add_file.ensures
