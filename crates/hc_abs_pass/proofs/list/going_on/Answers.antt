use Rattle.hc_abs_pass.proofs.Listing.{skips_chain}
use Rattle.hc_abs_pass.proofs.list.going_on.Goals as goal

pub returns : goal.returns
returns c =
    skips_chain c.args.rule.now c.args.behind.now c.args.tied c.args.left c.args.matched c.skipped_chain.result
    c.if-matched.false c.skipped_chain.ensures
