use Rattle.hc_abs_pass.proofs.Common.{sym}
use Rattle.hc_abs_pass.proofs.Listing.{begins_again, goes_further, stops_here}
use Rattle.hc_abs_pass.proofs.list.flagged.Goals as goal

pub returns-then-stops_run : goal.returns-then-stops_run
returns-then-stops_run c =
    stops_here c.args.rule c.args.tied c.args.left c.in_ok-tied.tied (sym c.if-stops_run.ensures) c.in_ok-tied.ensures

pub returns-then-flags : goal.returns-then-flags
returns-then-flags c =
    begins_again c.args.rule c.args.tied c.args.left (sym c.if-stops_run.ensures) c.if-flags.true

pub returns : goal.returns
returns c = goes_further c.args.rule c.args.tied c.args.left (sym c.if-stops_run.ensures) c.if-flags.false
