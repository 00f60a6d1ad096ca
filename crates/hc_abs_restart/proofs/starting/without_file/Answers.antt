use Rattle.hc_abs_restart.proofs.Renaming.{file_emptied}
use Rattle.hc_abs_restart.proofs.starting.without_file.Goals as goal

pub returns : goal.returns
returns c =
    file_emptied c.args.cell.now c.in_ok-named.named c.in_ok-informed.informed c.in_ok-located.located c.in_ok-empty.empty
    c.in_ok-empty.ensures c.in_ok-named.ensures c.in_ok-informed.ensures c.in_ok-located.ensures
