use Rattle.hc_include.proofs.Texts.{as_read}
use Rattle.hc_include.proofs.Whole.{main_is}
use Rattle.hc_include.proofs.main_file.read_main.Goals as goal

pub returns-clause-read : goal.returns-clause-read
returns-clause-read g c = as_read _ _ _ _ _ _ (main_is _ _ _ c.in_ok-around.ensures c.in_ok-reading.ensures)
    c.read_file.ensures.read
