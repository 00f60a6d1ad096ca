use Rattle.std.proofs.Common.{◌+◌, length}
use Rattle.hc_rank.proofs.Taking.{match_fits}
use Rattle.hc_rank.proofs.laws.a_match_takes_its_rest.Goals as goal

pub returns : goal.returns
returns c text pattern used held zero_unused once plain is =
    match_fits text used pattern zero_unused once plain (length text + 1) 0 held is
