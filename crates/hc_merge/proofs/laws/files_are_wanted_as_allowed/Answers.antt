use Rattle.hc_merge.proofs.Along as along
use Rattle.hc_merge.proofs.laws.files_are_wanted_as_allowed.Goals as goal

pub returns : goal.returns
returns c = along.wanted_as_allowed
