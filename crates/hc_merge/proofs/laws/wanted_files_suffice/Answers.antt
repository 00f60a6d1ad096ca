use Rattle.hc_merge.proofs.Loading as loading
use Rattle.hc_merge.proofs.laws.wanted_files_suffice.Goals as goal

pub returns : goal.returns
returns c = loading.wanted_files_suffice
