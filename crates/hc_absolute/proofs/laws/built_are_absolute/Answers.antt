use Rattle.hc_absolute.proofs.Built as built
use Rattle.hc_absolute.proofs.laws.built_are_absolute.Goals as goal

pub returns : goal.returns
returns c = built.built_are_absolute
