use Rattle.hc_kept.proofs.Standing.{site_stays}
use Rattle.hc_kept.proofs.laws.sites_stand.Goals as goal

pub returns : goal.returns
returns c old new site accepted was = site_stays accepted site was
