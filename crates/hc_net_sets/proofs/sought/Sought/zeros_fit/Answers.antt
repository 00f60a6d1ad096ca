use Rattle.hc_net_sets.proofs.Powers.{base_some, group_fits}
use Rattle.hc_net_sets.specs.declared.sought.Family.TheVariants.{Six}
use Rattle.hc_net_sets.proofs.sought.Sought.zeros_fit.Goals as goal

pub pow-behind-requires : goal.pow-behind-requires
pow-behind-requires c = group_fits c.args.self.now.behind c.requires.behind

pub nonzero_div-self : goal.nonzero_div-self
nonzero_div-self c = rw c.pow-behind.ensures (base_some Six c.args.self.now.behind)

pub nonzero_div-self-2 : goal.nonzero_div-self-2
nonzero_div-self-2 c = rw c.pow-behind.ensures (base_some Six c.args.self.now.behind)
