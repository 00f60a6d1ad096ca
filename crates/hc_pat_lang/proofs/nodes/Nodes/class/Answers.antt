use Rattle.std.proofs.Common.{refl}
use Rattle.hc_pat_lang.proofs.Fragmenting.{fragment_step}
use Rattle.hc_pat_lang.proofs.nodes.Nodes.class.Goals as goal

pub returns : goal.returns
returns c = fragment_step c.args.part _ c.args.set c.args.exits _ _ _ c.requires c.in_ok-entries.ensures (λ byte. refl)
