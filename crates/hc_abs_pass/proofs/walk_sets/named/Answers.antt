use Rattle.hc_abs_pass.proofs.Components.{named_accept}
use Rattle.hc_abs_pass.proofs.walk_sets.named.Goals as goal

pub returns : goal.returns
returns c =
    named_accept c.args.names.now _ _ _ _ _ _ c.in_ok-texts.ensures c.in_ok-every_text.ensures
    c.in_ok-plain.ensures c.in_ok-own.ensures c.requires c.in_ok-made.ensures
