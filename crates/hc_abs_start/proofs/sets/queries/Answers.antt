use Rattle.std.proofs.Common.{refl}
use Rattle.std.specs.List.{list_all}
use Rattle.hc_dfa.specs.Automata.{accepts}
use Rattle.hc_forms.specs.Forms.{is_target_byte}
use Rattle.hc_abs_start.proofs.Products.{both_reduced}
use Rattle.hc_abs_start.proofs.sets.queries.Goals as goal

pub returns : goal.returns
returns c =
    let query = c.args.scope.now.query in
    both_reduced c.in_ok-bytes.bytes query c.in_ok-both.both c.in_ok-made.made (list_all is_target_byte) (accepts query)
    c.in_ok-bytes.ensures (λ text bytes. refl) c.in_ok-both.ensures c.in_ok-made.ensures
