use Rattle.std.proofs.Common.{refl}
use Rattle.hc_dfa.specs.Automata.{accepts}
use Rattle.hc_target.specs.Segments.{is_normal}
use Rattle.hc_abs_start.proofs.Products.{both_reduced}
use Rattle.hc_abs_start.proofs.sets.paths.Goals as goal

pub returns : goal.returns
returns c =
    let path = c.args.scope.now.path in
    both_reduced c.in_ok-normal.normal path c.in_ok-both.both c.in_ok-made.made is_normal (accepts path)
    c.in_ok-normal.ensures (λ text bytes. refl) c.in_ok-both.ensures c.in_ok-made.ensures
