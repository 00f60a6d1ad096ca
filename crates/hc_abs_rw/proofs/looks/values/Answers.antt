use Rattle.hc_abs_rw.proofs.Common.{subst}
use Rattle.hc_dfa.specs.Automata.{accepts}
use Rattle.hc_map.specs.Images.{IsImageOf}
use Rattle.hc_abs_rw.proofs.Keyed.{all_values, some_values}
use Rattle.hc_abs_rw.proofs.looks.values.Goals as goal

pub returns-then-not-image : goal.returns-then-not-image
returns-then-not-image g c =
    let around = c.args.frame.now.around.now in
    all_values c.args.cell.now (g.S.Surroundings.values around c.args.name.now) c.args.keys.now c.args.fallbacks.now
    (g.met.S.Surroundings.bytes around c.args.name.now) c.in_ok-texts.texts c.in_ok-texts.ensures c.in_ok-image.image
    (subst (λ name. IsImageOf (g.S.Surroundings.values around name) (accepts c.in_ok-texts.texts) c.in_ok-image.image)
    c.as_bytes.ensures c.in_ok-image.ensures)
    c.if-not-image.true

pub returns : goal.returns
returns g c =
    let around = c.args.frame.now.around.now in
    some_values c.args.cell.now (g.S.Surroundings.values around c.args.name.now) c.args.keys.now c.args.fallbacks.now
    (g.met.S.Surroundings.bytes around c.args.name.now) c.in_ok-texts.texts c.in_ok-texts.ensures c.in_ok-image.image
    (subst (λ name. IsImageOf (g.S.Surroundings.values around name) (accepts c.in_ok-texts.texts) c.in_ok-image.image)
    c.as_bytes.ensures c.in_ok-image.ensures)
    c.in_ok-others.others c.in_ok-made.made c.in_ok-others.ensures c.in_ok-made.ensures c.if-not-image.false
