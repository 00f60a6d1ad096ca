use Rattle.hc_abs_rw.proofs.Effects.{text_found}
use Rattle.hc_abs_rw.proofs.effect.filled.Goals as goal

pub returns : goal.returns
returns g c =
    let frame = c.args.frame.now in
    text_found
    (record {
      tests = frame.tests;
      root = frame.root;
      engine = frame.engine;
      flags = c.args.flags;
      setting = c.args.setting;
    })
    (g.S.Surroundings.kind frame.around.now) (g.S.Surroundings.values frame.around.now) frame.client c.args.known
    c.args.template.now c.as_slice.result.now c.in_ok-elements.elements.items c.deref.result.now _ _ c.as_slice.ensures
    c.deref.ensures.value c.new-found.ensures.items c.in_ok-elements.ensures c.in_ok-split.ensures
