use Rattle.hc_include.proofs.Common.{refl, item_faults, item_more, with_text}
use Rattle.hc_include.proofs.candidates.texts_on.Goals as goal

pub returns-in_err-among : goal.returns-in_err-among
returns-in_err-among c =
    item_faults with_text c.loop-path.among c.path-item.result c.args.paths.now c.loop-path.path-index _ _ _ _ _ _ _ _
    c.loop-path.invariant c.loop-path-test.true c.path-item.is c.in_err-among.ensures refl c.from_residual.ensures.1

pub loop-path-preserved : goal.loop-path-preserved
loop-path-preserved c =
    item_more with_text c.loop-path.among _ c.path-item.result c.args.paths.now c.loop-path.path-index _ _ _ _ _ _
    c.loop-path.invariant c.loop-path-test.true c.path-item.is c.in_ok-among.ensures refl
