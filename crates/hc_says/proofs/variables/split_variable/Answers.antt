use Rattle.std.proofs.Common.{arith, sym, ◌∙◌}
use Rattle.hc_says.proofs.Replacing.{closed_more}
use Rattle.hc_says.proofs.variables.split_variable.Goals as goal

pub loop-at-preserved : goal.loop-at-preserved
loop-at-preserved c value =
    let plain = sym (rw (c.split_at.ensures.back, c.as_bytes-bytes.ensures.value) at c.begins_variable.ensures)
    ∙ c.if-begins_variable.false in
    closed_more value c.args.text.now c.loop-at.at (omega (arith, c.as_bytes-bytes.ensures.len)) plain
    (c.loop-at.invariant value)
