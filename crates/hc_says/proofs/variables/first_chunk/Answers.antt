use Rattle.std.proofs.Common.{sym}
use Rattle.hc_says.proofs.Replacing.{replaced_none, replaced_chunk}
use Rattle.hc_says.proofs.variables.first_chunk.Goals as goal

pub returns-in_default-clause-value : goal.returns-in_default-clause-value
returns-in_default-clause-value c value = replaced_none value c.args.text.now (cc)

pub returns-clause-value : goal.returns-clause-value
returns-clause-value c value =
    rw (c.cut_before.ensures.front, c.cut_behind.ensures.back, c.as_bytes-bytes.ensures.value)
    (replaced_chunk value c.args.text.now c.in-Some.end
    (rw c.as_bytes-bytes.ensures.value at (sym c.in-Some.ensures.value)))
