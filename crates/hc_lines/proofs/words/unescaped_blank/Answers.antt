use Rattle.std.proofs.Common.{sym, ◌∙◌, arith}
use Rattle.hc_lines.proofs.WordsScan.{blank_here, blank_step}
use Rattle.hc_lines.proofs.words.unescaped_blank.Goals as goal

pub returns-then-is_blank-clause-value : goal.returns-then-is_blank-clause-value
returns-then-is_blank-clause-value c =
    omega (
      arith,
      c.loop-index.invariant.1,
      blank_here c.args.bytes.now c.loop-index.index c.loop-index-test.true
          (sym c.is_blank.ensures ∙ c.if-is_blank.true),
    )

pub loop-index-preserved : goal.loop-index-preserved
loop-index-preserved c = (
  omega arith,
  omega (
    arith,
    c.loop-index.invariant.1,
    blank_step c.args.bytes.now c.loop-index.index c.spelled_len-index.result c.loop-index-test.true
        (sym c.is_blank.ensures ∙ c.if-is_blank.false) c.spelled_len-index.ensures.value,
  ),
)
