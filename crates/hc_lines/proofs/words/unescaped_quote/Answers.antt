use Rattle.hc_lines.proofs.Common.{sym, ◌∙◌, quote_view}
use Rattle.std.proofs.lemmas.Bool.{eq-eqb, ne_eqb}
use Rattle.hc_lines.proofs.WordsScan.{moved-zero, quote_here, quote_step}
use Rattle.hc_lines.proofs.words.unescaped_quote.Goals as goal

pub loop-index-init : goal.loop-index-init
loop-index-init c = moved-zero _

pub returns-then-bytes-index-clause-value : goal.returns-then-bytes-index-clause-value
returns-then-bytes-index-clause-value c =
    sym (c.loop-index.invariant ∙ quote_here (quote_view c.args.quote) c.args.bytes.now c.loop-index.index
    c.loop-index-test.true (eq-eqb _ _ (c.if-bytes-index.true ∙ c.byte.ensures)))

pub loop-index-preserved : goal.loop-index-preserved
loop-index-preserved c =
    c.loop-index.invariant ∙ quote_step (quote_view c.args.quote) c.args.bytes.now c.loop-index.index
    c.spelled_len-index.result c.loop-index-test.true
    (ne_eqb _ _ (λ e. c.if-bytes-index.false (e ∙ sym c.byte.ensures))) c.spelled_len-index.ensures.value
