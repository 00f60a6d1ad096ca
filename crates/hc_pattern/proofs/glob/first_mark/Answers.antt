use Rattle.hc_pattern.proofs.Common.{eq-eqb, arith, nat_tests}
use Rattle.hc_pattern.proofs.GlobLemmas.{escaped, unescaped}
use Rattle.hc_pattern.proofs.glob.first_mark.Goals as goal

pub returns-then-byte-ne92-clause-value : goal.returns-then-byte-ne92-clause-value
returns-then-byte-ne92-clause-value c =
    unescaped c.args.at c.in_ok-byte.byte.now c.in-Some.next.now c.args.text.now c.in_ok-byte.more.now
    c.in-Some.rest.now c.in_ok-byte.ensures.cases.0 c.in-Some.ensures.cases.0
    (grind (arith, nat_tests, c.if-byte-ne92.true))

pub returns-clause-value : goal.returns-clause-value
returns-clause-value c =
    escaped c.args.at c.in_ok-byte.byte.now c.in-Some.next.now c.args.text.now c.in_ok-byte.more.now c.in-Some.rest.now
    c.in_ok-byte.ensures.cases.0 c.in-Some.ensures.cases.0 (eq-eqb c.in_ok-byte.byte.now 92 c.if-byte-ne92.false)
