use Rattle.hc_pattern.proofs.Common.{Some, ◌∙◌, ap, sym, reverse, unclosed_refusal}
use Rattle.hc_pattern.proofs.ReadingLemmas.{unclosed_first}
use Rattle.hc_pattern.proofs.reading.leftmost.Goals as goal

pub returns-in-Some : goal.returns-in-Some
returns-in-Some c = ap Some c.wrong.ensures
    ∙ sym (ap (λ l. unclosed_refusal (reverse l)) c.in-Some.ensures.cases.0
    ∙ unclosed_first c.in-Some.first.now c.in-Some.field-0-1.now)
