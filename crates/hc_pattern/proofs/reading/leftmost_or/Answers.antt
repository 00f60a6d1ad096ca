use Rattle.hc_pattern.proofs.Common.{Some, ◌∙◌, ◌∷◌, ap, sym, reverse, unclosed_refusal}
use Rattle.hc_pattern.proofs.ReadingLemmas.{unclosed_before}
use Rattle.hc_pattern.proofs.reading.leftmost_or.Goals as goal

pub returns-in-Some : goal.returns-in-Some
returns-in-Some c =
    ap (λ l. unclosed_refusal (c.args.at ∷ reverse l)) c.in-Some.ensures.cases.0
    ∙ unclosed_before c.args.at c.in-Some.first.now c.in-Some.field-0-1.now ∙ ap Some (sym c.wrong.ensures)
