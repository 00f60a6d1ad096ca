use Rattle.std.proofs.Common.{◌++◌, ap, ◌∙◌}
use Rattle.std.specs.Prelude.{codes}
use Rattle.hc_generate.specs.Summary.{member_text, summary_line}
use Rattle.hc_generate.proofs.summary_line.SummaryLine.tell.Goals as goal

pub returns : goal.returns
unfolding summary_line
returns c =
    let tally = c.args.tally in
    c.from.ensures ∙ c.self.view_is ∙ c.put.ensures ∙ ap (λ l. l ++ codes "}}\n") (c.member-6.ensures.text
    ∙ ap (λ l. l ++ member_text (codes ",\"no_memory\":") tally.no_memory) (c.member-5.ensures.text
    ∙ ap (λ l. l ++ member_text (codes ",\"missing\":") tally.missing) (c.member-4.ensures.text
    ∙ ap (λ l. l ++ member_text (codes ",\"files\":") tally.files) (c.member-3.ensures.text
    ∙ (λ i. (c.member-2.ensures.text ∙ ap (λ l. l ++ member_text (codes ",\"denied\":") tally.denied)
    (c.member.ensures.text
    ∙ (λ i. c.requires i ++ member_text (codes "{\"summary\":{\"asks\":") (c.asks.ensures i)))) i ++ member_text
    (codes ",\"evaluations\":") (c.evaluations.ensures i))))))
