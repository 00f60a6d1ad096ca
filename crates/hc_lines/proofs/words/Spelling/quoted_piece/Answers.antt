use Rattle.hc_lines.proofs.Common.{◌≡◌, ◌+◌, suc, Some, take, drop, sym, ap, ◌∙◌, arith, quoted_word}
use Rattle.hc_lines.proofs.Common.{word, quote_view, spelling_view}
use Rattle.hc_lines.proofs.words.Spelling.quoted_piece.Goals as goal

pub returns-in-Some : goal.returns-in-Some
returns-in-Some c =
    let view = spelling_view c.args.self in
    let quote = quote_view c.args.quote in
    let closes : view.closing quote c.args.text.now ≡ Some c.in-Some.end =
    ap (view.closing quote) (sym c.as_bytes.ensures.value) ∙ sym c.in-Some.ensures.value in
    let e : suc c.in-Some.end ≡ c.in-Some.end + 1 = omega arith in
    ap (quoted_word view quote c.args.text.now) closes
    ∙ ap (λ n. word (view.quoted quote (take c.in-Some.end c.args.text.now)) (drop n c.args.text.now)) e
    ∙ ap (λ bs. word (view.quoted quote bs) (drop (c.in-Some.end + 1) c.args.text.now))
    (sym c.cut_before.ensures.front)
    ∙ ap (word (view.quoted quote c.cut_before.result.0.now)) (sym c.cut_behind.ensures.back)
