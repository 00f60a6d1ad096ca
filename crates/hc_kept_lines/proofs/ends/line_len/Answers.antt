use Rattle.std.proofs.Common.{◌≡◌, ◌<◌, false, arith, sym, ◌∙◌, take}
use borrow.Author.Count.{below_more}
use Rattle.hc_kept_lines.specs.Edit.{is_ended}
use Rattle.hc_kept_lines.proofs.Cutting.{line_len-all, line_len-found}
use Rattle.hc_kept_lines.proofs.ends.line_len.Goals as goal

pub loop-end-preserved : goal.loop-end-preserved
loop-end-preserved c =
    let text = c.args.text.now in
    λ k some less. below_more (λ k. 0 < k → is_ended (take k text) ≡ false) c.loop-end.end
    (λ j within more. c.loop-end.invariant j more within) (λ _. sym c.is_ended.ensures
    ∙ c.if-is_ended.false) k less some

pub returns-then-is_ended : goal.returns-then-is_ended
returns-then-is_ended c =
    line_len-found c.args.text.now c.loop-end.end (omega arith) (omega arith) c.loop-end.invariant
    (sym c.is_ended.ensures ∙ c.if-is_ended.true)

pub returns : goal.returns
returns c =
    line_len-all c.args.text.now c.requires (λ k some less. c.loop-end.invariant k some (omega arith))
