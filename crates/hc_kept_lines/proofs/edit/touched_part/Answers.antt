use Rattle.std.proofs.Common.{◌++◌, ap, arith, drop, take, ◌∙◌}
use Rattle.std.proofs.lemmas.Str.{IsCharBoundary-from_drop}
use Rattle.hc_kept_lines.proofs.Editing.{IsPart-made}
use Rattle.hc_kept_lines.proofs.Keeping.{Parts-back}
use Rattle.hc_kept_lines.proofs.edit.touched_part.Goals as goal

pub split_at-requires : goal.split_at-requires
split_at-requires c = IsCharBoundary-from_drop c.args.old.now c.args.start
    (omega (arith, c.requires.order, c.requires.within)) c.requires.cut

pub split_at-requires-2 : goal.split_at-requires-2
split_at-requires-2 c = IsCharBoundary-from_drop c.args.old.now c.args.end c.requires.within c.requires.resumed

pub split_line-requires-2-clause-parts : goal.split_line-requires-2-clause-parts
split_line-requires-2-clause-parts c =
    let more = c.touched_len-more.result in
    Parts-back c.as_bytes-2.result.now (take more c.split_at-2.result.1.now) (drop more c.split_at-2.result.1.now)
    (rw c.as_bytes-4.ensures.value at c.touched_len-more.ensures.was)

pub returns : goal.returns
returns c =
    let old = c.args.old.now in
    let new = c.args.new.now in
    let first = c.open_start-first.result in
    let more = c.touched_len-more.result in
    let mid = drop first (take c.args.start old) in
    let front = c.as_bytes.ensures.value ∙ c.split_at.ensures.front in
    let was = c.as_bytes-2.ensures.value ∙ c.split_at-2.ensures.front in
    let back = c.as_bytes-4.ensures.value ∙ c.split_at-2.ensures.back in
    let made = c.in_ok-push_str.ensures.bytes
    ∙ ap (λ l. l ++ new) (c.in_ok-text.ensures.ok ∙ c.split_line.ensures.behind
    ∙ ap (drop first) c.split_at.ensures.front) in
    let now = c.as_bytes-3.ensures.value ∙ made in
    let opened = c.open_start-first.ensures in
    let touches = c.touched_len-more.ensures in
    IsPart-made old c.args.start c.args.end new first more _ (omega (arith, c.requires.order, c.requires.within))
    c.requires.within (rw front at opened.inside) (rw front at opened.ended) (rw front at opened.open)
    (rw back at touches.inside) (rw (was, now, back) at touches.value) (rw (was, back) at touches.was)
    (rw (now, back) at touches.now)
    (c.in_ok-push_str-2.ensures.bytes ∙ ap (λ l. l ++ c.split_line-2.result.0.now) made
    ∙ ap (λ l. (mid ++ new) ++ l) (c.split_line-2.ensures.line ∙ ap (take more) c.split_at-2.ensures.back))
