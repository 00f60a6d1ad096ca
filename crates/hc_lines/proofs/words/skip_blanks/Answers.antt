use Rattle.hc_lines.proofs.Common.{◌≡◌, ◌<◌, refl, sym, ap, subst, ◌∙◌, slice_index, length, List, ℕ}
use Rattle.hc_lines.proofs.Common.{true, is_blank}
use Rattle.std.proofs.lemmas.Str.{IsCharBoundary-after_ascii, IsCharBoundary-start}
use Rattle.hc_lines.proofs.WordsCount.{skipped}
use Rattle.hc_base.proofs.Shared.{blank_ascii}
use Rattle.hc_lines.proofs.words.skip_blanks.Goals as goal

pub loop-index-init : goal.loop-index-init
loop-index-init c = (IsCharBoundary-start c.args.text.now c.utf8.text, refl)

pub loop-index-preserved : goal.loop-index-preserved
loop-index-preserved c =
    let same = c.as_bytes-byte-items.ensures.value in
    let within : c.loop-index.index < length c.args.text.now = let P : List ℕ → Type 0 = λ bs. c.loop-index.index
    < length bs in subst P same c.loop-index-test.true in
    let blank : is_blank (slice_index c.args.text.now c.loop-index.index) ≡ true =
    ap (λ bs. is_blank (slice_index bs c.loop-index.index)) (sym same) ∙ sym c.is_blank.ensures
    ∙ c.if-not-is_blank.false in (
      IsCharBoundary-after_ascii c.args.text.now c.loop-index.index c.utf8.text within (blank_ascii _ blank),
      c.loop-index.invariant.1 ∙ skipped c.args.text.now c.loop-index.index within blank,
    )
