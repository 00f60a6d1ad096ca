use Rattle.std.proofs.Common.{false, sym, ◌∙◌}
use Rattle.hc_pattern.specs.declared.mark.Mark.{Mark}
use Rattle.hc_pattern.specs.GlobViews.{piece_view}
use Rattle.hc_pattern.proofs.Unclosed.{no_wildcard, piece_found, unclosed_found}
use Rattle.hc_pattern.proofs.glob.some_wildcard.Goals as goal

pub loop-i-preserved : goal.loop-i-preserved
loop-i-preserved c =
    let marks = c.args.marks.now in
    let i = c.loop-i.i in
    let none : Mark = record { byte = 0; plain = false; at = 0 } in
    let piece = piece_view c.piece_at-piece.result in
    let held = c.loop-i.invariant in
    let is = piece_found c.loop-i.unclosed marks i none piece c.loop-i-test.true held.1 c.piece_at-piece.ensures in (
      no_wildcard marks i none piece c.loop-i-test.true is (sym c.is_wildcard.ensures ∙ c.if-is_wildcard.false)
          ∙ held.0,
      unclosed_found c.loop-i.unclosed c.with_unclosed-unclosed.result marks i none piece c.loop-i-test.true held.1 is
          c.with_unclosed-unclosed.ensures,
    )
