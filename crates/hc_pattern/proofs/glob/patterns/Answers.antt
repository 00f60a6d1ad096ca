use Rattle.std.proofs.Common.{false, ◌∙◌}
use Rattle.hc_pattern.specs.declared.mark.Mark.{Mark}
use Rattle.hc_pattern.specs.GlobViews.{piece_view}
use Rattle.hc_pattern.proofs.GlobLemmas.{passed_step, piece_step}
use Rattle.hc_pattern.proofs.Unclosed.{piece_found, unclosed_found, unclosed_passed}
use Rattle.hc_pattern.proofs.glob.patterns.Goals as goal

pub loop-i-preserved-then-passed-gt0 : goal.loop-i-preserved-then-passed-gt0
loop-i-preserved-then-passed-gt0 c =
    let none : Mark = record { byte = 0; plain = false; at = 0 } in (
      passed_step c.args.keeps_slash c.loop-i.patterns.items c.args.marks.now c.loop-i.passed c.loop-i.i none
          c.loop-i-test.true c.if-passed-gt0.true
          ∙ c.loop-i.invariant.0,
      unclosed_passed c.loop-i.unclosed c.args.marks.now c.loop-i.i none c.loop-i-test.true c.loop-i.invariant.1,
    )

pub loop-i-preserved : goal.loop-i-preserved
loop-i-preserved c =
    let marks = c.args.marks.now in
    let i = c.loop-i.i in
    let none : Mark = record { byte = 0; plain = false; at = 0 } in
    let piece = piece_view c.piece_at-piece.result in
    let held = c.loop-i.invariant in
    let is = piece_found c.loop-i.unclosed marks i none piece c.loop-i-test.true held.1 c.piece_at-piece.ensures in (
      piece_step c.args.keeps_slash c.loop-i.patterns.items c.push.new.self.items c.in_ok-piece_pattern.field-0 marks
          c.loop-i.passed c.more_of-passed.result i piece
          none c.loop-i-test.true c.if-passed-gt0.false is c.more_of-passed.ensures c.in_ok-piece_pattern.ensures
          c.in_ok-push.ensures.items
          ∙ held.0,
      unclosed_found c.loop-i.unclosed c.with_unclosed-unclosed.result marks i none piece c.loop-i-test.true held.1 is
          c.with_unclosed-unclosed.ensures,
    )
