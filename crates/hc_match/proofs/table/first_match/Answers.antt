use Rattle.hc_match.proofs.Common.{◌+◌, ◌∙◌, Some, length, sym, ap, pattern_of, HasMeaning, Meaning, Means}
use Rattle.hc_match.proofs.Common.{kept_ways, AllFail, Fails}
use Rattle.hc_match.proofs.Matching.{ended, found_here, found_match, no_match}
use Rattle.hc_match.proofs.Places.{none_here}
use Rattle.hc_match.proofs.table.first_match.Goals as goal

pub returns-then-branch : goal.returns-then-branch
returns-then-branch c =
    let text = c.args.text.now in let pattern = pattern_of c.args.pat.now in let steps = c.steps-steps.result.now in
    let from = c.loop-from.from in
    let reading : HasMeaning text steps c.in_ok-program.start (kept_ways text pattern) =
    rw c.steps-steps.ensures (c.in_ok-program.ensures text) in
    let all = c.loop-from.invariant.0 reading.meaning reading.means in
    let run = c.in_ok-run.ensures reading.meaning c.in_ok-program.start from reading.means
    (c.begin.ensures steps reading.meaning all) in
    ap Some c.in_ok-captures.ensures
    ∙ sym (found_here text pattern (length text + 1) from _ c.loop-from-test.true
    (found_match text pattern steps c.in_ok-program.start from c.in_ok-run.field-0 c.run.new.self reading run
    c.if-branch.true))
    ∙ c.loop-from.invariant.1

pub loop-from-preserved : goal.loop-from-preserved
loop-from-preserved c =
    let text = c.args.text.now in let pattern = pattern_of c.args.pat.now in let steps = c.steps-steps.result.now in
    let start = c.in_ok-program.start in let from = c.loop-from.from in
    let reading : HasMeaning text steps start (kept_ways text pattern) =
    rw c.steps-steps.ensures (c.in_ok-program.ensures text) in
    let over : (meaning : Meaning) → Means text steps meaning → AllFail meaning c.run.new.self.failures
    × Fails meaning start from = λ meaning means.
    ended steps meaning start from c.in_ok-run.field-0 c.run.new.self
    (c.in_ok-run.ensures meaning start from means
    (c.begin.ensures steps meaning (c.loop-from.invariant.0 meaning means))) c.if-branch.false in (
      λ meaning means. (over meaning means).0,
      sym (none_here text pattern (length text + 1) from c.loop-from-test.true
          (no_match text pattern steps start from reading (over reading.meaning reading.means).1))
          ∙ c.loop-from.invariant.1,
    )
