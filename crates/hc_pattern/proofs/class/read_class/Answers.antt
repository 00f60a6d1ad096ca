use Rattle.hc_pattern.proofs.Common.{◌≡◌, ◌∙◌, ◌+◌, ◌-◌, ap, drop, get_or, length, sym, take, map}
use Rattle.hc_pattern.specs.ClassViews.{placed_view}
use Rattle.hc_pattern.specs.MemberViews.{member_view, written_view}
use Rattle.hc_pattern.specs.Members.{member_at}
use Rattle.hc_pattern.proofs.ClassLemmas.{class_member, class_passed, placed_at}
use Rattle.hc_pattern.proofs.class.read_class.Goals as goal

pub loop-i-preserved-then-passed-gt0 : goal.loop-i-preserved-then-passed-gt0
loop-i-preserved-then-passed-gt0 c =
    class_passed (map placed_view c.loop-i.members.items) c.args.text.now c.loop-i.passed c.args.from c.loop-i.i
    c.loop-i.first c.loop-i-test.true c.if-passed-gt0.true ∙ c.loop-i.invariant

pub loop-i-preserved : goal.loop-i-preserved
loop-i-preserved c =
    let text = c.args.text.now in
    let i = c.loop-i.i in
    let here : c.in-Ok.at ≡ c.args.from + i = c.in-Ok.ensures.1 ∙ c.in-Some.ensures.1 in
    class_member c.loop-i.members.items c.push.new.self.items _ text c.loop-i.passed c.args.from i
    c.saturating_sub-passed.result c.loop-i.first (written_view c.member_at-written.result)
    c.loop-i-test.true c.if-passed-gt0.false (sym c.closes.ensures ∙ c.if-closes.false)
    (c.member_at-written.ensures
    ∙ ap (λ at. member_at at (get_or text i 0) (take (length text - (i + 1)) (drop (i + 1) text))) here)
    (ap (placed_at (member_view c.member_at-written.result.member)) here) c.saturating_sub-passed.ensures
    c.in_ok-push.ensures.items
    ∙ c.loop-i.invariant
