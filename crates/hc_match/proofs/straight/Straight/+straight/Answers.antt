use Rattle.hc_match.proofs.Common.{Some, flat_map, ◌∷◌, ◌++◌, first_end, other_first, [], nat_lt}
use Rattle.hc_match.proofs.Common.{if◌then◌else◌, ◌≡◌, ◌-◌, arith, ap, ◌∙◌, subst, sym, length}
use Rattle.hc_match.proofs.Common.{is_first, is_alt, is_cat, is_group, pattern_of, alt, cat, group, last_ways}
use Rattle.hc_match.proofs.Common.{with_group, behind, step_where, Says, frame_ways, preferring, turns_ways, ends}
use Rattle.hc_match.proofs.Runs.{ends_are, ends_gone, within_others}
use Rattle.hc_match.proofs.Saying.{any_turn_is, both_is, either_is, first_turn_is, further_turn_is, group_is, only_way}
use Rattle.hc_match.proofs.Saying.{said, said_before, run_of_is, same_way, second_is, set_over}
use Rattle.hc_match.proofs.straight.Straight.+straight.Goals as goal

pub close-returns-clause-says : goal.close-returns-clause-says
close-returns-clause-says t c held =
    let says = rw c.in-Matched.is at c.in_ok-tried.ensures.says in let settings = c.go_on.new.self.settings.items in
    says (with_group c.args.group (record { start = c.args.start; end = c.args.at }) held)
    ∙ ap (λ over. Some (record { end = c.go_on.new.self.end; held = over }))
    (set_over held c.args.group c.args.start c.args.at settings c.push.new.self.items
    (c.in_ok-push.ensures.items ∙ ap (λ setting. settings ++ setting ∷ []) c.in_ok-to.ensures))

pub node-returns-in-Cat-clause-says : goal.node-returns-in-Cat-clause-says
node-returns-in-Cat-clause-says t c =
    let text = c.args.text.now in
    let is : pattern_of c.args.pat.now ≡ cat (pattern_of c.in-Cat.first.value) (pattern_of c.in-Cat.second.value) =
    ap pattern_of c.in-Cat.is ∙ is_cat c.in-Cat.first c.in-Cat.second in
    said c.part.result c.part.new.self _ _
    (both_is text (pattern_of c.args.pat.now) (pattern_of c.in-Cat.first.value) (pattern_of c.in-Cat.second.value)
    (pattern_of c.deref-in-Cat.result.now) (pattern_of c.deref.result.now)
    (frame_ways text c.args.next.now) c.args.at is (ap pattern_of c.deref-in-Cat.ensures)
    (ap pattern_of c.deref.ensures))
    c.part.ensures.says

pub part-returns-in-Failed-clause-says : goal.part-returns-in-Failed-clause-says
part-returns-in-Failed-clause-says t c =
    let is : pattern_of c.args.pat.now ≡ alt (pattern_of c.in-Alt.first.value) (pattern_of c.in-Alt.second.value) =
    ap pattern_of c.in-Alt.is ∙ is_alt c.in-Alt.first c.in-Alt.second in
    let text = c.args.text.now in let next = frame_ways text c.args.next.now in
    let none = rw c.in-Failed.is at c.in_ok-tried-in-Alt.ensures.says in
    said c.pattern-in-Failed.result c.pattern-in-Failed.new.self _ _
    (second_is text (pattern_of c.args.pat.now) (pattern_of c.in-Alt.first.value) (pattern_of c.in-Alt.second.value)
    (pattern_of c.deref.result.now) (pattern_of c.deref-in-Failed.result.now)
    next c.args.at is (ap pattern_of c.deref.ensures) (ap pattern_of c.deref-in-Failed.ensures) none.0)
    c.pattern-in-Failed.ensures.says

pub part-returns-in_default-clause-says : goal.part-returns-in_default-clause-says
part-returns-in_default-clause-says t c =
    let is : pattern_of c.args.pat.now ≡ alt (pattern_of c.in-Alt.first.value) (pattern_of c.in-Alt.second.value) =
    ap pattern_of c.in-Alt.is ∙ is_alt c.in-Alt.first c.in-Alt.second in
    let text = c.args.text.now in let next = frame_ways text c.args.next.now in
    let first = pattern_of c.deref.result.now in
    let second = pattern_of c.in-Alt.second.value in
    subst (Says c.in_ok-tried-in-Alt.tried c.pattern.new.self)
    (λ i held. either_is text (pattern_of c.args.pat.now) (pattern_of c.in-Alt.first.value) second first next c.args.at
    is (ap pattern_of c.deref.ensures) held i)
    (said_before c.in_ok-tried-in-Alt.tried c.pattern.new.self (behind (last_ways text first) next c.args.at)
    (behind (last_ways text second) next c.args.at) c.in_default.not-Failed c.in_ok-tried-in-Alt.ensures.says)

pub part-returns-in-Group-clause-says : goal.part-returns-in-Group-clause-says
part-returns-in-Group-clause-says t c =
    let is : pattern_of c.args.pat.now ≡ group c.in-Group.group (pattern_of c.in-Group.body.value) =
    ap pattern_of c.in-Group.is ∙ is_group c.in-Group.group c.in-Group.body in
    let text = c.args.text.now in
    said c.body.result c.body.new.self _ _
    (group_is text (pattern_of c.args.pat.now) (pattern_of c.in-Group.body.value)
    (pattern_of c.deref-in-Group.result.now) c.in-Group.group
    (frame_ways text c.args.next.now) c.args.at is (ap pattern_of c.deref-in-Group.ensures))
    c.body.ensures.says

pub part-returns-in-Some-clause-says : goal.part-returns-in-Some-clause-says
part-returns-in-Some-clause-says t c =
    let text = c.args.text.now in
    said c.go_on.result c.go_on.new.self _ _
    (only_way (last_ways text (pattern_of c.args.pat.now)) (frame_ways text c.args.next.now) c.args.at c.in-Some.end
    c.in-Some.ensures.some) c.go_on.ensures.says

pub pattern-returns-clause-says : goal.pattern-returns-clause-says
pattern-returns-clause-says t c =
    let text = c.args.text.now in
    said c.node.result c.node.new.self _ _
    (same_way (last_ways text (pattern_of c.in-Some.rest.pat.now)) (last_ways text (pattern_of c.args.pat.now))
    (frame_ways text c.args.next.now) c.in-Some.rest.at c.args.at c.in-Some.ensures.some) c.node.ensures.says

pub turns-returns-then-turns-gt0-clause-says : goal.turns-returns-then-turns-gt0-clause-says
turns-returns-then-turns-gt0-clause-says t c =
    let text = c.args.text.now in let body = c.args.body.now in let turns = c.args.turns in
    let ways = last_ways text (pattern_of body) in
    let next = frame_ways text c.args.next.now in
    said c.pattern.result c.pattern.new.self _ _
    (λ held. ap (λ rest. behind ways (behind (turns_ways text body rest) next) c.args.at held) c.behind_one.ensures
    ∙ first_turn_is (length text) ways next turns.least turns.most turns.greedy c.args.at c.if-turns-gt0.true
    (sym c.if-are_none.ensures) held)
    c.pattern.ensures.says

pub turns-returns-then-is_some-clause-says : goal.turns-returns-then-is_some-clause-says
turns-returns-then-is_some-clause-says t c =
    let text = c.args.text.now in let body = c.args.body.now in let turns = c.args.turns in
    let ways = last_ways text (pattern_of body) in
    let next = frame_ways text c.args.next.now in
    said c.prefer.result c.prefer.new.self _ _
    (λ held. ap
    (λ rest. preferring turns.greedy (behind ways (behind (turns_ways text body rest) next)) next c.args.at held)
    c.behind_one.ensures
    ∙ further_turn_is (length text) ways next turns.least turns.most turns.greedy c.args.at c.if-turns-gt0.false
    c.if-eq.ensures c.if-is_some.ensures held)
    c.prefer.ensures.says

pub turns-returns-clause-says : goal.turns-returns-clause-says
turns-returns-clause-says t c =
    let text = c.args.text.now in let body = c.args.body.now in let turns = c.args.turns in
    let ways = last_ways text (pattern_of body) in
    let next = frame_ways text c.args.next.now in
    said c.prefer-2.result c.prefer-2.new.self _ _
    (λ held. ap
    (λ rest. preferring turns.greedy
    (behind ways (λ end held. if nat_lt c.args.at end then behind (turns_ways text body rest) next end held
    else [])) next c.args.at held) c.behind_one.ensures
    ∙ any_turn_is text (pattern_of body) next turns.least turns.most turns.greedy c.args.at c.if-turns-gt0.false
    c.if-is_some.ensures held)
    c.prefer-2.ensures.says

pub repeat-returns-clause-says : goal.repeat-returns-clause-says
repeat-returns-clause-says t c =
    let text = c.args.text.now in let next = frame_ways text c.args.next.now in let run = c.in-Some-run_of.run' in
    let turns = c.args.turns in
    said c.ends.result c.ends.new.self _ _
    (run_of_is (length text) (last_ways text (pattern_of c.args.body.now)) (step_where text (is_first c.in-Some.set))
    next turns.least turns.most turns.greedy c.args.at (ends turns.greedy next run.first run.more)
    (c.in-Some.ensures text) (c.in-Some-run_of.ensures.some turns.greedy next))
    c.ends.ensures.says

pub repeat-returns-in_default-run_of-clause-says : goal.repeat-returns-in_default-run_of-clause-says
repeat-returns-in_default-run_of-clause-says t c =
    let text = c.args.text.now in let next = frame_ways text c.args.next.now in let turns = c.args.turns in (
      λ held. sym
          (run_of_is (length text) (last_ways text (pattern_of c.args.body.now))
          (step_where text (is_first c.in-Some.set)) next turns.least turns.most turns.greedy c.args.at (λ held. [])
          (c.in-Some.ensures text)
          (λ held. ap (flat_map (λ way. next way.end way.held))
          (c.in_default-run_of.ensures.none turns.greedy held)) held),
      c.requires,
    )

pub ends-ends-preserved : goal.ends-ends-preserved
ends-ends-preserved t c =
    let next = frame_ways c.args.text.now c.args.next.now in let left = c.ends.left in
    let none = rw c.in-Failed.is at c.in_ok-tried.ensures.says in
    let others = c.others-left.ensures in
    record {
      unset = none.1;
      steps = omega (arith, c.in_ok-tried.ensures.steps, c.ends.invariant.steps);
      within = within_others c.args.greedy left.first left.more _ _ _ c.ends-test.true others.first others.more
          c.ends.invariant.within;
      left = λ held. rw (others.first, others.more)
          (ends_gone c.args.greedy next left.first left.more held c.ends-test.true
          (rw (← c.end.ensures) (none.0 held))) ∙ c.ends.invariant.left held;
    }

pub ends-returns-in_default-clause-says : goal.ends-returns-in_default-clause-says
ends-returns-in_default-clause-says t c =
    let next = frame_ways c.args.text.now c.args.next.now in let greedy = c.args.greedy in let left = c.ends.left in
    subst (Says c.in_ok-tried.tried c.look.new.self)
    (λ i held. (ends_are greedy next left.first left.more held c.ends-test.true ∙ c.ends.invariant.left held) i)
    (said_before c.in_ok-tried.tried c.look.new.self (next (first_end greedy left.first left.more))
    (ends greedy next (other_first greedy left.first) (left.more - 1)) c.in_default.not-Failed
    (rw c.end.ensures at c.in_ok-tried.ensures.says))

pub look-returns-then-not-may_begin-clause-says : goal.look-returns-then-not-may_begin-clause-says
look-returns-then-not-may_begin-clause-says t c = let lead = rw c.in-Some.is at c.requires.lead in
    (lead c.args.at (c.may_begin.ensures c.if-not-may_begin.true), c.requires.unset)
