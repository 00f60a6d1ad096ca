use Rattle.hc_match.proofs.Common.{◌≡◌, ◌≤◌, ◌+◌, ◌*◌, [], Held, frame_ways, ends}
use Rattle.hc_match.proofs.straight.Straight.+straight.Given as goal

abbrev pub decreases-go_on : goal.decreases-go_on
decreases-go_on l = 8 * l.self.now.steps

abbrev pub decreases-close : goal.decreases-close
decreases-close l = 8 * l.self.now.steps + 1

abbrev pub decreases-ends : goal.decreases-ends
decreases-ends l = 8 * l.self.now.steps + 3

abbrev pub decreases-look : goal.decreases-look
decreases-look l = 8 * l.self.now.steps + 1

abbrev pub decreases-moved : goal.decreases-moved
decreases-moved l = 8 * l.self.now.steps + 1

abbrev pub decreases-part : goal.decreases-part
decreases-part l = 8 * l.self.now.steps + 6

abbrev pub decreases-body : goal.decreases-body
decreases-body l = 8 * l.self.now.steps + 5

abbrev pub decreases-pattern : goal.decreases-pattern
decreases-pattern l = 8 * l.self.now.steps + 1

abbrev pub decreases-node : goal.decreases-node
decreases-node l = 8 * l.self.now.steps

abbrev pub decreases-prefer : goal.decreases-prefer
decreases-prefer l = 8 * l.self.now.steps + 2

abbrev pub decreases-turns : goal.decreases-turns
decreases-turns l = 8 * l.self.now.steps + 3

abbrev pub decreases-repeat : goal.decreases-repeat
decreases-repeat l = 8 * l.self.now.steps + 4

abbrev pub invariant-ends-ends : goal.invariant-ends-ends
invariant-ends-ends l = record {
  unset : l.self.settings.items ≡ [];
  steps : l.self.steps ≤ l.fn.self.steps;
  within : l.left.first + l.left.more ≤ l.fn.run.first + l.fn.run.more;
  left : (held : Held) → ends l.greedy (frame_ways l.text l.next) l.left.first l.left.more held
      ≡ ends l.greedy (frame_ways l.text l.next) l.fn.run.first l.fn.run.more held;
}

abbrev pub decreases-ends-ends : goal.decreases-ends-ends
decreases-ends-ends l = l.left.more
