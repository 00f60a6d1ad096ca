use Rattle.hc_pattern.proofs.Common.{◌≡◌, ◌∙◌, ◌+◌, ◌-◌, ap, arith, drop, get_or, length, take, map}
use Rattle.hc_pattern.proofs.Common.{sign_at}
use Rattle.hc_pattern.specs.TokenViews.{placed_view, sign_view, token_view}
use Rattle.hc_pattern.proofs.TokenLemmas.{token_at, token_more, token_passed}
use Rattle.hc_pattern.proofs.token.tokens.Goals as goal

pub loop-i-preserved-then-passed-gt0 : goal.loop-i-preserved-then-passed-gt0
loop-i-preserved-then-passed-gt0 c = record {
  all = token_passed c.args.nocase (map placed_view c.loop-i.tokens.items) c.args.text.now c.loop-i.passed
      c.loop-i.groups c.loop-i.i c.loop-i-test.true c.if-passed-gt0.true ∙ c.loop-i.invariant.all;
  few = omega arith;
}

pub loop-i-preserved : goal.loop-i-preserved
loop-i-preserved c =
    let text = c.args.text.now in
    let i = c.loop-i.i in
    let here : c.in-Ok.at ≡ i = c.in-Ok.ensures.1 in record {
      all =
          token_more c.args.nocase c.loop-i.tokens.items c.push.new.self.items _ text c.loop-i.passed c.loop-i.groups i
          c.saturating_sub-passed.result c.groups_with-groups.result (sign_view c.in_ok-sign.sign)
          c.loop-i-test.true c.if-passed-gt0.false
          (c.in_ok-sign.ensures
          ∙ ap (λ at. sign_at c.args.nocase c.loop-i.groups at (get_or text i 0)
          (take (length text - (i + 1)) (drop (i + 1) text))) here)
          (ap (token_at (token_view c.in_ok-sign.sign.token)) here) c.saturating_sub-passed.ensures
          c.groups_with-groups.ensures.value c.in_ok-push.ensures.items
          ∙ c.loop-i.invariant.all;
      few = omega arith;
    }
