use Rattle.hc_abs_rw.proofs.Common.{◌∙◌, ◌∷◌, ◌++◌, [], ap}
use Rattle.hc_abs_rw.specs.Known.{frame_at}
use Rattle.hc_abs_rw.specs.RuleBranches.{matched, tied_in, unmatched}
use Rattle.hc_abs_rw.proofs.RuleBranches.{conds_failed, conds_held}
use Rattle.hc_abs_rw.proofs.rule.past_conds.Goals as goal

pub returns : goal.returns
returns g c =
    let frame = frame_at g.S.Surroundings.kind g.S.Surroundings.values c.args.frame.now in (
      matched c.args.trial.decisions c.args.rule.now c.in_ok-ends.ends.items,
      c.in_ok-add_ends.ensures,
      conds_held frame c.args.frame.now.client c.args.rule.now c.args.setting c.args.trial c.in_ok-ends.ends.items
          c.if-not-holds.false c.in_ok-ends.ensures,
    )

pub returns-then-not-holds : goal.returns-then-not-holds
returns-then-not-holds g c = (
  unmatched (tied_in c.args.trial.known) c.args.trial.decisions c.args.rule.now ∷ [],
  c.in_ok-push.ensures.items ∙ ap (λ one. c.args.found.now.items ++ one ∷ []) c.in_ok-unmatched.ensures,
  conds_failed (frame_at g.S.Surroundings.kind g.S.Surroundings.values c.args.frame.now) c.args.frame.now.client
      c.args.rule.now c.args.setting c.args.trial c.if-not-holds.true,
)
