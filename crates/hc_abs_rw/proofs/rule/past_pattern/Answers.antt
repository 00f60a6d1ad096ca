use Rattle.hc_abs_rw.proofs.Common.{◌∙◌, ◌∷◌, ◌++◌, [], refl, ap, subst}
use Rattle.hc_rw_eval.specs.Conditions.{or_groups}
use Rattle.hc_abs_rw.specs.Conditions.{conds_plan}
use Rattle.hc_abs_rw.specs.Known.{frame_at}
use Rattle.hc_abs_rw.specs.RuleBranches.{tied_in, unmatched}
use Rattle.hc_abs_rw.specs.Trials.{IsTriedBy}
use Rattle.hc_abs_rw.proofs.RuleBranches.{pattern_failed, pattern_held}
use Rattle.hc_abs_rw.proofs.rule.past_pattern.Goals as goal

pub returns : goal.returns
returns g c =
    let frame = frame_at g.S.Surroundings.kind g.S.Surroundings.values c.args.frame.now in
    let client = c.args.frame.now.client in (
      c.in_ok-later.later.items,
      c.in_ok-append.ensures.items,
      pattern_held frame client c.args.rule.now c.args.setting c.args.so_far.now c.args.looked
          (record { known = c.args.looked.known; decisions = c.in_ok-decisions.decisions; holds = c.args.looked.holds })
          c.in_ok-trials.trials.items c.in_ok-later.later.items c.if-not-holds.false refl c.in_ok-decisions.ensures
          (subst (λ conds. IsTriedBy client (λ so_far. conds_plan frame so_far (or_groups conds))
          (record { known = c.args.looked.known; decisions = c.in_ok-decisions.decisions; holds = c.args.looked.holds })
          c.in_ok-trials.trials.items) c.as_slice.ensures c.in_ok-trials.ensures)
          c.in_ok-later.ensures,
    )

pub returns-then-not-holds : goal.returns-then-not-holds
returns-then-not-holds g c = (
  unmatched (tied_in c.args.looked.known) c.args.so_far.now c.args.rule.now ∷ [],
  c.in_ok-push.ensures.items ∙ ap (λ one. c.args.found.now.items ++ one ∷ []) c.in_ok-unmatched.ensures,
  pattern_failed (frame_at g.S.Surroundings.kind g.S.Surroundings.values c.args.frame.now) c.args.frame.now.client
      c.args.rule.now c.args.setting c.args.so_far.now c.args.looked c.if-not-holds.true,
)
