use Rattle.std.proofs.Common.{◌≡◌, [], drop}
use Rattle.hc_abs_view.specs.Tokens.{kept_after, stack_of}
use Rattle.hc_abs_view.proofs.kept.all_kept.Given as goal

abbrev pub invariant-loop-step : goal.invariant-loop-step
invariant-loop-step l = kept_after (drop l.step-index l.steps) (stack_of l.kept.items l.counts.items)
    ≡ kept_after l.steps (record { tokens = []; counts = [] })
