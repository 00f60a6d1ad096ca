use Rattle.std.proofs.Common.{◌≡◌, drop}
use Rattle.std.specs.List.{fold}
use Rattle.hc_merge.specs.Settings.{on_after, still_on}
use Rattle.hc_merge.proofs.settings.on_after.Given as goal

abbrev pub invariant-loop-step : goal.invariant-loop-step
invariant-loop-step l = on_after l.option l.fn.on l.steps ≡ fold (still_on l.option) l.on (drop l.step-index l.steps)
