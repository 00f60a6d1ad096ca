use Rattle.std.proofs.Common.{◌≡◌, ◌++◌, drop}
use Rattle.hc_config.specs.Options.{without}
use Rattle.hc_config.proofs.options.without.Given as goal

abbrev pub invariant-loop-option : goal.invariant-loop-option
invariant-loop-option l = without l.options l.held ≡ l.left ++ without l.options (drop l.option-index l.held)
