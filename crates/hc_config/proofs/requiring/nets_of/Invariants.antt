use Rattle.std.proofs.Common.{◌≡◌, drop}
use Rattle.hc_config.specs.Requires.{nets_of}
use Rattle.hc_config.specs.RequireViews.{with_nets}
use Rattle.hc_config.proofs.requiring.nets_of.Given as goal

abbrev pub invariant-loop-word : goal.invariant-loop-word
invariant-loop-word l = nets_of l.words ≡ with_nets l.nets (nets_of (drop l.word-index l.words))
