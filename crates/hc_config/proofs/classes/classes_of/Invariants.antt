use Rattle.std.proofs.Common.{◌≡◌, drop}
use Rattle.hc_config.specs.Options.{classes_from, nothing_allowed}
use Rattle.hc_config.proofs.classes.classes_of.Given as goal

abbrev pub invariant-loop-word : goal.invariant-loop-word
invariant-loop-word l = classes_from nothing_allowed l.words ≡ classes_from l.allowed (drop l.word-index l.words)
