use Rattle.std.proofs.Common.{◌≡◌, drop}
use Rattle.std.specs.List.{fold}
use Rattle.hc_config.specs.Options.{step_of, with_word}
use Rattle.hc_config.proofs.options.step_of.Given as goal

abbrev pub invariant-loop-word : goal.invariant-loop-word
invariant-loop-word l = step_of l.words ≡ fold with_word l.step (drop l.word-index l.words)
