use Rattle.std.proofs.Common.{◌≡◌, ◌++◌, drop}
use Rattle.hc_config.proofs.effect.texts_of.Given as goal

abbrev pub invariant-loop-word : goal.invariant-loop-word
invariant-loop-word l = l.words ≡ l.texts ++ drop l.word-index l.words
