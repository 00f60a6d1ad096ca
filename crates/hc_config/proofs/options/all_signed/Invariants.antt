use Rattle.std.proofs.Common.{◌≡◌, drop}
use Rattle.hc_config.specs.Options.{all_signed, signed_from}
use Rattle.hc_config.proofs.options.all_signed.Given as goal

abbrev pub invariant-loop-word : goal.invariant-loop-word
invariant-loop-word l = all_signed l.words ≡ signed_from l.signed.items (drop l.word-index l.words)
