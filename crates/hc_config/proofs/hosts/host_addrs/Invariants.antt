use Rattle.std.proofs.Common.{◌≡◌, drop}
use Rattle.hc_config.specs.Hosts.{addrs_from, host_addrs}
use Rattle.hc_config.proofs.hosts.host_addrs.Given as goal

abbrev pub invariant-loop-word : goal.invariant-loop-word
invariant-loop-word l = host_addrs l.words ≡ addrs_from l.addresses (drop l.word-index l.words)
