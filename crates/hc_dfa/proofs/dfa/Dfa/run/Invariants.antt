use Rattle.hc_dfa.proofs.Common.{◌≡◌, ◌<◌, drop, states, run}
use Rattle.hc_dfa.proofs.dfa.Dfa.run.Given as goal

abbrev pub invariant-loop-byte : goal.invariant-loop-byte
invariant-loop-byte l =
    record {
      within : l.end < states l.self;
      so_far : run l.self l.end (drop l.byte-index l.text)
          ≡ run l.self l.state l.text;
    }
