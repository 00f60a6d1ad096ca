use Rattle.hc_addr.proofs.Common.{◌≡◌, ◌+◌, drop, option_map, gap_of}
use Rattle.hc_addr.proofs.addr.find_gap.Given as goal

abbrev pub invariant-loop-at : goal.invariant-loop-at
invariant-loop-at l = gap_of l.text ≡ option_map (λ at. at + l.at) (gap_of (drop l.at l.text))
