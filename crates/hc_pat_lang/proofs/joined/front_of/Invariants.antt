use Rattle.hc_pat_lang.proofs.Common.{take}
use Rattle.hc_pat_lang.specs.Sets.{AreOnly}
use Rattle.hc_pat_lang.proofs.joined.front_of.Given as goal

abbrev pub invariant-loop-count : goal.invariant-loop-count
invariant-loop-count l = AreOnly (take l.count l.sets) l.text.items
