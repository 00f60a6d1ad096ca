use Rattle.std.proofs.Common.{take}
use Rattle.hc_pat_lang.specs.Sets.{AcceptsOnly}
use Rattle.hc_sent.specs.Sites.{FitsNone}
use Rattle.hc_sent.specs.Ways.{AreLedFrom}
use Rattle.hc_sent.proofs.Chaining.{GoesOn}
use Rattle.hc_sent.proofs.leading.leads.Given as goal

abbrev pub invariant-loop-origin : goal.invariant-loop-origin
invariant-loop-origin l = record {
  left : AcceptsOnly (FitsNone l.parts (take l.origin-index l.hosts)) l.left;
  found : GoesOn (AreLedFrom l.parts) l.hosts l.origin-index l.found.items;
}
