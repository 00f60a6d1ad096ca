use Rattle.hc_dfa.proofs.Merged.{firsts_represent}
use Rattle.hc_dfa.proofs.reduced.stable_blocks.Goals as goal

pub settle-requires : goal.settle-requires
settle-requires c = (
  rw c.firsts-bytes.ensures.value
      (firsts_represent c.classes.result.now c.args.a.now c.classes.ensures.classes c.classes.ensures.tells),
  c.in_ok-blocks.ensures.len,
  c.in_ok-blocks.ensures.finals,
)
