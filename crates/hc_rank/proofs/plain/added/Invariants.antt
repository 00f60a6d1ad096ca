use Rattle.std.proofs.Common.{◌≡◌, ◌≤◌, ◌*◌, ◌^◌, take}
use Rattle.hc_rank.specs.Ranks.{added}
use Rattle.hc_rank.proofs.plain.added.Given as goal

abbrev pub invariant-loop-piece : goal.invariant-loop-piece
invariant-loop-piece l = record {
  count : l.count ≡ added (take l.piece-index l.template);
  bound : l.count ≤ 2 ^ 64 * l.piece-index;
}
