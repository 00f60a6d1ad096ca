use Rattle.std.proofs.Common.{ap, arith, length}
use Rattle.hc_kept_lines.proofs.Cutting.{one_kept}
use Rattle.hc_kept_lines.proofs.Ending.{few_pieces, runs-single}
use Rattle.hc_kept_lines.proofs.Trimming.{size-within}
use Rattle.hc_kept_lines.proofs.read.read_run.Goals as goal

pub read_line-requires : goal.read_line-requires
read_line-requires g c = runs-single c.args.line.now c.requires.some c.requires.uncut

pub size-size-requires : goal.size-size-requires
size-size-requires g c =
    omega (
      arith,
      c.count_lines-count.ensures,
      few_pieces c.as_bytes.result.now,
      ap length c.as_bytes.ensures.value,
      ap length c.as_bytes-2.ensures.value,
    )

pub overflow_cast-result-2 : goal.overflow_cast-result-2
overflow_cast-result-2 g c =
    omega (
      arith,
      c.count_lines-count.ensures,
      few_pieces c.as_bytes.result.now,
      ap length c.as_bytes.ensures.value,
      c.requires.small,
    )

pub overflow_cast-result-3 : goal.overflow_cast-result-3
overflow_cast-result-3 g c =
    omega (
      arith,
      c.size-size.ensures,
      size-within c.count_lines-count.result c.as_bytes-2.result.now,
      ap length c.as_bytes-2.ensures.value,
      c.requires.small,
    )

pub returns-clause-kept : goal.returns-clause-kept
returns-clause-kept g c =
    one_kept c.args.line.now c.count_lines-count.result c.size-size.result c.in_ok-read.read c.requires.some
    c.requires.uncut (rw c.as_bytes.ensures.value at c.count_lines-count.ensures)
    (rw c.as_bytes-2.ensures.value at c.size-size.ensures) c.in_ok-read.ensures.read
