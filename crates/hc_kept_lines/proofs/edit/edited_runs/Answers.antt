use Rattle.std.proofs.Common.{◌-◌, ap, arith, length, string_bytes}
use Rattle.hc_base.specs.Lines.{pieces}
use Rattle.hc_kept_lines.specs.Edit.{spliced}
use Rattle.hc_kept_lines.proofs.Editing.{IsBehind-le, given_kept, given_so, in_order, made_is, part_small, spliced_kept}
use Rattle.hc_kept_lines.proofs.Editing.{spliced_len}
use Rattle.hc_kept_lines.proofs.edit.edited_runs.Goals as goal

pub touched_part-requires-clause-order : goal.touched_part-requires-clause-order
touched_part-requires-clause-order g c =
    IsBehind-le c.args.old.now (c.args.from - 1) c.args.to c.after_lines-start.result c.after_lines-end.result
    c.after_lines-start.ensures c.after_lines-end.ensures (in_order (length (pieces c.args.old.now)) c.args.from c.args.to
    c.requires.range)

pub read_runs-requires : goal.read_runs-requires
read_runs-requires g c =
    omega (
      arith,
      part_small c.args.old.now c.after_lines-start.result c.after_lines-end.result c.args.new.now c.in_ok-part.part.first
          c.in_ok-part.part.last (string_bytes c.in_ok-part.part.text) c.after_lines-start.ensures.within
          c.after_lines-end.ensures.within c.in_ok-part.ensures,
      ap length c.deref.ensures,
      c.if-start-new.false,
    )

pub returns-in_err-fresh-clause-bytes : goal.returns-in_err-fresh-clause-bytes
returns-in_err-fresh-clause-bytes g c =
    omega (
      arith,
      c.read_runs.ensures.bytes,
      ap length c.deref.ensures,
      made_is c.args.old.now c.args.new.now (string_bytes c.in_ok-part.part.text) c.args.from c.args.to
          c.after_lines-start.result c.after_lines-end.result c.in_ok-part.part.first c.in_ok-part.part.last
          c.after_lines-start.ensures c.after_lines-end.ensures c.in_ok-part.ensures,
    )

pub returns-clause-small : goal.returns-clause-small
returns-clause-small g c =
    given_so c.with_runs.result
    (omega (
      arith,
      spliced_len c.args.old.now c.args.new.now c.args.from c.args.to c.after_lines-start.result c.after_lines-end.result
          c.after_lines-start.ensures c.after_lines-end.ensures,
      c.if-start-new.false,
    ))

pub returns-clause-kept : goal.returns-clause-kept
returns-clause-kept g c =
    given_kept (spliced c.args.old.now c.args.from c.args.to c.args.new.now) _ c.with_runs.result
    (spliced_kept c.args.old.now c.args.new.now (string_bytes c.in_ok-part.part.text) c.args.from c.args.to
    c.after_lines-start.result c.after_lines-end.result c.in_ok-part.part.first c.in_ok-part.part.last c.args.runs.now
    c.in_ok-fresh.fresh.items c.after_lines-start.ensures c.after_lines-end.ensures c.in_ok-part.ensures c.requires.kept
    (rw c.deref.ensures at c.in_ok-fresh.ensures.kept)) (rw c.deref-2.ensures.value at c.with_runs.ensures)

pub returns-clause-bytes : goal.returns-clause-bytes
returns-clause-bytes g c =
    omega (
      arith,
      c.read_runs.ensures.bytes,
      ap length c.deref.ensures,
      made_is c.args.old.now c.args.new.now (string_bytes c.in_ok-part.part.text) c.args.from c.args.to
          c.after_lines-start.result c.after_lines-end.result c.in_ok-part.part.first c.in_ok-part.part.last
          c.after_lines-start.ensures c.after_lines-end.ensures c.in_ok-part.ensures,
    )
