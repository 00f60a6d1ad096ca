use Rattle.hc_lines.proofs.Common.{◌≡◌, ◌+◌, ◌-◌, sym, arith, take-length, drop-length}
use Rattle.hc_lines.proofs.Pieces.{IsScanned, StartsWith-run}
use Rattle.hc_lines.proofs.run.split_run.Goals as goal

pub returns-then-end-text : goal.returns-then-end-text
returns-then-end-text c =
    let r = rw c.as_bytes.ensures.value at c.run_end-end.ensures in
    let text = c.args.text.now in
    let s : IsScanned text c.run_end-end.result.0 c.run_end-end.result.1 =
    record {
      filled = omega arith;
      bytes = r.bytes;
      pieces_count = r.count;
      behind = r.behind;
      some = r.some;
      within = r.within;
      inside = r.inside;
    } in
    StartsWith-run text _ _ _ _ s (rw c.if-end-text.true (sym (take-length text)))
    (rw c.if-end-text.true (sym (drop-length text)))

pub returns : goal.returns
returns c =
    let r = rw c.as_bytes.ensures.value at c.run_end-end.ensures in
    let text = c.args.text.now in
    let s : IsScanned text c.run_end-end.result.0 c.run_end-end.result.1 =
    record {
      filled = omega arith;
      bytes = r.bytes;
      pieces_count = r.count;
      behind = r.behind;
      some = r.some;
      within = r.within;
      inside = r.inside;
    } in
    let e : c.run_end-end.result.0 - 1 + 1 ≡ c.run_end-end.result.0 = omega arith in
    StartsWith-run text _ _ _ _ s (rw e at c.cut_behind.ensures.front) (rw e at c.cut_behind.ensures.back)
