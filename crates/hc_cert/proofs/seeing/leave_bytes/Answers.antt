use Rattle.std.proofs.lemmas.Result.{IfOk-weaker}
use Rattle.std.specs.List.{AllByRecursion}
use Rattle.hc_cert.proofs.Bytes.{each_leaves}
use Rattle.hc_cert.specs.Coded.{LeavesBytesIn, named_in}
use Rattle.hc_cert.proofs.seeing.leave_bytes.Goals as goal

pub returns-then-is_any_at_dir : goal.returns-then-is_any_at_dir
returns-then-is_any_at_dir c asked names fits =
    let cells = named_in c.args.cells.now in
    IfOk-weaker c.each_leaves_bytes.result (λ done. AllByRecursion (LeavesBytesIn asked names) cells) _
    (λ done each. each_leaves asked names cells each) (c.each_leaves_bytes.ensures asked names fits)
