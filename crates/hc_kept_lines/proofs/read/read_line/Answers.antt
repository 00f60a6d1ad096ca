use Rattle.hc_kept_lines.proofs.Walking.{read-refused, read-said}
use Rattle.hc_kept_lines.proofs.read.read_line.Goals as goal

pub returns-in-Ok-clause-read : goal.returns-in-Ok-clause-read
returns-in-Ok-clause-read g c =
    rw (c.reading_of.ensures, c.deref.ensures.value)
    (read-said c.args.line.now c.in-Ok.lines.items c.utf8.line c.requires c.in-Ok.ensures.lines)

pub returns-in-Err-Refused-clause-read : goal.returns-in-Err-Refused-clause-read
returns-in-Err-Refused-clause-read g c =
    read-refused c.args.line.now _ c.requires (rw c.in-Err-Refused.field-0-is at c.in-Err-Refused.ensures.lines)
