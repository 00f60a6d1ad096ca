use Rattle.hc_serve.proofs.Common.{◌≡◌, drop, log_of, with_reads}
use Rattle.hc_serve.proofs.answer.log_of.Given as goal

abbrev pub invariant-loop-read : goal.invariant-loop-read
invariant-loop-read l = with_reads l.log (drop l.read-index l.reads) ≡ log_of l.fn.cap l.reads
