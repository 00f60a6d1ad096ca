-- What a log has in the end.
use Rattle.hc_steps.specs.Ran.{Logged}
use Rattle.hc_steps.specs.declared.log.Told.{Told}

abbrev pub told_of : Logged → Told
told_of log = record { events = log.kept; count = log.count; reads = log.reads }
