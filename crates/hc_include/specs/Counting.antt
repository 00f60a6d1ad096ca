-- A counter of bytes beside a reading.
use Rattle.std.specs.Prelude.{◌≡◌, ℕ, ◌+◌, ◌≤◌, Result, Ok, Err}
use Rattle.hc_base.specs.declared.fault.Fault.{Fault}
use Rattle.hc_base.specs.declared.fault.Fault.TheVariants.{NoMemory, Refused}
use Rattle.hc_include.specs.declared.reading.Reading.{Reading}
use Rattle.hc_include.specs.declared.reading.Stopped.{Stopped}

-- It has risen by as many as the reading has read more.
pub record Rose (old new before later : ℕ) : Type 0 where
  pub same : new + before ≡ old + later
  pub rise : old ≤ new

abbrev pub Counts : Result Reading (Fault Stopped) → ℕ → ℕ → ℕ → Type 0
Counts (Ok reading) old new before = Rose old new before reading.bytes
Counts (Err (Refused stopped)) old new before = Rose old new before stopped.reading.bytes
Counts (Err NoMemory) old new before = old ≤ new
