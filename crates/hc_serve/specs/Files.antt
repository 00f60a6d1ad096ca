-- What the code keeps of the `.htaccess` files that were looked at: no function, but what `Overrides` reads.
use Rattle.std.specs.Prelude.{List, Result, Ok, Err}
use Rattle.std.specs.List.{fold}
use Rattle.hc_base.specs.declared.fault.Fault.{Fault}
use Rattle.hc_base.specs.declared.fault.Fault.TheVariants.{NoMemory, Refused}
use Rattle.hc_base.specs.declared.place.Refusal.{Refusal}
use Rattle.hc_merge.specs.Overriding.{Files_at}
use Rattle.hc_model.specs.Overrides.{Loaded, Reading, file_of}
use Rattle.hc_model.specs.declared.outcome.Outcome.{Outcome}
use Rattle.hc_model.specs.declared.outcome.Outcome.TheVariants.{HtRefused}
use Rattle.hc_serve.specs.Passing.{with_file}

abbrev pub with_reading : Reading → Files_at → Loaded → Files_at
with_reading reading files each = with_file each (file_of (reading each.dir each.allowed)) files

abbrev pub files_left : Reading → Files_at → List Loaded → Files_at
files_left reading files wanted = fold (with_reading reading) files wanted

-- An answer that goes on, with these files.
abbrev pub leaving : {A E : Type 0} → Result A E → Files_at → Result Files_at E
leaving (Ok _) files = Ok files
leaving (Err fault) files = Err fault

-- A file that is refused ends the request.
abbrev pub stopping : {A : Type 0} → Result A (Fault Refusal) → Result A (Fault Outcome)
stopping (Ok left) = Ok left
stopping (Err (Refused refusal)) = Err (Refused (HtRefused refusal))
stopping (Err NoMemory) = Err NoMemory
