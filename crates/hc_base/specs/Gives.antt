-- What a call that may find no memory answers.
use Rattle.std.specs.Prelude.{◌≡◌, List, Result, Ok, Err, Vec}
use Rattle.std.specs.declared.alloc.Global.{Global}
use Rattle.hc_base.specs.declared.fault.Fault.{Fault}
use Rattle.hc_base.specs.declared.fault.Fault.TheVariants.{NoMemory, Refused}

-- The answer is the value or the refusal that is wanted, unless memory was refused.
abbrev pub Gives : {A R : Type 0} → Result A (Fault R) → Result A R → Type 0
Gives (Ok value) wanted = wanted ≡ Ok value
Gives (Err (Refused refusal)) wanted = wanted ≡ Err refusal
Gives (Err NoMemory) wanted = Unit {0}

-- The same of a list.
abbrev pub GivesList : {A R : Type 0} → Result (Vec A Global) (Fault R) → Result (List A) R → Type 0
GivesList (Ok values) wanted = wanted ≡ Ok values.items
GivesList (Err (Refused refusal)) wanted = wanted ≡ Err refusal
GivesList (Err NoMemory) wanted = Unit {0}
