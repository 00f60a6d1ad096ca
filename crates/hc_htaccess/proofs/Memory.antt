-- What holds whether memory was refused or not.
use Rattle.std.proofs.Common.{Result, Ok, Err}
use Rattle.hc_base.specs.declared.fault.Fault.{Fault}
use Rattle.hc_base.specs.declared.fault.Fault.TheVariants.{NoMemory, Refused}
use Rattle.hc_model.specs.Overrides.{IfMemory}

pub whatever : {A E : Type 0} {Holds : Type 0} (result : Result A (Fault E)) → Holds → IfMemory result Holds
whatever (Ok value) holds = holds
whatever (Err (Refused end)) holds = holds
whatever (Err NoMemory) holds = tt
