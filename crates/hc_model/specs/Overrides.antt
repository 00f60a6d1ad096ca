-- What reading `.htaccess` files gives.
-- Apache manual, core, AllowOverride; ".htaccess files".
use Rattle.std.specs.Prelude.{◌≡◌, ℕ, List, Contains, Option, Some, None, Result, Ok, Err}
use Rattle.hc_base.specs.declared.fault.Fault.{Fault}
use Rattle.hc_base.specs.declared.fault.Fault.TheVariants.{NoMemory, Refused}
use Rattle.hc_base.specs.declared.place.Refusal.{Refusal}
use Rattle.hc_model.specs.declared.section.Allowed.{Allowed}
use Rattle.hc_model.specs.declared.section.HtFile.{HtFile}

-- The file breaks a rule; there is none; or it is read.
pub data Override : Type 0 where
  refused : Refusal → Override
  none : Override
  file : HtFile → Override

-- By the directory and what is allowed there.
abbrev pub Reading : Type 0
Reading = List ℕ → Allowed → Override

-- A directory for which the file was read, and what was allowed there.
pub record Loaded : Type 0 where
  pub dir : List ℕ
  pub allowed : Allowed

abbrev pub Kept : List Loaded → List Loaded → Type 0
Kept before after = (each : Loaded) → Contains before each → Contains after each

abbrev pub file_of : Override → Option HtFile
file_of (refused refusal) = None
file_of none = None
file_of (file found) = Some found

-- Refused exactly where the reading is, unless memory was refused.
abbrev pub IsRead : {A : Type 0} → Result A (Fault Refusal) → Override → Type 0
IsRead (Ok _) (refused refusal) = ⊥
IsRead (Ok _) none = Unit {0}
IsRead (Ok _) (file found) = Unit {0}
IsRead (Err (Refused refusal)) override = override ≡ refused refusal
IsRead (Err NoMemory) override = Unit {0}

-- This holds, unless memory was refused.
abbrev pub IfMemory : {A E : Type 0} → Result A (Fault E) → Type 0 → Type 0
IfMemory (Ok _) Holds = Holds
IfMemory (Err (Refused _)) Holds = Holds
IfMemory (Err NoMemory) Holds = Unit {0}
