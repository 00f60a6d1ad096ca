-- Which of the `.htaccess` files of a walk is refused.
use Rattle.std.specs.Prelude.{◌≡◌, List, [], ◌∷◌, Option, None, Some, Result, Ok, Err}
use Rattle.hc_base.specs.declared.fault.Fault.{Fault}
use Rattle.hc_base.specs.declared.fault.Fault.TheVariants.{NoMemory, Refused}
use Rattle.hc_base.specs.declared.place.Refusal.{Refusal}
use Rattle.hc_merge.specs.Overriding.{AreLoaded, Files_at}
use Rattle.hc_model.specs.Overrides.{Loaded, Override, Reading, file, none, refused}
use Rattle.hc_model.specs.declared.outcome.Outcome.{Outcome}
use Rattle.hc_model.specs.declared.outcome.Outcome.TheVariants.{HtRefused}
use Rattle.hc_steps.specs.Run.{Way, goes_on, is_over}

-- This file is refused, or one of the others.
abbrev pub refused_or : Override → Option Refusal → Option Refusal
refused_or (refused refusal) rest = Some refusal
refused_or none rest = rest
refused_or (file found) rest = rest

-- The first that is refused.
abbrev pub first_refused : Reading → List Loaded → Option Refusal
first_refused reading [] = None
first_refused reading (each ∷ more) = refused_or (reading each.dir each.allowed) (first_refused reading more)

-- It ends the way, and else the files are left.
abbrev pub way_by : Option Refusal → Files_at → Way Outcome Files_at
way_by None files = goes_on files
way_by (Some refusal) files = is_over (HtRefused refusal)

-- ---- in code

-- Whether a file was refused that was to be loaded.
abbrev pub IsRefusal : {A : Type 0} → Result A (Fault Refusal) → Option Refusal → Type 0
IsRefusal (Ok _) given = given ≡ None
IsRefusal (Err (Refused refusal)) given = given ≡ Some refusal
IsRefusal (Err NoMemory) given = ⊥

-- They are loaded where none is refused.
abbrev pub AreLoadedUnless : Option Refusal → List Loaded → List Loaded → Type 0
AreLoadedUnless None loaded wanted = AreLoaded loaded wanted
AreLoadedUnless (Some refusal) loaded wanted = Unit {0}
