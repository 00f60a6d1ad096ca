-- What the front of an alias leaves of it and of a name.
use Rattle.std.specs.Prelude.{◌≡◌, ◌<◌, ◌≤◌, ℕ, List, length, Bool, true, false}
use Rattle.hc_vhost.specs.Names.{any_bytes, fits}
use Rattle.hc_vhost.specs.declared.name.Front.{Front}
use Rattle.hc_vhost.specs.declared.name.Front.TheVariants.{Ends, Fails, Stars}
use Rattle.hc_vhost.specs.declared.name.Step.{Step}
use Rattle.hc_vhost.specs.declared.name.Step.TheVariants.{Byte, Stops}

-- What is left is taken exactly where all is, and where it takes some end exactly then too, so does all.
pub record LeadsTo (alias name behind rest : List ℕ) : Type 0 where
  pub same : fits alias name ≡ fits behind rest
  pub ends : (e : Bool) → fits behind rest ≡ e → any_bytes (fits behind) rest ≡ e
      → any_bytes (fits alias) name ≡ e
  pub shorter : length behind ≤ length alias
  pub fewer : length rest ≤ length name

-- Behind a `*`, some end of the name is taken exactly where some end of what is left is.
abbrev pub FrontBy : List ℕ → List ℕ → Front → Type 0
FrontBy alias name Ends = fits alias name ≡ true
FrontBy alias name Fails = fits alias name ≡ false
FrontBy alias name (Stars behind rest) =
    (fits alias name ≡ any_bytes (fits behind.now) rest.now)
    × (any_bytes (fits alias) name ≡ any_bytes (fits behind.now) rest.now)
    × (length behind.now < length alias) × (length rest.now ≤ length name)

abbrev pub StepBy : List ℕ → List ℕ → Step → Type 0
StepBy alias name (Stops front) = FrontBy alias name front
StepBy alias name (Byte behind rest) = LeadsTo alias name behind.now rest.now × (length behind.now < length alias)
