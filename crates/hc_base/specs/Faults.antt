-- What a count of faults says of a call.
use Rattle.std.specs.Prelude.{ℕ, ◌+◌, ◌-◌, ◌^◌, ◌≤◌, min, Result, OnErr}

-- The count has risen, or stands at the last value of a `u64`.
abbrev pub Rose : ℕ → ℕ → Type 0
Rose before now = min (before + 1) (2 ^ 64 - 1) ≤ now

-- The count has not fallen, and where the call failed it rose.
pub record HasCause {T E : Type 0} (before now : ℕ) (result : Result T E) : Type 0 where
  pub later : before ≤ now
  pub failed : OnErr result (Rose before now)

-- A reader or a writer, and how often it has failed.
pub record Counted (Device : Type 0) : Type 0 where
  pub device : Device
  pub faults : ℕ
