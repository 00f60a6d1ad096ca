-- A path that is read from slash to slash.
use Rattle.std.specs.Prelude.{◌≡◌, ◌≢◌, ℕ, ◌<◌, ◌≤◌, List, length, take, drop, slice_index}
use Rattle.std.specs.Prelude.{Contains}
use Rattle.hc_base.specs.Bytes.{slash}
use Rattle.hc_model.specs.World.{fronts, parents}
use Rattle.hc_model.specs.Walking.{steps}
use Rattle.hc_world.specs.Places.{front_of}

-- No slash stands from one place up to another.
abbrev pub HasNoSlash : List ℕ → ℕ → ℕ → Type 0
HasNoSlash path from end = (k : ℕ) → from ≤ k → k < end → slice_index path k ≢ slash

-- The first slash at or after a place.
pub record IsNextSlash (path : List ℕ) (from at : ℕ) : Type 0 where
  pub from_on : from ≤ at
  pub within : at < length path
  pub is_slash : slice_index path at ≡ slash
  pub first : HasNoSlash path from at

-- The fronts and the components that end at or after a place.
abbrev pub fronts_from : List ℕ → ℕ → List (List ℕ)
fronts_from path from = fronts (take from path) (drop from path)

abbrev pub steps_from : List ℕ → ℕ → List (List ℕ × List ℕ)
steps_from name from = steps (take from name) (drop from name)

-- A path stands below a directory, whose slash ends before this place: a component begins there.
pub record IsBelow (directory path : List ℕ) (from : ℕ) : Type 0 where
  pub from_one : 0 < from
  pub front : front_of directory ≡ take from path
  pub inside : from < length path
  pub begins : slice_index path from ≢ slash
  pub above : Contains (parents path) directory
  pub later : (q : List ℕ) → Contains (fronts_from path from) q → Contains (parents path) q
