-- A chain of conditions by one bit: whether one of it holds so far.
use Rattle.std.specs.Prelude.{Bool, true, false, ◌||◌, Option, Some, None}
use Rattle.hc_model.specs.declared.section.Reach.{Reach}
use Rattle.hc_model.specs.declared.section.Reach.TheVariants.{Dir, DirSearch, Files, Location, LocationGlob}
use Rattle.hc_model.specs.declared.section.Reach.TheVariants.{LocationSearch, Otherwise, When}

abbrev pub is_chained : Option Reach → Bool
is_chained None = false
is_chained (Some (Otherwise test)) = true
is_chained (Some (When test)) = false
is_chained (Some (Dir pattern)) = false
is_chained (Some (DirSearch pattern)) = false
is_chained (Some (Files pattern)) = false
is_chained (Some (Location path)) = false
is_chained (Some (LocationGlob pattern)) = false
is_chained (Some (LocationSearch pattern)) = false

-- Behind a section whose own test is found to hold, or not to.
abbrev pub held_behind : Bool → Bool → Option Reach → Bool
held_behind held found None = false
held_behind held found (Some (When test)) = found
held_behind held found (Some (Otherwise test)) = held || found
held_behind held found (Some (Dir pattern)) = false
held_behind held found (Some (DirSearch pattern)) = false
held_behind held found (Some (Files pattern)) = false
held_behind held found (Some (Location path)) = false
held_behind held found (Some (LocationGlob pattern)) = false
held_behind held found (Some (LocationSearch pattern)) = false
