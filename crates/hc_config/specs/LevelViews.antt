-- What the code keeps of what stands open.
use Rattle.std.specs.Prelude.{map, Result, Ok, Err}
use Rattle.hc_config.specs.Levels as definition
use Rattle.hc_config.specs.declared.levels.Around.{Around}
use Rattle.hc_config.specs.declared.levels.Standing.{Standing}

abbrev pub around_of : Around → definition.Around
around_of around = record { opening = around.opening; gathered = around.gathered; held = around.held.items }

abbrev pub standing_of : Standing → definition.Standing
standing_of standing = record {
  so_far = standing.so_far;
  held = standing.held.items;
  around = map around_of standing.around.items;
  chained = standing.chained;
}

abbrev pub gathered_view : {R : Type 0} → Result Standing R → Result definition.Standing R
gathered_view (Ok standing) = Ok (standing_of standing)
gathered_view (Err fault) = Err fault

-- What a change leaves, unless it is refused.
abbrev pub left_by : {A R : Type 0} → Result A R → Standing → Result definition.Standing R
left_by (Ok _) standing = Ok (standing_of standing)
left_by (Err fault) standing = Err fault
