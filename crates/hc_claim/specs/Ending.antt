-- How a leaf ends, as code has it.
use Rattle.std.specs.Prelude.{Bool, true, false}
use Rattle.hc_abs_leaves.specs.declared.leaf.LeafEnd.{LeafEnd}
use Rattle.hc_abs_leaves.specs.declared.leaf.LeafEnd.TheVariants as end
use Rattle.hc_abs_pass.specs.declared.ends.Left.{Left}
use Rattle.hc_abs_pass.specs.declared.ends.Left.TheVariants as left
use Rattle.hc_abs_rw.specs.declared.apply.Next.{Next}
use Rattle.hc_abs_rw.specs.declared.apply.Next.TheVariants as next
use Rattle.hc_claim.specs.Bad.{is_there}

abbrev pub is_left_outside : Left → Bool
is_left_outside (left.Outside reason) = true
is_left_outside other = false

abbrev pub is_ruled_outside : Next → Bool
is_ruled_outside (next.Outside reason) = true
is_ruled_outside other = false

abbrev pub ends_out : LeafEnd → Bool
ends_out (end.Stopped left) = is_left_outside left
ends_out (end.Ruled next) = is_ruled_outside next

abbrev pub is_bound_left : Left → Bool
is_bound_left (left.Limit kind) = true
is_bound_left other = false

abbrev pub ends_limited : LeafEnd → Bool
ends_limited (end.Stopped left) = is_bound_left left
ends_limited (end.Ruled next) = false

abbrev pub serves : Left → Bool
serves (left.Found kind) = is_there kind
serves other = false

abbrev pub ends_served : LeafEnd → Bool
ends_served (end.Stopped left) = serves left
ends_served (end.Ruled next) = false
