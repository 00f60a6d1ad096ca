-- At which leaves a claim may be broken. Our own choice.
use Rattle.std.specs.Prelude.{◌≡◌, ◌⊎◌, ℕ, List, [], ◌∷◌, Bool, true, false, ◌&&◌}
use Rattle.std.specs.List.{list_any}
use Rattle.hc_base.specs.declared.place.Place.{Place}
use Rattle.hc_broken.specs.Breaking.{lacks, same_place}
use Rattle.hc_dfa.specs.Automata.{accepts}
use Rattle.hc_dfa.specs.Texts.{TextSet}
use Rattle.hc_model.specs.declared.event.Decision.{Decision}
use Rattle.hc_model.specs.declared.event.Decision.TheVariants as decision
use Rattle.hc_model.specs.declared.walk.Kind.{Kind}
use Rattle.hc_model.specs.declared.walk.Kind.TheVariants as kind
use Rattle.hc_plan.specs.Slots.{Slot}
use Rattle.hc_scope.specs.declared.claim.Claim.{Claim}
use Rattle.hc_scope.specs.declared.claim.Claim.TheVariants.{Guarded, Shadowed, Stops}
use Rattle.hc_serve.specs.Needs.{needs_of}
use Rattle.hc_abs_pass.specs.Ends.{Left, found, limit, outside}
use Rattle.hc_abs_pass.specs.Passing.{Finish, ruled, stopped}
use Rattle.hc_abs_rw.specs.Substitutions.{Then}
use Rattle.hc_abs_rw.specs.Substitutions.{outside as ruled_out}
use Rattle.hc_abs_tree.specs.Trees.{Leaf}

-- ---- how a leaf ends

abbrev pub is_left_out : Left → Bool
is_left_out (outside reason) = true
is_left_out other = false

abbrev pub is_ruled_out : Then → Bool
is_ruled_out (ruled_out reason) = true
is_ruled_out other = false

abbrev pub is_out : Finish → Bool
is_out (stopped left) = is_left_out left
is_out (ruled next) = is_ruled_out next
is_out other = false

abbrev pub is_bound : Left → Bool
is_bound (limit kind) = true
is_bound other = false

abbrev pub is_limited : Finish → Bool
is_limited (stopped left) = is_bound left
is_limited other = false

-- A file or a directory.
abbrev pub is_there : Kind → Bool
is_there kind.Absent = false
is_there kind.Dir = true
is_there kind.File = true

abbrev pub is_found : Left → Bool
is_found (found kind) = is_there kind
is_found other = false

abbrev pub is_served : Finish → Bool
is_served (stopped left) = is_found left
is_served other = false

-- ---- what a claim asks of it

-- The rule of this place matched.
abbrev pub is_match : Place → Decision → Bool
is_match place (decision.Rule own matched) = matched && same_place own place
is_match place other = false

-- A file name may be of the set.
abbrev pub MayName : Leaf → TextSet → Type 0
MayName leaf set = (name : List ℕ) × (leaf.known.cell Slot.Name name ≡ true) × (set name ≡ true)

-- Some limit is reached; the rule matched; a file or directory of the set may be given without the Require line.
abbrev pub MayBreak : Claim → Leaf → Type 0
MayBreak Stops leaf = is_limited leaf.finish ≡ true
MayBreak (Shadowed place) leaf = list_any (is_match place) leaf.decisions ≡ true
MayBreak (Guarded target by) leaf =
    (is_served leaf.finish ≡ true) × (lacks (needs_of leaf.require) by ≡ true) × MayName leaf (accepts target)

-- A leaf that is outside is bad for each claim.
abbrev pub IsBad : Claim → Leaf → Type 0
IsBad claim leaf = (is_out leaf.finish ≡ true) ⊎ MayBreak claim leaf

-- These are the bad ones, in order.
abbrev pub AreBad : Claim → List Leaf → List Leaf → Type 0
AreBad claim [] bad = bad ≡ []
AreBad claim (leaf ∷ leaves) bad =
    (IsBad claim leaf × (rest : List Leaf) × (bad ≡ leaf ∷ rest) × AreBad claim leaves rest)
    ⊎ ((IsBad claim leaf → ⊥) × AreBad claim leaves bad)
