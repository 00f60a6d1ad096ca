-- What code knows of named cells and of the branches from them.
use Rattle.std.specs.Prelude.{◌≡◌, ℕ, nat_le, nat_lt, List, [], map, Bool, true, false, not, ◌&&◌, ◌||◌}
use Rattle.std.specs.Prelude.{Option, None, Some}
use Rattle.std.specs.List.{AllByRecursion, list_any}
use Rattle.std.specs.Option.{option_map}
use Rattle.std.specs.Rc.{rc_value}
use Rattle.hc_addr.specs.declared.addr.Addr.{Addr}
use Rattle.hc_base.specs.Paths.{is_clean}
use Rattle.hc_base.specs.declared.place.Place.{Place}
use Rattle.hc_broken.specs.Breaking.{lacks}
use Rattle.hc_dfa.specs.Automata.{accepts}
use Rattle.hc_dfa.specs.Built.{Accepts}
use Rattle.hc_dfa.specs.Texts.{TextSet}
use Rattle.hc_invariant.specs.declared.cut.Cut.{Cut}
use Rattle.hc_invariant.specs.declared.cut.Cut.TheVariants as cut
use Rattle.hc_invariant.specs.declared.named.NamedCell.{NamedCell}
use Rattle.hc_model.specs.declared.request.Caller.{Caller}
use Rattle.hc_plan.specs.Branches.{Branch}
use Rattle.hc_plan.specs.Coded.{AllFit}
use Rattle.hc_plan.specs.Hands.{cell_of}
use Rattle.hc_plan.specs.Slots.{Slot, same_slot}
use Rattle.hc_plan.specs.States.{AbsState}
use Rattle.hc_plan.specs.declared.storing.Tied.{Tied}
use Rattle.hc_rank.specs.Ranks.{shrinks}
use Rattle.hc_scope.specs.declared.claim.Claim.{Claim}
use Rattle.hc_scope.specs.declared.claim.Scope.{Scope}
use Rattle.hc_scope.specs.declared.claim.Claim.TheVariants.{Guarded, Shadowed, Stops}
use Rattle.hc_serve.specs.Needs.{needs_of}
use Rattle.hc_steps.specs.Shown.{shown_by}
use Rattle.hc_abs_again.specs.Bytes.{ServerHasBytes}
use Rattle.hc_abs_force.specs.Merging.{merges}
use Rattle.hc_abs_left.specs.Grounds.{ground_in as lent_in}
use Rattle.hc_abs_left.specs.Segments.{SegmentFits}
use Rattle.hc_abs_left.specs.declared.ground.Ground.{Ground as LentGround}
use Rattle.hc_abs_left.specs.declared.segment.Finish.{Finish}
use Rattle.hc_abs_left.specs.declared.segment.Finish.TheVariants as finish
use Rattle.hc_abs_left.specs.declared.segment.Segment.{Segment as SegmentIn}
use Rattle.hc_abs_pass.specs.Passing.{Segment}
use Rattle.hc_abs_pass.specs.Walks.{IsListed, is_empty}
use Rattle.hc_abs_pass.specs.declared.ends.Left.TheVariants as left
use Rattle.hc_abs_pass.specs.declared.list.SoFar.{SoFar}
use Rattle.hc_abs_rw.specs.RuleBranches.{Rests}
use Rattle.hc_claim.specs.Asking.{Asked}
use Rattle.hc_claim.specs.Bad.{is_match}
use Rattle.hc_claim.specs.Ending.{is_bound_left, is_left_outside, is_ruled_outside, serves}
use Rattle.hc_claim.specs.Judging.{Meets}
use Rattle.hc_named.specs.declared.names.Names.{Names}
use Rattle.hc_cert.specs.Cells.{cell_in, is_end, known_in, ties_at}
use Rattle.hc_cert.specs.Checking.{AreBehind, AreWalked, Begins, FirstIn, FirstOf, FirstSaid, LeaveBytes, LeavesBytes}
use Rattle.hc_cert.specs.Checking.{Walked, ground_in}
use Rattle.hc_cert.specs.Checking.{conditions, of_branches, too_many}
use Rattle.hc_cert.specs.Conditions.{FaultBy, round_grows}
use Rattle.hc_cert.specs.declared.bounds.Bounds.{Bounds}
use Rattle.hc_cert.specs.declared.faults.Scene.{Scene}
use Rattle.hc_cert.specs.declared.ready.Always.{Always}
use Rattle.hc_cert.specs.declared.ready.Ready.{Ready}
use Rattle.hc_cert.specs.declared.verdict.Condition.{Condition}
use Rattle.hc_cert.specs.declared.verdict.Found.{Found}
use Rattle.hc_cert.specs.declared.verdict.Rejection.{Rejection}
use Rattle.hc_cert.specs.declared.walking.Walked.{Walked as WalkedIn}

-- ---- the states of cells

-- The texts of a slot that are in the set, too.
abbrev pub met_at : Slot → TextSet → (Slot → TextSet) → Slot → TextSet
met_at slot set cell at text = cell at text && (not (same_slot slot at) || set text)

pub record IsAlways (always : Always) : Type 0 where
  pub paths : Accepts always.paths is_clean
  pub ends : Accepts always.ends is_end
  pub nothing : Accepts always.nothing is_empty

-- Path and text have the texts that both have, and no file is found yet.
abbrev pub path_met : (Slot → TextSet) → Slot → TextSet
path_met cell = met_at Slot.Path (cell Slot.Text) cell

abbrev pub text_met : (Slot → TextSet) → Slot → TextSet
text_met cell = met_at Slot.Text (cell Slot.Path) cell

abbrev pub before_pass : (Slot → TextSet) → Slot → TextSet
before_pass cell = met_at Slot.Info is_empty (met_at Slot.Name is_empty (text_met (path_met cell)))

-- By where they stand.
abbrev pub met_by : Cut → (Slot → TextSet) → Slot → TextSet
met_by cut.Pass cell = before_pass cell
met_by other cell = cell

pub record IsReady (named : NamedCell) (tied : Tied) : Type 0 where
  pub cell : cell_of tied.cell ≡ cell_in named
  pub ties : tied.ties ≡ ties_at named.at

abbrev pub AreReady : List Ready → Type 0
AreReady cells = AllByRecursion (λ (own : Ready). IsReady own.named.now own.tied) cells

abbrev pub named_in : List Ready → List NamedCell
named_in cells = map (λ (own : Ready). own.named.now) cells

-- ---- arrivals

abbrev pub led_in : Finish → Option Cut
led_in (finish.Stopped left.NextPass) = Some cut.Pass
led_in (finish.ServerRound rule left) = Some cut.Server
led_in (finish.DirRound settings rule left) = option_map cut.Dir (rc_value settings).force.dir
led_in other = None

-- ---- branches

abbrev pub WalkedFits : Option Addr → Caller → WalkedIn → Walked → Type 0
WalkedFits client caller own walked = (walked.own ≡ own.own.now)
    × AllFit (SegmentFits client caller) own.branches.items walked.branches

-- The branches of these cells.
abbrev pub AreWalkedIn : (ground : LentGround) → Asked → Names → List NamedCell → List WalkedIn → Type 0
AreWalkedIn ground asked names cells found = (levels : ℕ) → IsListed levels (shown_by asked.world)
    → (walked : List Walked) × AreWalked asked (ground_in asked levels names) cells walked
    × AllFit (WalkedFits ground.client ground.tests.now) found walked

-- The branches of one of them.
abbrev pub AreBranchesIn : LentGround → Asked → Names → NamedCell → List SegmentIn → Type 0
AreBranchesIn ground asked names own found = (levels : ℕ) → IsListed levels (shown_by asked.world)
    → (branches : List (Branch Segment))
    × AreBehind (ground_in asked levels names) own (known_in asked.scope own) branches
    × AllFit (SegmentFits ground.client ground.tests.now) found branches

-- ---- queries of bytes

-- A list begins.
abbrev pub begun : SoFar
begun = record { decisions = []; substituted = false; replaced = false }

-- What one round of the server's list leaves has a query of bytes.
abbrev pub HasServerBytes : LentGround → Tied → Type 0
HasServerBytes ground tied = (levels : ℕ) (state : AbsState) → Rests ground.client tied state
    → ServerHasBytes (lent_in levels merges ground) state

abbrev pub LeavesBytesIn : Asked → Names → NamedCell → Type 0
LeavesBytesIn asked names own =
    (levels : ℕ) → IsListed levels (shown_by asked.world) → LeavesBytes (ground_in asked levels names) asked.scope own

abbrev pub LeaveBytesIn : Asked → Names → List NamedCell → Type 0
LeaveBytesIn asked names cells =
    (levels : ℕ) → IsListed levels (shown_by asked.world) → LeaveBytes (ground_in asked levels names) asked.scope cells

-- ---- the conditions of the whole

abbrev pub IsTooManyOf : List WalkedIn → Option Rejection → Type 0
IsTooManyOf cells said = (client : Option Addr) (caller : Caller) (walked : List Walked)
    → AllFit (WalkedFits client caller) cells walked → said ≡ too_many 0 walked

-- What is said of a scope, whatever is asked of it.
abbrev pub BeginsIn : Scope → Names → List NamedCell → Option Rejection → Type 0
BeginsIn scope names cells said = (asked : Asked) → asked.scope ≡ scope → Begins asked cells names said

-- ---- how a branch ends

abbrev pub ends_out : Finish → Bool
ends_out (finish.Stopped left) = is_left_outside left
ends_out (finish.Ruled next) = is_ruled_outside next
ends_out other = false

abbrev pub ends_limited : Finish → Bool
ends_limited (finish.Stopped left) = is_bound_left left
ends_limited other = false

abbrev pub ends_served : Finish → Bool
ends_served (finish.Stopped left) = serves left
ends_served other = false

abbrev pub grows_in : Bounds → NamedCell → Finish → NamedCell → Bool
grows_in bounds from (finish.ServerRound rule left) to =
    nat_le from.rank to.rank && round_grows from cut.Server rule bounds.shrinks to.round
grows_in bounds from (finish.DirRound settings rule left) to =
    nat_le from.rank to.rank && round_grows from to.at rule (shrinks true (rc_value settings).force.rules) to.round
grows_in bounds from other to = nat_lt from.rank to.rank && nat_lt to.rank bounds.passes

abbrev pub UnguardedIn : TextSet → Place → SegmentIn → Type 0
UnguardedIn target by own =
    (ends_served own.finish ≡ true) × (lacks (needs_of own.require) by ≡ true)
    × Meets (cell_of (own.tied).cell Slot.Name) target

abbrev pub MayBreakIn : Claim → SegmentIn → Type 0
MayBreakIn Stops own = ends_limited own.finish ≡ true
MayBreakIn (Shadowed place) own = list_any (is_match place) own.decisions ≡ true
MayBreakIn (Guarded target by) own = UnguardedIn (accepts target) by own

-- ---- faults

module _ (scene : Scene) (of : Condition) where
  abbrev pub FaultIn : NamedCell → Branch Segment → List ℕ → Type 0
  FaultIn = FaultBy scene.claim.now (named_in scene.cells.now) scene.bounds of

  -- The text, where the branch is at fault.
  abbrev pub IsFault : NamedCell → Branch Segment → Option (List ℕ) → Type 0
  IsFault from branch None = (text : List ℕ) → FaultIn from branch text → ⊥
  IsFault from branch (Some text) = FaultIn from branch text

  abbrev pub IsFaultOf : NamedCell → SegmentIn → Option (List ℕ) → Type 0
  IsFaultOf from own found = (client : Option Addr) (caller : Caller) (branch : Branch Segment)
      → SegmentFits client caller own branch → IsFault from branch found

  abbrev pub IsFirstIn : WalkedIn → Option Found → Type 0
  IsFirstIn own found = (client : Option Addr) (caller : Caller) (branches : List (Branch Segment))
      → AllFit (SegmentFits client caller) own.branches.items branches
      → FirstIn FaultIn own.own.now branches found

  abbrev pub IsFirstOf : List WalkedIn → Option Rejection → Type 0
  IsFirstOf cells said = (client : Option Addr) (caller : Caller) (walked : List Walked)
      → AllFit (WalkedFits client caller) cells walked → FirstOf FaultIn of 0 walked said

-- What is said of the branches.
abbrev pub IsSaidOf : Scene → List WalkedIn → Option Rejection → Type 0
IsSaidOf scene cells said = (client : Option Addr) (caller : Caller) (walked : List Walked)
    → AllFit (WalkedFits client caller) cells walked
    → FirstSaid (of_branches scene.claim.now (named_in scene.cells.now) scene.bounds walked) said

-- With the variables of the cells among the names, in each world.
abbrev pub IsSaidFor : Asked → Names → List NamedCell → Option Rejection → Type 0
IsSaidFor asked names cells said = (levels : ℕ) → IsListed levels (shown_by asked.world)
    → (walked : List Walked) × AreWalked asked (ground_in asked levels names) cells walked
    × FirstSaid (conditions asked cells names walked) said
