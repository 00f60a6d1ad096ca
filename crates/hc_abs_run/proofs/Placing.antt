-- Behind the rules of the server.
use Rattle.hc_abs_run.proofs.Common.{◌≡◌, ◌∙◌, ℕ, List, [], ◌∷◌, ◌++◌, Bool, true, false, Option, None, Some}
use Rattle.hc_abs_run.proofs.Common.{if◌then◌else◌, refl, sym, ap, subst, Decision, Branch, AreBranches, Plan, done}
use Rattle.hc_abs_run.proofs.Common.{AbsState, Tied, merges, ground_in, shown_in, Are, SegmentFits, LentGround}
use Rattle.hc_abs_run.proofs.Common.{Segment, EndsAt, Ground, End}
use Rattle.hc_model.specs.declared.config.Server.{Server}
use Rattle.hc_model.specs.declared.mapping.Alias.{Alias}
use Rattle.hc_model.specs.declared.mapping.PathTest.{PathTest}
use Rattle.hc_model.specs.declared.mapping.PathTest.TheVariants.{Prefix, Search}
use Rattle.hc_model.specs.declared.mapping.Redirect.{Redirect}
use Rattle.hc_alias.specs.Mapping.{root_of}
use Rattle.hc_plan.proofs.Coded.{end_fits, joined_fits, next_added, put_down_fits}
use Rattle.hc_plan.specs.Branches.{without_texts}
use Rattle.hc_plan.specs.Plan.{bound, choose, compare, leave_out, let_go, look_for, look_up, make, rename, shorten, sort}
use Rattle.hc_plan.specs.Plan.{store, take_up, test, tidy}
unfoldable use Rattle.hc_plan.specs.Plan.{and_then}
use Rattle.hc_plan.specs.Slots.{Slot}
use Rattle.hc_steps.specs.Step.{Shown}
use Rattle.hc_target.specs.Urls.{is_redirection}
use Rattle.hc_vhost.specs.Servers.{servers_of}
use Rattle.hc_abs_map.specs.Mapped.{ArePlaced, MappedFits}
use Rattle.hc_abs_map.specs.declared.mapped.Mapped.{Mapped}
use Rattle.hc_abs_map.specs.declared.mapped.Mapped.TheVariants as mapped
use Rattle.hc_abs_name.specs.Arrived.{AreArrived}
use Rattle.hc_abs_left.specs.declared.segment.Finish.TheVariants as finish
use Rattle.hc_abs_pass.specs.Ends.{left_of, next_pass, sent, status}
use Rattle.hc_abs_pass.specs.Mapping.{Placing, named, over, sent_away, taken, under_root_plan}
unfoldable use Rattle.hc_abs_pass.specs.Mapping.{entries_plan, map_plan}
unfoldable use Rattle.hc_abs_pass.specs.Naming.{placed_plan}
use Rattle.hc_abs_pass.specs.Naming.{text_plan}
use Rattle.hc_abs_pass.specs.Passing.{ends_so, name_plan, placed_from}
use Rattle.hc_abs_pass.specs.declared.ends.Left.{Left as LeftIn}
use Rattle.hc_abs_pass.specs.declared.ends.Left.TheVariants as left
use Rattle.hc_abs_pass.specs.declared.walk.Named.{Named}
use Rattle.hc_abs_restart.specs.Restarted.{PutDown}
use Rattle.hc_abs_name.proofs.Clients.{with_clients}
use Rattle.hc_abs_run.proofs.Resting.{rests_end}
use Rattle.hc_abs_run.specs.Places.{AreBehind, IsBehind, MappedAt, placed_next}
use Rattle.hc_abs_run.specs.Running.{AreOf}

-- ---- the ends of a plan

module _ {A : Type 0} (P : A → Type 0) where
  -- All of them are so.
  abbrev EndsIn : Plan A → Type 0
  EndsIn (done end) = P end
  EndsIn (take_up key items plan) = EndsIn plan
  EndsIn (test key set plan) = (is : Bool) → EndsIn (plan is)
  EndsIn (sort key sets plan) = (at : ℕ) → EndsIn (plan at)
  EndsIn (look_for to pattern key plan) = (is : Bool) → EndsIn (plan is)
  EndsIn (shorten key count plan) = EndsIn plan
  EndsIn (tidy key set image plan) = EndsIn plan
  EndsIn (make key image one other plan) = EndsIn plan
  EndsIn (look_up to at table key fallback plan) = EndsIn plan
  EndsIn (bound key set plan) = EndsIn plan
  EndsIn (store stored plan) = EndsIn plan
  EndsIn (rename sources looked kept plan) = EndsIn plan
  EndsIn (let_go key plan) = EndsIn plan
  EndsIn (choose question plan) = (is : Bool) → EndsIn (plan is)
  EndsIn (compare one other asked plan) = (is : Bool) → EndsIn (plan is)
  EndsIn leave_out = Unit {0}

  -- What follows is looked at there alone.
  same_behind : {B : Type 0} (one other : A → Plan B) → ((end : A) → P end → one end ≡ other end) → (plan : Plan A)
      → EndsIn plan → and_then plan one ≡ and_then plan other
  unfolding and_then
  same_behind one other same (done end) is = same end is
  same_behind one other same (take_up key items plan) is = ap (take_up key items) (same_behind one other same plan is)
  same_behind one other same (test key set plan) is =
      λ i. test key set (λ at. same_behind one other same (plan at) (is at) i)
  same_behind one other same (sort key sets plan) is =
      λ i. sort key sets (λ at. same_behind one other same (plan at) (is at) i)
  same_behind one other same (look_for to pattern key plan) is =
      λ i. look_for to pattern key (λ at. same_behind one other same (plan at) (is at) i)
  same_behind one other same (shorten key count plan) is = ap (shorten key count) (same_behind one other same plan is)
  same_behind one other same (tidy key set image plan) is = ap (tidy key set image) (same_behind one other same plan is)
  same_behind one other same (make key image first second plan) is =
      ap (make key image first second) (same_behind one other same plan is)
  same_behind one other same (look_up to at table key fallback plan) is =
      ap (look_up to at table key fallback) (same_behind one other same plan is)
  same_behind one other same (bound key set plan) is = ap (bound key set) (same_behind one other same plan is)
  same_behind one other same (store stored plan) is = ap (store stored) (same_behind one other same plan is)
  same_behind one other same (rename sources looked kept plan) is =
      ap (rename sources looked kept) (same_behind one other same plan is)
  same_behind one other same (let_go key plan) is = ap (let_go key) (same_behind one other same plan is)
  same_behind one other same (choose question plan) is =
      λ i. choose question (λ at. same_behind one other same (plan at) (is at) i)
  same_behind one other same (compare first second asked plan) is =
      λ i. compare first second asked (λ at. same_behind one other same (plan at) (is at) i)
  same_behind one other same leave_out is = refl

  either : (held failed : Plan A) → EndsIn held → EndsIn failed → (is : Bool)
      → EndsIn (elim is [ true ↦ held | false ↦ failed ])
  either held failed one other true = one
  either held failed one other false = other

  taken_ends : (from : PathTest) (plan : Bool → Plan A) → ((is : Bool) → EndsIn (plan is)) → EndsIn (taken from plan)
  taken_ends (Prefix from) plan ends = ends
  taken_ends (Search pattern) plan ends = ends

  entries_end : {E : Type 0} (from : E → PathTest) (sending : E → Plan A) → ((entry : E) → EndsIn (sending entry))
      → (entries : List E) (plan : Plan A) → EndsIn plan → EndsIn (entries_plan from sending entries plan)
  unfolding entries_plan
  entries_end from sending sends [] plan ends = ends
  entries_end from sending sends (entry ∷ entries) plan ends =
      taken_ends (from entry) (λ is. elim is [
        | true ↦ sending entry
        | false ↦ entries_plan from sending entries plan
      ])
      (either (sending entry) (entries_plan from sending entries plan) (sends entry)
      (entries_end from sending sends entries plan ends))

-- ---- no pass follows at once

abbrev StaysHere : Placing → Type 0
StaysHere (over next_pass) = ⊥
StaysHere other = Unit {0}

sent_ends : (redirect : Redirect) → EndsIn StaysHere (sent_away over redirect)
sent_ends redirect = by (is_redirection redirect.status)
  where
    by : (is : Bool) → StaysHere (over (if is then sent redirect else status redirect.status))
    by true = tt
    by false = tt

root_ends : (root : Option (List ℕ)) (slot : Slot) → EndsIn StaysHere (under_root_plan root slot)
root_ends None slot = tt
root_ends (Some root) slot = tt

map_ends : (servers : List Server) → EndsIn StaysHere (map_plan servers)
unfolding map_plan
map_ends servers =
    entries_end StaysHere (λ (redirect : Redirect). redirect.from) (sent_away over) sent_ends _ _
    (entries_end StaysHere (λ (alias : Alias). alias.from) _ (λ alias. tt) _ _ (root_ends (root_of servers) Slot.Path))

module _ (shown : Shown) (servers : List Server) where
  text_ends : (passed : Bool) → EndsIn StaysHere (text_plan shown servers passed)
  text_ends true =
      either StaysHere (done (over _)) (store _ (map_plan servers)) tt (map_ends servers)
  text_ends false =
      either StaysHere (done (named true)) (under_root_plan (root_of servers) Slot.Text) tt
      (root_ends (root_of servers) Slot.Text)

  placed_ends : (substituted passed : Bool) → EndsIn StaysHere (placed_plan shown servers substituted passed)
  unfolding placed_plan
  placed_ends false passed = map_ends servers
  placed_ends true passed =
      either StaysHere (done (over (status 400))) (text_plan shown servers passed) tt (text_ends passed)

same_next : (ground : Ground) (decisions : List Decision) (end : Placing) → StaysHere end
    → name_plan ground decisions end ≡ placed_next ground decisions end
same_next ground decisions (over next_pass) stays = absurd stays
same_next ground decisions other stays = refl

-- ---- what follows

module _ (ground : LentGround) (decisions : List Decision) where
  abbrev Fit : Segment → Branch End → Type 0
  Fit = SegmentFits ground.client ground.tests.now

  abbrev pub ended_so : Tied → LeftIn → Segment
  ended_so tied left = record { tied = tied; decisions = decisions; require = None; finish = finish.Stopped left }

  ends_here : (tied : Tied) (left : LeftIn) (state : AbsState) → EndsAt ground.client tied state
      → PutDown (left_of left) state
      → AreBranches Fit (done (ends_so None decisions (left_of left))) state (ended_so tied left ∷ [])
  ends_here tied left state ends texts =
      end_fits Fit state (ends_so None decisions (left_of left)) (ended_so tied left)
      (record { at = ends; texts = texts; decided = refl; require = refl; finish = refl })

  over_here : (own : Ground) (tied : Tied) (left : LeftIn) (state : AbsState) → EndsAt ground.client tied state
      → AreBranches Fit (placed_next own decisions (over (left_of left))) state (ended_so tied left ∷ [])
  over_here own tied left.NextPass state ends =
      put_down_fits Fit state (done (ends_so None decisions next_pass)) (ended_so tied left.NextPass ∷ [])
      (ends_here tied left.NextPass (without_texts state)
      (record { cell = ends.cell; ties = ends.ties; given = ends.given; printed = ends.printed }) refl)
  over_here own tied (left.Status number) state ends = ends_here tied (left.Status number) state ends tt
  over_here own tied (left.Outside reason) state ends = ends_here tied (left.Outside reason) state ends tt
  over_here own tied (left.Found kind) state ends = ends_here tied (left.Found kind) state ends tt
  over_here own tied (left.Sent redirect) state ends = ends_here tied (left.Sent redirect) state ends tt
  over_here own tied (left.Refused refusal) state ends = ends_here tied (left.Refused refusal) state ends tt
  over_here own tied (left.Limit kind) state ends = ends_here tied (left.Limit kind) state ends tt

  pub over_fits : (one : Mapped) (tied : Tied) (left : LeftIn) (found : List Segment) → one ≡ mapped.Over tied left
      → found ≡ ended_so tied left ∷ [] → IsBehind ground decisions one found
  over_fits one tied left found is same = subst (λ one. IsBehind ground decisions one found) (sym is)
      (λ levels whole branch fits.
      let own = ground_in levels merges ground in
      subst (λ end. AreBranches Fit (placed_next own decisions end) branch.0 found) (sym fits.0.1)
      (subst (AreBranches Fit (placed_next own decisions (over (left_of left))) branch.0) (sym same)
      (over_here own tied left branch.0 fits.0.0)))

  pub name_fits : (one : Mapped) (own : Named) (aliased : Bool) (found : List Segment) → one ≡ mapped.Name own aliased
      → AreArrived ground decisions own aliased found → IsBehind ground decisions one found
  name_fits one name aliased found is are = subst (λ one. IsBehind ground decisions one found) (sym is)
      (λ levels whole branch fits.
      subst (λ end. AreBranches Fit (placed_next (ground_in levels merges ground) decisions end) branch.0 found)
      (sym fits.0.1) (are levels branch.0 whole fits.1 fits.0.0))

  pub behind_more : (earlier : List Mapped) (one : Mapped) (found more after : List Segment)
      → AreBehind ground decisions earlier found → after ≡ found ++ more → IsBehind ground decisions one more
      → AreBehind ground decisions (earlier ++ one ∷ []) after
  behind_more earlier one found more after are same is levels whole =
      next_added (MappedAt ground) Fit (placed_next (ground_in levels merges ground) decisions) earlier one found after
      (are levels whole) (more, same, is levels whole)

  pub placed_fits : (substituted passed : Bool) (tied : Tied) (ends : List Mapped) (found : List Segment)
      → ArePlaced (shown_in ground) (servers_of ground.config.now ground.host) substituted passed tied ends
      → AreBehind ground decisions ends found
      → AreOf ground (λ own. placed_from own decisions substituted passed) tied found
  placed_fits substituted passed tied ends found are behind levels state whole clients rests =
      let own = ground_in levels merges ground in
      let plan =
      placed_plan (shown_in ground) (servers_of ground.config.now ground.host) substituted passed in
      subst (λ plan. Are ground plan state found)
      (sym (same_behind StaysHere (name_plan own decisions) (placed_next own decisions) (same_next own decisions) plan
      (placed_ends (shown_in ground) (servers_of ground.config.now ground.host) substituted passed)))
      (joined_fits (MappedAt ground) Fit (placed_next own decisions) plan state ends found
      (with_clients (MappedFits ground.client) (MappedAt ground) plan state ends
      (are ground.client state (rests_end ground.client tied state rests))
      (λ one branch fits same. (fits, same ∙ clients))) (behind levels whole))
