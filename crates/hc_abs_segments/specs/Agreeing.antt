-- Where the plan of a segment ends, and where the segment of a request leads.
use Rattle.std.specs.Prelude.{◌≡◌, ℕ, ◌+◌, nat_le, List, [], ◌++◌, Bool, true, if◌then◌else◌, Option, Some}
use Rattle.std.specs.List.{AllByRecursion}
use Rattle.hc_alias.specs.Mapping.{maps_of}
use Rattle.hc_base.specs.Paths.{begins_with_slash}
use Rattle.hc_merge.specs.Order.{ordered_sections}
use Rattle.hc_merge.specs.Overriding.{Files_at}
use Rattle.hc_model.specs.declared.authorization.ReqTree.{ReqTree}
use Rattle.hc_model.specs.declared.event.Decision.{Decision}
use Rattle.hc_model.specs.declared.outcome.LimitKind.TheVariants.{Rounds}
use Rattle.hc_model.specs.declared.outcome.Outcome.{Outcome}
use Rattle.hc_model.specs.declared.outcome.Outcome.TheVariants as outcome
use Rattle.hc_model.specs.declared.outcome.Reason.TheVariants.{LongText}
use Rattle.hc_model.specs.declared.rewrite.Rule.{Rule}
use Rattle.hc_model.specs.declared.section.Body.{Body}
use Rattle.hc_plan.specs.Running.{Run as PlanRun, State, ended, left_out, run, too_long}
use Rattle.hc_plan.specs.Slots.{Slot}
use Rattle.hc_rw_eval.specs.Lists.{next_by}
use Rattle.hc_rw_expand.specs.declared.state.RwState.{RwState}
use Rattle.hc_serve.specs.DirectoryRules.{context_in, engine_in, is_aliased, root_at}
use Rattle.hc_serve.specs.Passing.{followed_by, with_tree}
use Rattle.hc_serve.specs.Segments.{Cut, at_pass, dir_round, segment, server_round}
use Rattle.hc_serve.specs.ServerRules.{context_at, pass_with}
use Rattle.hc_serve.specs.Site.{Site, most_passes}
use Rattle.hc_serve.specs.declared.stage.Ended.{Ended}
use Rattle.hc_serve.specs.declared.stage.Here.{Here}
use Rattle.hc_serve.specs.declared.stage.Pass.{Pass}
use Rattle.hc_steps.specs.Run as steps
use Rattle.hc_steps.specs.Run.{Run, Way, goes_on, is_over}
use Rattle.hc_steps.specs.Step.{Path, Shown}
use Rattle.hc_vhost.specs.Servers.{servers_of}
use Rattle.hc_absolute.specs.Absolute.{IsAbsolute}
use Rattle.hc_abs_rw.specs.Frames.{common}
use Rattle.hc_abs_rw.specs.Lists.{SoFar}
use Rattle.hc_abs_rw.specs.Standing.{Leads, Meets, decisions_in, rewritten_so}
use Rattle.hc_abs_pass.specs.Ends.{AreOnce, Ends, MeetsPass}
use Rattle.hc_abs_pass.specs.Passing.{Finish, Ground, Segment, Settings, dir_round_plan, pass_plan, ruled}
use Rattle.hc_abs_pass.specs.Passing.{server_round_plan, stopped}
use Rattle.hc_abs_pass.specs.Passing.{dir_round as in_dir_again, server_round as in_server_again}
use Rattle.hc_abs_pass.specs.Sections.{AreNested, SameForce, Settles}
use Rattle.hc_abs_pass.specs.Walks.{IsListed}

-- ---- what a plan is made for

-- What all requests have in common with this one, in this world.
abbrev pub ground_of : Site → Bool → Shown → ℕ → (Body → Bool) → (List ℕ → Bool) → Ground
ground_of site last shown levels merges names = record {
  site = record site { caller = common site.caller };
  last = last;
  shown = shown;
  levels = levels;
  merges = merges;
  names = names;
}

-- No pass may follow this one.
abbrev pub is_last_pass : Site → Pass → Bool
is_last_pass site pass = nat_le (most_passes site.config site.host) (pass.number + 1)

-- The names of the world are listed, and its sections are tested where they merge a setting. The document root and the
-- targets of aliases begin with a slash, as the directives want it.
pub record IsGround (site : Site) (shown : Shown) (levels : ℕ) (merges : Body → Bool) : Type 0 where
  pub listed : IsListed levels shown
  pub rooted : (own : List ℕ) → root_at site ≡ Some own → begins_with_slash own ≡ true
  pub aliased : AllByRecursion IsAbsolute (maps_of (servers_of site.config site.host))
  pub settles : Settles merges
  pub nested : (files : Files_at) (dirs : List Path)
      → AreNested merges [] (ordered_sections site.config site.host files dirs)

-- ---- where segments lead

-- A way of a pass as one of a segment, with the tree of Require lines that is in force.
abbrev pub led : Option ReqTree → Way Outcome Pass → Way Ended Cut
led require (is_over outcome) = is_over (with_tree require outcome)
led require (goes_on pass) = goes_on (at_pass (followed_by require pass))

-- A rule begins a further round, where its bound allows one.
abbrev pub begun_by : Option ReqTree → Rule → ℕ → Cut → Way Ended Cut
begun_by require rule round cut =
    if nat_le rule.flags.rounds round then is_over (with_tree require (outcome.Limit Rounds)) else goes_on cut

-- What is in force where a directory's list runs, as the plan has it.
pub record SettlesHere (settings : Settings) (here : Here) : Type 0 where
  pub force : SameForce settings.force here.force
  pub aliased : settings.aliased ≡ is_aliased here.named
  pub kind : (settings.end).kind ≡ here.walk.kind

-- In a directory's list: where rules have come to, and the file name.
pub record MeetsList (site : Site) (here : Here) (dir : List ℕ) (left : RwState) (state : State) : Type 0 where
  pub meets : Meets (context_in site here dir) left state
  pub name : state.slots Slot.Name ≡ here.walk.name
  pub once : AreOnce left.vars

-- In this round of the server's list, and in this one of the directory's.
module _ (site : Site) (pass : Pass) (round inner : ℕ) where
  abbrev pub FinishLike : State → Option ReqTree → Finish → Way Ended Cut → Type 0
  FinishLike state require (stopped left) way =
      (own : Way Outcome Pass) × Ends site state left own × (way ≡ led require own)
  FinishLike state require (ruled next) way =
      (own : Way Outcome Pass) × Leads (context_at site pass) (pass_with pass) state next own × (way ≡ led require own)
  FinishLike state require (in_server_again rule so_far) way =
      (left : RwState) × Meets (context_at site pass) left state × AreOnce left.vars
      × (way ≡ begun_by require rule round
      (server_round pass (round + 1) (next_by rule (rewritten_so so_far.substituted left))))
  FinishLike state require (in_dir_again settings rule so_far) way =
      (here : Here) × (dir : List ℕ) × (left : RwState) × SettlesHere settings here × (here.force.dir ≡ Some dir)
      × MeetsList site here dir left state
      × (way ≡ begun_by require rule inner
      (dir_round here dir (inner + 1) (next_by rule (rewritten_so so_far.substituted left))))

  -- The decisions come behind those so far.
  pub record SegmentLike (so_far : List Decision) (state : State) (segment : Segment) (way : Way Ended Cut)
      (decisions : List Decision) :
      Type 0 where
    pub decided : segment.decisions ≡ so_far ++ decisions
    pub leads : FinishLike state segment.require segment.finish way

-- Where the one ends, there the other is; and a text is too long for both.
abbrev pub LikeSegment : (State → Segment → Way Ended Cut → List Decision → Type 0) → PlanRun Segment → Run Ended Cut
    → Type 0
LikeSegment R (ended state end) steps = R state end steps.way (decisions_in steps.events)
LikeSegment R too_long steps =
    (require : Option ReqTree) × (steps.way ≡ is_over (with_tree require (outcome.Outside LongText)))
LikeSegment R left_out steps = ⊥

-- ---- agreement

-- From the start of a pass the plan ends as the segment does. The rounds of its lists are the first ones.
abbrev pub PassAgrees : Type 0
PassAgrees = (site : Site) (pass : Pass) (require : Option ReqTree) (shown : Shown) (levels : ℕ) (merges : Body → Bool)
    (names : List ℕ → Bool) (state : State)
    → IsGround site shown levels merges → MeetsPass site pass state → AreOnce pass.vars
    → LikeSegment (SegmentLike site pass 1 1 [])
    (run (pass_plan (ground_of site (is_last_pass site pass) shown levels merges names)) state)
    (steps.run (segment site (at_pass (record { pass = pass; require = require }))) shown)

-- So it does from a further round of the server's list, by what rules have come to.
abbrev pub ServerRoundAgrees : Type 0
ServerRoundAgrees = (site : Site) (pass : Pass) (round : ℕ) (rule : Rule) (left : RwState) (so_far : SoFar)
    (shown : Shown) (levels : ℕ) (merges : Body → Bool) (names : List ℕ → Bool) (state : State)
    → IsGround site shown levels merges → Meets (context_at site pass) left state → AreOnce left.vars
    → LikeSegment (SegmentLike site pass round 1 so_far.decisions)
    (run (server_round_plan (ground_of site (is_last_pass site pass) shown levels merges names) so_far) state)
    (steps.run (segment site (server_round pass round (next_by rule (rewritten_so so_far.substituted left)))) shown)

-- And from a further round of a directory's list.
abbrev pub DirRoundAgrees : Type 0
DirRoundAgrees = (site : Site) (here : Here) (dir : List ℕ) (settings : Settings) (round : ℕ) (rule : Rule)
    (left : RwState) (so_far : SoFar) (shown : Shown) (levels : ℕ) (merges : Body → Bool) (names : List ℕ → Bool)
    (state : State)
    → SettlesHere settings here → here.force.dir ≡ Some dir → MeetsList site here dir left state
    → LikeSegment (SegmentLike site here.named.pass 1 round so_far.decisions)
    (run (dir_round_plan (ground_of site (is_last_pass site here.named.pass) shown levels merges names) settings
    (engine_in here dir) so_far) state)
    (steps.run (segment site (dir_round here dir round (next_by rule (rewritten_so so_far.substituted left)))) shown)
