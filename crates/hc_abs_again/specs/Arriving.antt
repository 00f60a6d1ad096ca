-- Each request that stands at a cut has a branch from there, of which no more is known than what stands in its slots.
use Rattle.std.specs.Prelude.{◌≡◌, ◌⊎◌, ℕ, List, Bool, true, false, ◌||◌, Option, Some}
use Rattle.hc_model.specs.declared.authorization.ReqTree.{ReqTree}
use Rattle.hc_model.specs.declared.outcome.LimitKind.TheVariants.{Redirects}
use Rattle.hc_model.specs.declared.outcome.Outcome.TheVariants as outcome
use Rattle.hc_model.specs.declared.outcome.Reason.TheVariants.{LongText}
use Rattle.hc_model.specs.declared.section.Body.{Body}
use Rattle.hc_plan.specs.Branches.{Both, Branch, Branches}
use Rattle.hc_plan.specs.Cover.{Among, Covers}
use Rattle.hc_plan.specs.Running.{State}
use Rattle.hc_plan.specs.States.{AbsState}
use Rattle.hc_plan.specs.Texts.{any, of_bytes}
use Rattle.hc_rw_eval.specs.Lists.{begun, from_place}
use Rattle.hc_rw_eval.specs.declared.attempt.Rewritten.{Rewritten}
use Rattle.hc_rw_eval.specs.declared.run.Finished.{Finished}
use Rattle.hc_rw_eval.specs.declared.run.Round.TheVariants.{Over}
use Rattle.hc_serve.specs.Passing.{finished, reached_from, with_tree}
use Rattle.hc_serve.specs.Segments.{Cut, at_pass, dir_round, segment, server_round}
use Rattle.hc_serve.specs.ServerRules.{context_at, engine_at, looks_of, maps_at, rules_at, state_at}
use Rattle.hc_serve.specs.Site.{Site}
use Rattle.hc_serve.specs.declared.stage.Ended.{Ended}
use Rattle.hc_serve.specs.declared.stage.Pass.{Pass}
use Rattle.hc_steps.specs.Run.{Run, Way, goes_on, is_over, run}
use Rattle.hc_steps.specs.Step.{Shown, ◌>>=◌}
use Rattle.hc_abs_rw.specs.Lists.{SoFar}
use Rattle.hc_abs_rw.specs.Standing.{Meets, decisions_in}
use Rattle.hc_abs_pass.specs.Again.{AreFromDir, from_server}
use Rattle.hc_abs_pass.specs.Ends.{AreOnce, MeetsPass, next_pass}
use Rattle.hc_abs_pass.specs.Passing.{Finish, Ground, Segment, pass_plan, stopped}
use Rattle.hc_abs_pass.specs.Passing.{dir_round as in_dir_again}
use Rattle.hc_abs_segments.specs.Agreeing.{FinishLike, IsGround, MeetsList, ground_of, is_last_pass}
use Rattle.hc_abs_segments.specs.Counting.{pass_at}

-- ---- where a request stands

-- What is in force where a directory's list runs was found by the steps of a pass behind the rules of the server, with
-- a query of bytes.
abbrev pub WasReached : Site → Shown → Cut → Type 0
WasReached site shown (dir_round here dir round next) =
    (here.force.dir ≡ Some dir) × (of_bytes any here.named.pass.query ≡ true) × (pass : Pass) × (left : Finished)
    × ((run (finished site pass left >>= reached_from site) shown).way ≡ goes_on here)
WasReached site shown other = Unit {0}

-- The slots have what the request has come to.
abbrev pub StandsAt : Site → Cut → State → Type 0
StandsAt site (at_pass left) state = MeetsPass site left.pass state × AreOnce left.pass.vars
StandsAt site (server_round pass round next) state =
    Meets (context_at site pass) next.left.state state × AreOnce next.left.state.vars
StandsAt site (dir_round here dir round next) state = MeetsList site here dir next.left.state state

-- Where a round of the server's list is over, it leaves a query of bytes.
abbrev pub LeavesBytes : Site → Shown → Pass → ℕ → Rewritten → Type 0
LeavesBytes site shown pass round before = (finished : Finished)
    → (run (from_place (context_at site pass) (looks_of (maps_at site)) round 0 (rules_at site) before) shown).way
    ≡ goes_on (Over finished)
    → of_bytes any finished.left.state.query ≡ true

-- So it is from the start of a pass, with rules and without.
abbrev pub BeginsBytes : Bool → Site → Shown → Pass → Type 0
BeginsBytes true site shown pass = LeavesBytes site shown pass 1 (begun (state_at pass))
BeginsBytes false site shown pass = of_bytes any pass.query ≡ true

-- The sections see one behind the cut then.
abbrev pub SeesBytes : Site → Shown → Cut → Type 0
SeesBytes site shown (at_pass left) = BeginsBytes (engine_at site) site shown left.pass
SeesBytes site shown (server_round pass round next) = LeavesBytes site shown pass round next.left
SeesBytes site shown (dir_round here dir round next) = Unit {0}

-- Each segment leads to such a place.
abbrev pub SegmentsReach : Type 0
SegmentsReach = (site : Site) (cut next : Cut) (shown : Shown) → WasReached site shown cut
    → SeesBytes site shown cut → (run (segment site cut) shown).way ≡ goes_on next → WasReached site shown next

-- ---- branches

-- These are the branches from a cut, of which no more is known than where it is.
abbrev pub AreFromCut : (ground : Ground) → Cut → AbsState → List (Branch Segment) → Type 0
AreFromCut ground (at_pass left) known = Branches (pass_plan ground) known
AreFromCut ground (server_round pass round next) known =
    Both (Branches (from_server ground true) known) (Branches (from_server ground false) known)
AreFromCut ground (dir_round here dir round next) known = AreFromDir ground dir known

-- The round of the server's list, and that of a directory's.
abbrev pub server_at : Cut → ℕ
server_at (server_round pass round next) = round
server_at other = 1

abbrev pub directory_at : Cut → ℕ
directory_at (dir_round here dir round next) = round
directory_at other = 1

-- The limit on passes is reached where the branch leads to another pass.
pub record IsLimited (site : Site) (pass : Pass) (require : Option ReqTree) (finish : Finish) (way : Way Ended Cut) :
    Type 0 where
  pub last : is_last_pass site pass ≡ true
  pub leads : finish ≡ stopped next_pass
  pub over : way ≡ is_over (with_tree require (outcome.Limit Redirects))

-- A branch from a directory's list knows of no substitution that was made in a round before.
abbrev pub was_substituted : Cut → Bool
was_substituted (dir_round here dir round next) = next.left.substituted
was_substituted other = false

abbrev pub marked : Bool → SoFar → SoFar
marked was so_far = record so_far { substituted = was || so_far.substituted }

abbrev pub finish_behind : Bool → Finish → Finish
finish_behind was (in_dir_again settings rule so_far) = in_dir_again settings rule (marked was so_far)
finish_behind was other = other

-- The branch leads where the request does, but for that limit.
abbrev pub LeadsSo : Site → Cut → State → Segment → Way Ended Cut → Type 0
LeadsSo site cut state segment way =
    FinishLike site (pass_at cut) (server_at cut) (directory_at cut) state segment.require
    (finish_behind (was_substituted cut) segment.finish) way
    ⊎ IsLimited site (pass_at cut) segment.require segment.finish way

-- One of the branches is that of a request: it has its decisions, and covers what it leaves.
pub record IsArrival (site : Site) (cut : Cut) (branches : List (Branch Segment)) (steps : Run Ended Cut) : Type 0 where
  pub known : AbsState
  pub segment : Segment
  pub among : Among (known, segment) branches
  pub state : State
  pub covers : Covers known state
  pub decided : segment.decisions ≡ decisions_in steps.events
  pub leads : LeadsSo site cut state segment steps.way

abbrev pub IsTooLong : Run Ended Cut → Type 0
IsTooLong steps = (require : Option ReqTree) × (steps.way ≡ is_over (with_tree require (outcome.Outside LongText)))

-- Each request that is covered has a branch, unless a text is too long. No pass is the last one for the branches.
abbrev pub EachHasArrival : Type 0
EachHasArrival = (site : Site) (cut : Cut) (shown : Shown) (levels : ℕ) (merges : Body → Bool)
    (names : List ℕ → Bool) (known : AbsState) (state : State) (branches : List (Branch Segment))
    → IsGround site shown levels merges → WasReached site shown cut → StandsAt site cut state → Covers known state
    → AreFromCut (ground_of site false shown levels merges names) cut known branches
    → IsTooLong (run (segment site cut) shown) ⊎ IsArrival site cut branches (run (segment site cut) shown)
