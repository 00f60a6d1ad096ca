-- Behind the rules of a directory: what stands there, or another pass.
-- Apache manual, mod_rewrite: RewriteRule ("Per-directory Rewrites"); core: LimitInternalRecursion. What a restart
-- keeps of the variables is our own choice.
use Rattle.std.specs.Prelude.{ℕ, List, [], ◌∷◌, Bool, true, false, length, drop, nat_eq}
use Rattle.std.specs.Prelude.{if◌then◌else◌, codes}
use Rattle.std.specs.List.{starts_with}
use Rattle.std.specs.Str.{bytes_eq}
use Rattle.hc_base.specs.Paths.{has_dots, has_double_slash, merge_slashes}
use Rattle.hc_model.specs.declared.outcome.LimitKind.TheVariants.{Redirects}
use Rattle.hc_model.specs.declared.outcome.Reason.TheVariants.{DotSegment}
use Rattle.hc_model.specs.declared.walk.Kind.{Kind}
use Rattle.hc_plan.specs.Branches.{Branch, Branches}
use Rattle.hc_plan.specs.Cover.{Covers}
use Rattle.hc_plan.specs.Plan.{Plan, Source, choose, done, equal, from_hand, from_slot, from_text, make, rename, store}
use Rattle.hc_plan.specs.Plan.{take_up, test, tidy}
use Rattle.hc_plan.specs.Running.{State, run}
use Rattle.hc_plan.specs.Slots.{Slot, Ties}
use Rattle.hc_plan.specs.States.{AbsState}
use Rattle.hc_rw_expand.specs.declared.state.RwState.{RwState}
use Rattle.hc_serve.specs.DirectoryRules.{is_last, path_for}
use Rattle.hc_serve.specs.Passing.{answered_by}
use Rattle.hc_serve.specs.Site.{Site}
use Rattle.hc_serve.specs.declared.stage.Here.{Here}
use Rattle.hc_steps.specs.Run as steps
use Rattle.hc_steps.specs.Step.{Shown}
use Rattle.hc_abs_rw.specs.Laws.{BranchLike}
use Rattle.hc_abs_rw.specs.Standing.{Like}
use Rattle.hc_abs_rw.specs.Templates.{main, slot_item}
use Rattle.hc_abs_pass.specs.Ends.{EndsLike, Left, MeetsHere, found, limit, next_pass, outside}

-- ---- names of variables

abbrev pub front : List ℕ
front = codes "REDIRECT_"

abbrev pub status_name : List ℕ
status_name = codes "REDIRECT_STATUS"

-- The status is 200, a variable behind the front has the value of that without it, and any other is gone.
abbrev pub variable_source : List ℕ → Source
variable_source name =
    if bytes_eq name status_name then from_text (codes "200")
    else (if starts_with nat_eq name front then from_slot (Slot.Env (drop (length front) name)) else from_text [])

abbrev pub pass_source : Slot → Source
pass_source Slot.Text = from_slot Slot.Path
pass_source Slot.Name = from_text []
pass_source Slot.Info = from_text []
pass_source Slot.Location = from_text []
pass_source (Slot.Env name) = variable_source name
pass_source other = from_slot other

abbrev pub looked_at : (List ℕ → Bool) → Slot → Bool
looked_at names (Slot.Env name) = names name
looked_at names other = true

abbrev pub at_start : Ties
at_start = record { origin_path = false; text_path = true; text_name = false; query_first = true }

-- ---- the plan

-- No pass follows the last one that the limit allows.
abbrev pub unless_last : Bool → (List ℕ → Bool) → Plan Left
unless_last true names = done (limit Redirects)
unless_last false names =
    store ((Slot.Path, from_hand main) ∷ []) (rename pass_source (looked_at names) at_start (done next_pass))

-- The path stands in hand.
abbrev pub begun_again : Bool → (List ℕ → Bool) → Plan Left
begun_again last names = tidy main has_double_slash merge_slashes (test main has_dots (λ dots. elim dots [
  | true ↦ done (outside DotSegment)
  | false ↦ unless_last last names
]))

-- Where the rules left the file name as it was, it is answered. `last` says whether the pass is the last one, `placed`
-- gives the path that a text stands for, and `names` the variables that are looked at.
unfoldable pub restart_plan : Kind → Bool → (List ℕ → List ℕ) → (List ℕ → Bool) → Plan Left
restart_plan kind last placed names = choose (equal Slot.Text Slot.Name) (λ same. elim same [
  | true ↦ done (found kind)
  | false ↦ take_up main (slot_item Slot.Text ∷ [])
      (make main (λ text also. placed text) main main (begun_again last names))
])

abbrev pub RestartAgrees : Type 0
RestartAgrees = (site : Site) (here : Here) (left : RwState) (shown : Shown) (names : List ℕ → Bool) (state : State)
    → MeetsHere site here left state
    → Like (EndsLike site)
    (run (restart_plan here.walk.kind (is_last site here) (path_for site here here.force.dir) names) state)
    (steps.run (answered_by site here left) shown)

abbrev pub RestartHasBranch : Type 0
RestartHasBranch = (site : Site) (here : Here) (left : RwState) (shown : Shown) (names : List ℕ → Bool)
    (known : AbsState) (state : State) (branches : List (Branch Left)) → MeetsHere site here left state
    → Covers known state
    → Branches (restart_plan here.walk.kind (is_last site here) (path_for site here here.force.dir) names) known
    branches
    → BranchLike (EndsLike site) (steps.run (answered_by site here left) shown) branches
