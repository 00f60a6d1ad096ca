-- That the sections see a query of bytes, by what is known of the branches of the server's list.
use Rattle.std.specs.Prelude.{◌≡◌, ℕ, List, [], Bool, true, false, None}
use Rattle.std.specs.List.{AllByRecursion}
use Rattle.hc_model.specs.declared.section.Body.{Body}
use Rattle.hc_plan.specs.Branches.{Branch, Branches}
use Rattle.hc_plan.specs.Cover.{Covers}
use Rattle.hc_plan.specs.Running.{State}
use Rattle.hc_plan.specs.Slots.{Slot}
use Rattle.hc_plan.specs.States.{AbsState}
use Rattle.hc_plan.specs.Texts.{any, of_bytes}
use Rattle.hc_serve.specs.Segments.{Cut}
use Rattle.hc_serve.specs.ServerRules.{rules_at}
use Rattle.hc_serve.specs.Site.{Site}
use Rattle.hc_steps.specs.Step.{Shown}
use Rattle.hc_abs_rw.specs.Lists.{Listed, list_plan}
use Rattle.hc_abs_pass.specs.Passing.{Ground, begun_with, frame_by}
use Rattle.hc_abs_segments.specs.Agreeing.{ground_of}
use Rattle.hc_abs_again.specs.Arriving.{SeesBytes, StandsAt}

-- The query is one of bytes.
abbrev pub HasBytes : AbsState → Type 0
HasBytes known = (text : List ℕ) → known.cell Slot.Query text ≡ true → of_bytes any text ≡ true

-- So it is in each branch of one round of the server's list.
abbrev pub ServerHasBytes : (ground : Ground) → AbsState → Type 0
ServerHasBytes ground known = (branches : List (Branch Listed))
    × Branches (list_plan (frame_by ground None) 0 (rules_at ground.site) (begun_with [] false)) known branches
    × AllByRecursion (λ branch. HasBytes branch.0) branches

-- Then the sections see one behind the cut at which a request is covered.
abbrev pub BranchesSeeBytes : Type 0
BranchesSeeBytes = (site : Site) (cut : Cut) (shown : Shown) (levels : ℕ) (merges : Body → Bool)
    (names : List ℕ → Bool) (known : AbsState) (state : State)
    → StandsAt site cut state → Covers known state → HasBytes known
    → ServerHasBytes (ground_of site false shown levels merges names) known → SeesBytes site shown cut
