-- The branches of an expression, as code has them.
use Rattle.std.specs.Prelude.{◌≡◌, ℕ, List, Bool, false}
use Rattle.hc_merge.specs.Reaching.{chained}
use Rattle.hc_model.specs.declared.expression.Expr.{Expr}
use Rattle.hc_plan.specs.Branches.{Branch, no_text}
use Rattle.hc_plan.specs.Coded.{AreBranches}
use Rattle.hc_plan.specs.Hands.{cell_of}
use Rattle.hc_plan.specs.Plan.{Item, done, held}
use Rattle.hc_plan.specs.Slots.{Slot}
use Rattle.hc_plan.specs.States.{AbsState, Given, some_of}
use Rattle.hc_plan.specs.Texts.{Three, all_three, any, of_bytes, pick}
use Rattle.hc_plan.specs.declared.storing.Tied.{Tied}
use Rattle.hc_abs_rw.specs.Frames.{common}
use Rattle.hc_abs_rw.specs.Known.{client_given}
use Rattle.hc_abs_rw.specs.Templates.{looked, slot_item}
use Rattle.hc_abs_pass.specs.Views.{Scene, ways_of}
use Rattle.hc_abs_view.specs.declared.scene.Query.{Query}
use Rattle.hc_abs_view.specs.declared.scene.Query.TheVariants as query
use Rattle.hc_abs_view.specs.declared.scene.Scene.{Scene as LentScene}
use Rattle.hc_abs_view.specs.declared.viewing.Viewed.{Viewed}

-- ---- what an expression sees

abbrev pub query_item : Query → Item
query_item query.Own = slot_item Slot.Query
query_item query.Any = held looked 0

abbrev pub scene_of : LentScene → Scene
scene_of scene = record { caller = common scene.caller.now; query = query_item scene.query }

-- Any text is held for a query of which nothing is known.
abbrev pub HoldsQuery : Query → Three (ℕ → Given) → Type 0
HoldsQuery query.Own given = Unit {0}
HoldsQuery query.Any given = pick given looked 0 ≡ some_of (of_bytes any)

-- What is known of a state, and what is held in it. No text in hand is looked at.
pub record SeenAt (scene : LentScene) (given : Three (ℕ → Given)) (tied : Tied) (state : AbsState) : Type 0 where
  pub cell : state.cell ≡ cell_of tied.cell
  pub ties : state.ties ≡ tied.ties
  pub holds : state.given ≡ given
  pub query : HoldsQuery scene.query given
  pub printed : state.printed ≡ client_given scene.client

-- ---- branches

pub record ViewedFits (scene : LentScene) (given : Three (ℕ → Given)) (viewed : Viewed) (branch : Branch Bool) :
    Type 0 where
  pub seen : SeenAt scene given viewed.tied branch.0
  pub texts : (branch.0).texts ≡ all_three no_text
  pub is : branch.1 ≡ viewed.holds

-- These are the branches of an expression behind a chain of others: none of those holds, and this one does.
abbrev pub AreViewed : LentScene → List Expr → Expr → Tied → List Viewed → Type 0
AreViewed scene chain expr before found = (given : Three (ℕ → Given)) (state : AbsState) → SeenAt scene given before state
    → AreBranches (ViewedFits scene given) (ways_of (scene_of scene) (chained chain expr) false (λ is. done is)) state found
