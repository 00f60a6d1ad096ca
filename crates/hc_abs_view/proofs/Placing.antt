-- What code finds for a list of forks are the branches of its plan: what is left of the list leads to the whole.
use Rattle.std.proofs.Common.{◌≡◌, ◌∙◌, ℕ, suc, List, [], ◌∷◌, ◌++◌, map, Bool, false, Option, None, Some, refl}
use Rattle.std.proofs.Common.{sym, ap, subst, append-nil, append_assoc}
use Rattle.hc_cells.specs.Cells.{Sets}
use Rattle.hc_cells.specs.declared.ties.Ties.{Ties}
use Rattle.hc_model.specs.declared.expression.Expr.{Expr}
use Rattle.hc_plan.proofs.Coded.{end_fits, next_joined, put_down_fits}
use Rattle.hc_plan.specs.Branches.{no_text, without_texts}
use Rattle.hc_plan.specs.Coded.{AreBranches}
use Rattle.hc_plan.specs.Plan.{done}
use Rattle.hc_plan.specs.States.{AbsState, Given}
use Rattle.hc_plan.specs.Texts.{Three, all_three}
use Rattle.hc_plan.specs.declared.storing.Tied.{Tied}
use Rattle.hc_abs_view.proofs.Jumping.{fork_then, forks_as}
use Rattle.hc_abs_view.specs.Jumping.{asked_ways, fork_plan, rest_plan, target_of}
use Rattle.hc_abs_view.specs.Placing.{AddsPast, AreForked, ArePast, InRest, IsPast, placed_at, placed_on, viewed_at}
use Rattle.hc_abs_view.specs.Seen.{AreSides, FollowsOn, IsAt, PlacedFits, tied_at}
use Rattle.hc_abs_view.specs.Trees.{AreForks, Fork}
use Rattle.hc_abs_view.specs.Viewing.{AreViewed, SeenAt, ViewedFits, scene_of}
use Rattle.hc_abs_view.specs.declared.jump.Target.{Target}
use Rattle.hc_abs_view.specs.declared.jump.Target.TheVariants.{Behind, Over}
use Rattle.hc_abs_view.specs.declared.placed.Placed.{Placed}
use Rattle.hc_abs_view.specs.declared.scene.Scene.{Scene}
use Rattle.hc_abs_view.specs.declared.sides.Sides.{Sides}
use Rattle.hc_abs_view.specs.declared.viewing.Viewed.{Viewed}

-- ---- one fork

module _ (scene : Scene) (fork : Fork) where
  pub stays : (one : Placed) (is : Bool) → one.target ≡ Over is → IsPast scene fork one (placed_at one.tied (Over is) ∷ [])
  stays one is so given branch fits =
      subst (λ target. AreBranches (PlacedFits scene given) (fork_plan (scene_of scene) fork target) branch.0
      (placed_at one.tied (Over is) ∷ [])) (sym (fits.is ∙ so))
      (end_fits (PlacedFits scene given) branch.0 (Over is) (placed_at one.tied (Over is)) (record {
        seen = fits.seen;
        at = subst (λ target. IsAt target branch.0) so fits.at;
        is = refl;
      }))

  pub skips : (one : Placed) (count less : ℕ) → one.target ≡ Behind count → count ≡ suc less
      → IsPast scene fork one (placed_at one.tied (Behind less) ∷ [])
  skips one count less so more given branch fits =
      subst (λ target. AreBranches (PlacedFits scene given) (fork_plan (scene_of scene) fork target) branch.0
      (placed_at one.tied (Behind less) ∷ [])) (sym (fits.is ∙ so ∙ ap (λ count. Behind count) more))
      (end_fits (PlacedFits scene given) branch.0 (Behind less) (placed_at one.tied (Behind less)) (record {
        seen = fits.seen;
        at = tt;
        is = refl;
      }))

  ends : (given : Three (ℕ → Given)) (ties : Ties) (target : Target) (cell : Option Sets)
      → FollowsOn scene given ties cell (done target) (placed_on ties target cell)
  ends given ties target None = refl
  ends given ties target (Some cell) = λ now seen none.
      end_fits (PlacedFits scene given) now target (placed_at (tied_at cell ties) target) (record {
        seen = seen;
        at = by now none target;
        is = refl;
      })
    where
      by : (now : AbsState) → now.texts ≡ all_three no_text → (target : Target) → IsAt target now
      by now none (Over is) = none
      by now none (Behind count) = tt

  -- First where it holds, then where it doesn't.
  pub sides_past : (tied : Tied) (sides : Sides) (earlier mid later : List Placed)
      → AreSides scene (asked_ways (scene_of scene) fork.asked fork.lead.negated) tied sides
      → mid ≡ earlier ++ placed_on tied.ties fork.lead.yes sides.held
      → later ≡ mid ++ placed_on tied.ties fork.lead.no sides.failed
      → AddsPast scene fork (placed_at tied (Behind 0)) earlier later
  sides_past tied sides earlier mid later are first rest =
      let held = placed_on tied.ties fork.lead.yes sides.held in
      let failed = placed_on tied.ties fork.lead.no sides.failed in (
        held ++ failed,
        rest ∙ ap (λ front. front ++ failed) first ∙ append_assoc earlier held failed,
        (λ given branch fits.
            subst (λ target. AreBranches (PlacedFits scene given) (fork_plan (scene_of scene) fork target) branch.0
            (held ++ failed)) (sym fits.is)
            (are given branch.0 (λ is. done (target_of fork.lead is)) held failed fits.seen
            (ends given tied.ties fork.lead.yes sides.held) (ends given tied.ties fork.lead.no sides.failed))),
      )

-- ---- all forks

module _ (scene : Scene) where
  pub forks_begin : (forks : List Fork) (tied : Tied) (start begun : List Placed) (found : List Viewed) → start ≡ []
      → begun ≡ start ++ placed_at tied (Behind 0) ∷ [] → InRest scene forks begun found → AreForked scene forks tied found
  forks_begin forks tied start begun found none push in_rest given state seen =
      let are = subst (λ placed. InRest scene forks placed found)
      (push ∙ ap (λ front. front ++ placed_at tied (Behind 0) ∷ []) none) in_rest given in
      subst (AreBranches (ViewedFits scene given) (rest_plan (scene_of scene) forks (Behind 0)) state)
      (sym (are.2 ∙ ap (λ rest. are.0 ++ rest) are.4 ∙ append-nil are.0))
      (are.3 (state, Behind 0) (record { seen = seen; at = tt; is = refl }))

  pub forks_go_on : (rest forks : List Fork) (fork : Fork) (placed later : List Placed) (found : List Viewed)
      → rest ≡ fork ∷ forks → ArePast scene fork placed later → InRest scene forks later found
      → InRest scene rest placed found
  forks_go_on rest forks fork placed later found is past more =
      subst (λ rest. InRest scene rest placed found) (sym is)
      (λ given. next_joined (PlacedFits scene given) (PlacedFits scene given) (ViewedFits scene given)
      (fork_plan (scene_of scene) fork) (rest_plan (scene_of scene) forks) (rest_plan (scene_of scene) (fork ∷ forks))
      (fork_then (scene_of scene) fork forks) placed later found (past given) (more given))

  -- Behind all forks.
  over_at : (given : Three (ℕ → Given)) (tied : Tied) (target : Target) (state : AbsState) → SeenAt scene given tied state
      → IsAt target state
      → AreBranches (ViewedFits scene given) (rest_plan (scene_of scene) [] target) state
      (viewed_at (placed_at tied target) ∷ [])
  over_at given tied (Over is) state seen at =
      end_fits (ViewedFits scene given) state is (viewed_at (placed_at tied (Over is)))
      (record { seen = seen; texts = at; is = refl })
  over_at given tied (Behind count) state seen at =
      put_down_fits (ViewedFits scene given) state (done false) (viewed_at (placed_at tied (Behind count)) ∷ [])
      (end_fits (ViewedFits scene given) (without_texts state) false (viewed_at (placed_at tied (Behind count))) (record {
        seen =
            record {
              cell = seen.cell;
              ties = seen.ties;
              holds = seen.holds;
              query = seen.query;
              printed = seen.printed;
            };
        texts = refl;
        is = refl;
      }))

  all_over : (placed : List Placed) → InRest scene [] placed (map viewed_at placed)
  all_over [] given = refl
  all_over (one ∷ placed) given = (
    viewed_at one ∷ [],
    map viewed_at placed,
    refl,
    (λ branch fits.
        subst (λ target. AreBranches (ViewedFits scene given) (rest_plan (scene_of scene) [] target) branch.0
        (viewed_at one ∷ [])) (sym fits.is) (over_at given one.tied one.target branch.0 fits.seen fits.at)),
    all_over placed given,
  )

  pub forks_over : (forks : List Fork) (placed : List Placed) (found : List Viewed) → forks ≡ []
      → found ≡ map viewed_at placed → InRest scene forks placed found
  forks_over forks placed found none is =
      subst (λ forks. InRest scene forks placed found) (sym none) (subst (InRest scene [] placed) (sym is) (all_over placed))

  -- They are those of the expression.
  pub forks_viewed : (chain : List Expr) (expr : Expr) (forks : List Fork) (tied : Tied) (found : List Viewed)
      → AreForks chain expr forks → AreForked scene forks tied found → AreViewed scene chain expr tied found
  forks_viewed chain expr forks tied found are forked given state seen =
      subst (λ plan. AreBranches (ViewedFits scene given) plan state found) (forks_as (scene_of scene) chain expr forks are)
      (forked given state seen)
