-- The rules of a directory begin.
use Rattle.hc_abs_dir.proofs.Common.{◌≡◌, ◌∙◌, ℕ, List, Bool, true, false, ◌&&◌, Some, refl, sym}
use Rattle.hc_abs_dir.proofs.Common.{ap, subst, Automaton, accepts, Accepts, Decision, Plan, Branch, AreBranches}
use Rattle.hc_abs_dir.proofs.Common.{Slot, AbsState, Tied, ground_in, Are, SegmentFits, LentGround}
use Rattle.hc_abs_dir.proofs.Common.{LentSettings, Segment, Ground}
use Rattle.std.proofs.Math.Path.{fun_ext}
use Rattle.std.specs.List.{list_all}
use Rattle.std.specs.Prelude.{nat_lt}
use Rattle.hc_cells.specs.Cells.{Puts, Sets, holds}
use Rattle.hc_cells.specs.declared.slot.Slot.TheVariants as slot
use Rattle.hc_cells.specs.declared.ties.Ties.{Ties}
use Rattle.hc_dfa.specs.Texts.{TextSet}
use Rattle.hc_plan.proofs.Made.{is_text}
use Rattle.hc_plan.proofs.Slots.{origin_tied, query_tied}
use Rattle.hc_plan.proofs.Stores.{put_in}
unfoldable use Rattle.hc_plan.specs.Branches.{Branches}
use Rattle.hc_plan.specs.Branches.{renamed, source_set}
use Rattle.hc_plan.specs.Hands.{cell_of, set_in}
use Rattle.hc_plan.specs.Plan.{Source, rename}
use Rattle.hc_plan.specs.Slots.{put}
use Rattle.hc_plan.specs.Texts.{of_bytes}
use Rattle.hc_abs_left.specs.Segments.{AreDirRound}
use Rattle.hc_abs_pass.specs.Passing.{any_slot, begun_with, dir_begun, dir_round_plan, engine_by, follow_plan, list_source}
use Rattle.hc_abs_pass.specs.declared.list.SoFar.{SoFar}
use Rattle.hc_abs_dir.specs.Begun.{IsBegun, begun_at}
use Rattle.hc_abs_dir.specs.Behind.{AreBy, refused_plan}

rename_fits : {A B : Type 0} (Fit : B → Branch A → Type 0) (state : AbsState) (sources : Slot → Source)
    (looked : Slot → Bool) (kept : Ties) (plan : Plan A) (found : List B)
    → AreBranches Fit plan (renamed state sources looked kept) found
    → AreBranches Fit (rename sources looked kept plan) state found
unfolding Branches
rename_fits Fit state sources looked kept plan found is = (is.0, is.1, is.2)

-- ---- states

-- Sets that agree on texts of bytes have the same of them.
same_bytes : (made : Automaton) (set : TextSet) → Accepts made set → set_in made ≡ of_bytes set
same_bytes made set is = fun_ext (λ x. by x (list_all (λ b. nat_lt b 256) x) refl)
  where
    by : (x : List ℕ) (v : Bool) → list_all (λ b. nat_lt b 256) x ≡ v → (v && accepts made x) ≡ (v && set x)
    by x true text = is x (is_text x text)
    by x false text = refl

module _ (ground : Ground) (sets made : Sets) (names : Automaton) (is : Accepts names (holds sets slot.Name))
    (puts : Puts sets slot.Text names made) where
  begun_set : (at : Slot)
      → source_set (cell_of sets) (list_source ground at) ≡ put slot.Text (set_in names) (cell_of sets) at
  begun_set Slot.Text = sym (same_bytes names (holds sets slot.Name) is)
  begun_set other = refl

  begun_cell : (state : AbsState) → state.cell ≡ cell_of sets → (begun_at ground state).cell ≡ cell_of made
  begun_cell state has =
      (λ i at. source_set (has i) (list_source ground at)) ∙ fun_ext begun_set
      ∙ sym (put_in sets made slot.Text names puts)

abbrev pub ties_from : Ties → Ties
ties_from ties = record ties { text_path = false; text_name = true }

pub begun_rests : (tied made : Tied) (names : Automaton) → Accepts names (holds tied.cell slot.Name)
    → Puts tied.cell slot.Text names made.cell → made.ties ≡ ties_from tied.ties → IsBegun tied made
begun_rests tied made names is puts ties ground client state ends = record {
  cell = begun_cell ground tied.cell made.cell names is puts state ends.cell;
  ties =
      (λ i. record {
        origin_path = origin_tied state.ties i;
        text_path = false;
        text_name = true;
        query_first = query_tied state.ties i;
      })
      ∙ ap ties_from ends.ties ∙ sym ties;
  given = ends.given;
  texts = refl;
  printed = ends.printed;
}

-- ---- plans

module _ (ground : LentGround) (lent : LentSettings) (decisions : List Decision) (dir : List ℕ) (tied : Tied)
    (found : List Segment) where
  pub begun_fits : (named : Tied) (so_far : SoFar) → IsBegun tied named
      → so_far ≡ record { decisions = decisions; substituted = false; replaced = false }
      → AreDirRound ground lent dir so_far named found
      → AreBy ground lent (λ own settings. dir_begun own settings (engine_by own settings dir) decisions) (Some tied)
      found
  begun_fits named so_far is begun are levels merges settings fit state ends =
      let own = ground_in levels merges ground in
      rename_fits (SegmentFits ground.client ground.tests.now) state (list_source own) (any_slot own)
      (record { origin_path = true; text_path = false; text_name = true; query_first = true })
      (dir_round_plan own settings (engine_by own settings dir) (begun_with decisions false)) found
      (subst (λ so_far. AreDirRound ground lent dir so_far named found) begun are levels merges settings
      (begun_at own state) fit (is own ground.client state ends))

  pub follows : (follow : Bool) → lent.force.follow ≡ follow
      → AreBy ground lent (λ own settings. elim follow [
        | true ↦ dir_begun own settings (engine_by own settings dir) decisions
        | false ↦ refused_plan decisions own settings
      ]) (Some tied) found
      → AreBy ground lent (λ own settings. follow_plan own settings dir decisions) (Some tied) found
  follows follow is are levels merges settings fit state ends =
      let own = ground_in levels merges ground in
      subst (λ follow. Are ground (elim follow [
        | true ↦ dir_begun own settings (engine_by own settings dir) decisions
        | false ↦ refused_plan decisions own settings
      ]) state found) (sym ((λ i. (fit.force i).follow) ∙ is)) (are levels merges settings fit state ends)
