-- What a rule does that matches: its variables, its status and its substitution.
use Rattle.hc_abs_rw.proofs.Common.{◌≡◌, ◌∙◌, ℕ, List, [], ◌∷◌, ◌++◌, Option, None, Some, refl}
use Rattle.hc_abs_rw.proofs.Common.{sym, ap, subst, Frame, Plan, pick, false, suc, ◌+◌, ◌<◌, ◌≤◌, length}
use Rattle.hc_abs_rw.proofs.Common.{drop}
use Rattle.std.proofs.Common.{add-one, drop-cons, get_or}
use Rattle.std.proofs.Math.ListN.{drop_of_length-le}
use Rattle.hc_addr.specs.declared.addr.Addr.{Addr}
use Rattle.hc_dfa.specs.Automata.{Automaton}
use Rattle.hc_model.specs.declared.request.Caller.{Caller}
use Rattle.hc_model.specs.declared.rewrite.EnvSet.{EnvSet}
use Rattle.hc_model.specs.declared.rewrite.Flags.{Flags}
use Rattle.hc_model.specs.declared.rewrite.Rule.{Rule}
use Rattle.hc_model.specs.declared.template.Piece.{Piece}
use Rattle.hc_model.specs.declared.walk.Kind.{Kind}
use Rattle.hc_plan.proofs.Coded.{bound_fits, end_fits}
use Rattle.hc_plan.proofs.Stores.{Left, store_fits, stored_fits}
use Rattle.hc_plan.specs.Branches.{StoredHas}
use Rattle.hc_plan.specs.Coded.{AreBranches}
use Rattle.hc_plan.specs.Hands.{cell_of, set_in}
use Rattle.hc_plan.specs.Plan.{Stored as PlanStored, bound, from, from_hand, from_text, store}
use Rattle.hc_plan.specs.Slots.{Slot}
use Rattle.hc_plan.specs.States.{AbsState}
use Rattle.hc_plan.specs.Stores.{Stores}
use Rattle.hc_plan.specs.Texts.{IsSetOf}
use Rattle.hc_plan.specs.Ways.{IsHandSet, Stands}
use Rattle.hc_plan.specs.declared.hand.Element.{Element}
use Rattle.hc_plan.specs.declared.storing.Stored.{Stored}
use Rattle.hc_plan.specs.declared.storing.Tied.{Tied}
use Rattle.hc_rw_eval.specs.Substitutions.{is_long, status_of}
use Rattle.hc_rw_expand.specs.Lookups.{Values}
use Rattle.hc_steps.specs.Step.{Path}
use Rattle.hc_abs_rw.specs.Applied.{AppliedFits, AreApplied, AreFrom, AreSet, IsSetBy, IsSetTo, next_of}
use Rattle.hc_abs_rw.specs.Drafts.{Adds, InHand, frame_in}
use Rattle.hc_abs_rw.specs.Elements.{AreExpanded}
use Rattle.hc_abs_rw.specs.Frames.{common}
use Rattle.hc_abs_rw.specs.Known.{Fits, HeldFits}
use Rattle.hc_abs_rw.specs.Substitutions.{Made, Setting, answered_plan, applied_plan, goes_on, nothing_made, set_by}
use Rattle.hc_abs_rw.specs.Substitutions.{sets_plan, split_plan, status, substituted_plan}
use Rattle.hc_abs_rw.specs.Templates.{expand, main}
use Rattle.hc_abs_rw.specs.declared.apply.Applied.{Applied}
use Rattle.hc_abs_rw.specs.declared.apply.Made.{Made as MadeOf}
use Rattle.hc_abs_rw.specs.declared.apply.Next.{Next}
use Rattle.hc_abs_rw.specs.declared.draft.Task.{Task}
use Rattle.hc_abs_rw.specs.declared.known.Known.{Known}
use Rattle.hc_abs_rw.proofs.Expanded.{expand_fits, ready_stands}
use Rattle.hc_abs_rw.proofs.Images.{hand_has, nothing_has}

-- ---- variables

-- All that is held is as before.
pub record KeepsHeld (before : Known) (tied : Tied) (left : Known) : Type 0 where
  pub cell : left.cell ≡ tied.cell
  pub ties : left.ties ≡ tied.ties
  pub groups : left.groups ≡ before.groups
  pub conds : left.cond_groups ≡ before.cond_groups

module _ (frame : Frame) (client : Option Addr) (known left : Known) (name : List ℕ) (values : Automaton)
    (tied : Tied)
    (stores : Stores known.cell known.ties (record { slot = Slot.Env name; set = values } ∷ []) tied)
    (keeps : KeepsHeld known tied left) (plan : Plan Made) (found : List Applied)
    (more : AreFrom client frame.caller plan left found) where
  slot_set : (state : AbsState) (source : PlanStored) → Fits client known state
      → IsSetOf (set_in values) (StoredHas state source)
      → AreBranches (AppliedFits client frame.caller) (store ((Slot.Env name, source) ∷ []) plan) state found
  slot_set state source fits is =
      let list = (Slot.Env name, source) ∷ [] in
      let one : Stored = record { slot = Slot.Env name; set = values } in
      let is_left : Left state state list tied =
      store_fits state state known.cell known.ties list (one ∷ []) tied (one, [], refl, (refl, is), refl) fits.cell
      fits.ties stores in
      stored_fits (AppliedFits client frame.caller) state list tied plan found is_left
      (more is_left.next (record {
        cell = is_left.cell ∙ ap cell_of (sym keeps.cell);
        ties = is_left.ties ∙ sym keeps.ties;
        holds = record {
          groups = subst (λ groups. HeldFits groups is_left.next.given.first) (sym keeps.groups)
              (subst (λ given. HeldFits known.groups given.first) (sym is_left.given) fits.holds.groups);
          conds = subst (λ groups. HeldFits groups is_left.next.given.second) (sym keeps.conds)
              (subst (λ given. HeldFits known.cond_groups given.second) (sym is_left.given) fits.holds.conds);
          printed = is_left.printed ∙ fits.holds.printed;
        };
        looked = ap (λ given. given.third) is_left.given ∙ fits.looked;
      }))

  pub variable_set : (value : Option (List Piece)) → IsSetTo frame client known value values
      → AreFrom client frame.caller (set_by frame name value plan) known found
  variable_set None is state fits = slot_set state (from (from_text [])) fits (nothing_has values is)
  variable_set (Some template) is state fits =
      let Fit = AppliedFits client frame.caller in
      let stored = store ((Slot.Env name, from_hand main) ∷ []) plan in
      expand_fits Fit frame client known found template is.0 (bound main is_long stored) state fits is.1 (λ now ready.
      let stands = ready_stands client known is.0 now ready in
      bound_fits Fit now main is_long stored found
      (slot_set now (from_hand main) ready.fits
      (hand_has known.cell is.0 None values now.cell (pick now.texts main) stands.holds stands.hand is.2)))

-- What is stored for it.
pub one_stored : (known : Known) (name own : List ℕ) (values : Automaton) (tied : Tied)
    (start pushed lent : List Stored)
    → start ≡ [] → pushed ≡ start ++ record { slot = Slot.Env own; set = values } ∷ [] → lent ≡ pushed
    → own ≡ name
    → Stores known.cell known.ties lent tied
    → Stores known.cell known.ties (record { slot = Slot.Env name; set = values } ∷ []) tied
one_stored known name own values tied start pushed lent none push lends same =
    subst (λ stored. Stores known.cell known.ties stored tied)
    (lends ∙ push ∙ (λ i. none i ++ record { slot = Slot.Env (same i); set = values } ∷ []))

-- A value by a template.
pub value_by : (frame : Frame) (client : Option Addr) (known : Known) (value : Option (List Piece))
    (template pieces : List Piece) (elements lent : List Element) (set : Automaton) → value ≡ Some template
    → pieces ≡ template → lent ≡ elements → AreExpanded frame client known pieces elements
    → IsHandSet known.cell lent 0 None set → IsSetTo frame client known value set
value_by frame client known value template pieces elements lent set there same lends are hand =
    subst (λ value. IsSetTo frame client known value set) (sym there) (
      elements,
      subst (λ pieces. AreExpanded frame client known pieces elements) same are,
      subst (λ elements. IsHandSet known.cell elements 0 None set) lends hand,
    )

-- A variable that is set first.
pub set_first : (frame : Frame) (client : Option Addr) (set : EnvSet) (sets : List EnvSet) (known mid left : Known)
    → IsSetBy frame client set known mid → AreSet frame client sets mid left
    → AreSet frame client (set ∷ sets) known left
unfolding sets_plan
set_first frame client set sets known mid left first rest plan found more =
    first (sets_plan frame sets plan) found (rest plan found more)

none_set : (frame : Frame) (client : Option Addr) (known : Known) → AreSet frame client [] known known
unfolding sets_plan
none_set frame client known plan found more = more

-- One more of them is set, and none is left.
pub one_more : (frame : Frame) (client : Option Addr) (sets : List EnvSet) (at : ℕ) (set : EnvSet)
    (known mid left : Known)
    → at < length sets → set ≡ get_or sets at set → IsSetBy frame client set known mid
    → AreSet frame client (drop (at + 1) sets) mid left → AreSet frame client (drop at sets) known left
one_more frame client sets at set known mid left within is first rest =
    let behind : drop at sets ≡ set ∷ drop (at + 1) sets =
    rw add-one (drop-cons sets at set within ∙ ap (λ set. set ∷ drop (suc at) sets) (sym is)) in
    subst (λ sets. AreSet frame client sets known left) (sym behind)
    (set_first frame client set (drop (at + 1) sets) known mid left first rest)

pub all_set : (frame : Frame) (client : Option Addr) (sets : List EnvSet) (at : ℕ) (known : Known)
    → length sets ≤ at
    → AreSet frame client (drop at sets) known known
all_set frame client sets at known past =
    subst (λ sets. AreSet frame client sets known known) (sym (drop_of_length-le sets past))
    (none_set frame client known)

pub applied_found : (frame : Frame) (client : Option Addr) (rule : Rule) (setting : Setting) (lent : List EnvSet)
    (known left : Known) (found : List Applied) → lent ≡ rule.flags.sets → AreSet frame client lent known left
    → AreFrom client frame.caller (answered_plan frame rule setting (status_of rule.flags)) left found
    → AreApplied frame client rule setting known found
unfolding applied_plan
applied_found frame client rule setting lent known left found same sets =
    (subst (λ sets. AreSet frame client sets known left) same sets)
    (answered_plan frame rule setting (status_of rule.flags)) found

-- ---- what is found

pub end_found : (client : Option Addr) (caller : Caller) (known : Known) (next : Next) (start after : List Applied)
    (made : MadeOf) → start ≡ []
    → after ≡ start ++ record { tied = record { cell = known.cell; ties = known.ties }; made = made } ∷ []
    → made ≡ record { substituted = false; replaced = false; next = next }
    → AreFrom client caller (nothing_made (next_of caller next)) known after
end_found client caller known next start after made none push is =
    subst (AreFrom client caller (nothing_made (next_of caller next)) known)
    (sym (push ∙ (λ i. none i ++ record { tied = record { cell = known.cell; ties = known.ties }; made = is i } ∷
    [])))
    (λ state fits.
    end_fits (AppliedFits client caller) state (record
    { substituted = false; replaced = false; next = next_of caller next })
    _
    (record {
      known = record { cell = fits.cell; ties = fits.ties; looked = fits.looked; printed = fits.holds.printed };
      made = refl;
    }))

module _ (frame : Frame) (client : Option Addr) (setting : Setting) (known : Known) (found : List Applied) where
  pub status_found : (rule : Rule) (answer : Option ℕ) (number : ℕ) → Some number ≡ answer
      → AreFrom client frame.caller (nothing_made (status number)) known found
      → AreFrom client frame.caller (answered_plan frame rule setting answer) known found
  status_found rule answer number is =
      subst (λ answer. AreFrom client frame.caller (answered_plan frame rule setting answer) known found) is

  pub nothing_found : (flags : Flags) (template : Option (List Piece)) → template ≡ None
      → AreFrom client frame.caller (nothing_made goes_on) known found
      → AreFrom client frame.caller (substituted_plan frame flags setting template) known found
  nothing_found flags template is =
      subst (λ template. AreFrom client frame.caller (substituted_plan frame flags setting template) known found)
      (sym is)

pub text_found : (task : Task) (kind : Path → Kind) (values : Values) (client : Option Addr) (known : Known)
    (template pieces : List Piece) (elements lent : List Element) (start found : List Applied) → pieces ≡ template
    → lent ≡ elements → start ≡ [] → AreExpanded (frame_in task kind values) client known pieces elements
    → Adds task (InHand (record { cell = known.cell; ties = known.ties }) lent None)
    (λ frame. split_plan frame task.flags.now task.setting) start found
    → AreFrom client (common task.tests.now)
    (expand (frame_in task kind values) template
    (split_plan (frame_in task kind values) task.flags.now task.setting)) known found
text_found task kind values client known template pieces elements lent start found same lends none are adds state fits =
    let Fit = AppliedFits client (common task.tests.now) in
    let frame = frame_in task kind values in
    subst (λ found. AreBranches Fit (expand frame template (split_plan frame task.flags.now task.setting)) state found)
    (sym (adds.more ∙ ap (λ start. start ++ adds.found) none))
    (expand_fits Fit frame client known adds.found template elements (split_plan frame task.flags.now task.setting)
    state
    fits (subst (λ pieces. AreExpanded frame client known pieces elements) same are) (λ now ready.
    adds.led kind values client now (record {
      stands = subst (λ elements. Stands known.cell known.ties elements 0 None now main) (sym lends)
          (ready_stands client known elements now ready);
      looked = ready.fits.looked;
      printed = ready.fits.holds.printed;
    })))
