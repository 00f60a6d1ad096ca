-- Leaves as code has them are bad where those are that they stand for.
use Rattle.hc_claim.proofs.Common.{◌≡◌, ◌∙◌, inl, inr, ℕ, List, Bool, true, false, ◌&&◌, Option, sym}
use Rattle.hc_claim.proofs.Common.{ap}
use Rattle.hc_claim.proofs.Common.{list_any}
use Rattle.std.proofs.lemmas.Bool.{false≢true}
use Rattle.hc_addr.specs.declared.addr.Addr.{Addr}
use Rattle.hc_broken.specs.Breaking.{lacks}
use Rattle.hc_cells.specs.Cells.{Sets, holds, of_set, set_at}
use Rattle.hc_dfa.specs.Automata.{Automaton}
use Rattle.hc_dfa.specs.Texts.{IsText, TextSet}
use Rattle.hc_model.specs.declared.request.Caller.{Caller}
use Rattle.hc_plan.proofs.Made.{is_text, text_is}
use Rattle.hc_plan.proofs.Common.{and_both, and_left, and_right}
use Rattle.hc_plan.specs.Hands.{cell_of}
use Rattle.hc_plan.specs.Slots.{Slot}
use Rattle.hc_scope.specs.declared.claim.Claim.{Claim}
use Rattle.hc_scope.specs.declared.claim.Claim.TheVariants.{Guarded, Shadowed, Stops}
use Rattle.hc_serve.specs.Needs.{needs_of}
use Rattle.hc_abs_leaves.specs.Fitting.{EndFits, LeafFits}
use Rattle.hc_abs_leaves.specs.declared.leaf.Leaf.{Leaf as LeafIn}
use Rattle.hc_abs_leaves.specs.declared.leaf.LeafEnd.{LeafEnd}
use Rattle.hc_claim.proofs.Common.end
use Rattle.hc_abs_pass.specs.Passing.{Finish}
use Rattle.hc_abs_pass.specs.declared.ends.Left.TheVariants as left
use Rattle.hc_abs_rw.specs.declared.apply.Next.TheVariants as next
use Rattle.hc_abs_tree.specs.Trees.{Leaf}
use Rattle.hc_abs_view.specs.Seen.{IsAnswer}
use Rattle.hc_claim.specs.Bad.{IsBad, MayBreak, is_limited, is_match, is_out, is_served}
use Rattle.hc_claim.specs.Ending.{ends_limited, ends_out, ends_served}
use Rattle.hc_claim.specs.Judging.{HasMember, IsJudged, MayBreakIn, Meets}

-- ---- answers

pub answer_from : {P Q : Type 0} (is : Bool) → (P → Q) → (Q → P) → IsAnswer P is → IsAnswer Q is
answer_from true to from held = to held
answer_from false to from none = λ q. none (from q)

-- ---- ends

-- What a leaf is said to end with, by how it ends.
module _ (caller : Caller) where
  pub out_is : (own : LeafEnd) (finish : Finish) → EndFits caller own finish → is_out finish ≡ ends_out own
  out_is (end.Stopped (left.Status number)) finish is = ap is_out is
  out_is (end.Stopped (left.Outside reason)) finish is = ap is_out is
  out_is (end.Stopped (left.Found kind)) finish is = ap is_out is
  out_is (end.Stopped (left.Sent redirect)) finish is = ap is_out is
  out_is (end.Stopped (left.Refused refusal)) finish is = ap is_out is
  out_is (end.Stopped (left.Limit kind)) finish is = ap is_out is
  out_is (end.Stopped left.NextPass) finish is = ap is_out is
  out_is (end.Ruled next.GoesOn) finish is = ap is_out is
  out_is (end.Ruled (next.Status number)) finish is = ap is_out is
  out_is (end.Ruled (next.Redirect number own noescape)) finish is = ap is_out is
  out_is (end.Ruled (next.Outside reason)) finish is = ap is_out is

  pub limited_is : (own : LeafEnd) (finish : Finish) → EndFits caller own finish → is_limited finish ≡ ends_limited own
  limited_is (end.Stopped (left.Status number)) finish is = ap is_limited is
  limited_is (end.Stopped (left.Outside reason)) finish is = ap is_limited is
  limited_is (end.Stopped (left.Found kind)) finish is = ap is_limited is
  limited_is (end.Stopped (left.Sent redirect)) finish is = ap is_limited is
  limited_is (end.Stopped (left.Refused refusal)) finish is = ap is_limited is
  limited_is (end.Stopped (left.Limit kind)) finish is = ap is_limited is
  limited_is (end.Stopped left.NextPass) finish is = ap is_limited is
  limited_is (end.Ruled next) finish is = ap is_limited is

  pub served_is : (own : LeafEnd) (finish : Finish) → EndFits caller own finish → is_served finish ≡ ends_served own
  served_is (end.Stopped (left.Status number)) finish is = ap is_served is
  served_is (end.Stopped (left.Outside reason)) finish is = ap is_served is
  served_is (end.Stopped (left.Found kind)) finish is = ap is_served is
  served_is (end.Stopped (left.Sent redirect)) finish is = ap is_served is
  served_is (end.Stopped (left.Refused refusal)) finish is = ap is_served is
  served_is (end.Stopped (left.Limit kind)) finish is = ap is_served is
  served_is (end.Stopped left.NextPass) finish is = ap is_served is
  served_is (end.Ruled next) finish is = ap is_served is

-- ---- what a claim asks

module _ (client : Option Addr) (caller : Caller) (own : LeafIn) (leaf : Leaf) (fits : LeafFits client caller own leaf)
  where
    break_from : (claim : Claim) → MayBreakIn claim own → MayBreak claim leaf
    break_from Stops is = limited_is caller own.end leaf.finish fits.finish ∙ is
    break_from (Shadowed place) is = ap (list_any (is_match place)) fits.decisions ∙ is
    break_from (Guarded target by) is = (
      served_is caller own.end leaf.finish fits.finish ∙ is.0,
      ap (λ require. lacks (needs_of require) by) fits.require ∙ is.1,
      (is.2.0, ap (λ cell. cell Slot.Name is.2.0) fits.at.cell ∙ is.2.1, is.2.2),
    )

    break_to : (claim : Claim) → MayBreak claim leaf → MayBreakIn claim own
    break_to Stops is = sym (limited_is caller own.end leaf.finish fits.finish) ∙ is
    break_to (Shadowed place) is = ap (list_any (is_match place)) (sym fits.decisions) ∙ is
    break_to (Guarded target by) is = (
      sym (served_is caller own.end leaf.finish fits.finish) ∙ is.0,
      ap (λ require. lacks (needs_of require) by) (sym fits.require) ∙ is.1,
      (is.2.0, ap (λ cell. cell Slot.Name is.2.0) (sym fits.at.cell) ∙ is.2.1, is.2.2),
    )

    bad_to : (claim : Claim) → ends_out own.end ≡ false → IsBad claim leaf → MayBreakIn claim own
    bad_to claim inside (inl out) =
        absurd (false≢true (sym (out_is caller own.end leaf.finish fits.finish ∙ inside) ∙ out))
    bad_to claim inside (inr may) = break_to claim may

pub judged : (claim : Claim) (own : LeafIn) (bad : Bool) → ends_out own.end ≡ false
    → IsAnswer (MayBreakIn claim own) bad → IsJudged claim own bad
judged claim own bad inside is client caller leaf fits =
    answer_from bad (λ may. inr (break_from client caller own leaf fits claim may))
    (bad_to client caller own leaf fits claim inside) is

-- ---- names

-- A slot's set and another one.
pub names_met : (sets : Sets) (found : Option Automaton) (target both : TextSet) (may : Bool)
    → set_at sets Slot.Name ≡ found
    → ((text : List ℕ) → IsText text → both text ≡ (of_set found text && target text))
    → IsAnswer (HasMember both) may → IsAnswer (Meets (cell_of sets Slot.Name) target) may
names_met sets found target both may is are = answer_from may
    (λ has.
    let held = sym (are has.0 has.1) ∙ has.2 in
    (has.0, and_both (text_is has.0 has.1) (ap (λ found. of_set found has.0) is ∙ and_left _ _ held), and_right (of_set found has.0) _ held))
    (λ meets.
    let bytes = is_text meets.0 (and_left _ _ meets.1) in (
      meets.0,
      bytes,
      are meets.0 bytes
          ∙ and_both (ap (λ found. of_set found meets.0) (sym is) ∙ and_right _ (holds sets Slot.Name meets.0) meets.1) meets.2,
    ))
