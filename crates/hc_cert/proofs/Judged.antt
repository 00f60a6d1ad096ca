-- Branches as code has them are at fault where those are that they stand for.
use Rattle.hc_cert.proofs.Common.{◌≡◌, ◌∙◌, inl, inr, true, false, ◌&&◌, Option, sym, ap}
use Rattle.hc_invariant.specs.declared.cut.Cut.TheVariants as cut
use Rattle.hc_abs_left.specs.declared.segment.Finish.TheVariants as finish
use Rattle.std.specs.Prelude.{nat_le}
use Rattle.hc_cert.proofs.Common.{list_any, Addr, NamedCell, Caller, Branch, Slot}
use Rattle.hc_cert.proofs.Common.{FinishFits, SegmentFits, FinishIn, SegmentIn, Finish, Segment}
use Rattle.std.proofs.lemmas.Bool.{false≢true}
use Rattle.std.specs.Option.{option_map}
use Rattle.hc_broken.specs.Breaking.{lacks}
use Rattle.hc_rank.specs.Ranks.{shrinks}
use Rattle.hc_model.specs.declared.section.Effective.{Effective}
use Rattle.hc_scope.specs.declared.claim.Claim.{Claim}
use Rattle.hc_scope.specs.declared.claim.Claim.TheVariants.{Guarded, Shadowed, Stops}
use Rattle.hc_serve.specs.Needs.{needs_of}
use Rattle.hc_claim.proofs.Common.end
use Rattle.hc_abs_pass.specs.declared.ends.Left.TheVariants as left
use Rattle.hc_claim.proofs.Judged.{limited_is as limited_by, out_is as out_by, served_is as served_by}
use Rattle.hc_claim.specs.Bad.{IsBad, MayBreak, is_limited, is_match, is_out, is_served}
use Rattle.hc_cert.specs.Cells.{led_to}
use Rattle.hc_cert.specs.Coded.{MayBreakIn, ends_limited, ends_out, ends_served, grows_in, led_in}
use Rattle.hc_cert.specs.Conditions.{grows, leaf_of, round_grows}
use Rattle.hc_cert.specs.declared.bounds.Bounds.{Bounds}

-- ---- ends

module _ (caller : Caller) where
  out_is : (own : FinishIn) (made : Finish) → FinishFits caller own made → is_out made ≡ ends_out own
  out_is (finish.Stopped left) made is = out_by caller (end.Stopped left) made is
  out_is (finish.Ruled next) made is = out_by caller (end.Ruled next) made is
  out_is (finish.ServerRound rule left) made is = ap is_out is
  out_is (finish.DirRound settings rule left) made is = ap is_out is.2

  limited_is : (own : FinishIn) (made : Finish) → FinishFits caller own made → is_limited made ≡ ends_limited own
  limited_is (finish.Stopped left) made is = limited_by caller (end.Stopped left) made is
  limited_is (finish.Ruled next) made is = ap is_limited is
  limited_is (finish.ServerRound rule left) made is = ap is_limited is
  limited_is (finish.DirRound settings rule left) made is = ap is_limited is.2

  served_is : (own : FinishIn) (made : Finish) → FinishFits caller own made → is_served made ≡ ends_served own
  served_is (finish.Stopped left) made is = served_by caller (end.Stopped left) made is
  served_is (finish.Ruled next) made is = ap is_served is
  served_is (finish.ServerRound rule left) made is = ap is_served is
  served_is (finish.DirRound settings rule left) made is = ap is_served is.2

  pub led_is : (own : FinishIn) (made : Finish) → FinishFits caller own made → led_to made ≡ led_in own
  led_is (finish.Stopped (left.Status number)) made is = ap led_to is
  led_is (finish.Stopped (left.Outside reason)) made is = ap led_to is
  led_is (finish.Stopped (left.Found kind)) made is = ap led_to is
  led_is (finish.Stopped (left.Sent redirect)) made is = ap led_to is
  led_is (finish.Stopped (left.Refused refusal)) made is = ap led_to is
  led_is (finish.Stopped (left.Limit kind)) made is = ap led_to is
  led_is (finish.Stopped left.NextPass) made is = ap led_to is
  led_is (finish.Ruled next) made is = ap led_to is
  led_is (finish.ServerRound rule left) made is = ap led_to is
  led_is (finish.DirRound settings rule left) made is =
      ap led_to is.2 ∙ ap (λ (force : Effective). option_map cut.Dir force.dir) (is.1).force

  pub grows_is : (bounds : Bounds) (from to : NamedCell) (own : FinishIn) (made : Finish) → FinishFits caller own made
      → grows bounds from made to ≡ grows_in bounds from own to
  grows_is bounds from to (finish.Stopped left) made is = ap (λ made. grows bounds from made to) is
  grows_is bounds from to (finish.Ruled next) made is = ap (λ made. grows bounds from made to) is
  grows_is bounds from to (finish.ServerRound rule left) made is = ap (λ made. grows bounds from made to) is
  grows_is bounds from to (finish.DirRound settings rule left) made is =
      ap (λ made. grows bounds from made to) is.2
      ∙ ap (λ (force : Effective). nat_le from.rank to.rank
      && round_grows from to.at rule (shrinks true force.rules) to.round) (is.1).force

-- ---- what a claim asks

module _ (client : Option Addr) (caller : Caller) (own : SegmentIn) (branch : Branch Segment)
    (fits : SegmentFits client caller own branch) where
  break_from : (claim : Claim) → MayBreakIn claim own → MayBreak claim (leaf_of branch)
  break_from Stops is = limited_is caller own.finish (branch.1).finish fits.finish ∙ is
  break_from (Shadowed place) is = ap (list_any (is_match place)) fits.decided ∙ is
  break_from (Guarded target by) is = (
    served_is caller own.finish (branch.1).finish fits.finish ∙ is.0,
    ap (λ require. lacks (needs_of require) by) fits.require ∙ is.1,
    (is.2.0, ap (λ cell. cell Slot.Name is.2.0) fits.at.cell ∙ is.2.1, is.2.2),
  )

  break_to : (claim : Claim) → MayBreak claim (leaf_of branch) → MayBreakIn claim own
  break_to Stops is = sym (limited_is caller own.finish (branch.1).finish fits.finish) ∙ is
  break_to (Shadowed place) is = ap (list_any (is_match place)) (sym fits.decided) ∙ is
  break_to (Guarded target by) is = (
    sym (served_is caller own.finish (branch.1).finish fits.finish) ∙ is.0,
    ap (λ require. lacks (needs_of require) by) (sym fits.require) ∙ is.1,
    (is.2.0, ap (λ cell. cell Slot.Name is.2.0) (sym fits.at.cell) ∙ is.2.1, is.2.2),
  )

  pub out_bad : (claim : Claim) → ends_out own.finish ≡ true → IsBad claim (leaf_of branch)
  out_bad claim out = inl (out_is caller own.finish (branch.1).finish fits.finish ∙ out)

  pub break_bad : (claim : Claim) → MayBreakIn claim own → IsBad claim (leaf_of branch)
  break_bad claim may = inr (break_from claim may)

  pub none_bad : (claim : Claim) → ends_out own.finish ≡ false → (MayBreakIn claim own → ⊥)
      → IsBad claim (leaf_of branch) → ⊥
  none_bad claim inside none (inl out) =
      false≢true (sym (out_is caller own.finish (branch.1).finish fits.finish ∙ inside) ∙ out)
  none_bad claim inside none (inr may) = none (break_to claim may)
