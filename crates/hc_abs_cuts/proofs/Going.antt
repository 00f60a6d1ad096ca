-- From a further round of a directory's list on.
use Rattle.hc_abs_cuts.proofs.Common.{◌≡◌, ◌∙◌, ℕ, List, [], ◌∷◌, ◌++◌, true, false, refl, sym, ap, subst, append-nil}
use Rattle.hc_abs_cuts.proofs.Common.{append_assoc, Branch, AllFit, AbsState, Tied, ground_in, shown_in, Ground, Settings}
use Rattle.hc_abs_cuts.proofs.Common.{Place}
use Rattle.hc_plan.proofs.Coded.{both_fit}
use Rattle.hc_abs_force.specs.Merging.{merges}
use Rattle.hc_abs_left.specs.Grounds.{HasClients}
use Rattle.hc_abs_left.specs.Segments.{AreDirRound, SegmentFits}
use Rattle.hc_abs_left.specs.declared.ground.Settings.{Settings as LentSettings}
use Rattle.hc_abs_left.specs.declared.segment.Segment.{Segment}
use Rattle.hc_abs_pass.specs.Passing as plans
use Rattle.hc_abs_pass.specs.Walks.{IsListed}
use Rattle.hc_abs_rw.specs.RuleBranches.{Rests}
use Rattle.hc_abs_run.specs.Running.{AreServerRound}
use Rattle.hc_abs_cuts.specs.Coded.{AreCut, AreFromPlacesIn, ArePlaces, IsFromPlaceIn, PlaceFits, begun_in}
use Rattle.hc_abs_pass.specs.Again.{AreFromPlaces}
use Rattle.hc_invariant.specs.declared.cut.Cut.TheVariants as cut

module _ (ground : Ground) where
  abbrev Fit : Segment → Branch plans.Segment → Type 0
  Fit = SegmentFits ground.client ground.tests.now

  -- ---- the server's list

  pub server_fits : (tied : Tied) (first more found : List Segment) → found ≡ first ++ more
      → AreServerRound ground (begun_in true) tied first → AreServerRound ground (begun_in false) tied more
      → AreCut ground cut.Server tied found
  server_fits tied first more found all one other levels state listed rests clients =
      let on = one levels state listed clients rests in
      let off = other levels state listed clients rests in (
        on.0 ++ off.0,
        (on.0, off.0, refl, on.1, off.1),
        subst (λ found. AllFit Fit found (on.0 ++ off.0)) (sym all)
            (both_fit Fit first more on.0 off.0 on.2 off.2),
      )

  -- ---- a directory's list

  module _ (dir : List ℕ) where
    pub place_fits : (own : Place) (also : Tied) (one other : LentSettings) (first more found : List Segment)
        → also ≡ own.tied → one ≡ record { force = own.force; aliased = false; kind = own.kind }
        → other ≡ record { force = own.force; aliased = true; kind = own.kind } → found ≡ first ++ more
        → AreDirRound ground one dir (begun_in false) own.tied first
        → AreDirRound ground other dir (begun_in false) also more → IsFromPlaceIn ground dir own found
    place_fits own also one other first more found same is_one is_other all are_one are_other levels branch fits =
        let on = subst (λ lent. AreDirRound ground lent dir (begun_in false) own.tied first) is_one are_one levels merges
        (record branch.1 { aliased = false }) branch.0 (record { force = fits.force; aliased = refl; kind = fits.kind })
        fits.rests in
        let off = subst (λ lent. AreDirRound ground lent dir (begun_in false) also more) is_other are_other levels merges
        (record branch.1 { aliased = true }) branch.0 (record { force = fits.force; aliased = refl; kind = fits.kind })
        (subst (λ tied. Rests ground.client tied branch.0) (sym same) fits.rests) in (
          on.0 ++ off.0,
          (on.0, off.0, refl, on.1, off.1),
          subst (λ found. AllFit Fit found (on.0 ++ off.0)) (sym all) (both_fit Fit first more on.0 off.0 on.2 off.2),
        )

    pub one_place_more : (places : List Place) (own : Place) (found more after : List Segment)
        → AreFromPlacesIn ground dir places found → after ≡ found ++ more → IsFromPlaceIn ground dir own more
        → AreFromPlacesIn ground dir (places ++ own ∷ []) after
    one_place_more [] own found more after are added is =
        (more, [], added ∙ ap (λ found. found ++ more) are ∙ sym (append-nil more), is, refl)
    one_place_more (first ∷ places) own found more after are added is = (
      are.0,
      are.1 ++ more,
      added ∙ ap (λ found. found ++ more) are.2 ∙ append_assoc are.0 are.1 more,
      are.3,
      one_place_more places own are.1 more (are.1 ++ more) are.4 refl is,
    )

    module _ (levels : ℕ) where
      abbrev From : List (Branch Settings) → List Segment → Type 0
      From branches found = (segments : List (Branch plans.Segment))
          × AreFromPlaces (ground_in levels merges ground) dir branches segments × AllFit Fit found segments

      all_places : (places : List Place) (branches : List (Branch Settings)) (found : List Segment)
          → AllFit (PlaceFits ground.client) places branches → AreFromPlacesIn ground dir places found
          → From branches found
      all_places [] branches found fit are =
          subst (λ branches. From branches found) (sym fit) (subst (From []) (sym are) ([], refl, refl))
      all_places (own ∷ places) branches found fit are =
          let one = are.3 levels fit.0 fit.3 in
          let more = all_places places fit.1 are.1 fit.4 are.4 in
          subst (λ branches. From branches found) (sym fit.2)
          (subst (From (fit.0 ∷ fit.1)) (sym are.2) (
            one.0 ++ more.0,
            (one.0, more.0, refl, one.1, more.1),
            both_fit Fit are.0 are.1 one.0 more.0 one.2 more.2,
          ))

    pub directory_fits : (tied : Tied) (places : List Place) (found : List Segment) → ArePlaces ground dir tied places
        → AreFromPlacesIn ground dir places found → AreCut ground (cut.Dir dir) tied found
    directory_fits tied places found are from levels state listed rests clients =
        let there = are levels state listed rests in
        let all = all_places levels places there.0 found there.2 from in
        (all.0, (there.0, there.1, all.1), all.2)
