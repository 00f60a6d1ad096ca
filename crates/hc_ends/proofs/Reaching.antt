-- Each request of a scope ends at one of its leaves.
use Rattle.std.proofs.Common.{◌≡◌, ◌∙◌, ◌⊎◌, inl, inr, ℕ, List, None, refl, sym, ap, true, false}
use Rattle.hc_absolute.specs.Absolute.{AreAbsolute}
use Rattle.hc_members.specs.Requests.{common_request, is_of_scope}
use Rattle.hc_model.specs.declared.outcome.Outcome.{Outcome}
use Rattle.hc_model.specs.declared.outcome.Outcome.TheVariants as outcome
use Rattle.hc_model.specs.declared.outcome.Reason.TheVariants.{LongText}
use Rattle.hc_model.specs.declared.request.Caller.{Caller}
use Rattle.hc_model.specs.declared.request.Request.{Request}
use Rattle.hc_plan.specs.Cover.{Among}
use Rattle.hc_scope.specs.declared.claim.Scope.{Scope}
use Rattle.hc_serve.specs.Request.{outcome_of, received, whole_run}
use Rattle.hc_serve.specs.Segments.{Cut}
use Rattle.hc_serve.specs.declared.stage.Ended.{Ended}
use Rattle.hc_serve.specs.declared.stage.Restarted.{Restarted}
use Rattle.hc_serve.specs.Site as serving
use Rattle.hc_steps.specs.Run.{Run, Way, goes_on, is_over}
use Rattle.hc_steps.specs.Shown.{shown_by}
use Rattle.hc_target.specs.Targets.{read}
use Rattle.hc_target.specs.declared.target.TargetRead.TheVariants.{Path}
use Rattle.hc_abs_pass.proofs.Restarting.{none_once}
use Rattle.hc_abs_pass.specs.Walks.{IsListed}
use Rattle.hc_abs_rw.specs.Standing.{decisions_in}
use Rattle.hc_abs_segments.proofs.Passes.{none_is_left}
use Rattle.hc_abs_segments.specs.Counting.{pass_at}
use Rattle.hc_abs_start.proofs.Members.{facts_of}
use Rattle.hc_abs_start.specs.Starts.{first_of, first_state}
use Rattle.hc_abs_tree.proofs.Leaves.{each_has_leaf}
use Rattle.hc_abs_tree.specs.Leaves.{HasLeaf, begun_at}
use Rattle.hc_abs_tree.specs.Trees.{AreLeaves, Leaf}
use Rattle.hc_claim.proofs.Covering.{Begins, asked_same, begins_so, ground, in_segments, site as site_for, sites_same}
use Rattle.hc_claim.proofs.Covering.{target_read, way_of, whole_is}
use Rattle.hc_claim.specs.Asking.{Asked, AreUnder, known_before, soil_of}
use Rattle.hc_ends.specs.Asking.{Site, asked_at}
use Rattle.hc_ends.specs.Chains.{HasLeaves, caller_of}
use Rattle.hc_ends.proofs.Outcomes.{EndsSo}

-- A text is too long, or one of these leaves is that of the request.
abbrev pub EndsAmong : Caller → List Leaf → Outcome → Type 0
EndsAmong caller leaves own =
    (own ≡ outcome.Outside LongText) ⊎ ((leaf : Leaf) × Among leaf leaves × EndsSo caller leaf own)

module _ (site : Site) (absolute : AreAbsolute site.config) (levels : ℕ)
    (listed : IsListed levels (shown_by site.world)) (scope : Scope) (own : List Leaf)
    (has : HasLeaves site false levels scope own) (request : Request)
    (is : is_of_scope scope request ≡ true) where
  abbrev asked : Asked
  asked = asked_at site scope

  abbrev caller : Caller
  caller = caller_of site scope

  module _ (path query : List ℕ) (is_read : read request.target ≡ Path path query) where
    abbrev at : serving.Site
    at = site_for asked request is path query is_read

    abbrev begins : Begins asked request is path query is_read has.names
    begins = begins_so asked request is path query is_read has.names

    of_leaf : (ended : Ended) (count : ℕ)
        → HasLeaf at (shown_by site.world) (begun_at (first_of path query) None) own ended
        (decisions_in (way_of asked request is path query is_read count).events) → EndsAmong caller own ended.outcome
    of_leaf ended count (inl long) = inl long
    of_leaf ended count (inr found) = inr (
      found.0,
      found.1,
      record {
        site = at;
        same =
            ap (λ (site : serving.Site). site.caller)
            (sites_same site.config (common_request scope) request (asked_same scope request is));
        last = pass_at (found.2).last;
        state = (found.2).state;
        covers = (found.2).covers;
        finish = (found.2).finish;
      },
    )

    is_among : (ended : Ended) → (whole_run site.world site.config request).way ≡ is_over ended
        → AreUnder AreLeaves (soil_of asked levels has.names) (known_before asked has.names) own
        → EndsAmong caller own ended.outcome
    is_among ended over (inl empty) = absurd (begins.filled empty.0)
    is_among ended over (inr tree) =
        let all = in_segments asked request is path query is_read ended
        (sym (ap (λ (run : Run Ended Restarted). run.way) (whole_is asked request is path query is_read)) ∙ over) in
        of_leaf ended all.0
        (each_has_leaf (soil_of asked levels has.names) at (first_of path query) None (known_before asked has.names)
        (first_state at (first_of path query)) own all.0 ended
        (sites_same site.config (common_request scope) request (asked_same scope request is))
        (ground asked request is path query is_read absolute levels listed) begins.meets none_once begins.covers tree.1
        (ap (λ (run : Run Ended Cut). run.way) all.1))

    by_way : (way : Way Ended Restarted) → (whole_run site.world site.config request).way ≡ way
        → EndsAmong caller own (outcome_of way)
    by_way (goes_on left) over = absurd (none_is_left site.config request (shown_by site.world) left over)
    by_way (is_over ended) over = is_among ended over has.under

  pub ends_among : EndsAmong caller own (received site.world site.config request)
  ends_among =
      let to = target_read scope (read request.target) (facts_of scope request is).within in
      by_way to.0 to.1 to.2 (whole_run site.world site.config request).way refl
