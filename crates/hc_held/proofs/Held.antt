-- Each request that stands in an accepted cell has a leaf that is not bad.
use Rattle.std.proofs.Common.{◌≡◌, ◌∙◌, ◌⊎◌, inl, inr, ℕ, zero, suc, List, ◌++◌, true, false}
use Rattle.std.proofs.Common.{Some, refl, sym, ap, subst}
use Rattle.std.proofs.lemmas.Bool.{false≢true}
use Rattle.std.proofs.lemmas.List.Folds.{list_any-append}
use Rattle.std.specs.List.{list_any}
use Rattle.hc_invariant.specs.declared.named.NamedCell.{NamedCell}
use Rattle.hc_model.specs.declared.event.Decision.{Decision}
use Rattle.hc_model.specs.declared.outcome.LimitKind.{LimitKind}
use Rattle.hc_model.specs.declared.outcome.LimitKind.TheVariants.{Redirects, Rounds}
use Rattle.hc_model.specs.declared.outcome.Outcome.{Outcome}
use Rattle.hc_model.specs.declared.outcome.Outcome.TheVariants as outcome
use Rattle.hc_model.specs.declared.outcome.Reason.TheVariants.{LongText}
use Rattle.hc_plan.proofs.Common.{either}
use Rattle.hc_plan.specs.Branches.{Branch}
use Rattle.hc_plan.specs.Cover.{Among}
use Rattle.hc_plan.specs.Running.{State}
use Rattle.hc_scope.specs.declared.claim.Claim.{Claim}
use Rattle.hc_scope.specs.declared.claim.Claim.TheVariants.{Guarded, Shadowed, Stops}
use Rattle.hc_serve.specs.Passing.{with_tree}
use Rattle.hc_serve.specs.Segments.{Cut, segment}
unfoldable use Rattle.hc_serve.specs.Segments.{segments}
use Rattle.hc_serve.specs.declared.stage.Ended.{Ended}
use Rattle.hc_serve.specs.declared.stage.Pass.{Pass}
use Rattle.hc_steps.proofs.Running.{in_turn}
use Rattle.hc_steps.specs.Run.{Run, Way, behind, goes_on, is_over, on_way, run_then}
unfoldable use Rattle.hc_steps.specs.Run.{run}
use Rattle.hc_abs_again.specs.Arriving.{IsTooLong, LeadsSo}
use Rattle.hc_abs_pass.specs.Ends.{limit}
use Rattle.hc_abs_pass.specs.Passing.{Finish, Segment, stopped}
use Rattle.hc_abs_rw.proofs.Staging.{decisions_joined}
use Rattle.hc_abs_rw.specs.Standing.{decisions_in}
use Rattle.hc_abs_segments.specs.Counting.{pass_at}
use Rattle.hc_abs_tree.specs.Leaves.{FinishedSo, way_from}
use Rattle.hc_abs_tree.specs.Trees.{Leaf}
use Rattle.hc_cert.proofs.Claims.{HasGood}
use Rattle.hc_cert.specs.Claims.{IsBad, is_match}
use Rattle.hc_cert.specs.Cells.{Belongs, LiesIn}
use Rattle.hc_cert.specs.Conditions.{leaf_of}
use Rattle.hc_held.proofs.Arrivals.{Arrives, Basis, IsAccepted, arrives, leads_in}
use Rattle.hc_held.proofs.Bounded.{last_never, rounds_never}
use Rattle.hc_held.proofs.Growing.{Ranked, grown, ranked_next}
use Rattle.hc_held.proofs.Leading.{EndsThere, IsBound, Onward, ends_there, led_there, onward, same_over}
use Rattle.hc_held.proofs.Lying.{KnowsClient, Stands, belongs_in, client_is, cut_of, lies_covered, settled}
use Rattle.hc_held.proofs.Lying.{stands_settled, text_is_path}
use Rattle.hc_held.proofs.Seeing.{reached_next}
use Rattle.hc_held.proofs.Weakly.{Weakly, and_so, weakly}

-- ---- bad leaves

-- A branch as a leaf with another end.
abbrev leaf_by : Branch Segment → Finish → Leaf
leaf_by branch finish = record (leaf_of branch) { finish = finish }

-- A leaf behind a branch.
abbrev leaf_behind : List Decision → Leaf → Leaf
leaf_behind front leaf = record leaf { decisions = front ++ leaf.decisions }

worse_behind : (claim : Claim) (branch : Branch Segment) (leaf : Leaf)
    → IsBad claim (leaf_behind (branch.1).decisions leaf) → IsBad claim (leaf_of branch) ⊎ IsBad claim leaf
worse_behind claim branch leaf (inl out) = inr (inl out)
worse_behind Stops branch leaf (inr is) = inr (inr is)
worse_behind (Guarded target by) branch leaf (inr is) = inr (inr is)
worse_behind (Shadowed place) branch leaf (inr is) =
    by (either (list_any (is_match place) (branch.1).decisions) (list_any (is_match place) leaf.decisions)
    (sym (list_any-append (is_match place) (branch.1).decisions leaf.decisions) ∙ is))
  where
    by : (list_any (is_match place) (branch.1).decisions ≡ true)
        ⊎ (list_any (is_match place) leaf.decisions ≡ true)
        → IsBad (Shadowed place) (leaf_of branch) ⊎ IsBad (Shadowed place) leaf
    by (inl one) = inl (inr one)
    by (inr other) = inr (inr other)

-- At a limit a leaf is no worse, but for one claim.
worse_at_limit : (claim : Claim) (branch : Branch Segment) (kind : LimitKind)
    → IsBad claim (leaf_by branch (stopped (limit kind))) → IsBad claim (leaf_of branch) ⊎ (claim ≡ Stops)
worse_at_limit claim branch kind (inl out) = absurd (false≢true out)
worse_at_limit Stops branch kind (inr is) = inr refl
worse_at_limit (Guarded target by) branch kind (inr is) = absurd (false≢true is.0)
worse_at_limit (Shadowed place) branch kind (inr is) = inl (inr is)

same_end : (one other : Outcome) → ◌≡◌ {A = Way Outcome Pass} (is_over one) (is_over other) → one ≡ other
same_end one other same = let e = same in cc

module _ (basis : Basis) (accepted : IsAccepted basis) where
  abbrev pub way_by : ℕ → Cut → Run Ended Cut
  way_by count cut = way_from basis.site basis.shown count cut

  -- A request stands in a cell of the list. Ranks grow where the claim asks for them.
  pub record IsIn (own : NamedCell) (cut : Cut) (state : State) : Type 0 where
    pub among : Among own basis.cells
    pub stands : Stands basis.site basis.shown basis.scope own cut state
    pub ranked : basis.claim ≡ Stops → Ranked basis.site own cut

  abbrev pub Good : ℕ → Cut → Ended → Type 0
  Good count cut end = HasGood basis.claim basis.site basis.shown cut end (decisions_in (way_by count cut).events)

  abbrev pub Found : ℕ → Type 0
  Found count = (own : NamedCell) (cut : Cut) (state : State) (end : Ended) → IsIn own cut state
      → (way_by count cut).way ≡ is_over end → Weakly (Good count cut end)

  -- ---- segments

  first_is : (more : ℕ) (cut : Cut)
      → way_by (suc more) cut ≡ run_then (run (segment basis.site cut) basis.shown) (λ cut. way_by more cut)
  unfolding segments
  first_is more cut = in_turn (segment basis.site cut) (λ cut. segments more basis.site cut) basis.shown

  none_is : (cut : Cut) → (way_by 0 cut).way ≡ goes_on cut
  unfolding segments run
  none_is cut = refl

  not_over : (cut : Cut) (end : Ended) → (way_by 0 cut).way ≡ is_over end → ⊥
  not_over cut end is = let none = sym (none_is cut) ∙ is in cc

  module _ (more : ℕ) (further : Found more) (own : NamedCell) (cut : Cut) (state : State) (end : Ended)
      (there : IsIn own cut state) (is : (way_by (suc more) cut).way ≡ is_over end) where
    abbrev first : Run Ended Cut
    first = run (segment basis.site cut) basis.shown

    over_so : (own : Ended) → first.way ≡ is_over own
        → way_by (suc more) cut ≡ record { events = first.events; reads = first.reads; way = is_over own }
    over_so own over = first_is more cut ∙ ap (λ way. on_way first way (λ cut. way_by more cut)) over

    on_so : (next : Cut) → first.way ≡ goes_on next → way_by (suc more) cut ≡ behind first (way_by more next)
    on_so next on = first_is more cut ∙ ap (λ way. on_way first way (λ cut. way_by more cut)) on

    own_is : (own : Ended) → first.way ≡ is_over own → own ≡ end
    own_is own over = same_over own end (sym (ap (λ (whole : Run Ended Cut). whole.way) (over_so own over)) ∙ is)

    module _ (come : Arrives basis own cut) where
      abbrev branch : Branch Segment
      branch = ((come.arrival).known, (come.arrival).segment)

      abbrev later : State
      later = (come.arrival).state

      -- ---- the request ends here

      module _ (over : first.way ≡ is_over end) where
        ends : EndsThere basis.site cut later branch.1 end
        ends =
            ends_there basis.site cut later basis.shown branch.1 end
            (subst (LeadsSo basis.site cut later branch.1) over (come.arrival).leads)

        at_limit : (kind : LimitKind) → ends.finish ≡ stopped (limit kind) → (basis.claim ≡ Stops → ⊥)
            → IsBad basis.claim (leaf_by branch ends.finish) → ⊥
        at_limit kind same unlike bad =
            by (worse_at_limit basis.claim branch kind
            (subst (λ finish. IsBad basis.claim (leaf_by branch finish)) same bad))
          where
            by : IsBad basis.claim (leaf_of branch) ⊎ (basis.claim ≡ Stops) → ⊥
            by (inl worse) = come.fine.ends worse
            by (inr stops) = unlike stops

        in_rounds : ends.finish ≡ stopped (limit Rounds)
            → first.way ≡ is_over (with_tree end.require (outcome.Limit Rounds))
        in_rounds same =
            over ∙ ap (λ own. is_over (with_tree end.require own))
            (same_end end.outcome (outcome.Limit Rounds)
            (subst (λ finish. FinishedSo basis.site (pass_at cut) later finish (is_over end.outcome)) same ends.so))

        not_bad : (ends.finish ≡ (branch.1).finish) ⊎ IsBound basis.site cut branch.1 ends.finish end
            → IsBad basis.claim (leaf_by branch ends.finish) → ⊥
        not_bad (inl same) bad =
            come.fine.ends (subst (λ finish. IsBad basis.claim (leaf_by branch finish)) same bad)
        not_bad (inr (inl last)) bad =
            at_limit Redirects last.0
            (λ stops. last_never basis accepted stops own there.among branch come.fine cut
            (there.ranked stops).number (is_over end) last.1) bad
        not_bad (inr (inr late)) bad =
            at_limit Rounds late.0
            (λ stops. rounds_never basis accepted stops own there.among cut state
            there.stands (there.ranked stops) end.require (in_rounds late.0)) bad

        ends_good : Good (suc more) cut end
        ends_good = inr (
          leaf_by branch ends.finish,
          not_bad ends.by,
          record {
            state = later;
            covers = (come.arrival).covers;
            decided = (come.arrival).decided
                ∙ ap (λ (whole : Run Ended Cut). decisions_in whole.events) (sym (over_so end over));
            require = ends.require;
            last = cut;
            reached = (0, none_is cut);
            over = over;
            finish = ends.so;
          },
        )

      -- ---- it goes on there

      module _ (to : Cut) (on : first.way ≡ goes_on to) where
        leads : Onward basis.site cut later (branch.1).finish to
        leads =
            onward basis.site cut later basis.shown branch.1 to on
            (subst (LeadsSo basis.site cut later branch.1) on (come.arrival).leads)

        good_behind : Good more to end → Good (suc more) cut end
        good_behind (inl long) = inl long
        good_behind (inr good) = inr (
          leaf_behind (branch.1).decisions good.0,
          λ bad. worse (worse_behind basis.claim branch good.0 bad),
          record {
            state = (good.2).state;
            covers = (good.2).covers;
            decided = all_decided;
            require = (good.2).require;
            last = (good.2).last;
            reached = (
              suc ((good.2).reached).0,
              ap (λ (whole : Run Ended Cut). whole.way) (first_is ((good.2).reached).0 cut
                  ∙ ap (λ way. on_way first way (λ cut. way_by ((good.2).reached).0 cut)) on)
                  ∙ ((good.2).reached).1,
            );
            over = (good.2).over;
            finish = (good.2).finish;
          },
        )
          where
            worse : IsBad basis.claim (leaf_of branch) ⊎ IsBad basis.claim good.0 → ⊥
            worse (inl bad) = come.fine.ends bad
            worse (inr bad) = good.1 bad

            all_decided : (branch.1).decisions ++ (good.0).decisions ≡ decisions_in (way_by (suc more) cut).events
            all_decided =
                ap (λ rest. (branch.1).decisions ++ rest) (good.2).decided
                ∙ ap (λ front. front ++ decisions_in (way_by more to).events) (come.arrival).decided
                ∙ sym (decisions_joined first.events (way_by more to).events)
                ∙ ap (λ (whole : Run Ended Cut). decisions_in whole.events) (sym (on_so to on))

        knows : KnowsClient basis.scope later
        knows =
            let same = client_is basis.site basis.shown cut state (there.stands).stands
            ∙ sym (client_is basis.site basis.shown to later leads.1) in
            let covers = (there.stands).covers in
            subst (λ client. KnowsClient basis.scope (record later { client = client })) same
            (covers.clients, covers.printed)

        module _ (next : NamedCell)
            (belongs : Belongs (branch.0).cell (cut_of to) basis.cells (Some next)) where
          abbrev lies : Among next basis.cells × LiesIn (branch.0).cell (cut_of to) next
          lies = belongs_in (branch.0).cell (cut_of to) basis.cells next belongs

          next_in : IsIn next to (settled later)
          next_in = record {
            among = lies.0;
            stands = record {
              at = (lies.1).cut;
              reached =
                  reached_next basis accepted own there.among cut state there.stands to on next lies.0 (lies.1).cut;
              stands = stands_settled basis.site basis.shown to later leads.1;
              covers = lies_covered basis.scope (branch.0).cell (cut_of to) next later lies.1
                  ((come.arrival).covers).slots (text_is_path basis.site basis.shown to later leads.1) knows;
            };
            ranked = λ stops.
                ranked_next basis.site basis.shown own next cut (there.stands).at (there.ranked stops)
                (branch.1).finish to leads.0 on
                (grown basis own branch come.fine stops (cut_of to) next (led_there cut to (branch.1).finish leads.0)
                belongs (branch.1).finish refl)
                (lies.1).cut;
          }

        on_good : Weakly (Good (suc more) cut end)
        on_good =
            and_so (leads_in basis own branch come.fine (cut_of to) (led_there cut to (branch.1).finish leads.0))
            (λ next.
            and_so (further next.0 to (settled later) end (next_in next.0 next.1)
            (sym (ap (λ (whole : Run Ended Cut). whole.way) (on_so to on)) ∙ is))
            (λ good. weakly (good_behind good)))

    step : Weakly (Good (suc more) cut end)
    step = by (arrives basis accepted own cut state there.among there.stands)
      where
        by_way : Arrives basis own cut → (way : Way Ended Cut) → first.way ≡ way
            → Weakly (Good (suc more) cut end)
        by_way come (is_over ended) over =
            weakly (ends_good come (over ∙ ap (λ (end : Ended). is_over end) (own_is ended over)))
        by_way come (goes_on to) on = on_good come to on

        by : IsTooLong first ⊎ Arrives basis own cut → Weakly (Good (suc more) cut end)
        by (inl long) =
            weakly (inl (sym (ap (λ (own : Ended). own.outcome)
            (own_is (with_tree long.0 (outcome.Outside LongText)) long.1))))
        by (inr come) = by_way come first.way refl

  pub found : (count : ℕ) → Found count
  found zero own cut state end there is = absurd (not_over cut end is)
  found (suc more) own cut state end there is = step more (found more) own cut state end there is
