-- Where ranks and rounds grow, no limit is reached.
use Rattle.std.proofs.Common.{◌≡◌, ◌∙◌, ◌⊎◌, inl, inr, ◌+◌, ◌≤◌, ◌<◌, true, false}
use Rattle.std.proofs.Common.{Option, refl, sym, ap, subst, arith}
use Rattle.std.proofs.lemmas.Bool.{and_parts, leb-true, ltb-true}
use Rattle.std.specs.Option.{option_map}
use Rattle.std.specs.Prelude.{nat_le, nat_lt}
use Rattle.hc_invariant.specs.declared.cut.Cut.TheVariants as named
use Rattle.hc_invariant.specs.declared.named.NamedCell.{NamedCell}
use Rattle.hc_model.specs.declared.authorization.ReqTree.{ReqTree}
use Rattle.hc_model.specs.declared.outcome.LimitKind.TheVariants.{Rounds}
use Rattle.hc_model.specs.declared.outcome.Outcome.{Outcome}
use Rattle.hc_model.specs.declared.outcome.Outcome.TheVariants as outcome
use Rattle.hc_plan.specs.Branches.{Branch}
use Rattle.hc_plan.specs.Cover.{Among}
use Rattle.hc_plan.specs.Running.{State}
use Rattle.hc_rank.specs.Ranks.{shrinks}
use Rattle.hc_scope.specs.declared.claim.Claim.TheVariants.{Stops}
use Rattle.hc_serve.specs.DirectoryRules.{context_in}
use Rattle.hc_serve.specs.Passing.{with_tree}
use Rattle.hc_serve.specs.Segments.{Cut, at_pass, dir_round, segment, server_round}
use Rattle.hc_serve.specs.ServerRules.{context_at, rules_at}
use Rattle.hc_serve.specs.Site.{most_passes}
use Rattle.hc_serve.specs.declared.stage.Ended.{Ended}
use Rattle.hc_steps.specs.Run.{Way, goes_on, is_over, run}
use Rattle.hc_abs_again.specs.Arriving.{IsLimited, IsTooLong, LeadsSo, directory_at, server_at}
use Rattle.hc_abs_pass.specs.Passing.{Finish, Segment, dir_round as in_dir_again, server_round as in_server_again}
use Rattle.hc_abs_segments.specs.Counting.{pass_at}
use Rattle.hc_cert.proofs.Claims.{by_finish}
use Rattle.hc_cert.specs.Claims.{IsBad}
use Rattle.hc_cert.specs.Cells.{led_to}
use Rattle.hc_cert.specs.Conditions.{leaf_of, round_grows}
use Rattle.hc_held.proofs.Arrivals.{Arrives, Basis, IsAccepted, IsFine, arrives, leads_in}
use Rattle.hc_held.proofs.Further.{MayLead, below_bound, first_at, first_too}
use Rattle.hc_held.proofs.Growing.{Ranked, below_rounds, grown, more_than_one, of_one_list}
use Rattle.hc_held.proofs.Leading.{EndsThere, IsBound, IsLate, LeadsTo, ends_there, led_there, onward, same_over}
use Rattle.hc_held.proofs.Lying.{Stands, belongs_in, stands_first}
use Rattle.hc_held.proofs.Rounds.{nowhere}

first_rounds : (cut : Cut) → (server_at (first_at cut) ≤ 1) × (directory_at (first_at cut) ≤ 1)
first_rounds (at_pass left) = (omega arith, omega arith)
first_rounds (server_round pass round next) = (omega arith, omega arith)
first_rounds (dir_round here dir round next) = (omega arith, omega arith)

-- Two ends that are one have one outcome.
same_outcome : (one other : Option ReqTree) (first last : Outcome)
    → ◌≡◌ {A = Way Ended Cut} (is_over (with_tree one first)) (is_over (with_tree other last))
    → first ≡ last
same_outcome one other first last same =
    ap (λ (end : Ended). end.outcome) (same_over (with_tree one first) (with_tree other last) same)

module _ (basis : Basis) (accepted : IsAccepted basis) (stops : basis.claim ≡ Stops) (own : NamedCell)
    (among : Among own basis.cells) where
  -- The rounds of a branch have more than one.
  module _ (branch : Branch Segment) (fine : IsFine basis own branch) where
    late_never : (from : Cut) → server_at from ≤ 1 → directory_at from ≤ 1 → (finish : Finish)
        → (branch.1).finish ≡ finish → IsLate from finish → ⊥
    late_never from server directory (in_server_again rule so_far) is late =
        leads_in basis own branch fine named.Server (ap led_to is) (λ to.
        let grow = grown basis own branch fine stops named.Server to.0 (ap led_to is) to.1 _ is in
        let parts = and_parts (nat_le own.rank (to.0).rank) _ grow in
        let more =
        more_than_one own to.0 named.Server rule (shrinks false (rules_at basis.site)) (to.0).round parts.1 in
        omega (arith, more, server, leb-true rule.flags.rounds (server_at from) late))
    late_never from server directory (in_dir_again settings rule so_far) is late =
        let leads = ap led_to is ∙ ap (option_map named.Dir) late.2 in
        leads_in basis own branch fine (named.Dir late.1) leads (λ to.
        let grow = grown basis own branch fine stops (named.Dir late.1) to.0 leads to.1 _ is in
        let parts = and_parts (nat_le own.rank (to.0).rank) _ grow in
        let more = more_than_one own to.0 (to.0).at rule (shrinks true settings.force.rules) (to.0).round parts.1 in
        omega (arith, more, directory, leb-true rule.flags.rounds (directory_at from) late.0))
    late_never from server directory other is late = late

    -- No pass is the last one.
    pub last_never : (from : Cut) → (pass_at from).number ≤ own.rank → (way : Way Ended Cut)
        → IsLimited basis.site (pass_at from) (branch.1).require (branch.1).finish way → ⊥
    last_never from few way limited =
        leads_in basis own branch fine named.Pass (ap led_to limited.leads) (λ to.
        let grow =
        grown basis own branch fine stops named.Pass to.0 (ap led_to limited.leads) to.1 _ limited.leads in
        let parts = and_parts (nat_lt own.rank (to.0).rank) _ grow in
        let most = most_passes basis.site.config basis.site.host in
        omega (
          arith,
          few,
          ltb-true own.rank (to.0).rank parts.0,
          ltb-true (to.0).rank most parts.1,
          leb-true most ((pass_at from).number + 1) limited.last,
        ))

  module _ (cut : Cut) (state : State) (stands : Stands basis.site basis.shown basis.scope own cut state)
      (ranked : Ranked basis.site own cut) where
    abbrev first : Cut
    first = first_at cut

    abbrev way : Cut → Way Ended Cut
    way from = (run (segment basis.site from) basis.shown).way

    arrived : IsTooLong (run (segment basis.site first) basis.shown) ⊎ Arrives basis own first
    arrived =
        arrives basis accepted own first state among
        (stands_first basis.site basis.shown basis.scope own cut state stands)

    -- The first round is not ended by the bound of a rule.
    module _ (require : Option ReqTree) (is : way first ≡ is_over (with_tree require (outcome.Limit Rounds))) where
      abbrev bound : Ended
      bound = with_tree require (outcome.Limit Rounds)

      ends_never : (there : Arrives basis own first)
          → EndsThere basis.site first (there.arrival).state (there.arrival).segment bound → ⊥
      ends_never there end = by end.by
        where
          by : (end.finish ≡ (there.arrival).segment.finish)
              ⊎ IsBound basis.site first (there.arrival).segment end.finish bound → ⊥
          by (inl same) =
              there.fine.ends (subst (λ claim. IsBad claim (leaf_of ((there.arrival).known, (there.arrival).segment)))
              (sym stops)
              (by_finish (leaf_of ((there.arrival).known, (there.arrival).segment))
              (run (segment basis.site first) basis.shown).events (there.arrival).decided basis.site (pass_at first)
              (there.arrival).state (there.arrival).covers Stops (outcome.Limit Rounds) end.finish (sym same) end.so
              refl))
          by (inr (inl last)) = absurd (let e = same_outcome _ _ _ _ (last.1).over in cc)
          by (inr (inr late)) =
              let few = first_rounds cut in
              late_never ((there.arrival).known, (there.arrival).segment) there.fine first few.0 few.1
              (there.arrival).segment.finish refl late.1

      first_never : IsTooLong (run (segment basis.site first) basis.shown) ⊎ Arrives basis own first → ⊥
      first_never (inl long) = let e = same_outcome _ _ _ _ (sym is ∙ long.1) in cc
      first_never (inr there) =
          ends_never there
          (ends_there basis.site first (there.arrival).state basis.shown (there.arrival).segment bound
          (subst (LeadsSo basis.site first (there.arrival).state (there.arrival).segment) is (there.arrival).leads))

    -- Where the first round leads on, this one does.
    module _ (to : Cut) (is : way first ≡ goes_on to) where
      onward_to : (there : Arrives basis own first) → LeadsTo first (there.arrival).segment.finish to
      onward_to there =
          (onward basis.site first (there.arrival).state basis.shown (there.arrival).segment to is
          (subst (LeadsSo basis.site first (there.arrival).state (there.arrival).segment) is (there.arrival).leads)).0

  leads_never : (cut : Cut) (state : State) → Stands basis.site basis.shown basis.scope own cut state
      → Ranked basis.site own cut → MayLead basis.site basis.shown cut → ⊥
  leads_never (at_pass left) state stands ranked leads = leads
  leads_never (server_round pass round before) state stands ranked leads =
      by (arrived (server_round pass round before) state stands ranked)
    where
      by : IsTooLong (run (segment basis.site (server_round pass 0 before)) basis.shown)
          ⊎ Arrives basis own (server_round pass 0 before) → ⊥
      by (inl long) = nowhere _ _ (sym leads.there ∙ long.1)
      by (inr there) =
          let branch : Branch Segment = ((there.arrival).known, (there.arrival).segment) in
          let next =
          onward_to (server_round pass round before) state stands ranked (server_round pass 1 leads.next) leads.there
          there in
          let rule = next.0 in
          leads_in basis own branch there.fine named.Server (ap led_to next.2) (λ to.
          let grow = grown basis own branch there.fine stops named.Server to.0 (ap led_to next.2) to.1 _ next.2 in
          let parts = and_parts (nat_le own.rank (to.0).rank) _ grow in
          let below =
          below_rounds own to.0 named.Server rule (shrinks false (rules_at basis.site)) (to.0).round parts.1 stands.at
          round ranked.round
          (λ shrink. subst (λ bound. round < bound) next.4
          (below_bound basis.site (context_at basis.site pass) (rules_at basis.site) before.left basis.shown round
          leads.next leads.leads ranked.brief shrink)) in
          omega (arith, below, leads.bound, next.4))
  leads_never (dir_round here dir round before) state stands ranked leads =
      by (arrived (dir_round here dir round before) state stands ranked)
    where
      by : IsTooLong (run (segment basis.site (dir_round here dir 0 before)) basis.shown)
          ⊎ Arrives basis own (dir_round here dir 0 before) → ⊥
      by (inl long) = nowhere _ _ (sym leads.there ∙ long.1)
      by (inr there) =
          let branch : Branch Segment = ((there.arrival).known, (there.arrival).segment) in
          let next =
          onward_to (dir_round here dir round before) state stands ranked (dir_round here dir 1 leads.next) leads.there
          there in
          let rule = next.1 in
          let there_led =
          led_there (dir_round here dir 0 before) (dir_round here dir 1 leads.next) (there.arrival).segment.finish
          next in
          leads_in basis own branch there.fine (named.Dir dir) there_led (λ to.
          let grow = grown basis own branch there.fine stops (named.Dir dir) to.0 there_led to.1 _ next.3 in
          let parts = and_parts (nat_le own.rank (to.0).rank) _ grow in
          let lies = belongs_in (branch.0).cell (named.Dir dir) basis.cells to.0 to.1 in
          let below =
          below_rounds own to.0 (to.0).at rule (shrinks true here.force.rules) (to.0).round
          (subst (λ rules. round_grows own (to.0).at rule (shrinks true rules) (to.0).round ≡ true)
          (next.6).force.rules parts.1)
          (of_one_list own.at (to.0).at dir stands.at (lies.1).cut) round ranked.round
          (λ shrink. subst (λ bound. round < bound) next.5
          (below_bound basis.site (context_in basis.site here dir) here.force.rules before.left basis.shown round
          leads.next leads.leads ranked.brief shrink)) in
          omega (arith, below, leads.bound, next.5))

  -- No rule's bound is reached.
  pub rounds_never : (cut : Cut) (state : State) → Stands basis.site basis.shown basis.scope own cut state
      → Ranked basis.site own cut → (require : Option ReqTree)
      → (run (segment basis.site cut) basis.shown).way ≡ is_over (with_tree require (outcome.Limit Rounds)) → ⊥
  rounds_never cut state stands ranked require is =
      by (first_too basis.site basis.shown cut (with_tree require (outcome.Limit Rounds)) is)
    where
      by : ((run (segment basis.site (first_at cut)) basis.shown).way
          ≡ is_over (with_tree require (outcome.Limit Rounds))) ⊎ MayLead basis.site basis.shown cut → ⊥
      by (inl too) = first_never cut state stands ranked require too (arrived cut state stands ranked)
      by (inr leads) = leads_never cut state stands ranked leads
