-- Where a branch leads, or ends.
use Rattle.std.proofs.Common.{◌≡◌, ◌∙◌, ◌⊎◌, inl, inr, ℕ, ◌+◌, nat_le, List, Bool, true, false}
use Rattle.std.proofs.Common.{Option, Some, if◌then◌else◌, refl, sym, ap, subst, arith}
use Rattle.std.specs.Option.{option_map}
use Rattle.hc_invariant.specs.declared.cut.Cut.TheVariants as named
use Rattle.hc_model.specs.declared.authorization.ReqTree.{ReqTree}
use Rattle.hc_model.specs.declared.outcome.LimitKind.TheVariants.{Redirects, Rounds}
use Rattle.hc_model.specs.declared.outcome.Outcome.{Outcome}
use Rattle.hc_model.specs.declared.outcome.Outcome.TheVariants as outcome
use Rattle.hc_model.specs.declared.rewrite.Rule.{Rule}
use Rattle.hc_plan.specs.Running.{State}
use Rattle.hc_serve.specs.Passing.{followed_by, with_tree}
use Rattle.hc_serve.specs.Segments.{Cut, at_pass, dir_round, segment, server_round}
use Rattle.hc_serve.specs.ServerRules.{context_at, pass_with}
use Rattle.hc_serve.specs.Site.{Site}
use Rattle.hc_serve.specs.declared.stage.Ended.{Ended}
use Rattle.hc_serve.specs.declared.stage.Pass.{Pass}
use Rattle.hc_steps.specs.Run.{Way, goes_on, is_over, run}
use Rattle.hc_steps.specs.Step.{Shown}
use Rattle.hc_abs_again.specs.Arriving.{IsLimited, LeadsSo, StandsAt, directory_at, finish_behind, server_at}
use Rattle.hc_abs_again.specs.Arriving.{was_substituted}
use Rattle.hc_abs_pass.specs.Ends as left_so
use Rattle.hc_abs_pass.specs.Ends.{AreOnce, Ends, Left, MeetsPass, limit, next_pass}
use Rattle.hc_abs_pass.specs.Passing.{Finish, Segment, Settings, ruled, stopped, dir_round as in_dir_again}
use Rattle.hc_abs_pass.specs.Passing.{server_round as in_server_again}
use Rattle.hc_abs_rw.specs.Lists.{SoFar}
use Rattle.hc_abs_rw.specs.Standing.{Leads}
use Rattle.hc_abs_rw.specs.Substitutions as then_so
use Rattle.hc_abs_rw.specs.Substitutions.{Then}
use Rattle.hc_abs_segments.proofs.Counting.{segments_count}
use Rattle.hc_abs_segments.specs.Agreeing.{FinishLike, SettlesHere, begun_by, led}
use Rattle.hc_abs_segments.specs.Counting.{pass_at}
use Rattle.hc_abs_tree.specs.Leaves.{FinishedSo}
use Rattle.hc_cert.specs.Cells.{led_to}
use Rattle.hc_held.proofs.Lying.{cut_of}
use Rattle.hc_held.proofs.Rounds.{nowhere, same_left}

-- ---- where it leads

-- A branch leads to the cut.
abbrev pub LeadsTo : Cut → Finish → Cut → Type 0
LeadsTo from finish (at_pass left) = finish ≡ stopped next_pass
LeadsTo from finish (server_round pass round next) = (rule : Rule) × (so_far : SoFar)
    × (finish ≡ in_server_again rule so_far) × (round ≡ server_at from + 1) × (next.bound ≡ rule.flags.rounds)
LeadsTo from finish (dir_round here dir round next) = (settings : Settings) × (rule : Rule) × (so_far : SoFar)
    × (finish ≡ in_dir_again settings rule so_far) × (round ≡ directory_at from + 1)
    × (next.bound ≡ rule.flags.rounds) × SettlesHere settings here × (here.force.dir ≡ Some dir)

pub led_there : (from to : Cut) (finish : Finish) → LeadsTo from finish to → led_to finish ≡ Some (cut_of to)
led_there from (at_pass left) finish is = ap led_to is
led_there from (server_round pass round next) finish is = ap led_to is.2
led_there from (dir_round here dir round next) finish is =
    ap led_to is.3 ∙ ap (option_map named.Dir) ((is.6).force.dir ∙ is.7)

-- A rule begins a round at its bound.
abbrev pub IsLate : Cut → Finish → Type 0
IsLate from (in_server_again rule so_far) = nat_le rule.flags.rounds (server_at from) ≡ true
IsLate from (in_dir_again settings rule so_far) =
    (nat_le rule.flags.rounds (directory_at from) ≡ true) × (dir : List ℕ) × (settings.force.dir ≡ Some dir)
IsLate from other = ⊥

-- By a limit that the branch itself doesn't end at.
abbrev pub IsBound : Site → Cut → Segment → Finish → Ended → Type 0
IsBound site from segment finish end =
    ((finish ≡ stopped (limit Redirects))
    × IsLimited site (pass_at from) segment.require segment.finish (is_over end))
    ⊎ ((finish ≡ stopped (limit Rounds)) × IsLate from segment.finish)

pub record EndsThere (site : Site) (from : Cut) (state : State) (segment : Segment) (end : Ended) : Type 0 where
  pub finish : Finish
  pub require : segment.require ≡ end.require
  pub so : FinishedSo site (pass_at from) state finish (is_over end.outcome)
  pub by : (finish ≡ segment.finish) ⊎ IsBound site from segment finish end

abbrev pub Onward : Site → Cut → State → Finish → Cut → Type 0
Onward site from state finish to = LeadsTo from finish to × StandsAt site to state

no_next : (number : ℕ) → number ≡ number + 1 → ⊥
no_next number is = omega (arith, is)

pub same_over : (one other : Ended) → ◌≡◌ {A = Way Ended Cut} (is_over one) (is_over other) → one ≡ other
same_over one other same = let e = same in cc

next_so : (site : Site) (state : State) (left : Left) (pass : Pass) → Ends site state left (goes_on pass)
    → (left ≡ next_pass) × MeetsPass site pass state × AreOnce pass.vars
next_so site state next_pass pass is =
    let same = same_left is.0 pass (sym is.1) in
    let so = subst (λ pass. MeetsPass site pass state × AreOnce pass.vars) same (is.2, is.3) in (refl, so.0, so.1)
next_so site state (left_so.sent redirect) pass is = nowhere pass is.0 is.1
next_so site state other pass is = nowhere pass _ is

module _ (site : Site) (from : Cut) (state : State) (shown : Shown) where
  module _ (require : Option ReqTree) (to : Cut) (is : (run (segment site from) shown).way ≡ goes_on to) where
    by_left : (left : Left) (own : Way Outcome Pass) → Ends site state left own → goes_on to ≡ led require own
        → Onward site from state (stopped left) to
    by_left left (is_over end) so same = nowhere to (with_tree require end) same
    by_left left (goes_on pass) so same =
        let next = next_so site state left pass so in
        subst (Onward site from state (stopped left)) (sym (same_left to _ same)) (ap stopped next.0, (next.1, next.2))

    by_then : (next : Then) (own : Way Outcome Pass)
        → Leads (context_at site (pass_at from)) (pass_with (pass_at from)) state next own
        → goes_on to ≡ led require own → Onward site from state (ruled next) to
    by_then then_so.goes_on own so same =
        absurd (no_next (pass_at from).number (segments_count site from
        (at_pass (followed_by require (pass_with (pass_at from) so.0))) shown (is ∙ same ∙ ap (led require) so.1)))
    by_then (then_so.status number) own so same = nowhere to _ (same ∙ ap (led require) so)
    by_then (then_so.redirect number front noescape) own so same = nowhere to _ (same ∙ ap (led require) so)
    by_then (then_so.outside reason) own so same = nowhere to _ (same ∙ ap (led require) so)

    by_bound : (rule : Rule) (round : ℕ) (next : Cut) (finish : Finish)
        → goes_on to ≡ begun_by require rule round next
        → Onward site from state finish next → Onward site from state finish to
    by_bound rule round next finish same so = by (nat_le rule.flags.rounds round) same
      where
        by : (late : Bool)
            → goes_on to ≡ (if late then is_over (with_tree require (outcome.Limit Rounds)) else goes_on next)
            → Onward site from state finish to
        by true same = nowhere to _ same
        by false same = subst (Onward site from state finish) (sym (same_left to next same)) so

    by_finish : (finish : Finish)
        → FinishLike site (pass_at from) (server_at from) (directory_at from) state require
        (finish_behind (was_substituted from) finish) (goes_on to)
        → Onward site from state finish to
    by_finish (stopped left) like = by_left left like.0 like.1 like.2
    by_finish (ruled next) like = by_then next like.0 like.1 like.2
    by_finish (in_server_again rule so_far) like =
        by_bound rule (server_at from) _ (in_server_again rule so_far) like.3
        ((rule, so_far, refl, refl, refl), (like.1, like.2))
    by_finish (in_dir_again settings rule so_far) like =
        by_bound rule (directory_at from) _ (in_dir_again settings rule so_far) like.6
        ((settings, rule, so_far, refl, refl, refl, like.3, like.4), like.5)

  pub onward : (own : Segment) (to : Cut) → (run (segment site from) shown).way ≡ goes_on to
      → LeadsSo site from state own (goes_on to) → Onward site from state own.finish to
  onward own to is (inl like) = by_finish own.require to is own.finish like
  onward own to is (inr limited) = nowhere to _ limited.over

  -- ---- where it ends

  module _ (branch : Segment) (end : Ended) where
    abbrev There : Type 0
    There = EndsThere site from state branch end

    here : (finish : Finish) (own : Outcome)
        → ◌≡◌ {A = Way Ended Cut} (is_over end) (is_over (with_tree branch.require own))
        → FinishedSo site (pass_at from) state finish (is_over own)
        → (finish ≡ branch.finish) ⊎ IsBound site from branch finish end → There
    here finish own same so by =
        let is = same_over (with_tree branch.require own) end (sym same) in record {
          finish = finish;
          require = ap (λ (end : Ended). end.require) is;
          so = subst (λ own. FinishedSo site (pass_at from) state finish (is_over own))
              (ap (λ (end : Ended). end.outcome) is) so;
          by = by;
        }

    over_so : (finish : Finish) → finish ≡ branch.finish → (own : Way Outcome Pass)
        → FinishedSo site (pass_at from) state finish own → is_over end ≡ led branch.require own → There
    over_so finish is (goes_on pass) so same = nowhere _ end (sym same)
    over_so finish is (is_over own) so same = here finish own same so (inl is)

    over_bound : (rule : Rule) (round : ℕ) (next : Cut) → is_over end ≡ begun_by branch.require rule round next
        → (nat_le rule.flags.rounds round ≡ true → IsLate from branch.finish) → There
    over_bound rule round next same late = by (nat_le rule.flags.rounds round) refl same
      where
        by : (is : Bool) → nat_le rule.flags.rounds round ≡ is → is_over end
            ≡ (if is then is_over (with_tree branch.require (outcome.Limit Rounds)) else goes_on next) → There
        by true is same = here (stopped (limit Rounds)) (outcome.Limit Rounds) same refl (inr (inr (refl, late is)))
        by false is same = nowhere next end (sym same)

    over_finish : (finish : Finish) → finish ≡ branch.finish
        → FinishLike site (pass_at from) (server_at from) (directory_at from) state branch.require
        (finish_behind (was_substituted from) finish) (is_over end)
        → There
    over_finish (stopped left) is like = over_so (stopped left) is like.0 like.1 like.2
    over_finish (ruled next) is like = over_so (ruled next) is like.0 like.1 like.2
    over_finish (in_server_again rule so_far) is like =
        over_bound rule (server_at from) _ like.3 (λ late. subst (IsLate from) is late)
    over_finish (in_dir_again settings rule so_far) is like =
        over_bound rule (directory_at from) _ like.6
        (λ late. subst (IsLate from) is (late, like.1, (like.3).force.dir ∙ like.4))

    pub ends_there : LeadsSo site from state branch (is_over end) → There
    ends_there (inl like) = over_finish branch.finish refl like
    ends_there (inr limited) =
        here (stopped (limit Redirects)) (outcome.Limit Redirects) limited.over refl (inr (inl (refl, limited)))
