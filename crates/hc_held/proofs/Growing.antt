-- Ranks and rounds grow.
use Rattle.std.proofs.Common.{◌≡◌, ◌∙◌, ◌⊎◌, inl, inr, ℕ, ◌+◌, ◌≤◌, ◌<◌, List, []}
use Rattle.std.proofs.Common.{Bool, true, false, Option, Some, None, if◌then◌else◌, refl, sym, ap, subst, arith}
use Rattle.std.proofs.lemmas.Bool.{and_parts, leb-true, ltb-true}
use Rattle.std.specs.Prelude.{nat_le, nat_lt, unwrap_or}
use Rattle.hc_invariant.specs.declared.cut.Cut.{Cut as Named}
use Rattle.hc_invariant.specs.declared.cut.Cut.TheVariants as named
use Rattle.hc_invariant.specs.declared.named.NamedCell.{NamedCell}
use Rattle.hc_model.specs.declared.rewrite.Rule.{Rule}
use Rattle.hc_plan.proofs.Slots.{own_bytes}
use Rattle.hc_plan.specs.Branches.{Branch}
use Rattle.hc_rank.specs.Ranks.{shrinks}
use Rattle.hc_rw_eval.specs.declared.run.NextRound.{NextRound}
use Rattle.hc_scope.specs.declared.claim.Claim.TheVariants.{Stops}
use Rattle.hc_serve.specs.Segments.{Cut, at_pass, dir_round, segment, server_round}
use Rattle.hc_serve.specs.ServerRules.{rules_at}
use Rattle.hc_serve.specs.Site.{Site}
use Rattle.hc_serve.specs.declared.stage.Here.{Here}
use Rattle.hc_serve.specs.declared.stage.Pass.{Pass}
use Rattle.hc_steps.specs.Run.{goes_on, run}
use Rattle.hc_steps.specs.Step.{Shown}
use Rattle.hc_abs_again.specs.Arriving.{directory_at, server_at}
use Rattle.hc_abs_pass.specs.Passing.{Finish, Segment}
use Rattle.hc_abs_segments.proofs.Counting.{segments_count}
use Rattle.hc_abs_segments.specs.Counting.{pass_at}
use Rattle.hc_cert.specs.Cells.{Belongs, led_to, same_cut}
use Rattle.hc_cert.specs.Conditions.{bounds_of, grows, round_before, round_grows}
use Rattle.hc_held.proofs.Arrivals.{Basis, IsFine}
use Rattle.hc_rounds.proofs.Steps.{gives_run}
use Rattle.hc_held.proofs.Further.{AreBrief, InList, brief_next, same_list}
use Rattle.hc_held.proofs.Leading.{LeadsTo}
use Rattle.hc_held.proofs.Lying.{cut_of, same_named}

-- ---- cuts that are one

-- Two cells of one directory's list.
pub of_one_list : (one other : Named) (dir : List ℕ) → same_cut one (named.Dir dir) ≡ true
    → same_cut other (named.Dir dir) ≡ true → same_cut one other ≡ true
of_one_list one other dir is too =
    ap (same_cut one) (same_named other (named.Dir dir) too)
    ∙ ap (λ own. same_cut own (named.Dir dir)) (same_named one (named.Dir dir) is) ∙ own_bytes dir

-- ---- rounds

-- The round of the cell, or the list shrinks.
abbrev pub HasRound : NamedCell → ℕ → Bool → Type 0
HasRound own round shorter = ((last : ℕ) × (own.round ≡ Some last) × (round ≤ last + 1)) ⊎ (shorter ≡ true)

module _ (from to : NamedCell) (at : Named) (rule : Rule) (shorter : Bool) where
  abbrev Grows : Option ℕ → Type 0
  Grows given = round_grows from at rule shorter given ≡ true

  abbrev Parts : ℕ → Type 0
  Parts new = (round_before from at < new) × (new < rule.flags.rounds)

  parts : (new : ℕ) → Grows (Some new) → Parts new
  parts new is =
      let both = and_parts (nat_lt new rule.flags.rounds) (nat_lt (round_before from at) new) is in
      (ltb-true (round_before from at) new both.1, ltb-true new rule.flags.rounds both.0)

  pub more_than_one : (given : Option ℕ) → Grows given → 1 < rule.flags.rounds
  more_than_one (Some new) is = let own = parts new is in omega (arith, own.0, own.1)
  more_than_one None is =
      let both = and_parts shorter (nat_lt 1 rule.flags.rounds) is in ltb-true 1 rule.flags.rounds both.1

  before_is : (last : ℕ) → same_cut from.at at ≡ true → from.round ≡ Some last
      → round_before from at ≡ last
  before_is last same is =
      ap (λ same. if same then unwrap_or from.round 0 else 0) same ∙ ap (λ given. unwrap_or given 0) is

  -- The round that a cell was in before.
  abbrev pub WasIn : ℕ → Type 0
  WasIn round = (round ≡ 1) ⊎ ((same_cut from.at at ≡ true) × HasRound from round shorter)

  next_to : (round new : ℕ) → to.round ≡ Some new → Parts new → WasIn round
      → HasRound to (round + 1) shorter
  next_to round new is own (inl first) = inl (new, is, omega (arith, first, own.0))
  next_to round new is own (inr before) = by before.1
    where
      by : HasRound from round shorter → HasRound to (round + 1) shorter
      by (inl last) = inl (new, is, omega (arith, own.0, before_is last.0 before.0 last.1, last.2))
      by (inr shrink) = inr shrink

  next_round : (given : Option ℕ) → to.round ≡ given → Grows given → (round : ℕ) → WasIn round
      → HasRound to (round + 1) shorter
  next_round (Some new) same is round before = next_to round new same (parts new is) before
  next_round None same is round before =
      let both = and_parts shorter (nat_lt 1 rule.flags.rounds) is in inr both.0

  -- The rule may begin more rounds, where so it may in a list that shrinks.
  pub below_rounds : (given : Option ℕ) → Grows given → same_cut from.at at ≡ true → (round : ℕ)
      → HasRound from round shorter → (shorter ≡ true → round < rule.flags.rounds) → round < rule.flags.rounds
  below_rounds (Some new) is same round (inl last) short =
      let own = parts new is in omega (arith, own.0, own.1, before_is last.0 same last.1, last.2)
  below_rounds None is same round (inl last) short =
      let both = and_parts shorter (nat_lt 1 rule.flags.rounds) is in short both.0
  below_rounds given is same round (inr shrink) short = short shrink

-- ---- what is so in a cell

abbrev pub RoundIs : Site → NamedCell → Cut → Type 0
RoundIs site own (at_pass left) = Unit {0}
RoundIs site own (server_round pass round next) = HasRound own round (shrinks false (rules_at site))
RoundIs site own (dir_round here dir round next) = HasRound own round (shrinks true here.force.rules)

pub record Ranked (site : Site) (own : NamedCell) (cut : Cut) : Type 0 where
  pub number : (pass_at cut).number ≤ own.rank
  pub round : RoundIs site own cut
  pub brief : AreBrief site cut

-- Where a branch leads into a cell, it grows.
pub grown : (basis : Basis) (own : NamedCell) (branch : Branch Segment) → IsFine basis own branch
    → basis.claim ≡ Stops → (at : Named) (to : NamedCell) → led_to (branch.1).finish ≡ Some at
    → Belongs (branch.0).cell at basis.cells (Some to) → (finish : Finish) → (branch.1).finish ≡ finish
    → grows (bounds_of basis.site) own finish to ≡ true
grown basis own branch fine stops at to leads belongs finish same =
    sym (ap (λ finish. grows (bounds_of basis.site) own finish to) same)
    ∙ by (grows (bounds_of basis.site) own (branch.1).finish to) refl
  where
    by : (is : Bool) → grows (bounds_of basis.site) own (branch.1).finish to ≡ is → is ≡ true
    by true is = refl
    by false is = absurd (fine.grows stops [] (at, to, leads, belongs, is, refl))

-- ---- so it is in the next one

module _ (site : Site) (shown : Shown) (own to : NamedCell) (from : Cut)
    (at : same_cut own.at (cut_of from) ≡ true) where
  server_before : (cut : Cut) → same_cut own.at (cut_of cut) ≡ true → RoundIs site own cut → (rule : Rule)
      → WasIn own to named.Server rule (shrinks false (rules_at site)) (server_at cut)
  server_before (at_pass left) at round rule = inl refl
  server_before (server_round pass number next) at round rule = inr (at, round)
  server_before (dir_round here dir number next) at round rule = inl refl

  module _ (here : Here) (dir : List ℕ) (round : ℕ) (next : NextRound)
      (lies : same_cut to.at (named.Dir dir) ≡ true) (rule : Rule) where
    dir_before : (cut : Cut) → same_cut own.at (cut_of cut) ≡ true → RoundIs site own cut
        → (run (segment site cut) shown).way ≡ goes_on (dir_round here dir round next)
        → WasIn own to to.at rule (shrinks true here.force.rules) (directory_at cut)
    dir_before (at_pass left) at is leads = inl refl
    dir_before (server_round pass number before) at is leads = inl refl
    dir_before (dir_round there list number before) at is leads =
        let same =
        gives_run (InList there list) _ (same_list site there list number before) shown
        (dir_round here dir round next) leads in inr (
          of_one_list own.at to.at dir (subst (λ list. same_cut own.at (named.Dir list) ≡ true) (sym same.1) at)
              lies,
          subst (λ (here : Here). HasRound own number (shrinks true here.force.rules)) (sym same.0) is,
        )

  module _ (ranked : Ranked site own from) (finish : Finish) where
    abbrev Grown : Finish → Type 0
    Grown finish = grows (bounds_of site) own finish to ≡ true

    pub ranked_next : (cut : Cut) → LeadsTo from finish cut → (run (segment site from) shown).way ≡ goes_on cut
        → Grown finish → same_cut to.at (cut_of cut) ≡ true → Ranked site to cut
    ranked_next (at_pass left) leads is grow lies =
        let parts = and_parts (nat_lt own.rank to.rank) _ (subst Grown leads grow) in
        let more = segments_count site from (at_pass left) shown is in record {
          number = omega (arith, ranked.number, more, ltb-true own.rank to.rank parts.0);
          round = tt;
          brief = tt;
        }
    ranked_next (server_round pass round next) leads is grow lies =
        let parts = and_parts (nat_le own.rank to.rank) _ (subst Grown leads.2 grow) in
        let same = segments_count site from (server_round pass round next) shown is in record {
          number = omega (
            arith,
            ranked.number,
            ap (λ (pass : Pass). pass.number) same,
            leb-true own.rank to.rank parts.0,
          );
          round = subst (λ round. HasRound to round (shrinks false (rules_at site))) (sym leads.3)
              (next_round own to named.Server leads.0 (shrinks false (rules_at site)) to.round refl parts.1
              (server_at from) (server_before from at ranked.round leads.0));
          brief = gives_run (AreBrief site) _ (brief_next site from ranked.brief) shown
              (server_round pass round next) is;
        }
    ranked_next (dir_round here dir round next) leads is grow lies =
        let parts = and_parts (nat_le own.rank to.rank) _ (subst Grown leads.3 grow) in
        let same = segments_count site from (dir_round here dir round next) shown is in
        let rule = leads.1 in record {
          number = omega (arith, ranked.number, same.0, leb-true own.rank to.rank parts.0);
          round = subst (λ round. HasRound to round (shrinks true here.force.rules)) (sym leads.4)
              (next_round own to to.at rule (shrinks true here.force.rules) to.round refl
              (subst (λ rules. round_grows own to.at rule (shrinks true rules) to.round ≡ true)
              (leads.6).force.rules parts.1)
              (directory_at from) (dir_before here dir round next lies rule from at ranked.round is));
          brief = gives_run (AreBrief site) _ (brief_next site from ranked.brief) shown
              (dir_round here dir round next) is;
        }
