-- What an accepted invariant says.
use Rattle.std.proofs.Common.{◌≡◌, ◌∙◌, inl, inr, ℕ, ◌+◌, List, [], ◌∷◌, true, false, Option}
use Rattle.std.proofs.Common.{Some, None, refl, sym, ap, subst, arith}
use Rattle.hc_absolute.specs.Absolute.{AreAbsolute}
use Rattle.hc_invariant.specs.declared.cut.Cut.TheVariants as named
use Rattle.hc_invariant.specs.declared.named.NamedCell.{NamedCell}
use Rattle.hc_members.specs.Requests.{common_request, is_of_scope}
use Rattle.hc_model.specs.declared.request.Request.{Request}
use Rattle.hc_named.specs.declared.names.Names.{Names}
use Rattle.hc_plan.specs.Branches.{Branch}
use Rattle.hc_plan.specs.Cover.{Among}
use Rattle.hc_scope.specs.declared.claim.Claim.{Claim}
use Rattle.hc_scope.specs.declared.claim.Claim.TheVariants.{Stops}
use Rattle.hc_serve.specs.Site.{Site}
use Rattle.hc_steps.specs.Shown.{shown_by}
use Rattle.hc_target.specs.Targets.{read}
use Rattle.hc_target.specs.declared.target.TargetRead.TheVariants.{Path}
use Rattle.hc_abs_force.specs.Merging.{merges}
use Rattle.hc_abs_pass.proofs.Restarting.{none_once}
use Rattle.hc_abs_pass.specs.Passing.{Ground, Segment}
use Rattle.hc_abs_pass.specs.Walks.{IsListed}
use Rattle.hc_abs_restart.specs.Restarted.{is_among}
use Rattle.hc_abs_start.specs.Starts.{first_of, first_state}
use Rattle.hc_abs_tree.specs.Leaves.{begun_at}
use Rattle.hc_abs_tree.specs.Trees.{common_site}
use Rattle.hc_cert.proofs.Claims.{IsGood, asked_same, begins_so, good_holds, ground, sites_same, site as site_for}
use Rattle.hc_cert.specs.Claims.{Asked, known_before}
use Rattle.hc_cert.specs.Cells.{Belongs, known_in}
use Rattle.hc_cert.specs.Checking.{AreBehind, AreWalked, Begins, FirstIn, FirstOf, FirstSaid, IsSaid, LeaveBytes}
use Rattle.hc_cert.specs.Checking.{OrBehind, OrNext, Ranks, Sought, Walked, conditions, ground_in, site_of, verdict_of}
use Rattle.hc_cert.specs.Checking.{with_cells}
use Rattle.hc_cert.specs.Conditions.{FaultBy, Stalls, bounds_of}
use Rattle.hc_cert.specs.Holding.{Holds, VerdictsHold}
use Rattle.hc_cert.specs.declared.verdict.Condition.{Condition}
use Rattle.hc_cert.specs.declared.verdict.Condition.TheVariants as condition
use Rattle.hc_cert.specs.declared.verdict.Rejection.{Rejection}
use Rattle.hc_held.proofs.Arrivals.{AreFine, Basis, IsAccepted, ground_on}
use Rattle.hc_held.proofs.Held.{found}
use Rattle.hc_held.proofs.Lying.{belongs_in, lies_covered, settled}

-- ---- none is said

some_none : {A : Type 0} {P : Type 0} (own : A) → ◌≡◌ {A = Option A} None (Some own) → P
some_none own same = absurd (let e = same in cc)

abbrev NoneSaid : List (Option Rejection → Type 0) → Type 0
NoneSaid [] = Unit {0}
NoneSaid (Says ∷ more) = Says None × NoneSaid more

-- No condition rejects.
none_said : (all : List (Option Rejection → Type 0)) → FirstSaid all None → NoneSaid all
none_said [] first = tt
none_said (Says ∷ more) first = by (none_said more) first.0 first.1 first.2
  where
    by : (FirstSaid more None → NoneSaid more) → (own : Option Rejection) → Says own
        → OrNext (FirstSaid more) own None → Says None × NoneSaid more
    by rest None says next = (says, rest next)
    by rest (Some rejection) says next = some_none rejection next

module _ (Fault : NamedCell → Branch Segment → List ℕ → Type 0) where
  abbrev NoFault : NamedCell → List (Branch Segment) → Type 0
  NoFault own branches = (branch : Branch Segment) → Among branch branches → (text : List ℕ)
      → Fault own branch text → ⊥

  none_in : (own : NamedCell) (branches : List (Branch Segment)) → FirstIn Fault own branches None
      → NoFault own branches
  none_in own [] first branch among text fault = absurd among
  none_in own (each ∷ branches) (inl here) branch among text fault = some_none _ here.2
  none_in own (each ∷ branches) (inr rest) branch (inl same) text fault =
      rest.0 text (subst (λ branch. Fault own branch text) same fault)
  none_in own (each ∷ branches) (inr rest) branch (inr among) text fault =
      none_in own branches rest.1 branch among text fault

  none_of : (of : Condition) (number : ℕ) (walked : List Walked) → FirstOf Fault of number walked None
      → (each : Walked) → Among each walked → NoFault each.own each.branches
  none_of of number [] first each among = absurd among
  none_of of number (own ∷ walked) first each among =
      by (none_of of (number + 1) walked) first.0 first.1 first.2 among
    where
      by : (FirstOf Fault of (number + 1) walked None → (each : Walked) → Among each walked
          → NoFault each.own each.branches)
          → (told : _) → FirstIn Fault own.own own.branches told
          → OrBehind Fault of number (FirstOf Fault of (number + 1) walked) told None → Among each (own ∷ walked)
          → NoFault each.own each.branches
      by rest (Some fault) here next among = some_none _ next
      by rest None here next (inl same) =
          subst (λ (each : Walked). NoFault each.own each.branches) (sym same) (none_in own.own own.branches here)
      by rest None here next (inr among) = rest next each among

-- ---- the branches of a cell

walked_at : (asked : Asked) (ground : Ground) (cells : List NamedCell) (walked : List Walked)
    → AreWalked asked ground cells walked → (own : NamedCell) → Among own cells
    → (branches : List (Branch Segment)) × AreBehind ground own (known_in asked.scope own) branches
    × Among (record { own = own; branches = branches }) walked
walked_at asked ground [] walked are own among = absurd among
walked_at asked ground (first ∷ cells) walked are own (inl same) = (
  are.0,
  subst (λ own. AreBehind ground own (known_in asked.scope own) are.0) (sym same) are.3,
  subst (Among (record { own = own; branches = are.0 })) (sym are.2)
      (inl (ap (λ own. record { own = own; branches = are.0 }) same)),
)
walked_at asked ground (first ∷ cells) walked are own (inr among) =
    let rest = walked_at asked ground cells are.1 are.4 own among in
    (rest.0, rest.1, subst (Among (record { own = own; branches = rest.0 })) (sym are.2) (inr rest.2))

-- ---- a request

module _ (asked : Asked) (cells : List NamedCell) (levels : ℕ) (so : IsSaid asked cells levels None) where
  abbrev names : Names
  names = with_cells so.names cells

  none : NoneSaid (conditions asked cells names so.walked)
  none = none_said (conditions asked cells names so.walked) so.first

  module _ (absolute : AreAbsolute asked.config) (listed : IsListed levels (shown_by asked.world)) (request : Request)
      (is : is_of_scope asked.scope request ≡ true) (path query : List ℕ)
      (is_read : read request.target ≡ Path path query) where
    abbrev own_site : Site
    own_site = site_for asked request is path query is_read

    abbrev basis : Basis
    basis = record {
      claim = asked.claim;
      scope = asked.scope;
      cells = cells;
      site = own_site;
      shown = shown_by asked.world;
      levels = levels;
      names = is_among names.variables;
    }

    same : common_site (site_of asked) ≡ common_site own_site
    same = sites_same asked.config (common_request asked.scope) request (asked_same asked.scope request is)

    -- The branches are made for what all requests of the scope have in common.
    same_ground : ground_in asked levels names ≡ ground_on basis
    same_ground =
        ap (λ common. record {
          site = common;
          last = false;
          shown = shown_by asked.world;
          levels = levels;
          merges = merges;
          names = is_among names.variables;
        }) same

    same_bounds : bounds_of (site_of asked) ≡ bounds_of own_site
    same_bounds = ap bounds_of same

    ranks_sought : (claim : Claim) → claim ≡ Stops → Ranks claim cells (bounds_of (site_of asked)) so.walked None
        → Sought claim cells (bounds_of (site_of asked)) so.walked condition.Ranks None
    ranks_sought Stops stops said = said
    ranks_sought other stops said = absurd (let e = stops in cc)

    no_fault : (of : Condition) → Sought asked.claim cells (bounds_of (site_of asked)) so.walked of None
        → (each : Walked) → Among each so.walked
        → NoFault (FaultBy asked.claim cells (bounds_of (site_of asked)) of) each.own each.branches
    no_fault of = none_of (FaultBy asked.claim cells (bounds_of (site_of asked)) of) of 0 so.walked

    each_fine : (own : NamedCell) → Among own cells → AreFine basis own
    each_fine own among =
        let at = walked_at asked (ground_in asked levels names) cells so.walked so.are own among in
        let each : Walked = record { own = own; branches = at.0 } in (
          at.0,
          subst (λ ground. AreBehind ground own (known_in asked.scope own) at.0) same_ground at.1,
          λ branch there. record {
            arrives = no_fault condition.Arrivals none.1.1.0 each at.2 branch there;
            ends = λ bad. no_fault condition.Ends none.1.1.1.0 each at.2 branch there [] (bad, refl);
            grows = λ stops text stalls.
                no_fault condition.Ranks (ranks_sought asked.claim stops none.1.1.1.1.0) each at.2 branch there text
                (subst (λ bounds. Stalls bounds cells own branch text) (sym same_bounds) stalls);
          },
        )

    accepted : IsAccepted basis
    accepted = record {
      ground = ground asked request is path query is_read absolute levels listed;
      each = each_fine;
      bytes = subst (λ ground. LeaveBytes ground asked.scope cells) same_ground so.bytes;
    }

    begins_in : Begins asked cells names None
        → (own : NamedCell) × Belongs (known_before asked names).cell named.Pass cells (Some own)
    begins_in (inl begins) = (begins.0, begins.1)
    begins_in (inr outside) = some_none _ outside.3

    good : IsGood asked request is path query is_read
    good count end over =
        let begins = begins_so asked request is path query is_read names in
        let first = begins_in none.1.0 in
        let state = first_state own_site (first_of path query) in
        let lies = belongs_in (known_before asked names).cell named.Pass cells first.0 first.1 in
        found basis accepted count first.0
        (begun_at (first_of path query) None) (settled state) end (record {
          among = lies.0;
          stands = record {
            at = (lies.1).cut;
            reached = tt;
            stands = (begins.meets, none_once);
            covers = lies_covered asked.scope (known_before asked names).cell named.Pass first.0 state lies.1
                (begins.covers).slots (λ pass. (begins.meets).text ∙ sym (begins.meets).path)
                ((begins.covers).clients, (begins.covers).printed);
          };
          ranked = λ stops. record { number = omega arith; round = tt; brief = tt };
        }) over

-- ---- the law

pub verdicts_hold : VerdictsHold
verdicts_hold asked cells levels verdict absolute listed (inl many) =
    subst (Holds asked) (sym many.is) tt
verdicts_hold asked cells levels verdict absolute listed (inr checked) =
    subst (Holds asked) (sym checked.is) (by checked.said checked.so)
  where
    by : (said : Option Rejection) → IsSaid asked cells levels said → Holds asked (verdict_of said)
    by (Some rejection) so = tt
    by None so = λ request is.
        good_holds asked request is (λ path query is_read.
        good asked cells levels so absolute listed request is path query is_read)
