-- The branches from named cells.
use Rattle.hc_cert.proofs.Common.{◌≡◌, ◌∙◌, inl, inr, ℕ, ◌+◌, List, [], ◌∷◌, ◌++◌, false, ◌&&◌}
use Rattle.hc_cert.proofs.Common.{refl, sym, ap, subst, holds, NamedCell}
use Rattle.hc_cert.proofs.Common.{Branch}
use Rattle.hc_cert.proofs.Common.{Tied, SegmentIn, Segment}
use Rattle.hc_cells.specs.Cells.{HasEmptySlot as HasEmptyCell}
use Rattle.hc_named.specs.declared.names.Names.{Names}
use Rattle.hc_plan.proofs.Coded.{both_fit}
use Rattle.hc_plan.proofs.Made.{text_is}
use Rattle.hc_plan.specs.States.{AbsState}
use Rattle.hc_abs_cuts.specs.Coded.{AreCut}
use Rattle.hc_abs_cuts.specs.Cuts.{AreFrom}
use Rattle.hc_abs_force.specs.Merging.{merges}
use Rattle.hc_abs_left.specs.Grounds.{HasClients, Stands, ground_in as lent_in, shown_in, site_in}
use Rattle.hc_abs_left.specs.declared.ground.Ground.{Ground}
use Rattle.hc_abs_pass.specs.Passing as plans
use Rattle.hc_abs_pass.specs.Walks.{IsListed}
use Rattle.hc_abs_restart.specs.Restarted.{is_among}
use Rattle.hc_abs_rw.specs.Frames.{common}
use Rattle.hc_abs_rw.specs.Known.{client_given}
use Rattle.hc_abs_rw.specs.RuleBranches.{Rests}
use Rattle.hc_claim.specs.Asking.{Asked, HasEmptySlot}
use Rattle.hc_claim.specs.Walking.{Fits}
use Rattle.hc_scope.specs.Clients.{clients_of}
use Rattle.hc_cert.specs.Cells.{known_in}
use Rattle.hc_cert.specs.Checking.{AreBehind, AreWalked, Walked, ground_in}
use Rattle.hc_cert.specs.Coded.{AreBranchesIn, AreWalkedIn, IsReady, WalkedFits}
use Rattle.hc_cert.specs.declared.walking.Walked.{Walked as WalkedIn}

-- ---- what the plans are made for

module _ (asked : Asked) (names : Names) (ground : Ground) (fits : Fits asked names ground) where
  pub ground_is : Stands ground → ground.last ≡ false → (levels : ℕ)
      → lent_in levels merges ground ≡ ground_in asked levels names
  ground_is stands last levels =
      (λ i. record {
        site = record (site_in ground) { caller = sym stands.caller i };
        last = last i;
        shown = shown_in ground;
        levels = levels;
        merges = merges;
        names = is_among ground.names.now;
      })
      ∙ (λ i. record {
        site = record (fits.site i) { caller = common (fits.site i).caller };
        last = false;
        shown = fits.world i;
        levels = levels;
        merges = merges;
        names = is_among (fits.looked i);
      })

  module _ (own : NamedCell) (tied : Tied) (ready : IsReady own tied) where
    abbrev known : AbsState
    known = known_in asked.scope own

    pub rests : Rests ground.client tied known
    rests = record {
      cell = sym ready.cell;
      ties = sym ready.ties;
      given = refl;
      texts = refl;
      printed = ap client_given (sym fits.client);
    }

    clients : HasClients ground known
    clients = ap clients_of (sym fits.net)

    -- A slot has no text exactly where its set has none.
    pub empty_from : HasEmptyCell tied.cell → HasEmptySlot known
    empty_from none = (
      none.0,
      λ text bytes.
          ap (λ cell. cell none.0 text) (sym ready.cell)
          ∙ ap (λ of. of && holds tied.cell none.0 text) (text_is text bytes) ∙ none.1 text bytes,
    )

    empty_to : HasEmptySlot known → HasEmptyCell tied.cell
    empty_to none = (
      none.0,
      λ text bytes.
          ap (λ of. of && holds tied.cell none.0 text) (sym (text_is text bytes))
          ∙ ap (λ cell. cell none.0 text) ready.cell ∙ none.1 text bytes,
    )

    pub empty_branches : HasEmptyCell tied.cell → AreBranchesIn ground asked names own []
    empty_branches none levels listed = ([], inl (empty_from none, refl), refl)

    pub filled_branches : Stands ground → ground.last ≡ false → (HasEmptyCell tied.cell → ⊥) → (found : List SegmentIn)
        → AreCut ground own.at tied found → AreBranchesIn ground asked names own found
    filled_branches stands last filled found are levels listed =
        let made = are levels known (subst (IsListed levels) (sym fits.world) listed) rests clients in (
          made.0,
          inr (
            λ none. filled (empty_to none),
            subst (λ ground. AreFrom ground own.at known made.0) (ground_is stands last levels) made.1,
          ),
          made.2,
        )

-- ---- one cell after another

walked_more : (asked : Asked) (ground : plans.Ground) (cells : List NamedCell) (own : NamedCell) (walked : List Walked)
    (branches : List (Branch Segment)) → AreWalked asked ground cells walked
    → AreBehind ground own (known_in asked.scope own) branches
    → AreWalked asked ground (cells ++ own ∷ []) (walked ++ record { own = own; branches = branches } ∷ [])
walked_more asked ground [] own walked branches none are =
    subst (λ walked. AreWalked asked ground (own ∷ []) (walked ++ record { own = own; branches = branches } ∷ []))
    (sym none) (branches, [], refl, are, refl)
walked_more asked ground (cell ∷ cells) own walked branches before are =
    subst (λ walked. AreWalked asked ground (cell ∷ cells ++ own ∷ [])
    (walked ++ record { own = own; branches = branches } ∷ [])) (sym before.2) (
      before.0,
      before.1 ++ record { own = own; branches = branches } ∷ [],
      refl,
      before.3,
      walked_more asked ground cells own before.1 branches before.4 are,
    )

module _ (ground : Ground) (asked : Asked) (names : Names) where
  pub none_walked : AreWalkedIn ground asked names [] []
  none_walked levels listed = ([], refl, refl)

  pub one_walked : (cells : List NamedCell) (found : List WalkedIn) (own : WalkedIn)
      → AreWalkedIn ground asked names cells found
      → AreBranchesIn ground asked names own.own.now own.branches.items
      → AreWalkedIn ground asked names (cells ++ own.own.now ∷ []) (found ++ own ∷ [])
  one_walked cells found own before are levels listed =
      let so_far = before levels listed in
      let more = are levels listed in
      let last : Walked = record { own = own.own.now; branches = more.0 } in (
        so_far.0 ++ last ∷ [],
        walked_more asked (ground_in asked levels names) cells own.own.now so_far.0 more.0 so_far.1 more.1,
        both_fit (WalkedFits ground.client ground.tests.now) found (own ∷ []) so_far.0 (last ∷ []) so_far.2
            (last, [], refl, (refl, more.2), refl),
      )
