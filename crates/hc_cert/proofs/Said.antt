-- What the conditions say, one after another.
use Rattle.hc_cert.proofs.Common.{◌≡◌, ◌∙◌, inl, inr, ℕ, ◌+◌, List, [], ◌∷◌, Bool, true, false, Option, Some, None}
use Rattle.hc_cert.proofs.Common.{refl, sym, ap, subst, Addr, NamedCell, Caller, AllFit, cell_of, Tied}
use Rattle.hc_invariant.specs.declared.cut.Cut.TheVariants as cut
use Rattle.std.proofs.Common.{◌<◌, ◌≤◌, arith, length, if◌then◌else◌, lt-ltb, le-ltb}
use Rattle.hc_named.specs.Named.{AreNames}
use Rattle.hc_named.specs.declared.names.Names.{Names}
use Rattle.hc_scope.specs.declared.claim.Scope.{Scope}
use Rattle.hc_steps.specs.Shown.{shown_by}
use Rattle.hc_abs_left.specs.declared.ground.Ground.{Ground}
use Rattle.hc_abs_pass.specs.Walks.{IsListed}
use Rattle.hc_abs_start.specs.Starts.{IsStart, first_cell}
use Rattle.hc_claim.proofs.Answered.{as_many}
use Rattle.hc_claim.specs.Asking.{Asked, rules_of}
use Rattle.hc_cert.specs.Cells.{Belongs, Lacks}
use Rattle.hc_cert.specs.Checking.{FirstSaid, IsVerdict, OrNext, Sought, Walked, bare, of_branches}
use Rattle.hc_cert.specs.Checking.{site_of, too_many, verdict_of, with_cells}
use Rattle.hc_cert.specs.Coded.{AreWalkedIn, BeginsIn, IsFirstOf, IsSaidFor, IsSaidOf, IsTooManyOf, WalkedFits}
use Rattle.hc_cert.specs.Coded.{LeaveBytesIn, named_in}
use Rattle.hc_cert.specs.Conditions.{asks_ranks, bounds_of}
use Rattle.hc_cert.specs.declared.faults.Scene.{Scene}
use Rattle.hc_cert.specs.declared.verdict.Condition.TheVariants as condition
use Rattle.hc_cert.specs.declared.verdict.Rejection.{Rejection}
use Rattle.hc_cert.specs.declared.verdict.TheConstants.{MOST_BRANCHES, MOST_CELLS}
use Rattle.hc_cert.specs.declared.verdict.Verdict.TheVariants.{Rejected}
use Rattle.hc_cert.specs.declared.walking.Walked.{Walked as WalkedIn}

-- ---- too many branches

abbrev pub ManyFrom : ℕ → List WalkedIn → Option Rejection → Type 0
ManyFrom number cells said = (client : Option Addr) (caller : Caller) (walked : List Walked)
    → AllFit (WalkedFits client caller) cells walked → said ≡ too_many number walked

pub none_many : (number : ℕ) → ManyFrom number [] None
none_many number client caller walked none = ap (too_many number) (sym none)

abbrev by_size : ℕ → List Walked → Bool → Option Rejection
by_size number more is = if is then Some (bare condition.Size number []) else too_many (number + 1) more

pub few_here : (number : ℕ) (own : WalkedIn) (cells : List WalkedIn) (said : Option Rejection)
    → length own.branches.items ≤ MOST_BRANCHES → ManyFrom (number + 1) cells said → ManyFrom number (own ∷ cells) said
few_here number own cells said few later client caller walked fit =
    let same = as_many _ own.branches.items (fit.0).branches (fit.3).1 in
    later client caller fit.1 fit.4
    ∙ ap (by_size number fit.1) (sym (le-ltb MOST_BRANCHES (length (fit.0).branches) (omega (arith, same, few))))
    ∙ ap (too_many number) (sym fit.2)

pub many_here : (number : ℕ) (own : WalkedIn) (cells : List WalkedIn) → MOST_BRANCHES < length own.branches.items
    → ManyFrom number (own ∷ cells) (Some (bare condition.Size number []))
many_here number own cells many client caller walked fit =
    let same = as_many _ own.branches.items (fit.0).branches (fit.3).1 in
    ap (by_size number fit.1) (sym (lt-ltb MOST_BRANCHES (length (fit.0).branches) (omega (arith, same, many))))
    ∙ ap (too_many number) (sym fit.2)

-- ---- the start

module _ (scope : Scope) (names : Names) (cells : List NamedCell) (tied : Tied)
    (start : IsStart scope names.variables names.headers tied) where
  first_is : (asked : Asked) → asked.scope ≡ scope
      → cell_of tied.cell ≡ first_cell asked.scope names.variables names.headers
  first_is asked same = start.cell ∙ ap (λ scope. first_cell scope names.variables names.headers) (sym same)

  pub begins_there : (own : NamedCell) → Belongs (cell_of tied.cell) cut.Pass cells (Some own)
      → BeginsIn scope names cells None
  begins_there own lies asked same =
      inl (own, subst (λ cell. Belongs cell cut.Pass cells (Some own)) (first_is asked same) lies, refl)

  pub begins_nowhere : (text : List ℕ) → Belongs (cell_of tied.cell) cut.Pass cells None
      → Lacks (cell_of tied.cell) cut.Pass cells text
      → BeginsIn scope names cells (Some (bare condition.Start 0 text))
  begins_nowhere text none lacks asked same = inr (
    text,
    subst (λ cell. Belongs cell cut.Pass cells None) (first_is asked same) none,
    subst (λ cell. Lacks cell cut.Pass cells text) (first_is asked same) lacks,
    refl,
  )

-- ---- the branches

last_said : (said : Option Rejection) → OrNext (FirstSaid []) said said
last_said None = refl
last_said (Some rejection) = refl

module _ (scene : Scene) (walked : List WalkedIn) where
  pub arrivals_said : (rejection : Rejection) → IsFirstOf scene condition.Arrivals walked (Some rejection)
      → IsSaidOf scene walked (Some rejection)
  arrivals_said rejection first client caller plan fit = (Some rejection, first client caller plan fit, refl)

  module _ (arrivals : IsFirstOf scene condition.Arrivals walked None) where
    pub ends_said : (rejection : Rejection) → IsFirstOf scene condition.Ends walked (Some rejection)
        → IsSaidOf scene walked (Some rejection)
    ends_said rejection first client caller plan fit =
        (None, arrivals client caller plan fit, (Some rejection, first client caller plan fit, refl))

    module _ (ends : IsFirstOf scene condition.Ends walked None) where
      abbrev by_asking : List Walked → Option Rejection → Bool → Type 0
      by_asking plan said asks = elim asks [
        | true ↦ Sought scene.claim.now (named_in scene.cells.now) scene.bounds plan condition.Ranks said
        | false ↦ said ≡ None
      ]

      pub ranks_said : asks_ranks scene.claim.now ≡ true → (said : Option Rejection)
          → IsFirstOf scene condition.Ranks walked said → IsSaidOf scene walked said
      ranks_said asks said first client caller plan fit = (
        None,
        arrivals client caller plan fit,
        (
          None,
          ends client caller plan fit,
          (
            said,
            subst (by_asking plan said) (sym asks) (first client caller plan fit),
            last_said said,
          ),
        ),
      )

      pub no_ranks_said : asks_ranks scene.claim.now ≡ false → IsSaidOf scene walked None
      no_ranks_said asks client caller plan fit = (
        None,
        arrivals client caller plan fit,
        (
          None,
          ends client caller plan fit,
          (
            None,
            subst (by_asking plan None) (sym asks) refl,
            refl,
          ),
        ),
      )

-- ---- all of it

module _ (ground : Ground) (asked : Asked) (names : Names) (cells : List NamedCell) (walked : List WalkedIn)
    (are : AreWalkedIn ground asked names cells walked) where
  pub many_said : (rejection : Rejection) → IsTooManyOf walked (Some rejection)
      → IsSaidFor asked names cells (Some rejection)
  many_said rejection many levels listed =
      let own = are levels listed in
      (own.0, own.1, (Some rejection, many ground.client ground.tests.now own.0 own.2, refl))

  module _ (few : IsTooManyOf walked None) where
    pub start_said : (rejection : Rejection) → BeginsIn asked.scope names cells (Some rejection)
        → IsSaidFor asked names cells (Some rejection)
    start_said rejection begins levels listed =
        let own = are levels listed in (
          own.0,
          own.1,
          (None, few ground.client ground.tests.now own.0 own.2, (Some rejection, begins asked refl, refl)),
        )

    pub branches_said : (scene : Scene) (said : Option Rejection) → BeginsIn asked.scope names cells None
        → scene.claim.now ≡ asked.claim → named_in scene.cells.now ≡ cells
        → scene.bounds ≡ bounds_of (site_of asked) → IsSaidOf scene walked said → IsSaidFor asked names cells said
    branches_said scene said begins claim named bounds is levels listed =
        let own = are levels listed in (
          own.0,
          own.1,
          (
            None,
            few ground.client ground.tests.now own.0 own.2,
            (
              None,
              begins asked refl,
              subst (λ claim. FirstSaid (of_branches claim cells (bounds_of (site_of asked)) own.0) said) claim
                  (subst (λ cells. FirstSaid (of_branches scene.claim.now cells (bounds_of (site_of asked)) own.0) said)
                  named
                  (subst (λ bounds.
                  FirstSaid (of_branches scene.claim.now (named_in scene.cells.now) bounds own.0) said)
                  bounds (is ground.client ground.tests.now own.0 own.2))),
            ),
          ),
        )

-- ---- the verdict

module _ (asked : Asked) (cells : List NamedCell) where
  pub verdict_is : (names : Names) (said : Option Rejection) → AreNames (rules_of asked) names
      → length cells ≤ MOST_CELLS → IsSaidFor asked (with_cells names cells) cells said
      → LeaveBytesIn asked (with_cells names cells) cells → (levels : ℕ) → IsListed levels (shown_by asked.world)
      → IsVerdict asked cells levels (verdict_of said)
  verdict_is names said named few is bytes levels listed =
      let own = is levels listed in inr (record {
        few = few;
        said = said;
        so = record {
          names = names;
          named = named;
          walked = own.0;
          are = own.1;
          bytes = bytes levels listed;
          first = own.2;
        };
        is = refl;
      })

  pub many_is : MOST_CELLS < length cells → (levels : ℕ)
      → IsVerdict asked cells levels (Rejected (bare condition.Size MOST_CELLS []))
  many_is many levels = inl (record { many = many; is = refl })
