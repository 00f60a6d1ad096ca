-- The walk of a scope's tree, and the answer.
use Rattle.hc_claim.proofs.Common.{◌≡◌, ◌∙◌, inl, inr, ℕ, List, [], ◌∷◌, Option, Some, None, refl}
use Rattle.hc_claim.proofs.Common.{sym, ap, subst, arith}
use Rattle.std.proofs.Common.{◌*◌, ◌≤◌, length, IfOk}
use Rattle.std.proofs.lemmas.Result.{IfOk-weaker}
use Rattle.std.specs.Prelude.{Result}
use Rattle.std.specs.declared.alloc.AllocError.{AllocError as NoMemory}
use Rattle.hc_candidates.specs.declared.picking.TheConstants.{MOST_CANDIDATES}
use Rattle.hc_scope.specs.Clients.{clients_of}
use Rattle.hc_abs_rw.specs.Known.{client_given}
use Rattle.hc_absolute.specs.Absolute.{AreAbsolute}
use Rattle.hc_model.specs.World.{IsWorld}
use Rattle.hc_htaccess.specs.Reading.{reading_in}
use Rattle.hc_model.specs.Overrides.{Reading}
use Rattle.hc_model.specs.declared.config.Config.{Config}
use Rattle.hc_model.specs.declared.config.HostId.{HostId}
use Rattle.hc_model.specs.declared.request.Caller.{Caller}
use Rattle.hc_model.specs.declared.request.Request.{Request}
use Rattle.hc_named.specs.Named.{AreNames, all_rules}
use Rattle.hc_world.specs.Places.{paths_of}
use Rattle.hc_world.specs.declared.world.ListKind.TheVariants.{Dir}
use Rattle.hc_named.specs.declared.names.Names.{Names}
use Rattle.hc_plan.specs.Coded.{AllFit}
use Rattle.hc_plan.specs.declared.storing.Tied.{Tied}
use Rattle.hc_serve.specs.Site.{Site, caller_at, site_at}
use Rattle.hc_steps.specs.Shown.{shown_by}
use Rattle.hc_steps.specs.Step.{Shown}
use Rattle.hc_abs_force.specs.Merging.{merges}
use Rattle.hc_abs_leaves.specs.Fitting.{soil_in}
use Rattle.hc_abs_leaves.specs.declared.leaf.Leaf.{Leaf as LeafIn}
use Rattle.hc_abs_left.specs.Grounds.{shown_in}
use Rattle.hc_abs_left.specs.declared.ground.Ground.{Ground}
use Rattle.hc_abs_pass.proofs.Listable.{all_listed}
use Rattle.hc_abs_pass.specs.Walks.{IsListed}
use Rattle.hc_abs_restart.specs.Restarted.{is_among}
use Rattle.hc_abs_start.specs.Starts.{IsStart}
use Rattle.hc_abs_tree.specs.Trees.{Soil}
use Rattle.hc_claim.specs.Asking.{Asked, host_of, known_before, rules_of, soil_of}
use Rattle.hc_claim.specs.Deciding.{Answers, IsDecided, Runs}
use Rattle.hc_claim.specs.Holding.{Holds}
use Rattle.hc_claim.specs.Trying.{IsAnsweredIn, Spends}
use Rattle.hc_claim.specs.Walking.{Fits, Found, IsWalked, IsWalkedFor}
use Rattle.hc_claim.specs.declared.decided.Decided.{Decided}
use Rattle.hc_claim.specs.declared.decided.Decided.TheVariants.{TooMany}
use Rattle.hc_claim.proofs.Holding.{answers_hold}
use Rattle.hc_claim.proofs.Tried.{answered_same}

-- ---- the walk

pub site_as : (config : Config) (host other : HostId) (caller : Caller) (request : Request)
    → caller ≡ caller_at config host request → host ≡ other
    → ◌≡◌ {A = Site} (record { config = config; host = host; caller = caller }) (site_at config other request)
site_as config host other caller request same is =
    ap (λ caller. record { config = config; host = host; caller = caller }) same
    ∙ ap (λ host. site_at config host request) is

module _ (asked : Asked) (names : Names) (ground : Ground) (fits : Fits asked names ground) where
  abbrev soil_by : ℕ → Site → Shown → List (List ℕ) → Soil
  soil_by levels site shown names =
      record { site = site; shown = shown; levels = levels; merges = merges; names = is_among names }

  soils : (levels : ℕ) → soil_in levels ground ≡ soil_of asked levels names
  soils levels =
      ap (λ site. soil_by levels site (shown_in ground) ground.names.now) fits.site
      ∙ ap (λ shown. soil_by levels (soil_of asked levels names).site shown ground.names.now) fits.world
      ∙ ap (soil_by levels (soil_of asked levels names).site (shown_by asked.world)) fits.looked

  pub walked_for : (tied : Tied) (limit : ℕ) (found : Option (List LeafIn))
      → IsStart asked.scope names.variables names.headers tied → IsWalked ground asked.claim tied limit found
      → IsWalkedFor asked names limit found
  walked_for tied limit found start walked levels listed =
      subst (λ client. Found client asked.claim limit (soil_of asked levels names) (known_before asked names) found)
      fits.client
      (subst (λ soil. Found ground.client asked.claim limit soil (known_before asked names) found) (soils levels)
      (walked levels (known_before asked names) (subst (IsListed levels) (sym fits.world) listed)
      (record {
        cell = sym start.cell;
        ties = sym start.ties;
        given = refl;
        texts = refl;
        printed = ap client_given (sym fits.client);
      })
      (ap clients_of (sym fits.net))))

-- ---- the answer

pub as_many : {A B : Type 0} (Fit : A → B → Type 0) (xs : List A) (ys : List B) → AllFit Fit xs ys → length xs ≡ length ys
as_many Fit [] ys none = sym (ap length none)
as_many Fit (x ∷ xs) ys fit =
    let rest = as_many Fit xs fit.1 fit.4 in
    let all = ap length fit.2 in omega (arith, rest, all)

module _ (asked : Asked) (names : Names) (named : AreNames (rules_of asked) names) (limit : ℕ) where
  pub too_many : IsWalkedFor asked names limit None → (levels : ℕ) → IsListed levels (shown_by asked.world)
      → IsDecided asked limit levels 0 (TooMany limit)
  too_many walked levels listed =
      let found = walked levels listed in inl (record {
        names = names;
        named = named;
        leaves = found.0;
        some = found.1;
        reached = found.2;
        is = refl;
        none = refl;
      })

  pub known : (bad : List LeafIn) → IsWalkedFor asked names limit (Some bad) → (decided : Decided)
      → IsAnsweredIn asked names.headers bad decided → (old new : ℕ) (spends : Spends old new (length bad))
      → (levels : ℕ) → IsListed levels (shown_by asked.world) → IsDecided asked limit levels spends.0 decided
  known bad walked decided answer old new spends levels listed =
      let found = walked levels listed in
      let own = found.3 in inr (record {
        names = names;
        named = named;
        leaves = found.0;
        all = found.1;
        fewer = found.2;
        bad = own.0;
        are_bad = own.1;
        answer = answered_same asked _ _ names.headers bad own.0 decided own.2 answer;
        most = subst (λ many. spends.0 ≤ MOST_CANDIDATES * many) (as_many _ bad own.0 own.2) spends.2;
      })

-- The names that rules of the scope's server look at.
pub named_as : (asked : Asked) (names : Names) (reading : Reading) (host : HostId)
    → reading ≡ reading_in asked.world asked.config → host ≡ host_of asked
    → AreNames (all_rules reading asked.config host (paths_of asked.world Dir)) names → AreNames (rules_of asked) names
named_as asked names reading host reads is named =
    subst (λ host. AreNames (all_rules (reading_in asked.world asked.config) asked.config host
    (paths_of asked.world Dir)) names) is
    (subst (λ reading. AreNames (all_rules reading asked.config host (paths_of asked.world Dir)) names) reads named)

-- The answer, where the leaves were walked.
pub answers : (asked : Asked) (names : Names) (limit old new : ℕ) (bad : List LeafIn)
    (result : Result Decided NoMemory) → AreNames (rules_of asked) names → IsWalkedFor asked names limit (Some bad)
    → IfOk result (IsAnsweredIn asked names.headers bad) → Spends old new (length bad)
    → IfOk result (Answers asked limit old new)
answers asked names limit old new bad result named walked answered spends =
    IfOk-weaker result (IsAnsweredIn asked names.headers bad) (Answers asked limit old new)
    (λ decided answer. (spends.0, spends.1, known asked names named limit bad walked decided answer old new spends))
    answered

-- The runs that were made, however it ended.
pub may_run : (asked : Asked) (names : Names) (limit old new : ℕ) (bad : List LeafIn) → AreNames (rules_of asked) names
    → IsWalkedFor asked names limit (Some bad) → Spends old new (length bad) → Runs asked old new
may_run asked names limit old new bad named walked spends = (
  spends.0,
  spends.1,
  λ levels listed. let found = walked levels listed in
      let own = found.3 in inr (record {
        names = names;
        named = named;
        leaves = found.0;
        all = found.1;
        bad = own.0;
        are_bad = own.1;
        most = subst (λ many. spends.0 ≤ MOST_CANDIDATES * many) (as_many _ bad own.0 own.2) spends.2;
      }),
)

pub none_run : (asked : Asked) (old new : ℕ) → new ≡ old → Runs asked old new
none_run asked old new same = (0, omega (arith, same), λ levels listed. inl refl)

-- As deep as paths may be long.
pub answer_holds : (asked : Asked) (limit old new : ℕ) (decided : Decided) → AreAbsolute asked.config
    → IsWorld asked.world → Answers asked limit old new decided → Holds asked decided
answer_holds asked limit old new decided absolute world is =
    let listed = all_listed asked.world world in
    answers_hold asked limit 4098 is.0 decided absolute listed (is.2 4098 listed)
