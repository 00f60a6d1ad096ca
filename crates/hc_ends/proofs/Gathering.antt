-- The leaves that a walk of a tree has come to.
use Rattle.std.proofs.Common.{◌≡◌, ◌∙◌, ◌⊎◌, inl, inr, ℕ, List, [], ◌∷◌, ◌++◌, Option, Some, None, length, ◌+◌}
use Rattle.std.proofs.Common.{refl, sym, ap, subst, arith, append_assoc, append-nil, length-append}
use Rattle.hc_model.specs.declared.request.Caller.{Caller}
use Rattle.hc_named.specs.Named.{AreNames}
use Rattle.hc_named.specs.declared.names.Names.{Names}
use Rattle.hc_plan.proofs.Coded.{both_fit}
use Rattle.hc_plan.specs.Coded.{AllFit}
use Rattle.hc_plan.specs.States.{AbsState}
use Rattle.hc_plan.specs.declared.storing.Tied.{Tied}
use Rattle.hc_scope.specs.Clients.{clients_of}
use Rattle.hc_scope.specs.declared.claim.Scope.{Scope}
use Rattle.hc_serve.specs.Site.{Site as OwnSite}
use Rattle.hc_steps.specs.Shown.{shown_by}
use Rattle.hc_steps.specs.Step.{Shown}
use Rattle.hc_abs_leaves.specs.Fitting.{LeafFits, soil_in}
use Rattle.hc_abs_leaves.specs.Growing.{AllBehind, Gives, Holds, TakesOver}
unfoldable use Rattle.hc_abs_leaves.specs.Some.{SomeIn}
use Rattle.hc_abs_leaves.specs.Some.{AreSome}
use Rattle.hc_abs_leaves.specs.declared.leaf.Leaf.{Leaf as LeafIn}
use Rattle.hc_abs_leaves.specs.declared.tree.Tree.{Tree}
use Rattle.hc_abs_left.specs.Grounds.{shown_in}
use Rattle.hc_abs_left.specs.declared.ground.Ground.{Ground}
use Rattle.hc_abs_pass.specs.Walks.{IsListed}
use Rattle.hc_abs_restart.specs.Restarted.{is_among}
use Rattle.hc_abs_rw.specs.Known.{client_given}
use Rattle.hc_abs_start.specs.Starts.{IsStart}
use Rattle.hc_abs_tree.specs.Trees.{AreLeaves, Leaf, Next, Node, Soil, ends, goes}
use Rattle.hc_claim.specs.Asking.{Asked, HasEmptySlot, known_before, root_of, rules_of, soil_of}
use Rattle.hc_claim.specs.Walking.{BeginsUnder, Fits}
use Rattle.hc_ends.specs.Asking.{Site, asked_at}
use Rattle.hc_ends.specs.Chains.{caller_of}
use Rattle.hc_ends.specs.Walking.{Found, HasAll, HasMany, IsGathered, IsGatheredFor}

-- What is behind the root alone.
root_behind : (Are : Node → List Leaf → Type 0) (node : Node) (leaves : List Leaf)
    → AllBehind Are (goes node ∷ []) leaves
    → Are node leaves
root_behind Are node leaves all = subst (Are node) (sym (all.2 ∙ ap (λ more. more ++ all.0) all.4)) all.3

-- So many leaves stand before what is still to come.
pub record Passed (ground : Ground) (levels : ℕ) (before : List Next) (number : ℕ) (tree : Tree) (own : List LeafIn)
    : Type 0 where
  pub leaves : List Leaf
  pub after : List Next
  pub holds : Holds ground tree after
  pub takes : TakesOver levels ground before after leaves
  pub count : length leaves ≡ number
  pub fit : AllFit (LeafFits ground.client ground.tests.now) own leaves

-- From the tree as it began to what it is.
abbrev pub HasPassed : Ground → Tree → ℕ → Tree → List LeafIn → Type 0
HasPassed ground begun count tree own = (levels : ℕ) (before : List Next) → IsListed levels (shown_in ground)
    → Holds ground begun before → Passed ground levels before count tree own

pub none_passed : (ground : Ground) (tree : Tree) → HasPassed ground tree 0 tree []
none_passed ground tree levels before listed holds = record {
  leaves = [];
  after = before;
  holds = holds;
  takes = ((λ more all. all), (λ more all. all));
  count = refl;
  fit = refl;
}

-- Of what is still to come some leaves at least can be told.
some_behind : (soil : Soil) (nexts : List Next) → (leaves : List Leaf) × AllBehind (AreSome soil) nexts leaves
unfolding SomeIn
some_behind soil [] = ([], refl)
some_behind soil (ends leaf ∷ nexts) =
    let rest = some_behind soil nexts in (rest.0 ++ leaf ∷ [], (leaf ∷ [], rest.0, refl, refl, rest.1))
some_behind soil (goes node ∷ nexts) =
    let rest = some_behind soil nexts in (rest.0 ++ [], ([], rest.0, refl, (0, refl), rest.1))

module _ (ground : Ground) (begun old new : Tree) (count : ℕ) (own : List LeafIn)
    (passed : HasPassed ground begun count old own) where
  pub one_passed : (leaf : LeafIn) → Gives ground old new (Some leaf)
      → HasPassed ground begun (count + 1) new (own ++ leaf ∷ [])
  one_passed leaf gives levels before listed holds =
      let so_far = passed levels before listed holds in
      let next = gives levels so_far.after listed so_far.holds in record {
        leaves = so_far.leaves ++ next.0 ∷ [];
        after = next.1;
        holds = next.3;
        takes = (
          λ more all.
              subst (AllBehind (AreLeaves (soil_in levels ground)) before)
              (sym (append_assoc so_far.leaves (next.0 ∷ []) more)) (so_far.takes.0 (next.0 ∷ more) (next.4.0 more
              all)),
          λ more all.
              subst (AllBehind (AreSome (soil_in levels ground)) before)
              (sym (append_assoc so_far.leaves (next.0 ∷ []) more)) (so_far.takes.1 (next.0 ∷ more) (next.4.1 more
              all)),
        );
        count = length-append so_far.leaves (next.0 ∷ []) ∙ ap (λ count. count + 1) so_far.count;
        fit = both_fit (LeafFits ground.client ground.tests.now) own (leaf ∷ []) so_far.leaves (next.0 ∷ []) so_far.fit
            (next.0, [], refl, next.2, refl);
      }

  module _ (tied : Tied) (limit : ℕ) (begins : BeginsUnder tied begun) where
    abbrev Begins : AbsState → Type 0
    Begins known = (HasEmptySlot known × Holds ground begun [])
        ⊎ ((HasEmptySlot known → ⊥) × Holds ground begun (goes (root_of known) ∷ []))

    pub all_passed : Gives ground old new None → IsGathered ground tied limit (Some own)
    all_passed gives levels known listed rests clients = by (begins ground known rests clients)
      where
        by : Begins known → Found ground.client ground.tests.now limit (soil_in levels ground) known (Some own)
        by (inl none) =
            let so_far = passed levels [] listed none.1 in
            let over = gives levels so_far.after listed so_far.holds in
            let all = sym (append-nil so_far.leaves) ∙ so_far.takes.0 [] (over.1.0 [] refl) in (
              so_far.leaves,
              inl (none.0, all),
              inl (none.0, all),
              so_far.fit,
            )
        by (inr some) =
            let so_far = passed levels (goes (root_of known) ∷ []) listed some.1 in
            let over = gives levels so_far.after listed so_far.holds in (
              so_far.leaves,
              inr (
                some.0,
                behind (AreLeaves (soil_in levels ground)) so_far.leaves (so_far.takes.0 [] (over.1.0 []
                    refl)),
              ),
              inr (
                some.0,
                behind (AreSome (soil_in levels ground)) so_far.leaves (so_far.takes.1 [] (over.1.1 []
                    refl)),
              ),
              so_far.fit,
            )
          where
            behind : (Are : Node → List Leaf → Type 0) (leaves : List Leaf)
                → AllBehind Are (goes (root_of known) ∷ []) (leaves ++ []) → Are (root_of known) leaves
            behind Are leaves all =
                root_behind Are (root_of known) leaves
                (subst (AllBehind Are (goes (root_of known) ∷ [])) (append-nil leaves) all)

    pub many_passed : count ≡ limit → IsGathered ground tied limit None
    many_passed reached levels known listed rests clients = by (begins ground known rests clients)
      where
        by : Begins known → Found ground.client ground.tests.now limit (soil_in levels ground) known None
        by (inl none) =
            let so_far = passed levels [] listed none.1 in
            let rest = some_behind (soil_in levels ground) so_far.after in
            let all = so_far.takes.1 rest.0 rest.1 in (
              so_far.leaves ++ rest.0,
              inl (none.0, all),
              omega (arith, length-append so_far.leaves rest.0, so_far.count, reached),
            )
        by (inr some) =
            let so_far = passed levels (goes (root_of known) ∷ []) listed some.1 in
            let rest = some_behind (soil_in levels ground) so_far.after in (
              so_far.leaves ++ rest.0,
              inr (
                some.0,
                root_behind (AreSome (soil_in levels ground)) (root_of known) (so_far.leaves ++ rest.0)
                    (so_far.takes.1 rest.0 rest.1),
              ),
              omega (arith, length-append so_far.leaves rest.0, so_far.count, reached),
            )

-- ---- what is asked

module _ (asked : Asked) (names : Names) (ground : Ground) (fits : Fits asked names ground) where
  abbrev soil_by : ℕ → OwnSite → Shown → List (List ℕ) → Soil
  soil_by levels site shown looked =
      record (soil_of asked levels names) { site = site; shown = shown; names = is_among looked }

  soils : (levels : ℕ) → soil_in levels ground ≡ soil_of asked levels names
  soils levels =
      ap (λ site. soil_by levels site (shown_in ground) ground.names.now) fits.site
      ∙ ap (λ shown. soil_by levels (soil_of asked levels names).site shown ground.names.now) fits.world
      ∙ ap (soil_by levels (soil_of asked levels names).site (shown_by asked.world)) fits.looked

  pub gathered_for : (tied : Tied) (limit : ℕ) (found : Option (List LeafIn))
      → IsStart asked.scope names.variables names.headers tied → IsGathered ground tied limit found
      → IsGatheredFor asked names ground.tests.now limit found
  gathered_for tied limit found start gathered levels listed =
      subst (λ client. Found client ground.tests.now limit (soil_of asked levels names) (known_before asked names)
      found)
      fits.client
      (subst (λ soil. Found ground.client ground.tests.now limit soil (known_before asked names) found) (soils levels)
      (gathered levels (known_before asked names) (subst (IsListed levels) (sym fits.world) listed)
      (record {
        cell = sym start.cell;
        ties = sym start.ties;
        given = refl;
        texts = refl;
        printed = ap client_given (sym fits.client);
      })
      (ap clients_of (sym fits.net))))

module _ (site : Site) (scope : Scope) (names : Names) (named : AreNames (rules_of (asked_at site scope)) names)
    (limit : ℕ) where
  pub has_many : (caller : Caller) → IsGatheredFor (asked_at site scope) names caller limit None → (levels : ℕ)
      → IsListed levels (shown_by site.world) → HasMany site scope limit levels
  has_many caller gathered levels listed =
      let found = gathered levels listed in record {
        leaves = found.0;
        some = record { names = names; named = named; under = found.1 };
        many = found.2;
      }

  pub has_all : (found : List LeafIn) → IsGatheredFor (asked_at site scope) names (caller_of site scope) limit (Some
      found)
      → (levels : ℕ) → IsListed levels (shown_by site.world) → HasAll site scope limit levels found
  has_all found gathered levels listed =
      let all = gathered levels listed in record {
        leaves = all.0;
        all = record { names = names; named = named; under = all.1 };
        some = record { names = names; named = named; under = all.2 };
        fit = all.3;
      }
