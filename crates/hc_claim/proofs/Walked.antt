-- The leaves that a walk of the tree has come to.
use Rattle.hc_claim.proofs.Common.{◌≡◌, ◌∙◌, inl, inr, ℕ, List, [], ◌∷◌, ◌++◌, Bool, true}
use Rattle.hc_claim.proofs.Common.{false, ◌&&◌, Option, Some, None}
use Rattle.hc_claim.proofs.Common.{refl, sym, ap, subst, arith}
use Rattle.std.proofs.Common.{append_assoc, append-nil, length-append, ◌+◌, ◌<◌, ◌⊎◌, length}
use Rattle.hc_addr.specs.declared.addr.Addr.{Addr}
use Rattle.hc_model.specs.declared.request.Caller.{Caller}
use Rattle.hc_cells.specs.Cells.{HasEmptySlot as HasEmptyCell, holds}
use Rattle.hc_plan.proofs.Coded.{both_fit}
use Rattle.hc_plan.proofs.Made.{text_is}
use Rattle.hc_plan.specs.States.{AbsState}
use Rattle.hc_plan.specs.declared.storing.Tied.{Tied}
use Rattle.hc_scope.specs.declared.claim.Claim.{Claim}
use Rattle.hc_abs_leaves.specs.Fitting.{LeafFits, soil_in}
use Rattle.hc_abs_leaves.specs.Growing.{AllBehind, BeginsAt, Gives, Holds, TakesOver}
unfoldable use Rattle.hc_abs_leaves.specs.Some.{SomeIn}
use Rattle.hc_abs_leaves.specs.Some.{AreSome}
use Rattle.hc_abs_leaves.specs.declared.leaf.Leaf.{Leaf as LeafIn}
use Rattle.hc_abs_leaves.specs.declared.tree.Tree.{Tree}
use Rattle.hc_abs_left.specs.Grounds.{shown_in}
use Rattle.hc_abs_left.specs.declared.ground.Ground.{Ground}
use Rattle.hc_abs_pass.specs.Walks.{IsListed}
use Rattle.hc_abs_rw.specs.RuleBranches.{Rests}
use Rattle.hc_abs_tree.specs.Trees.{AreLeaves, Leaf, Next, Node, Soil, ends, goes}
use Rattle.hc_abs_view.specs.Seen.{IsAnswer}
use Rattle.hc_claim.specs.Asking.{HasEmptySlot, root_of}
use Rattle.hc_claim.specs.Bad.{AreBad, IsBad}
use Rattle.hc_claim.specs.Judging.{IsJudged}
use Rattle.hc_claim.specs.Walking.{BadFit, BeginsUnder, Found, IsWalked, kept_by}

-- ---- where it begins

-- A slot has no text exactly where its set has none.
empty_to : (tied : Tied) (client : Option Addr) (known : AbsState) → Rests client tied known → HasEmptySlot known
    → HasEmptyCell tied.cell
empty_to tied client known rests none = (
  none.0,
  λ text bytes.
      by (holds tied.cell none.0 text) (text_is text bytes)
      (ap (λ cell. cell none.0 text) (sym rests.cell) ∙ none.1 text bytes),
)
  where
    by : {bytes : Bool} (is : Bool) → bytes ≡ true → (bytes && is) ≡ false → is ≡ false
    by is all none = ap (λ bytes. bytes && is) (sym all) ∙ none

pub filled_begins : (tied : Tied) (tree : Tree) → (HasEmptyCell tied.cell → ⊥) → BeginsAt tied tree
    → BeginsUnder tied tree
filled_begins tied tree filled begins ground known rests clients =
    inr (λ none. filled (empty_to tied ground.client known rests none), begins ground known rests clients)

-- ---- bad leaves

abbrev with_bad : Bool → Leaf → List Leaf
with_bad true leaf = leaf ∷ []
with_bad false leaf = []

last_bad : (claim : Claim) (leaf : Leaf) (bad : Bool) → IsAnswer (IsBad claim leaf) bad
    → AreBad claim (leaf ∷ []) (with_bad bad leaf)
last_bad claim leaf true is = inl (is, [], refl, refl)
last_bad claim leaf false none = inr (none, refl)

both_bad : (claim : Claim) (leaves more bad others : List Leaf) → AreBad claim leaves bad → AreBad claim more others
    → AreBad claim (leaves ++ more) (bad ++ others)
both_bad claim [] more bad others none rest = subst (λ bad. AreBad claim more (bad ++ others)) (sym none) rest
both_bad claim (leaf ∷ leaves) more bad others (inl is) rest =
    inl (is.0, is.1 ++ others, ap (λ bad. bad ++ others) is.2, both_bad claim leaves more is.1 others is.3 rest)
both_bad claim (leaf ∷ leaves) more bad others (inr isnt) rest =
    inr (isnt.0, both_bad claim leaves more bad others isnt.1 rest)

bad_more : (client : Option Addr) (caller : Caller) (claim : Claim) (leaves : List Leaf) (bad : List LeafIn) (own : LeafIn)
    (leaf : Leaf) (is : Bool) → BadFit client caller claim leaves bad → LeafFits client caller own leaf
    → IsAnswer (IsBad claim leaf) is → BadFit client caller claim (leaves ++ leaf ∷ []) (kept_by is own bad)
bad_more client caller claim leaves bad own leaf true before fits is = (
  before.0 ++ leaf ∷ [],
  both_bad claim leaves (leaf ∷ []) before.0 (leaf ∷ []) before.1 (last_bad claim leaf true is),
  both_fit (LeafFits client caller) bad (own ∷ []) before.0 (leaf ∷ []) before.2 (leaf, [], refl, fits, refl),
)
bad_more client caller claim leaves bad own leaf false before fits is = (
  before.0,
  subst (AreBad claim (leaves ++ leaf ∷ [])) (append-nil before.0)
      (both_bad claim leaves (leaf ∷ []) before.0 [] before.1 (last_bad claim leaf false is)),
  before.2,
)

-- ---- the walk

-- What is behind the root alone.
root_behind : (Are : Node → List Leaf → Type 0) (node : Node) (leaves : List Leaf) → AllBehind Are (goes node ∷ []) leaves
    → Are node leaves
root_behind Are node leaves all =
    subst (Are node) (sym (all.2 ∙ ap (λ more. more ++ all.0) all.4)) all.3

-- So many leaves stand before what is still to come, and these of them are bad.
pub record Passed (ground : Ground) (claim : Claim) (levels : ℕ) (before : List Next) (number : ℕ) (tree : Tree)
    (own : List LeafIn) : Type 0 where
  pub leaves : List Leaf
  pub after : List Next
  pub holds : Holds ground tree after
  pub takes : TakesOver levels ground before after leaves
  pub count : length leaves ≡ number
  pub bad : BadFit ground.client ground.tests.now claim leaves own

-- From the tree as it began to what it is.
abbrev pub HasPassed : Ground → Claim → Tree → ℕ → Tree → List LeafIn → Type 0
HasPassed ground claim begun count tree bad = (levels : ℕ) (before : List Next) → IsListed levels (shown_in ground)
    → Holds ground begun before → Passed ground claim levels before count tree bad

pub none_passed : (ground : Ground) (claim : Claim) (tree : Tree) → HasPassed ground claim tree 0 tree []
none_passed ground claim tree levels before listed holds = record {
  leaves = [];
  after = before;
  holds = holds;
  takes = ((λ more all. all), (λ more all. all));
  count = refl;
  bad = ([], refl, refl);
}

module _ (ground : Ground) (claim : Claim) (begun old new : Tree) (count : ℕ) (bad : List LeafIn)
    (passed : HasPassed ground claim begun count old bad) where
  pub one_passed : (own : LeafIn) (is : Bool) → Gives ground old new (Some own) → IsJudged claim own is
      → HasPassed ground claim begun (count + 1) new (kept_by is own bad)
  one_passed own is gives judged levels before listed holds =
      let so_far = passed levels before listed holds in
      let next = gives levels so_far.after listed so_far.holds in record {
        leaves = so_far.leaves ++ next.0 ∷ [];
        after = next.1;
        holds = next.3;
        takes = (
          λ more all.
              subst (AllBehind (AreLeaves (soil_in levels ground)) before)
              (sym (append_assoc so_far.leaves (next.0 ∷ []) more)) (so_far.takes.0 (next.0 ∷ more) (next.4.0 more all)),
          λ more all.
              subst (AllBehind (AreSome (soil_in levels ground)) before)
              (sym (append_assoc so_far.leaves (next.0 ∷ []) more)) (so_far.takes.1 (next.0 ∷ more) (next.4.1 more all)),
        );
        count = length-append so_far.leaves (next.0 ∷ []) ∙ ap (λ count. count + 1) so_far.count;
        bad = bad_more ground.client ground.tests.now claim so_far.leaves bad own next.0 is so_far.bad next.2
            (judged ground.client ground.tests.now next.0 next.2);
      }

  pub all_passed : (tied : Tied) (limit : ℕ) → Gives ground old new None → BeginsUnder tied begun → count < limit
      → IsWalked ground claim tied limit (Some bad)
  all_passed tied limit gives begins fewer levels known listed rests clients = by (begins ground known rests clients)
    where
      by : (HasEmptySlot known × Holds ground begun [])
          ⊎ ((HasEmptySlot known → ⊥) × Holds ground begun (goes (root_of known) ∷ []))
          → Found ground.client claim limit (soil_in levels ground) known (Some bad)
      by (inl none) =
          let so_far = passed levels [] listed none.1 in
          let over = gives levels so_far.after listed so_far.holds in
          let all = so_far.takes.0 [] (over.1.0 [] refl) in
          (so_far.leaves, inl (none.0, sym (append-nil so_far.leaves) ∙ all), omega (arith, so_far.count, fewer), so_far.bad)
      by (inr some) =
          let so_far = passed levels (goes (root_of known) ∷ []) listed some.1 in
          let over = gives levels so_far.after listed so_far.holds in
          let all = so_far.takes.0 [] (over.1.0 [] refl) in (
            so_far.leaves,
            inr (
              some.0,
              root_behind (AreLeaves (soil_in levels ground)) (root_of known) so_far.leaves
                  (subst (AllBehind (AreLeaves (soil_in levels ground)) (goes (root_of known) ∷ [])) (append-nil so_far.leaves)
                  all),
            ),
            omega (arith, so_far.count, fewer),
            so_far.bad,
          )

-- Of what is still to come some leaves at least can be told.
some_behind : (soil : Soil) (nexts : List Next) → (leaves : List Leaf) × AllBehind (AreSome soil) nexts leaves
unfolding SomeIn
some_behind soil [] = ([], refl)
some_behind soil (ends leaf ∷ nexts) =
    let rest = some_behind soil nexts in (rest.0 ++ leaf ∷ [], (leaf ∷ [], rest.0, refl, refl, rest.1))
some_behind soil (goes node ∷ nexts) =
    let rest = some_behind soil nexts in (rest.0 ++ [], ([], rest.0, refl, (0, refl), rest.1))

pub many_passed : (ground : Ground) (claim : Claim) (begun now : Tree) (tied : Tied) (limit : ℕ) (bad : List LeafIn)
    → HasPassed ground claim begun limit now bad → BeginsUnder tied begun → IsWalked ground claim tied limit None
many_passed ground claim begun now tied limit bad passed begins levels known listed rests clients =
    by (begins ground known rests clients)
  where
    by : (HasEmptySlot known × Holds ground begun [])
        ⊎ ((HasEmptySlot known → ⊥) × Holds ground begun (goes (root_of known) ∷ []))
        → Found ground.client claim limit (soil_in levels ground) known None
    by (inl none) =
        let so_far = passed levels [] listed none.1 in
        let rest = some_behind (soil_in levels ground) so_far.after in
        let all = so_far.takes.1 rest.0 rest.1 in
        (so_far.leaves ++ rest.0, inl (none.0, all), omega (arith, length-append so_far.leaves rest.0, so_far.count))
    by (inr some) =
        let so_far = passed levels (goes (root_of known) ∷ []) listed some.1 in
        let rest = some_behind (soil_in levels ground) so_far.after in
        let all = so_far.takes.1 rest.0 rest.1 in (
          so_far.leaves ++ rest.0,
          inr (
            some.0,
            root_behind (AreSome (soil_in levels ground)) (root_of known)
                (so_far.leaves ++ rest.0) all,
          ),
          omega (arith, length-append so_far.leaves rest.0, so_far.count),
        )
