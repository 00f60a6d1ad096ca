-- Lists that fit one for one, and what is behind a stack of nodes.
use Rattle.hc_abs_leaves.proofs.Common.{◌≡◌, ◌∙◌, List, [], ◌∷◌, ◌++◌, map, reverse, refl, sym, ap, subst, append_assoc}
use Rattle.hc_abs_leaves.proofs.Common.{append-nil, reverse-append, Branch, AllFit, Segment, Leaf, Next, Node, next_of}
use Rattle.hc_plan.proofs.Coded.{both_fit}
use Rattle.hc_abs_tree.specs.Trees.{Behind, Grown}
use Rattle.hc_abs_leaves.specs.Growing.{AllBehind}

pub reversed : {A : Type 0} (x : A) (xs : List A) → reverse (x ∷ xs) ≡ reverse xs ++ x ∷ []
reversed x xs = reverse-append (x ∷ []) xs

-- ---- lists that fit

module _ {B C : Type 0} (Fit : B → C → Type 0) where
  pub last_fits : (bs : List B) (b : B) (cs : List C) → AllFit Fit (bs ++ b ∷ []) cs
      → (front : List C) × (last : C) × (cs ≡ front ++ last ∷ []) × AllFit Fit bs front × Fit b last
  last_fits [] b cs fit = ([], fit.0, fit.2 ∙ ap (λ rest. fit.0 ∷ rest) fit.4, refl, fit.3)
  last_fits (first ∷ bs) b cs fit =
      let rest = last_fits bs b fit.1 fit.4 in (
        fit.0 ∷ rest.0,
        rest.1,
        fit.2 ∙ ap (λ rest. fit.0 ∷ rest) rest.2,
        (fit.0, rest.0, refl, fit.3, rest.3),
        rest.4,
      )

  pub reverse_fits : (bs : List B) (cs : List C) → AllFit Fit bs cs → AllFit Fit (reverse bs) (reverse cs)
  reverse_fits [] cs none = ap reverse none
  reverse_fits (b ∷ bs) cs fit =
      subst (λ bs. AllFit Fit bs (reverse cs)) (sym (reversed b bs))
      (subst (AllFit Fit (reverse bs ++ b ∷ [])) (sym (ap reverse fit.2 ∙ reversed fit.0 fit.1))
      (both_fit Fit (reverse bs) (b ∷ []) (reverse fit.1) (fit.0 ∷ []) (reverse_fits bs fit.1 fit.4)
      (fit.0, [], refl, fit.3, refl)))

-- What is made of items that fit.
pub map_fits : {A B C D : Type 0} (First : A → B → Type 0) (Fit : C → D → Type 0) (made : A → C) (meant : B → D)
    → ((a : A) (b : B) → First a b → Fit (made a) (meant b)) → (firsts : List A) (bs : List B) → AllFit First firsts bs
    → AllFit Fit (map made firsts) (map meant bs)
map_fits First Fit made meant leads [] bs none = ap (map meant) none
map_fits First Fit made meant leads (a ∷ more) bs fit = (
  meant fit.0,
  map meant fit.1,
  ap (map meant) fit.2,
  leads a fit.0 fit.3,
  map_fits First Fit made meant leads more fit.1 fit.4,
)

-- ---- stacks

module _ (Further : Node → List Leaf → Type 0) where
  pub parts_behind : (nexts more : List Next) (leaves : List Leaf) → AllBehind Further (nexts ++ more) leaves
      → (front : List Leaf) × (back : List Leaf) × (leaves ≡ front ++ back) × AllBehind Further more front
      × AllBehind Further nexts back
  parts_behind [] more leaves all = (leaves, [], sym (append-nil leaves), all, refl)
  parts_behind (next ∷ nexts) more leaves all =
      let rest = parts_behind nexts more all.1 all.4 in (
        rest.0,
        rest.1 ++ all.0,
        all.2 ∙ ap (λ front. front ++ all.0) rest.2 ∙ append_assoc rest.0 rest.1 all.0,
        rest.3,
        (all.0, rest.1, refl, all.3, rest.4),
      )

  pub both_behind : (nexts more : List Next) (front back : List Leaf) → AllBehind Further more front
      → AllBehind Further nexts back → AllBehind Further (nexts ++ more) (front ++ back)
  both_behind [] more front back all none =
      subst (AllBehind Further more) (sym (ap (λ back. front ++ back) none ∙ append-nil front)) all
  both_behind (next ∷ nexts) more front back all rest = (
    rest.0,
    front ++ rest.1,
    ap (λ back. front ++ back) rest.2 ∙ sym (append_assoc front rest.1 rest.0),
    rest.3,
    both_behind nexts more front rest.1 all rest.4,
  )

  -- The branches of a node, the first of which stands last.
  pub grown_behind : (node : Node) (branches : List (Branch Segment)) (leaves : List Leaf)
      → AllBehind Further (reverse (map (next_of node) branches)) leaves → Grown Further node branches leaves
  grown_behind node [] leaves none = none
  grown_behind node (branch ∷ branches) leaves all =
      let next = next_of node branch in
      let nexts = map (next_of node) branches in
      let parts = parts_behind (reverse nexts) (next ∷ []) leaves
      (subst (λ nexts. AllBehind Further nexts leaves) (reversed next nexts) all) in (
        parts.0,
        parts.1,
        parts.2,
        subst (Behind Further next) (sym (parts.3.2 ∙ ap (λ front. front ++ parts.3.0) parts.3.4)) parts.3.3,
        grown_behind node branches parts.1 parts.4,
      )
