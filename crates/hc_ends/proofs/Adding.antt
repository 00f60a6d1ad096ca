-- Ends that are found one after another.
use Rattle.std.proofs.Common.{◌≡◌, ◌∙◌, ℕ, ◌+◌, ◌≤◌, List, [], ◌∷◌, ◌++◌, length, Bool, true, false, Option, Some, None}
use Rattle.std.proofs.Common.{refl, sym, ap, subst, arith, append_assoc, append-nil, length-append, unwrap_or}
use Rattle.std.proofs.lemmas.List.Elements.{filter-append}
use Rattle.std.specs.Borrow.{Bor}
use Rattle.hc_addr.specs.declared.addr.Addr.{Addr}
use Rattle.hc_cells.specs.Cells.{Sets}
use Rattle.hc_model.specs.declared.request.Caller.{Caller}
use Rattle.hc_plan.proofs.Coded.{both_fit}
use Rattle.hc_plan.specs.Coded.{AllFit}
use Rattle.hc_plan.specs.Hands.{cell_of}
use Rattle.hc_abs_leaves.specs.Fitting.{LeafFits}
use Rattle.hc_abs_leaves.specs.declared.leaf.Leaf.{Leaf as LeafIn}
use Rattle.hc_abs_tree.specs.Trees.{Leaf}
use Rattle.hc_ends.specs.Chains.{AllBehind, Before, End, behind, end_at}
use Rattle.hc_ends.specs.Deciding.{bad_of}
use Rattle.hc_ends.specs.Finding.{Adds, BadFits, BeforeFits, FirstFits, first_at}
use Rattle.hc_ends.specs.declared.finding.BadEnd.{BadEnd}
use Rattle.hc_ends.specs.declared.finding.Before.{Before as BeforeIn}
use Rattle.hc_ends.specs.declared.finding.Found.{Found}

-- ---- what is added

pub adds_none : (found : Found) → Adds [] found found
adds_none found =
    record { own = []; bad = sym (append-nil found.bad.items); fit = refl; count = omega arith }

pub adds_more : (one other : List End) (old mid new : Found) → Adds one old mid → Adds other mid new
    → Adds (one ++ other) old new
adds_more one other old mid new first then = record {
  own = first.own ++ then.own;
  bad = then.bad ∙ ap (λ bad. bad ++ then.own) first.bad ∙ append_assoc old.bad.items first.own then.own;
  fit = subst (AllFit BadFits (first.own ++ then.own)) (sym (filter-append (λ end. end.bad) one other))
      (both_fit BadFits first.own then.own (bad_of one) (bad_of other) first.fit then.fit);
  count = omega (arith, first.count, then.count, length-append one other);
}

-- ---- one end

first_fits : (first : Option (Bor Sets)) (earlier : Option Leaf) (own : LeafIn) (leaf : Leaf)
    → FirstFits first earlier → leaf.known.cell ≡ cell_of (own.tied).cell
    → (unwrap_or earlier leaf).known.cell ≡ cell_of (first_at first own)
first_fits None earlier own leaf none cell = rw none cell
first_fits (Some kept) earlier own leaf some cell = rw some.1 some.2

module _ (before : BeforeIn) (earlier : Before) (client : Option Addr) (caller : Caller) (own : LeafIn) (leaf : Leaf)
    (fits : BeforeFits before earlier) (leaf_fits : LeafFits client caller own leaf) where
  all_decided : earlier.decisions ++ leaf.decisions ≡ before.decisions.now ++ own.decisions
  all_decided =
      ap (λ all. all ++ leaf.decisions) fits.decisions ∙ ap (λ own. before.decisions.now ++ own) leaf_fits.decisions

  first_is : (unwrap_or earlier.first leaf).known.cell ≡ cell_of (first_at before.first own)
  first_is = first_fits before.first earlier.first own leaf fits.first leaf_fits.at.cell

  -- A bad end is kept, and every end is counted.
  pub adds_bad : (old new : Found) (end : BadEnd) → end.decisions ≡ before.decisions.now ++ own.decisions
      → end.first ≡ first_at before.first own → new.bad.items ≡ old.bad.items ++ end ∷ []
      → new.left + 1 ≡ old.left → Adds (end_at earlier leaf true ∷ []) old new
  adds_bad old new end decided first bad left = record {
    own = end ∷ [];
    bad = bad;
    fit = (
      end_at earlier leaf true,
      [],
      refl,
      record { decisions = all_decided ∙ sym decided; cell = first_is ∙ ap cell_of (sym first) },
      refl,
    );
    count = left;
  }

  pub adds_good : (old new : Found) → new.bad.items ≡ old.bad.items → new.left + 1 ≡ old.left
      → Adds (end_at earlier leaf false ∷ []) old new
  adds_good old new bad left =
      record { own = []; bad = bad ∙ sym (append-nil old.bad.items); fit = refl; count = left }

  -- What comes before the requests that follow.
  pub next_before : (next : BeforeIn) (cell : Bor Sets) → next.decisions.now ≡ before.decisions.now ++ own.decisions
      → next.first ≡ Some cell → cell.now ≡ first_at before.first own → BeforeFits next (behind earlier leaf)
  next_before next cell decided first is = record {
    decisions = all_decided ∙ sym decided;
    first = subst (λ first. FirstFits first (Some (unwrap_or earlier.first leaf))) (sym first)
        (unwrap_or earlier.first leaf, refl, first_is ∙ ap cell_of (sym is));
  }

-- ---- one behind the other

all_behind : {A : Type 0} (One : A → List End → Type 0) (front back : List A) (ends more : List End)
    → AllBehind One front ends → AllBehind One back more → AllBehind One (front ++ back) (ends ++ more)
all_behind One [] back ends more none rest = rw none rest
all_behind One (own ∷ front) back ends more all rest = (
  all.0,
  all.1 ++ more,
  ap (λ ends. ends ++ more) all.2 ∙ append_assoc all.0 all.1 more,
  all.3,
  all_behind One front back all.1 more all.4 rest,
)

only_behind : {A : Type 0} (One : A → List End → Type 0) (own : A) (ends : List End) → One own ends
    → AllBehind One (own ∷ []) ends
only_behind One own ends is = (ends, [], sym (append-nil ends), is, refl)

-- Of all of these some stand before what is left, and their ends are found.
pub record SoFar {A : Type 0} (One : A → List End → Type 0) (all left : List A) (old now : Found) : Type 0 where
  pub done : List A
  pub split : all ≡ done ++ left
  pub ends : List End
  pub are : AllBehind One done ends
  pub adds : Adds ends old now

module _ {A : Type 0} (One : A → List End → Type 0) (all : List A) (old : Found) where
  pub none_so_far : SoFar One all all old old
  none_so_far = record { done = []; split = refl; ends = []; are = refl; adds = adds_none old }

  pub all_so_far : (now : Found) → SoFar One all [] old now
      → (ends : List End) × AllBehind One all ends × Adds ends old now
  all_so_far now so_far = (
    so_far.ends,
    subst (λ all. AllBehind One all so_far.ends) (sym (so_far.split ∙ append-nil so_far.done)) so_far.are,
    so_far.adds,
  )

  module _ (own : A) (left : List A) (now : Found) (so_far : SoFar One all (own ∷ left) old now) (ends : List End)
      (is : One own ends) where
    pub one_more : (new : Found) → Adds ends now new → SoFar One all left old new
    one_more new adds = record {
      done = so_far.done ++ own ∷ [];
      split = so_far.split ∙ sym (append_assoc so_far.done (own ∷ []) left);
      ends = so_far.ends ++ ends;
      are = all_behind One so_far.done (own ∷ []) so_far.ends ends so_far.are (only_behind One own ends is);
      adds = adds_more so_far.ends ends old now new so_far.adds adds;
    }

    -- Where there are too many, the others may be told somehow.
    pub too_many : now.left ≤ length ends → ((more : List End) × AllBehind One left more)
        → (ends : List End) × AllBehind One all ends × (old.left ≤ length ends)
    too_many many rest = (
      so_far.ends ++ (ends ++ rest.0),
      subst (λ all. AllBehind One all (so_far.ends ++ (ends ++ rest.0))) (sym so_far.split)
          (all_behind One so_far.done (own ∷ left) so_far.ends (ends ++ rest.0) so_far.are
          (all_behind One (own ∷ []) left ends rest.0 (only_behind One own ends is) rest.1)),
      omega (
        arith,
        many,
        so_far.adds.count,
        length-append so_far.ends (ends ++ rest.0),
        length-append ends rest.0,
      ),
    )
