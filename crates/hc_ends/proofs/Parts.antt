-- Ends, part by part, none of which is bad.
use Rattle.std.proofs.Common.{◌≡◌, ◌∙◌, ◌⊎◌, inl, inr, List, [], ◌∷◌, ◌++◌, Bool, true, false, refl, sym, ap, subst}
use Rattle.std.proofs.lemmas.Bool.{false≢true}
use Rattle.std.specs.Prelude.{cond}
use Rattle.hc_plan.specs.Cover.{Among}
use Rattle.hc_abs_tree.specs.Trees.{Leaf}
use Rattle.hc_ends.specs.Chains.{AllBehind, Before, End, end_at}
use Rattle.hc_ends.specs.Deciding.{bad_of}

-- Nothing is cut off.
pub uncut : {C A : Type 0} → (((false ≡ true) × C) ⊎ A) → A
uncut (inl cut) = absurd (false≢true cut.0)
uncut (inr all) = all

pub record AreBoth (one other : List End) : Type 0 where
  pub first : bad_of one ≡ []
  pub more : bad_of other ≡ []

pub both_good : (one other : List End) → bad_of (one ++ other) ≡ [] → AreBoth one other
both_good [] other none = record { first = refl; more = none }
both_good (end ∷ one) other none = by end.bad refl none (both_good one other)
  where
    by : (bad : Bool) → end.bad ≡ bad → cond bad (end ∷ bad_of (one ++ other)) (bad_of (one ++ other)) ≡ []
        → (bad_of (one ++ other) ≡ [] → AreBoth one other) → AreBoth (end ∷ one) other
    by true is none rest = let e : end ∷ bad_of (one ++ other) ≡ [] = none in absurd (cc)
    by false is none rest =
        let both = rest none in
        record {
          first = ap (λ bad. cond bad (end ∷ bad_of one) (bad_of one)) is ∙ both.first;
          more = both.more;
        }

-- The end of a leaf is not bad, where the list isn't.
pub is_good : (before : Before) (leaf : Leaf) (bad : Bool) → bad_of (end_at before leaf bad ∷ []) ≡ [] → bad ≡ false
is_good before leaf true none = let e : end_at before leaf true ∷ [] ≡ [] = none in absurd (cc)
is_good before leaf false none = refl

-- What is behind one of them.
pub record IsPart {A : Type 0} (One : A → List End → Type 0) (own : A) : Type 0 where
  pub ends : List End
  pub are : One own ends
  pub none : bad_of ends ≡ []

pub among_all : {A : Type 0} (One : A → List End → Type 0) (items : List A) (ends : List End)
    → AllBehind One items ends → bad_of ends ≡ [] → (own : A) → Among own items → IsPart One own
among_all One [] ends all none own among = absurd among
among_all One (item ∷ items) ends all none own (inl same) =
    let both = both_good all.0 all.1 (ap bad_of (sym all.2) ∙ none) in
    record { ends = all.0; are = subst (λ item. One item all.0) (sym same) all.3; none = both.first }
among_all One (item ∷ items) ends all none own (inr among) =
    let both = both_good all.0 all.1 (ap bad_of (sym all.2) ∙ none) in
    among_all One items all.1 all.4 both.more own among
