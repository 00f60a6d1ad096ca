-- The paths at a prefix and below it.
use Rattle.std.proofs.Common.{◌≡◌, ◌∙◌, ℕ, ◌==◌, List, [], ◌∷◌, ◌++◌, length, drop, Bool, true, false, ◌&&◌, ◌||◌}
use Rattle.std.proofs.Common.{refl, sym, ap, eqb-true, eq-eqb}
use Rattle.std.proofs.Math.Dec.{eqb-suc-suc, eqb-suc-zero}
use Rattle.std.specs.Prelude.{nat_eq}
use Rattle.std.specs.Cmp.Lexicographic.{pointwise}
use Rattle.std.specs.List.{starts_with}
use Rattle.hc_alias.specs.Tests.{is_below}
use Rattle.hc_base.specs.Paths.{begins_with_slash, ends_with_slash}
use Rattle.hc_dfa.specs.Automata.{Automaton, accepts}
use Rattle.hc_dfa.specs.Built.{Accepts, product_of}
use Rattle.hc_dfa.specs.Singles.{single}
use Rattle.hc_dfa.specs.declared.products.Keep.TheVariants.{Either}

-- Equal numbers are so from both sides.
one_side : (a b : ℕ) → (a == b) ≡ true → (b == a) ≡ true
one_side a b is = eq-eqb b a (sym (eqb-true a b is))

same_sides : (a b : ℕ) → (a == b) ≡ (b == a)
same_sides a b = by (a == b) (b == a) refl refl
  where
    by : (one other : Bool) → (a == b) ≡ one → (b == a) ≡ other → one ≡ other
    by true true is also = refl
    by false false is also = refl
    by true false is also = sym (one_side a b is) ∙ also
    by false true is also = sym is ∙ one_side b a also

abbrev below : List ℕ → List ℕ → Bool
below from text = starts_with nat_eq text from
    && ((length text == length from) || begins_with_slash (drop (length from) text))

both_are : (from text : List ℕ)
    → (pointwise nat_eq text from || starts_with nat_eq text (from ++ 47 ∷ [])) ≡ below from text
both_are [] [] = refl
both_are [] (c ∷ text) = by (47 == c) ∙ same_sides 47 c ∙ ap (λ v. v || (c == 47)) (sym (eqb-suc-zero (length text)))
  where
    by : (is : Bool) → (is && true) ≡ is
    by true = refl
    by false = refl
both_are (f ∷ from) [] = refl
both_are (f ∷ from) (c ∷ text) =
    ap (λ v. (v && pointwise nat_eq text from) || ((f == c) && starts_with nat_eq text (from ++ 47 ∷ [])))
    (same_sides c f)
    ∙ by (f == c) (both_are from text)
    ∙ ap (λ v. ((f == c) && starts_with nat_eq text from) && (v || begins_with_slash (drop (length from) text)))
    (sym (eqb-suc-suc (length text) (length from)))
  where
    by : (is : Bool) → (pointwise nat_eq text from || starts_with nat_eq text (from ++ 47 ∷ [])) ≡ below from text
        → ((is && pointwise nat_eq text from) || (is && starts_with nat_eq text (from ++ 47 ∷ [])))
        ≡ ((is && starts_with nat_eq text from)
        && ((length text == length from) || begins_with_slash (drop (length from) text)))
    by true more = more
    by false more = refl

pub below_is : (from lent : List ℕ) (own further made : Automaton) → ends_with_slash from ≡ false
    → lent ≡ from ++ 47 ∷ [] → Accepts own (single from) → Accepts further (λ text. starts_with nat_eq text lent)
    → Accepts made (product_of Either own further) → Accepts made (is_below from)
below_is from lent own further made ends same is_own is_further is text bytes =
    is text bytes ∙ ap (λ v. v || accepts further text) (is_own text bytes)
    ∙ ap (λ v. pointwise nat_eq text from || v)
    (is_further text bytes ∙ ap (λ front. starts_with nat_eq text front) same) ∙ both_are from text
    ∙ ap (λ v. starts_with nat_eq text from
    && (v || (length text == length from) || begins_with_slash (drop (length from) text))) (sym ends)
