-- Texts that are found one after another.
use Rattle.hc_dfa.proofs.Common.{◌≡◌, ℕ, ◌≤◌, ◌&&◌, ◌||◌, not, IsTrue, List, [], ◌∷◌}
use Rattle.hc_dfa.proofs.Common.{◌++◌, length, Bool, true, false, refl, sym, ◌∙◌, ◌⊎◌, inl, inr}
use Rattle.hc_dfa.proofs.Common.{AllByRecursion, Contains, same_text, other_text, Automaton, accepts, Accepts, AreFirst}
use Rattle.hc_dfa.proofs.Common.{IsInOrder, product_of, single, is_among, AreFound, TextSet, IsText, IsEmptySet}
use Rattle.hc_dfa.proofs.Common.{IsLeast, comes_before, FirstOnly}
use Rattle.std.proofs.lemmas.List.Folds.{list_any-append}
use Rattle.std.proofs.lemmas.Map.Views.{Contains-from_any}
use Rattle.std.proofs.Math.Bool.{and-true}

all_push : {X : Type 0} (P : X → Type 0) (xs : List X) (x : X) → AllByRecursion P xs → P x
    → AllByRecursion P (xs ++ x ∷ [])
all_push P [] x all here = (here, tt)
all_push P (y ∷ ys) x all here = (all.0, all_push P ys x all.1 here)

in_order_push : (texts : List (List ℕ)) (text : List ℕ) → IsInOrder texts
    → AllByRecursion (λ t. IsTrue (comes_before t text)) texts → IsInOrder (texts ++ text ∷ [])
in_order_push [] text ordered before = (tt, tt)
in_order_push (t ∷ texts) text ordered before = (
  all_push (λ later. IsTrue (comes_before t later)) texts text ordered.0 before.0,
  in_order_push texts text ordered.1 before.1,
)

member_not_among : (x y : Bool) → (x && not y) ≡ true → (x ≡ true) × (y ≡ false)
member_not_among true false both = (refl, refl)
member_not_among true true both = absurd (cc)
member_not_among false y both = absurd (cc)

and_not_or : (s a e : Bool) → ((s && not a) && not e) ≡ (s && not (a || (e || false)))
and_not_or true true e = refl
and_not_or true false true = refl
and_not_or true false false = refl
and_not_or false a e = refl

neither : (a e : Bool) → (a || (e || false)) ≡ false → (a ≡ false) × (e ≡ false)
neither false false none = (refl, refl)
neither false true none = absurd (cc)
neither true e none = absurd (cc)

both : (s a : Bool) → s ≡ true → a ≡ false → (s && not a) ≡ true
both true false is isnt = refl
both true true is isnt = absurd (cc)
both false a is isnt = absurd (cc)

pub found_none : (set : TextSet) (rest : Automaton) → Accepts rest set → AreFound set [] rest
found_none set rest same =
    record {
      members = tt;
      ordered = tt;
      left = λ text bytes. same text bytes ∙ sym (and-true (set text));
      later = λ other bytes is isnt. tt;
    }

pub found_more : (set : TextSet) (texts : List (List ℕ)) (rest only more : Automaton) (text : List ℕ)
    → AreFound set texts rest → IsLeast (accepts rest) text → Accepts only (single text)
    → Accepts more (product_of FirstOnly rest only) → AreFound set (texts ++ text ∷ []) more
found_more set texts rest only more text found least one same =
    let here = member_not_among (set text) (is_among texts text) (sym (found.left text least.bytes) ∙ least.member) in
    record {
      members = all_push (λ t. IsText t × IsTrue (set t)) texts text found.members (least.bytes, here.0);
      ordered = in_order_push texts text found.ordered (found.later text least.bytes here.0 here.1);
      left = λ other bytes. same other bytes
          ∙ (rw (found.left other bytes, one other bytes, list_any-append)
          (and_not_or (set other) (is_among texts other) (single text other)));
      later = λ other bytes is isnt.
          let parts = neither (is_among texts other) (single text other) (rw list_any-append at isnt) in
          let in_rest = found.left other bytes ∙ both (set other) (is_among texts other) is parts.0 in
          all_push (λ t. IsTrue (comes_before t other)) texts text (found.later other bytes is parts.0)
          (elim (least.first other bytes in_rest)
          [ inl e ↦ absurd (other_text other text (sym parts.1) e) | inr before ↦ before ]);
    }

-- The texts that were found are the first where there are enough, or no more.
pub found_first : (set : TextSet) (count : ℕ) (texts : List (List ℕ)) (rest : Automaton) → AreFound set texts rest
    → length texts ≤ count
    → (length texts ≡ count) ⊎ IsEmptySet (accepts rest) → AreFirst set count texts
found_first set count texts rest found few enough =
    record {
      members = found.members;
      ordered = found.ordered;
      few = few;
      first = λ other bytes is. first other bytes is (is_among texts other) refl;
    }
  where
    first : (other : List ℕ) → IsText other → IsTrue (set other) → (v : Bool) → is_among texts other ≡ v
        → Contains texts other
        ⊎ ((length texts ≡ count) × AllByRecursion (λ text. IsTrue (comes_before text other)) texts)
    first other bytes is true among = inl (Contains-from_any (λ x y e. same_text x y (sym e)) other texts among)
    first other bytes is false isnt =
        elim enough [
          | inl whole ↦ inr (whole, found.later other bytes is isnt)
          | inr none ↦ absurd
              (let in_rest = found.left other bytes ∙ both (set other) (is_among texts other) is isnt in
              let out = none other bytes in cc)
        ]
