-- Members of two sets that are equal, or different.
use Rattle.std.proofs.Common.{◌≡◌, ◌∙◌, ℕ, List, Bool, true, false, not, Option, None, Some, refl, sym, ap, subst, true≢false}
use Rattle.std.proofs.lemmas.Slice.Eq.{bytes_eq-Decides}
use Rattle.std.specs.Str.{bytes_eq}
use Rattle.hc_dfa.specs.Automata.{Automaton, accepts}
use Rattle.hc_dfa.specs.Built.{Accepts, product_of}
use Rattle.hc_dfa.specs.Singles.{single}
use Rattle.hc_dfa.specs.Texts.{IsEmptySet, IsLeast, IsLeastOf, IsText, TextSet}
use Rattle.hc_dfa.specs.declared.products.Keep.TheVariants.{Both, FirstOnly}
use Rattle.hc_plan.proofs.Common.{and_both, and_left, and_right}
use Rattle.hc_plan.proofs.Made.{is_text, text_is}
use Rattle.hc_plan.specs.Hands.{set_in}
use Rattle.hc_plan.specs.Texts.{IsSetOf}
use Rattle.hc_abs_view.specs.Seen.{HasOther, In, IsAnswer, MayAgree}

pub bytes_same : (x : List ℕ) → bytes_eq x x ≡ true
bytes_same x = (bytes_eq-Decides x x).1 refl

not_false : (v : Bool) → not v ≡ true → v ≡ false
not_false true is = absurd (true≢false (sym is))
not_false false is = refl

-- ---- members

member_in : (set : Automaton) (x : List ℕ) → IsText x → accepts set x ≡ true → In (set_in set) x
member_in set x text is = and_both (text_is x text) is

in_text : (set : Automaton) (x : List ℕ) → In (set_in set) x → IsText x
in_text set x is = is_text x (and_left _ (accepts set x) is)

in_accepts : (set : Automaton) (x : List ℕ) → In (set_in set) x → accepts set x ≡ true
in_accepts set x is = and_right _ (accepts set x) is

module _ (one other both : Automaton) (is : Accepts both (product_of Both one other)) where
  pub some_equal : (text : List ℕ) → IsLeast (accepts both) text → MayAgree (In (set_in one)) (In (set_in other)) true
  some_equal text least =
      let member = sym (is text least.bytes) ∙ least.member in (
        text,
        text,
        member_in one text least.bytes (and_left (accepts one text) (accepts other text) member),
        member_in other text least.bytes (and_right (accepts one text) (accepts other text) member),
        bytes_same text,
      )

  pub none_equal : IsEmptySet (accepts both) → MayAgree (In (set_in one)) (In (set_in other)) true → ⊥
  none_equal empty agree =
      let x = agree.0 in
      let text = in_text one x agree.2 in
      let same : agree.1 ≡ x = sym ((bytes_eq-Decides x agree.1).0 agree.4) in
      true≢false (sym (and_both (in_accepts one x agree.2)
      (in_accepts other x (subst (In (set_in other)) same agree.3))) ∙ sym (is x text) ∙ empty x text)

module _ (set own others : Automaton) (text : List ℕ) (is_own : Accepts own (single text))
    (is : Accepts others (product_of FirstOnly set own)) where
  pub some_other : (x : List ℕ) → IsLeast (accepts others) x → HasOther (set_in set) text
  some_other x least =
      let member = sym (is x least.bytes) ∙ least.member in (
        x,
        member_in set x least.bytes (and_left (accepts set x) (not (accepts own x)) member),
        sym (is_own x least.bytes) ∙ not_false (accepts own x) (and_right (accepts set x) (not (accepts own x)) member),
      )

  pub no_other : IsEmptySet (accepts others) → HasOther (set_in set) text → ⊥
  no_other empty other =
      let bytes = in_text set other.0 other.1 in
      true≢false (sym (and_both (in_accepts set other.0 other.1)
      (ap not (is_own other.0 bytes ∙ other.2))) ∙ sym (is other.0 bytes) ∙ empty other.0 bytes)

-- ---- different members

pub least_none : (set : TextSet) (found : Option (List ℕ)) → ((text : List ℕ) → found ≡ Some text → ⊥)
    → IsLeastOf set found → IsEmptySet set
least_none set None none is = is
least_none set (Some text) none is = absurd (none text refl)

module _ (one other : Automaton) where
  abbrev Differ : Type 0
  Differ = MayAgree (In (set_in one)) (In (set_in other)) false

  pub none_first : IsEmptySet (accepts one) → Differ → ⊥
  none_first empty differ =
      true≢false (sym (in_accepts one differ.0 differ.2) ∙ empty differ.0 (in_text one differ.0 differ.2))

  pub none_second : IsEmptySet (accepts other) → Differ → ⊥
  none_second empty differ =
      true≢false (sym (in_accepts other differ.1 differ.3) ∙ empty differ.1 (in_text other differ.1 differ.3))

  least_in : (set : Automaton) (text : List ℕ) → IsLeast (accepts set) text → In (set_in set) text
  least_in set text least = member_in set text least.bytes least.member

  pub first_other : (second : List ℕ) → IsLeast (accepts other) second → HasOther (set_in one) second → Differ
  first_other second least has = (has.0, second, has.1, least_in other second least, has.2)

  apart_back : (x y : List ℕ) → bytes_eq x y ≡ false → bytes_eq y x ≡ false
  apart_back x y is = by (bytes_eq y x) refl
    where
      by : (v : Bool) → bytes_eq y x ≡ v → v ≡ false
      by true same =
          absurd (true≢false (sym ((bytes_eq-Decides x y).1 (sym ((bytes_eq-Decides y x).0 same))) ∙ is))
      by false same = refl

  pub second_other : (first : List ℕ) → IsLeast (accepts one) first → HasOther (set_in other) first → Differ
  second_other first least has = (first, has.0, least_in one first least, has.1, apart_back has.0 first has.2)

  the_same : (set : Automaton) (text x : List ℕ) → (HasOther (set_in set) text → ⊥) → In (set_in set) x → x ≡ text
  the_same set text x none is = by (bytes_eq x text) refl
    where
      by : (v : Bool) → bytes_eq x text ≡ v → x ≡ text
      by true same = (bytes_eq-Decides x text).0 same
      by false apart = absurd (none (x, is, apart))

  pub no_others : (first second : List ℕ) → IsLeast (accepts one) first → (HasOther (set_in one) second → ⊥)
      → (HasOther (set_in other) first → ⊥) → Differ → ⊥
  no_others first second least none_one none_other differ =
      let of_first = the_same one second first none_one (least_in one first least) in
      let x = the_same one second differ.0 none_one differ.2 in
      let y = the_same other first differ.1 none_other differ.3 in
      true≢false (sym (bytes_same first) ∙ ap (λ x. bytes_eq x first) (of_first ∙ sym x)
      ∙ ap (bytes_eq differ.0) (sym y) ∙ differ.4)

-- ---- what elements may be

pub agree_by : (one other : Automaton) (P Q : List ℕ → Type 0) (is answer : Bool) → IsSetOf (set_in one) P
    → IsSetOf (set_in other) Q → IsAnswer (MayAgree (In (set_in one)) (In (set_in other)) is) answer
    → IsAnswer (MayAgree P Q is) answer
agree_by one other P Q is true are_one are_other agree =
    (agree.0, agree.1, (are_one agree.0).0 agree.2, (are_other agree.1).0 agree.3, agree.4)
agree_by one other P Q is false are_one are_other none = λ agree.
    none (agree.0, agree.1, (are_one agree.0).1 agree.2, (are_other agree.1).1 agree.3, agree.4)
