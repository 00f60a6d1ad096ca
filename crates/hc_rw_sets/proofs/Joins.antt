-- Automata of what is made of sets, by those that they are made of.
use Rattle.hc_rw_sets.proofs.Common.{◌≡◌, ℕ, ◌⊎◌, ◌↔◌, List, [], ◌∷◌, ◌++◌}
use Rattle.hc_rw_sets.proofs.Common.{not, refl, sym, ◌∙◌, ap, subst, inl, inr, ⊎_elim, IsTrue}
use Rattle.hc_rw_sets.proofs.Common.{Automaton, accepts, Accepts, AcceptsOnly, IsJoined, IsText, TextSet, MadeOf}
use Rattle.hc_rw_sets.proofs.Common.{product_of}
use Rattle.std.proofs.lemmas.Bool.{and_from, and_parts, both_ways, false_from_ne_true, not-true, not_from_false}
use Rattle.std.proofs.lemmas.Bool.{or_cases, or_left, or_right}
use Rattle.std.specs.Cmp.Lexicographic.{bytes_decides}
use Rattle.hc_dfa.specs.Singles.{single}
use Rattle.hc_dfa.specs.declared.products.Keep.TheVariants.{Both, Either, FirstOnly}

pub text_parts : (front back : List ℕ) → IsText (front ++ back) → IsText front × IsText back
text_parts [] back bytes = (tt, bytes)
text_parts (byte ∷ front) back bytes =
    let parts = text_parts front back bytes.1 in ((bytes.0, parts.0), parts.1)

pub joined_text : (front back : List ℕ) → IsText front → IsText back → IsText (front ++ back)
joined_text [] back first second = second
joined_text (byte ∷ front) back first second = (first.0, joined_text front back first.1 second)

-- The same sets, and what is made the same of each text.
pub same_set : (P Q : List ℕ → Type 0) (a : Automaton) → ((text : List ℕ) → IsText text → P text ↔ Q text)
    → AcceptsOnly P a → AcceptsOnly Q a
same_set P Q a same only text bytes =
    let is = only text bytes in
    let are = same text bytes in
    ((λ accepted. are.0 (is.0 accepted)), (λ held. is.1 (are.1 held)))

pub made_alike : (f g : List ℕ → List ℕ) (set : TextSet) (a : Automaton)
    → ((text : List ℕ) → f text ≡ g text)
    → AcceptsOnly (MadeOf f set) a → AcceptsOnly (MadeOf g set) a
made_alike f g set a alike = same_set _ _ a (λ text bytes. (
  (λ is. (is.0, is.1, is.2, is.3 ∙ alike is.0)),
  (λ is. (is.0, is.1, is.2, is.3 ∙ sym (alike is.0))),
))

pub either_set : (P Q : List ℕ → Type 0) (a b made : Automaton) → AcceptsOnly P a → AcceptsOnly Q b
    → Accepts made (product_of Either a b) → AcceptsOnly (λ text. P text ⊎ Q text) made
either_set P Q a b made first second both text bytes =
    let x = accepts a text in
    let y = accepts b text in
    let one = first text bytes in
    let other = second text bytes in
    let e = both text bytes in (
      (λ accepted. ⊎_elim (λ is. inl (one.0 is)) (λ is. inr (other.0 is)) (or_cases x y (sym e ∙ accepted))),
      (λ held. e ∙ ⊎_elim (λ is. or_left x y (one.1 is)) (λ is. or_right x y (other.1 is)) held),
    )

-- The texts of the first that are not ones of the second.
pub except_set : (P : List ℕ → Type 0) (a b made : Automaton) → AcceptsOnly P b
    → Accepts made (product_of FirstOnly a b)
    → AcceptsOnly (λ text. IsTrue (accepts a text) × (P text → ⊥)) made
except_set P a b made second both text bytes =
    let x = accepts a text in
    let y = accepts b text in
    let other = second text bytes in
    let e = both text bytes in (
      (λ accepted.
          let parts = and_parts x (not y) (sym e ∙ accepted) in
          (parts.0, λ is. both_ways y (not-true y parts.1) (other.1 is))),
      (λ held.
          e ∙ and_from x (not y) held.0 (not_from_false y (false_from_ne_true y (λ is. held.1 (other.0 is))))),
    )

pub both_set : (P : List ℕ → Type 0) (a b made : Automaton) → AcceptsOnly P b
    → Accepts made (product_of Both a b) → AcceptsOnly (λ text. IsTrue (accepts a text) × P text) made
both_set P a b made second both text bytes =
    let x = accepts a text in
    let y = accepts b text in
    let other = second text bytes in
    let e = both text bytes in (
      (λ accepted. let parts = and_parts x y (sym e ∙ accepted) in (parts.0, other.0 parts.1)),
      (λ held. e ∙ and_from x y held.0 (other.1 held.1)),
    )

pub single_set : (text : List ℕ) (made : Automaton) → Accepts made (single text)
    → AcceptsOnly (λ other. other ≡ text) made
single_set text made is other bytes =
    let e = is other bytes in
    let same = bytes_decides other text in
    ((λ accepted. same.0 (sym e ∙ accepted)), (λ is. e ∙ same.1 is))

pub behind_text : (front : List ℕ) (only set made : Automaton) → Accepts only (single front)
    → AcceptsOnly (IsJoined (accepts only) (accepts set)) made
    → AcceptsOnly (MadeOf (λ text. front ++ text) (accepts set)) made
behind_text front only set made is_front joined =
    same_set _ _ made (λ text bytes. (
      (λ is.
          let parts = text_parts is.front is.back (subst IsText (sym is.joined) bytes) in
          let same = (single_set front only is_front is.front parts.0).0 is.begins in
          (is.back, parts.1, is.goes_on, sym is.joined ∙ ap (λ front. front ++ is.back) same)),
      (λ is.
          let own = (text_parts front is.0 (subst IsText is.3 bytes)).0 in
          record {
            front = front;
            back = is.0;
            begins = (single_set front only is_front front own).1 refl;
            goes_on = is.2;
            joined = sym is.3;
          }),
    )) joined
