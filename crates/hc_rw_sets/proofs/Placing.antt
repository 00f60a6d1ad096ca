-- Texts with another front.
use Rattle.hc_rw_sets.proofs.Common.{◌≡◌, ℕ, ◌⊎◌, ◌↔◌, List, [], ◌∷◌, ◌++◌, length, drop}
use Rattle.hc_rw_sets.proofs.Common.{Bool, true, false}
use Rattle.hc_rw_sets.proofs.Common.{◌<◌, append-nil, suc, not, slice_index, Some, None, append_assoc}
use Rattle.hc_rw_sets.proofs.Common.{eqb-true}
use Rattle.hc_rw_sets.proofs.Common.{if◌then◌else◌, nat_eq, refl, sym, ◌∙◌, ap, subst, inl, inr, IsTrue}
use Rattle.hc_rw_sets.proofs.Common.{Automaton, accepts, Accepts, AcceptsOnly, IsText, MadeOf, product_of}
use Rattle.hc_rw_sets.proofs.Joins.{either_set, except_set, same_set, text_parts, joined_text}
use Rattle.std.proofs.lemmas.Bool.{false_from_ne_true, true≢false}
use Rattle.std.proofs.lemmas.Bool.Decides.{Decides-eqb}
use Rattle.std.proofs.lemmas.Slice.Eq.{starts_is}
use Rattle.std.proofs.Math.Seq.{drop-append_seam}
use Rattle.std.specs.Cmp.{both_ways}
use Rattle.std.specs.List.{starts_with}
use Rattle.hc_base.specs.Bytes.{slash}
use Rattle.hc_base.specs.Paths.{begins_with_slash}
use Rattle.hc_dfa.specs.Built.{complement_of}
use Rattle.hc_dfa.specs.Singles.{is_among}
use Rattle.hc_rw_eval.specs.Directories.{behind_base, in_base, with_slash, without_root}
use Rattle.hc_dfa.specs.Placings.{between}
use Rattle.hc_dfa.specs.declared.products.Keep.TheVariants.{Either, FirstOnly}
use Rattle.hc_rw_sets.specs.Joins.{with_front}

module _ (from to : List ℕ) where
  abbrev Begins : List ℕ → Type 0
  Begins text = (rest : List ℕ) × (text ≡ from ++ rest)

  tells : (text : List ℕ) → (starts_with nat_eq text from ≡ true) ↔ Begins text
  tells text =
      let is = starts_is Decides-eqb text from _ refl in
      ((λ held. (_, is.0 held)), (λ begins. is.1 begins.0 begins.1))

  begins_or_not : (text : List ℕ) → Begins text ⊎ (Begins text → ⊥)
  begins_or_not text = by _ refl
    where
      by : (begins : Bool) → starts_with nat_eq text from ≡ begins → Begins text ⊎ (Begins text → ⊥)
      by true is = inl ((tells text).0 is)
      by false is = inr (λ begins. true≢false (sym ((tells text).1 begins) ∙ is))

  fronted : (rest : List ℕ) → with_front from to (from ++ rest) ≡ to ++ rest
  fronted rest =
      rw ((tells (from ++ rest)).1 (rest, refl)) (ap (λ rest. to ++ rest) (drop-append_seam from rest))

  left : (text : List ℕ) → (Begins text → ⊥) → with_front from to text ≡ text
  left text other =
      rw (false_from_ne_true (starts_with nat_eq text from) (λ held. other ((tells text).0 held))) refl

  module _ (front_bytes : IsText from) (set rest own others placed made : Automaton)
      (rest_is : Accepts rest (between from 0 [] (accepts set)))
      (own_is : AcceptsOnly (MadeOf (λ text. from ++ text) (accepts rest)) own)
      (others_is : Accepts others (product_of FirstOnly set own))
      (placed_is : AcceptsOnly (MadeOf (λ text. to ++ text) (accepts rest)) placed)
      (made_is : Accepts made (product_of Either placed others)) where
    behind : (text : List ℕ) → IsText text → accepts rest text ≡ accepts set (from ++ text)
    behind text bytes = rest_is text bytes ∙ ap (λ text. accepts set (from ++ text)) (append-nil text)

    -- What is left of a text of the set behind the front is accepted.
    rest_in : (text : List ℕ) → IsText text → IsTrue (accepts set text) → (begins : Begins text)
        → IsText begins.0 × IsTrue (accepts rest begins.0)
    rest_in text bytes member begins =
        let parts = text_parts from begins.0 (subst IsText begins.1 bytes) in
        (parts.1, behind begins.0 parts.1 ∙ subst (λ t. accepts set t ≡ true) begins.1 member)

    back : (original text : List ℕ) → IsText original → IsTrue (accepts set original)
        → text ≡ with_front from to original → Begins original ⊎ (Begins original → ⊥)
        → MadeOf (λ text. to ++ text) (accepts rest) text
        ⊎ (IsTrue (accepts set text) × (MadeOf (λ text. from ++ text) (accepts rest) text → ⊥))
    back original text bytes member is (inl begins) =
        let there = rest_in original bytes member begins in
        inl (begins.0, there.0, there.1, is ∙ ap (with_front from to) begins.1 ∙ fronted begins.0)
    back original text bytes member is (inr other) =
        let same : text ≡ original = is ∙ left original other in
        inr (rw same member, λ begins. other (begins.0, sym same ∙ begins.3))

    pub with_fronts_accept : AcceptsOnly (MadeOf (with_front from to) (accepts set)) made
    with_fronts_accept =
        same_set _ _ made (λ text bytes. (
          (λ is.
              elim is [
                | inl begins ↦ (
                  from ++ begins.0,
                  joined_text from begins.0 front_bytes begins.1,
                  sym (behind begins.0 begins.1) ∙ begins.2,
                  begins.3 ∙ sym (fronted begins.0),
                )
                | inr other ↦ (
                  text,
                  bytes,
                  other.0,
                  sym (left text (λ begins.
                      let there = rest_in text bytes other.0 begins in
                      other.1 (begins.0, there.0, there.1, begins.1))),
                )
              ]),
          (λ is. back is.0 text is.1 is.2 is.3 (begins_or_not is.0)),
        )) (either_set _ _ placed others made placed_is (except_set _ set own others own_is others_is) made_is)

-- ---- paths

pub root_off : (root text : List ℕ) → with_front (root ++ slash ∷ []) (slash ∷ []) text
    ≡ without_root (Some root) text
root_off root text = by _ refl
  where
    by : (begins : Bool) → starts_with nat_eq text (root ++ slash ∷ []) ≡ begins
        → (if begins then slash ∷ drop (length (root ++ slash ∷ [])) text else text)
        ≡ (if begins then drop (length root) text else text)
    by true is =
        let rest = drop (length (root ++ slash ∷ [])) text in
        let whole : text ≡ root ++ slash ∷ rest =
        (starts_is Decides-eqb text (root ++ slash ∷ []) _ refl).0 is ∙ append_assoc root (slash ∷ []) rest in
        sym (ap (drop (length root)) whole ∙ drop-append_seam root (slash ∷ rest))
    by false is = refl

pub based : (base dir text : List ℕ) → with_front (with_slash dir) (with_slash base) text ≡ in_base base dir text
based base dir text = by (starts_with nat_eq text (with_slash dir))
  where
    by : (begins : Bool)
        → (if begins then with_slash base ++ drop (length (with_slash dir)) text else text)
        ≡ behind_base base (if begins then Some (drop (length (with_slash dir)) text) else None) text
    by true = refl
    by false = refl

-- ---- the texts that begin with a slash

begins : (all : Automaton) → ((text : List ℕ) → IsText text → accepts all text ≡ true) → (text : List ℕ)
    → IsText text → begins_with_slash text ≡ true → MadeOf (λ text. slash ∷ text) (accepts all) text
begins all every [] bytes is = absurd (cc)
begins all every (b ∷ rest) bytes is =
    (rest, bytes.1, every rest bytes.1, ap (λ b. b ∷ rest) (eqb-true b slash is))

pub absolute_accept : (nothing all made : Automaton) → Accepts nothing (is_among [])
    → Accepts all (complement_of nothing)
    → AcceptsOnly (MadeOf (λ text. slash ∷ text) (accepts all)) made → Accepts made begins_with_slash
absolute_accept nothing all made none every only text bytes =
    let is = only text bytes in
    both_ways _ _
    (λ accepted. ap begins_with_slash (is.0 accepted).3)
    (λ held. is.1 (begins all (λ text bytes. every text bytes ∙ ap not (none text bytes)) text bytes held))

pub bytes_text : (text : List ℕ) → ((k : ℕ) → slice_index text k < 256) → IsText text
bytes_text [] fits = tt
bytes_text (b ∷ text) fits = (fits 0, bytes_text text (λ k. fits (suc k)))
