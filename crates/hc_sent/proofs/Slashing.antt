-- Texts with a slash in front where they have none.
use Rattle.std.proofs.Common.{◌≡◌, ℕ, inl, inr, List, [], ◌∷◌, Bool, true, false, not, ◌&&◌, ◌||◌, if◌then◌else◌}
use Rattle.std.proofs.Common.{nat_eq, eqb-true, refl, sym, ◌∙◌, ap, subst, codes}
use Rattle.std.proofs.lemmas.Bool.{and_from, and_parts, not-true, not_from_false, or_cases, or_left, or_right}
use Rattle.hc_base.specs.Bytes.{slash}
use Rattle.hc_base.specs.Paths.{begins_with_slash}
use Rattle.hc_dfa.specs.Automata.{Automaton, accepts}
use Rattle.hc_dfa.specs.Built.{Accepts, product_of}
use Rattle.hc_dfa.specs.Fronts.{behind_text}
use Rattle.hc_dfa.specs.Texts.{IsText}
use Rattle.hc_dfa.specs.declared.products.Keep.TheVariants.{Both, Either, FirstOnly}
use Rattle.hc_follow.specs.Next.{slashed}
use Rattle.hc_pat_lang.specs.Sets.{AcceptsOnly}
use Rattle.hc_rw_sets.specs.Made.{MadeOf}

module _ (set absolute paths others behind made : Automaton)
    (of_absolute : Accepts absolute begins_with_slash)
    (of_paths : Accepts paths (product_of Both set absolute))
    (of_others : Accepts others (product_of FirstOnly set absolute))
    (of_behind : Accepts behind (behind_text (codes "/") (accepts others)))
    (of_made : Accepts made (product_of Either paths behind)) where
  path_is : (text : List ℕ) → IsText text → accepts paths text ≡ (accepts set text && begins_with_slash text)
  path_is text bytes = of_paths text bytes ∙ ap (λ v. accepts set text && v) (of_absolute text bytes)

  other_is : (text : List ℕ) → IsText text → accepts others text ≡ (accepts set text && not (begins_with_slash text))
  other_is text bytes = of_others text bytes ∙ ap (λ v. accepts set text && not v) (of_absolute text bytes)

  from_path : (text : List ℕ) → IsText text → accepts paths text ≡ true → MadeOf slashed (accepts set) text
  from_path text bytes is =
      let parts = and_parts (accepts set text) _ (sym (path_is text bytes) ∙ is) in
      (text, bytes, parts.0, ap (λ v. if v then text else slash ∷ text) (sym parts.1))

  from_other : (text : List ℕ) → IsText text → behind_text (codes "/") (accepts others) text ≡ true
      → MadeOf slashed (accepts set) text
  from_other [] bytes is = absurd (cc)
  from_other (b ∷ text) bytes is =
      let first = and_parts (nat_eq b slash) (accepts others text) is in
      let parts = and_parts (accepts set text) _ (sym (other_is text bytes.1) ∙ first.1) in (
        text,
        bytes.1,
        parts.0,
        ap (λ b. b ∷ text) (eqb-true b slash first.0)
            ∙ ap (λ v. if v then text else slash ∷ text) (sym (not-true _ parts.1)),
      )

  to_made : (text own : List ℕ) → IsText text → IsText own → accepts set own ≡ true → text ≡ slashed own
      → accepts made text ≡ true
  to_made text own bytes own_bytes in_set is = of_made text bytes ∙ by (begins_with_slash own) refl is
    where
      by : (v : Bool) → begins_with_slash own ≡ v → text ≡ (if v then own else slash ∷ own)
          → (accepts paths text || accepts behind text) ≡ true
      by true begins is =
          or_left (accepts paths text) (accepts behind text)
          (subst (λ text. accepts paths text ≡ true) (sym is)
          (path_is own own_bytes ∙ and_from _ _ in_set begins))
      by false begins is =
          or_right (accepts paths text) (accepts behind text)
          (of_behind text bytes
          ∙ subst (λ text. behind_text (codes "/") (accepts others) text ≡ true) (sym is)
          (other_is own own_bytes ∙ and_from _ _ in_set (not_from_false _ begins)))

  pub slashed_accept : AcceptsOnly (MadeOf slashed (accepts set)) made
  slashed_accept text bytes = (
    (λ accepted.
        elim (or_cases (accepts paths text) (accepts behind text) (sym (of_made text bytes) ∙ accepted)) [
          | inl path ↦ from_path text bytes path
          | inr other ↦ from_other text bytes (sym (of_behind text bytes) ∙ other)
        ]),
    (λ is. to_made text is.0 bytes is.1 is.2 is.3),
  )
