-- Queries behind queries.
use Rattle.hc_rw_sets.proofs.Common.{◌≡◌, ◌≢◌, ℕ, suc, ◌==◌, ◌⊎◌, ◌↔◌, List, []}
use Rattle.hc_rw_sets.proofs.Common.{◌∷◌, ◌++◌}
use Rattle.hc_rw_sets.proofs.Common.{length, true, false}
use Rattle.hc_rw_sets.proofs.Common.{refl, sym, ◌∙◌, ap, subst, inl, inr, arith, IsTrue, append-nil, eqb_tells}
use Rattle.hc_rw_sets.proofs.Common.{Automaton, accepts, AcceptsOnly, Accepts, IsJoined, IsText, MadeOf, MadeOfBoth}
use Rattle.hc_rw_sets.proofs.Common.{product_of}
use Rattle.hc_rw_sets.proofs.Joins.{either_set, same_set, text_parts}
use Rattle.hc_base.specs.Bytes.{ampersand}
use Rattle.hc_dfa.specs.declared.products.Keep.TheVariants.{Either}
use Rattle.hc_rw_expand.specs.Queries.{appended}
use Rattle.hc_rw_sets.specs.Joins.{AreBoth}

some : (count : ℕ) → (suc count == 0) ≡ false
some count = elim (eqb_tells (suc count) 0) [
  | inl same ↦ absurd (let is = same.1 in omega arith)
  | inr other ↦ other.0
]

-- One alone, or both.
alone : (new : List ℕ) → appended new [] ≡ new
alone [] = refl
alone (b ∷ new) = rw (some (length new)) refl

both : (new old : List ℕ) → new ≢ [] → old ≢ [] → appended new old ≡ new ++ ampersand ∷ old
both [] old some_new some_old = absurd (some_new refl)
both (b ∷ new) [] some_new some_old = absurd (some_old refl)
both (b ∷ new) (d ∷ old) some_new some_old = rw (some (length new), some (length old)) refl

module _ (new old : Automaton) where
  pub both_accept : (some_new some_old behind made : Automaton)
      → AcceptsOnly (λ text. IsTrue (accepts new text) × (text ≢ [])) some_new
      → AcceptsOnly (λ text. IsTrue (accepts old text) × (text ≢ [])) some_old
      → AcceptsOnly (MadeOf (λ text. ampersand ∷ text) (accepts some_old)) behind
      → AcceptsOnly (IsJoined (accepts some_new) (accepts behind)) made
      → AcceptsOnly (AreBoth (accepts new) (accepts old)) made
  both_accept some_new some_old behind made new_is old_is behind_is =
      same_set _ _ made (λ text bytes. (
        (λ is.
            let parts = text_parts is.front is.back (subst IsText (sym is.joined) bytes) in
            let first = (new_is is.front parts.0).0 is.begins in
            let back = (behind_is is.back parts.1).0 is.goes_on in
            let second = (old_is back.0 back.1).0 back.2 in
            record {
              new = is.front;
              old = back.0;
              new_bytes = parts.0;
              old_bytes = back.1;
              begins = first.0;
              goes_on = second.0;
              some_new = first.1;
              some_old = second.1;
              is = sym is.joined ∙ ap (λ back. is.front ++ back) back.3;
            }),
        (λ is.
            let more : IsText (ampersand ∷ is.old) =
            (text_parts is.new (ampersand ∷ is.old) (subst IsText is.is bytes)).1 in
            record {
              front = is.new;
              back = ampersand ∷ is.old;
              begins = (new_is is.new is.new_bytes).1 (is.begins, is.some_new);
              goes_on = (behind_is (ampersand ∷ is.old) more).1
                  (is.old, is.old_bytes, (old_is is.old is.old_bytes).1 (is.goes_on, is.some_old), refl);
              joined = sym is.is;
            }),
      ))

  -- One query where the other one is empty, or both.
  abbrev Appended : List ℕ → Type 0
  Appended text = ((IsTrue (accepts new []) × IsTrue (accepts old text))
      ⊎ (IsTrue (accepts new text) × IsTrue (accepts old [])))
      ⊎ AreBoth (accepts new) (accepts old) text

  parted : (first second text : List ℕ) → IsText first → IsText second → IsTrue (accepts new first)
      → IsTrue (accepts old second) → text ≡ appended first second → Appended text
  parted [] second text f s in_new in_old is = inl (inl (in_new, rw is in_old))
  parted (b ∷ first) [] text f s in_new in_old is = inl (inr (rw (is ∙ alone (b ∷ first)) in_new, in_old))
  parted (b ∷ first) (d ∷ second) text f s in_new in_old is =
      inr (record {
        new = b ∷ first;
        old = d ∷ second;
        new_bytes = f;
        old_bytes = s;
        begins = in_new;
        goes_on = in_old;
        some_new = λ e. cc;
        some_old = λ e. cc;
        is = is ∙ both (b ∷ first) (d ∷ second) (λ e. cc) (λ e. cc);
      })

  appends : (text : List ℕ) → IsText text → Appended text ↔ MadeOfBoth appended (accepts new) (accepts old) text
  appends text bytes = (
    (λ held.
        elim held [
          | inl one ↦ elim one [
            | inl only ↦ ([], text, tt, bytes, only.0, only.1, refl)
            | inr only ↦ (text, [], bytes, tt, only.0, only.1, sym (alone text))
          ]
          | inr are ↦ (
            are.new,
            are.old,
            are.new_bytes,
            are.old_bytes,
            are.begins,
            are.goes_on,
            are.is ∙ sym (both are.new are.old are.some_new are.some_old),
          )
        ]),
    (λ is. parted is.0 is.1 text is.2 is.3 is.4 is.5 is.6),
  )

  old_alone : (no_new made : Automaton) → AcceptsOnly (λ text. IsTrue (accepts new text) × (text ≡ [])) no_new
      → AcceptsOnly (IsJoined (accepts no_new) (accepts old)) made
      → AcceptsOnly (λ text. IsTrue (accepts new []) × IsTrue (accepts old text)) made
  old_alone no_new made none = same_set _ _ made (λ text bytes. (
    (λ is.
        let parts = text_parts is.front is.back (subst IsText (sym is.joined) bytes) in
        let first = (none is.front parts.0).0 is.begins in
        let same : is.back ≡ text = ap (λ front. front ++ is.back) (sym first.1) ∙ is.joined in
        (subst (λ t. accepts new t ≡ true) first.1 first.0, subst (λ t. accepts old t ≡ true) same is.goes_on)),
    (λ held.
        record {
          front = [];
          back = text;
          begins = (none [] tt).1 (held.0, refl);
          goes_on = held.1;
          joined = refl;
        }),
  ))

  new_alone : (no_old made : Automaton) → AcceptsOnly (λ text. IsTrue (accepts old text) × (text ≡ [])) no_old
      → AcceptsOnly (IsJoined (accepts new) (accepts no_old)) made
      → AcceptsOnly (λ text. IsTrue (accepts new text) × IsTrue (accepts old [])) made
  new_alone no_old made none = same_set _ _ made (λ text bytes. (
    (λ is.
        let parts = text_parts is.front is.back (subst IsText (sym is.joined) bytes) in
        let second = (none is.back parts.1).0 is.goes_on in
        let same : is.front ≡ text =
        sym (append-nil is.front) ∙ ap (λ back. is.front ++ back) (sym second.1) ∙ is.joined in
        (subst (λ t. accepts new t ≡ true) same is.begins, subst (λ t. accepts old t ≡ true) second.1 second.0)),
    (λ held.
        record {
          front = text;
          back = [];
          begins = held.0;
          goes_on = (none [] tt).1 (held.1, refl);
          joined = append-nil text;
        }),
  ))

  pub appended_accept : (no_new only_old no_old only_new either are_both made : Automaton)
      → AcceptsOnly (λ text. IsTrue (accepts new text) × (text ≡ [])) no_new
      → AcceptsOnly (IsJoined (accepts no_new) (accepts old)) only_old
      → AcceptsOnly (λ text. IsTrue (accepts old text) × (text ≡ [])) no_old
      → AcceptsOnly (IsJoined (accepts new) (accepts no_old)) only_new
      → Accepts either (product_of Either only_old only_new)
      → AcceptsOnly (AreBoth (accepts new) (accepts old)) are_both
      → Accepts made (product_of Either either are_both)
      → AcceptsOnly (MadeOfBoth appended (accepts new) (accepts old)) made
  appended_accept no_new only_old no_old only_new either are_both made a b c d e f g =
      same_set Appended _ made appends
      (either_set _ _ either are_both made
      (either_set _ _ only_old only_new either (old_alone no_new only_old a b) (new_alone no_old only_new c d) e) f g)
