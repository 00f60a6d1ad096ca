-- Texts without marks.
use Rattle.hc_pat_lang.proofs.Common.{◌≡◌, ℕ, zero, suc, ◌↔◌, List, [], ◌∷◌, slice_get, refl, sym}
use Rattle.hc_pat_lang.proofs.Common.{◌∙◌, IsText, Pattern, Way, Turns, all_ways, IsFound, part_ways, seen}
use Rattle.hc_pat_lang.proofs.Common.{Outside}
use Rattle.hc_pat_lang.proofs.Looking.{Finds}
use Rattle.hc_pat_lang.proofs.Parts.{exists_among, among_exists}
use Rattle.hc_pat_lang.proofs.Seeing.{sees_part}
use Rattle.hc_pat_lang.proofs.Serving.{sees_plain}

-- All is seen as it stands.
plain_text : (text : List ℕ) → IsText text → (k : ℕ) → seen Outside text k ≡ slice_get text k
plain_text [] bytes k = refl
plain_text (b ∷ bs) bytes zero = sees_plain b bytes.0
plain_text (b ∷ bs) bytes (suc k) = plain_text bs bytes.1 k

pub finds_plain : (pattern : Pattern) (text : List ℕ) → IsText text
    → Finds (λ other. part_ways Outside other pattern) text ↔ IsFound pattern text
finds_plain pattern text bytes =
    let plain = plain_text text bytes in
    let sees = sees_part Outside text text refl (λ k b is. sym (plain k) ∙ is) pattern in (
      (λ finds.
          let some = exists_among _ (all_ways text pattern finds.from [])
          (sees.to finds.from [] [] (λ end. Unit {0}) finds.within (λ x among. refl)
          (among_exists (λ (way : Way Turns). Unit {0}) _ finds.way finds.among tt)) in
          record { from = finds.from; within = finds.within; way = some.0; among = some.1 }),
      (λ is.
          let some = exists_among _ (part_ways Outside text pattern is.from [])
          (sees.from is.from [] [] (λ end. Unit {0}) is.within
          (among_exists _ _ is.way is.among (((λ k past below. plain k), (λ x among. refl)), tt))) in
          record {
            from = is.from;
            within = is.within;
            before = λ k past below. plain k;
            way = some.0;
            among = some.1;
            after = λ k past below. plain k;
          }),
    )
