-- The sets that the parts of a location have.
use Rattle.std.proofs.Common.{◌≡◌, ◌∙◌, ℕ, ◌+◌, ◌↔◌, ◌⊎◌, List, [], ◌∷◌, ◌++◌, map, Bool, true, false, not}
use Rattle.std.proofs.Common.{refl, sym, subst, inl, inr, IsTrue, take}
use Rattle.std.proofs.lemmas.Bool.{and_from, and_parts, not-true, not_from_false}
use Rattle.std.specs.Cmp.Lexicographic.{bytes_decides}
use Rattle.std.specs.List.{list_any}
use Rattle.hc_alias.specs.Locations.{absolute}
use Rattle.hc_base.specs.Bytes.{is_question}
use Rattle.hc_base.specs.Paths.{begins_with_slash}
use Rattle.hc_dfa.specs.Automata.{Automaton, accepts}
use Rattle.hc_dfa.specs.Built.{Accepts, product_of}
use Rattle.hc_dfa.specs.Singles.{single}
use Rattle.hc_dfa.specs.Texts.{IsText, TextSet}
use Rattle.hc_dfa.specs.declared.products.Keep.TheVariants.{Both, Either, FirstOnly}
use Rattle.hc_model.specs.declared.mapping.PathTest.{PathTest}
use Rattle.hc_model.specs.declared.mapping.Redirect.{Redirect}
use Rattle.hc_model.specs.declared.request.Caller.{Caller}
use Rattle.hc_model.specs.declared.template.Piece.{Piece}
use Rattle.hc_pat_lang.specs.Sets.{AcceptsOnly, AreJoined}
use Rattle.hc_rw_sets.proofs.Joins.{either_set, text_parts}
use Rattle.hc_rw_sets.specs.Made.{MadeOf}
use Rattle.hc_sent.proofs.Joining.{zip_push}
use Rattle.hc_sent.specs.Making.{AreBytes, Asks, IsTarget, MayBe, MayFill, is_of_bytes}
use Rattle.hc_sent.specs.Targets.{AreSetsOf, IsIfSome, MayAskBehind, fronted}

-- ---- a text alone

-- The set of one text has it, and no other.
pub sole : (own : List ℕ) (made : Automaton) → Accepts made (single own) → AcceptsOnly (λ text. text ≡ own) made
sole own made is text bytes = (
  (λ accepted. (bytes_decides text own).0 (sym (is text bytes) ∙ accepted)),
  (λ same. is text bytes ∙ (bytes_decides text own).1 same),
)

-- A copy of a set.
pub same_member : (set made : Automaton) → made ≡ set → AcceptsOnly (λ text. IsTrue (accepts set text)) made
same_member set made same =
    subst (AcceptsOnly (λ text. IsTrue (accepts set text))) (sym same) (λ text bytes. ((λ is. is), (λ is. is)))

-- ---- the pieces of a target

module _ (paths : TextSet) (from : PathTest) where
  pub sets_more : (pieces : List Piece) (at : ℕ) (piece : Piece) (sets : List Automaton) (set : Automaton)
      (more : List Automaton) → take (at + 1) pieces ≡ take at pieces ++ piece ∷ [] → more ≡ sets ++ set ∷ []
      → AreSetsOf paths from (take at pieces) sets → AcceptsOnly (MayBe paths from piece) set × is_of_bytes piece
      → AreSetsOf paths from (take (at + 1) pieces) more
  sets_more pieces at piece sets set more fronts ends are is =
      subst (AreSetsOf paths from (take (at + 1) pieces)) (sym ends)
      (subst (λ front. AreSetsOf paths from front (sets ++ set ∷ [])) (sym fronts)
      (zip_push _ (take at pieces) sets piece set are is))

  pub filled_same : (pieces : List Piece) (sets : List Automaton) → AreSetsOf paths from pieces sets → (text : List ℕ)
      → IsText text → AreJoined (map accepts sets) text ↔ MayFill paths from pieces text
  filled_same [] [] are text bytes = ((λ is. is), (λ is. is))
  filled_same [] (set ∷ sets) are text bytes = absurd are
  filled_same (piece ∷ pieces) [] are text bytes = absurd are
  filled_same (piece ∷ pieces) (set ∷ sets) are text bytes = (
    (λ is.
        let cut = text_parts is.0 is.1 (subst IsText is.2 bytes) in (
          is.0,
          is.1,
          is.2,
          (are.0.0 is.0 cut.0).0 is.3,
          (filled_same pieces sets are.1 is.1 cut.1).0 is.4,
        )),
    (λ is.
        let cut = text_parts is.0 is.1 (subst IsText is.2 bytes) in (
          is.0,
          is.1,
          is.2,
          (are.0.0 is.0 cut.0).1 is.3,
          (filled_same pieces sets are.1 is.1 cut.1).1 is.4,
        )),
  )

  all_bytes : (pieces : List Piece) (sets : List Automaton) → AreSetsOf paths from pieces sets → AreBytes pieces
  all_bytes [] sets are = tt
  all_bytes (piece ∷ pieces) [] are = absurd are
  all_bytes (piece ∷ pieces) (set ∷ sets) are = (are.0.1, all_bytes pieces sets are.1)

  pub all_filled : (pieces : List Piece) (sets : List Automaton) (made : Automaton) → AreSetsOf paths from pieces sets
      → AcceptsOnly (AreJoined (map accepts sets)) made
      → AcceptsOnly (MayFill paths from pieces) made × AreBytes pieces
  all_filled pieces sets made are is = (
    (λ text bytes.
        let same = filled_same pieces sets are text bytes in
        let only = is text bytes in
        ((λ accepted. same.0 (only.0 accepted)), (λ fills. only.1 (same.1 fills)))),
    all_bytes pieces sets are,
  )

-- ---- targets with an origin

module _ (origin : List ℕ) (filled slashed paths others own made : Automaton)
    (of_slash : Accepts slashed begins_with_slash) (both : Accepts paths (product_of Both filled slashed))
    (first : Accepts others (product_of FirstOnly filled slashed))
    (front : AcceptsOnly (MadeOf (λ text. origin ++ text) (accepts paths)) own)
    (either : Accepts made (product_of Either own others)) where
  absolute_to : (text : List ℕ) → IsText text
      → MadeOf (λ text. origin ++ text) (accepts paths) text ⊎ IsTrue (accepts others text)
      → MadeOf (fronted origin) (accepts filled) text
  absolute_to text bytes (inl is) =
      let parts = and_parts (accepts filled is.0) (accepts slashed is.0) (sym (both is.0 is.1) ∙ is.2) in
      let slash : begins_with_slash is.0 ≡ true = sym (of_slash is.0 is.1) ∙ parts.1 in
      (is.0, is.1, parts.0, is.3 ∙ rw slash refl)
  absolute_to text bytes (inr is) =
      let parts = and_parts (accepts filled text) (not (accepts slashed text)) (sym (first text bytes) ∙ is) in
      let none : begins_with_slash text ≡ false = sym (of_slash text bytes) ∙ not-true (accepts slashed text) parts.1 in
      (text, bytes, parts.0, rw none refl)

  absolute_from : (text : List ℕ) → IsText text → MadeOf (fronted origin) (accepts filled) text
      → MadeOf (λ text. origin ++ text) (accepts paths) text ⊎ IsTrue (accepts others text)
  absolute_from text bytes is = by (begins_with_slash is.0) refl
    where
      by : (slash : Bool) → begins_with_slash is.0 ≡ slash
          → MadeOf (λ text. origin ++ text) (accepts paths) text ⊎ IsTrue (accepts others text)
      by true slash = inl
          (is.0, is.1, both is.0 is.1 ∙ and_from _ _ is.2 (of_slash is.0 is.1 ∙ slash), is.3 ∙ rw slash refl)
      by false none =
          let same : text ≡ is.0 = is.3 ∙ rw none refl in
          inr (subst (λ own. IsTrue (accepts others own)) (sym same)
          (first is.0 is.1 ∙ and_from _ _ is.2 (not_from_false (accepts slashed is.0) (of_slash is.0 is.1 ∙ none))))

  pub absolute_set : AcceptsOnly (MadeOf (fronted origin) (accepts filled)) made
  absolute_set text bytes =
      let is = either_set _ (λ text. IsTrue (accepts others text)) own others made front
      (λ text bytes. ((λ is. is), (λ is. is))) either text bytes in
      ((λ accepted. absolute_to text bytes (is.0 accepted)), (λ held. is.1 (absolute_from text bytes held)))

-- ---- queries

module _ (filled queries asked with without kept none dropped made : Automaton)
    (of_asked : Accepts asked (list_any is_question)) (both : Accepts with (product_of Both filled asked))
    (first : Accepts without (product_of FirstOnly filled asked))
    (keeps : AcceptsOnly (IsIfSome (accepts without) (accepts queries)) kept) (of_none : Accepts none (single []))
    (drops : AcceptsOnly (IsIfSome (accepts with) (accepts none)) dropped)
    (either : Accepts made (product_of Either kept dropped)) where
  asks_to : (text : List ℕ) → IsText text
      → IsIfSome (accepts without) (accepts queries) text ⊎ IsIfSome (accepts with) (accepts none) text
      → MayAskBehind (accepts filled) (accepts queries) text
  asks_to text bytes (inl is) =
      let own = is.0 in
      let parts = and_parts (accepts filled own.0) (not (accepts asked own.0)) (sym (first own.0 own.1) ∙ own.2) in
      (own.0, own.1, parts.0, inl (sym (of_asked own.0 own.1) ∙ not-true (accepts asked own.0) parts.1, is.1))
  asks_to text bytes (inr is) =
      let own = is.0 in
      let parts = and_parts (accepts filled own.0) (accepts asked own.0) (sym (both own.0 own.1) ∙ own.2) in
      (own.0, own.1, parts.0, inr (sym (of_asked own.0 own.1) ∙ parts.1, (sole [] none of_none text bytes).0 is.1))

  asks_from : (text : List ℕ) → IsText text → MayAskBehind (accepts filled) (accepts queries) text
      → IsIfSome (accepts without) (accepts queries) text ⊎ IsIfSome (accepts with) (accepts none) text
  asks_from text bytes (own, own_bytes, is, inl (lacks, asks)) = inl (
    (
      own,
      own_bytes,
      first own own_bytes ∙ and_from _ _ is (not_from_false (accepts asked own) (of_asked own own_bytes ∙ lacks)),
    ),
    asks,
  )
  asks_from text bytes (own, own_bytes, is, inr (some, empty)) = inr (
    (own, own_bytes, both own own_bytes ∙ and_from _ _ is (of_asked own own_bytes ∙ some)),
    (sole [] none of_none text bytes).1 empty,
  )

  pub asks_set : AcceptsOnly (MayAskBehind (accepts filled) (accepts queries)) made
  asks_set text bytes =
      let is = either_set _ _ kept dropped made keeps drops either text bytes in
      ((λ accepted. asks_to text bytes (is.0 accepted)), (λ held. is.1 (asks_from text bytes held)))

-- ---- the parts of a redirect

-- The same of texts that are filled in.
pub target_is : (caller : Caller) (redirect : Redirect) (paths : TextSet) (filled made : Automaton)
    → AcceptsOnly (MayFill paths redirect.from redirect.to) filled
    → AcceptsOnly (MadeOf (absolute caller) (accepts filled)) made → AcceptsOnly (IsTarget paths caller redirect) made
target_is caller redirect paths filled made fills is text bytes = (
  (λ accepted. let own = (is text bytes).0 accepted in (own.0, own.1, (fills own.0 own.1).0 own.2, own.3)),
  (λ own. (is text bytes).1 (own.0, own.1, (fills own.0 own.1).1 own.2, own.3)),
)

pub asks_are : (redirect : Redirect) (paths queries : TextSet) (filled made : Automaton)
    → AcceptsOnly (MayFill paths redirect.from redirect.to) filled
    → AcceptsOnly (MayAskBehind (accepts filled) queries) made → AcceptsOnly (Asks paths redirect queries) made
asks_are redirect paths queries filled made fills is text bytes = (
  (λ accepted. let own = (is text bytes).0 accepted in (own.0, own.1, (fills own.0 own.1).0 own.2, own.3)),
  (λ own. (is text bytes).1 (own.0, own.1, (fills own.0 own.1).1 own.2, own.3)),
)
