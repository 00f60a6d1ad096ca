-- The joined texts of parts.
use Rattle.std.proofs.Common.{◌≡◌, ℕ, ◌↔◌, List, [], ◌∷◌, ◌++◌, map, Bool, true, false, not, ◌&&◌, ◌||◌}
use Rattle.std.proofs.Common.{append_assoc, refl, sym, ◌∙◌, ap, subst, nat_eq, codes}
use Rattle.std.proofs.lemmas.Bool.{not-true, not_from_false}
use Rattle.std.specs.List.{AllZip, list_all, list_any}
use Rattle.hc_base.specs.Bytes.{question}
use Rattle.hc_dfa.specs.Automata.{Automaton, accepts}
use Rattle.hc_dfa.specs.Built.{Accepts, product_of}
use Rattle.hc_dfa.specs.Fronts as fronts
use Rattle.hc_dfa.specs.Singles.{single}
use Rattle.hc_dfa.specs.Texts.{IsText}
use Rattle.hc_dfa.specs.declared.products.Keep.TheVariants.{Either, FirstOnly}
use Rattle.hc_pat_lang.specs.Sets.{AcceptsOnly, AreJoined}
use Rattle.hc_rw_sets.proofs.Joins.{text_parts}
use Rattle.hc_sent.specs.Joints.{IsBare, asked}
use Rattle.hc_sent.specs.Parts.{Joined, bare}
use Rattle.hc_sent.specs.Sets.{HasOther}
use Rattle.hc_sent.specs.Ways.{HasByte}
use Rattle.hc_sent.specs.declared.parts.Part.{Part}

pub asked_apart : (set behind mark filled empty made : Automaton) → accepts set [] ≡ true
    → Accepts behind (fronts.behind_text (codes "?") (accepts set)) → Accepts mark (single (codes "?"))
    → Accepts filled (product_of FirstOnly behind mark) → Accepts empty (single [])
    → Accepts made (product_of Either filled empty) → Accepts made (asked (accepts set))
asked_apart set behind mark filled empty made some is of_mark first of_empty either text bytes =
    either text bytes
    ∙ (λ i. (first text bytes ∙ (λ j. is text bytes j && not (of_mark text bytes j))) i || of_empty text bytes i)
    ∙ by text
  where
    one : (v w : Bool) → w ≡ true → ((v && w) && not (v && true)) || false ≡ v && false
    one true true is = refl
    one false w is = refl
    one true false is = refl

    more : (v w : Bool) → ((v && w) && not (v && false)) || false ≡ (v && w)
    more true true = refl
    more true false = refl
    more false w = refl

    by : (text : List ℕ)
        → ((fronts.behind_text (codes "?") (accepts set) text && not (single (codes "?") text)) || single [] text)
        ≡ asked (accepts set) text
    by [] = sym some
    by (b ∷ []) = one (nat_eq b question) (accepts set []) some
    by (b ∷ c ∷ own) = more (nat_eq b question) (accepts set (c ∷ own))

-- ---- all parts

pub zip_push : {A B : Type 0} (R : A → B → Type 0) (xs : List A) (ys : List B) (x : A) (y : B) → AllZip R xs ys → R x y
    → AllZip R (xs ++ x ∷ []) (ys ++ y ∷ [])
zip_push R [] [] x y are is = (is, tt)
zip_push R [] (z ∷ ys) x y are is = absurd are
zip_push R (z ∷ xs) [] x y are is = absurd are
zip_push R (z ∷ xs) (w ∷ ys) x y are is = (are.0, zip_push R xs ys x y are.1 is)

abbrev pub AreBare : List Part → List Automaton → Type 0
AreBare = AllZip (λ part set. AcceptsOnly (IsBare part) set)

pub joined_same : (parts : List Part) (sets : List Automaton) → AreBare parts sets → (text : List ℕ) → IsText text
    → AreJoined (map accepts sets) text ↔ Joined parts text
joined_same [] [] are text bytes = ((λ is. is), (λ is. is))
joined_same [] (set ∷ sets) are text bytes = absurd are
joined_same (part ∷ parts) [] are text bytes = absurd are
joined_same (part ∷ parts) (set ∷ sets) are text bytes = (
  (λ is.
      let cut = text_parts is.0 is.1 (subst IsText is.2 bytes) in
      let own = (are.0 is.0 cut.0).0 is.3 in (
        own.0,
        is.1,
        own.1,
        (joined_same parts sets are.1 is.1 cut.1).0 is.4,
        is.2 ∙ ap (λ front. front ++ is.1) own.2,
      )),
  (λ is.
      let own = bare part.writing is.0 in
      let cut = text_parts own is.1 (subst IsText is.4 bytes) in
      (own, is.1, is.4, (are.0 own cut.0).1 (is.0, is.2, refl), (joined_same parts sets are.1 is.1 cut.1).1 is.3)),
)

pub all_joined : (parts : List Part) (sets : List Automaton) (made : Automaton) → AreBare parts sets
    → AcceptsOnly (AreJoined (map accepts sets)) made → AcceptsOnly (Joined parts) made
all_joined parts sets made are is text bytes =
    let same = joined_same parts sets are text bytes in
    let only = is text bytes in
    ((λ accepted. same.0 (only.0 accepted)), (λ joined. only.1 (same.1 joined)))

pub put_together : (earlier later : List Part) (front back : List ℕ) → Joined earlier front → Joined later back
    → Joined (earlier ++ later) (front ++ back)
put_together [] later front back begins goes_on =
    subst (Joined later) (ap (λ front. front ++ back) (sym begins)) goes_on
put_together (part ∷ earlier) later front back begins goes_on = (
  begins.0,
  begins.1 ++ back,
  begins.2,
  put_together earlier later begins.1 back begins.3 goes_on,
  ap (λ front. front ++ back) begins.4 ∙ append_assoc (bare part.writing begins.0) begins.1 back,
)

pub taken_apart : (earlier later : List Part) (text : List ℕ) → Joined (earlier ++ later) text
    → (front : List ℕ) × (back : List ℕ) × Joined earlier front × Joined later back × (text ≡ front ++ back)
taken_apart [] later text is = ([], text, refl, is, refl)
taken_apart (part ∷ earlier) later text is =
    let rest = taken_apart earlier later is.1 is.3 in
    let own = bare part.writing is.0 in (
      own ++ rest.0,
      rest.1,
      (is.0, rest.0, is.2, rest.2, refl),
      rest.3,
      is.4 ∙ ap (λ rest. own ++ rest) rest.4 ∙ sym (append_assoc own rest.0 rest.1),
    )

-- ---- bytes

some_other : (p q : ℕ → Bool) → ((b : ℕ) → q b ≡ not (p b)) → (text : List ℕ)
    → list_any q text ≡ not (list_all p text)
some_other p q other [] = refl
some_other p q other (b ∷ text) = (λ i. other b i || some_other p q other text i) ∙ by (p b) (list_all p text)
  where
    by : (v w : Bool) → (not v || not w) ≡ not (v && w)
    by true w = refl
    by false w = refl

pub has_byte : (part : Part) (set : Automaton) (p q : ℕ → Bool) → ((b : ℕ) → q b ≡ not (p b))
    → Accepts set (list_all p) → HasOther (accepts part.set) (accepts set) ↔ HasByte part q
has_byte part set p q other same = (
  (λ is.
      (is.0, (is.1, is.2), some_other p q other is.0 ∙ not_from_false _ (sym (same is.0 is.1) ∙ is.3))),
  (λ has.
      (has.0, has.1.0, has.1.1, same has.0 has.1.0 ∙ not-true _ (sym (some_other p q other has.0) ∙ has.2))),
)
