-- What locations have behind an origin.
use Rattle.std.proofs.Common.{◌≡◌, ℕ, List, [], ◌∷◌, ◌++◌, Bool, true, false, Some, None, Option}
use Rattle.std.proofs.Common.{refl, sym, ◌∙◌, ap, subst, ◌||◌}
use Rattle.std.proofs.lemmas.Bool.{and_from, and_parts, or_parts}
use Rattle.std.proofs.lemmas.List.Folds.{list_any-append}
use Rattle.std.specs.List.{after_first, before_first}
use Rattle.std.specs.Prelude.{is_some}
use Rattle.hc_base.specs.Bytes.{is_question}
use Rattle.hc_dfa.specs.Automata.{Automaton, accepts}
use Rattle.hc_dfa.specs.Built.{Accepts, product_of}
use Rattle.hc_dfa.specs.Texts.{IsText}
use Rattle.hc_dfa.specs.declared.products.Keep.TheVariants.{Both, FirstOnly}
use Rattle.hc_follow.specs.Next.{behind, slashed}
use Rattle.hc_follow.specs.declared.origin.Origin.{Origin}
use Rattle.hc_pat_lang.specs.Sets as sets
use Rattle.hc_pat_lang.specs.Sets.{AcceptsOnly}
use Rattle.hc_rw_sets.proofs.Joins.{joined_text, same_set, text_parts}
use Rattle.hc_rw_sets.specs.Made.{MadeOf}
use Rattle.hc_sent.proofs.Behind.{behind_cut, behind_joined}
use Rattle.hc_sent.proofs.Texts.{cut_text, of_both, of_first, parts_text}
use Rattle.hc_sent.specs.Origins.{is_root}
use Rattle.hc_sent.specs.Sets.{is_rest}
use Rattle.hc_sent.specs.Sites.{FitsNone, IsLeft, LeadsTo}
use Rattle.hc_sent.specs.Ways.{IsPath, IsQuery, IsRest}
use Rattle.hc_sent.specs.declared.parts.Part.{Part}
use Rattle.hc_sent.specs.declared.rests.Kind.TheVariants.{Any}

-- ---- what is left

rest_text : (origin : Origin) (text rest : List ℕ) → IsText text → behind origin text ≡ Some rest → IsText rest
rest_text origin text rest bytes is =
    let cut = behind_cut origin text rest is in
    (text_parts cut.front rest (subst IsText (sym cut.joined) bytes)).1

pub left_accepts : (origin : Origin) (set roots left rests made : Automaton) → Accepts roots (is_root origin)
    → AcceptsOnly (sets.IsRest (accepts set) (accepts roots)) left → Accepts rests (is_rest Any)
    → Accepts made (product_of Both left rests) → AcceptsOnly (IsLeft origin (accepts set)) made
left_accepts origin set roots left rests made of_roots of_left of_rests both text bytes =
    let same = of_both left rests made text bytes both in (
      (λ accepted.
          let parts = same.0 accepted in
          let is = (of_left text bytes).0 parts.0 in
          let ends = and_parts _ true (sym (of_rests text bytes) ∙ parts.1) in (
            is.front ++ text,
            joined_text is.front text is.bytes bytes,
            is.member,
            behind_joined origin is.front text (sym (of_roots is.front is.bytes) ∙ is.begins) ends.0,
          )),
      (λ is.
          let cut = behind_cut origin is.0 text is.3 in
          let front = (text_parts cut.front text (subst IsText (sym cut.joined) is.1)).0 in
          same.1 (
            (of_left text bytes).1 (record {
              front = cut.front;
              bytes = front;
              begins = of_roots cut.front front ∙ cut.is;
              member = rw cut.joined is.2;
            }),
            of_rests text bytes ∙ and_from _ _ cut.ends refl,
          )),
    )

module _ (parts : List Part) (before : List Origin) (origin : Origin) where
  pub rest_bytes : (rest : List ℕ) → IsRest parts before origin rest → IsText rest
  rest_bytes rest is = rest_text origin is.0 rest (parts_text parts is.0 is.1) is.2.1

  module _ (texts left : Automaton) (of_texts : AcceptsOnly (LeadsTo parts before origin) texts)
      (of_left : AcceptsOnly (IsLeft origin (accepts texts)) left) where
    rests_left : AcceptsOnly (IsRest parts before origin) left
    rests_left =
        same_set (IsLeft origin (accepts texts)) (IsRest parts before origin) left (λ rest bytes. (
          (λ is.
              let leads = (of_texts is.0 is.1).0 is.2 in
              (is.0, leads.0, (leads.1.1.0, is.3))),
          (λ is.
              let text = parts_text parts is.0 is.1 in
              (is.0, text, (of_texts is.0 text).1 (is.1, (rest, is.2)), is.2.1)),
        )) of_left

    pub queries_accept : (made : Automaton) → AcceptsOnly (MadeOf (after_first is_question) (accepts left)) made
        → AcceptsOnly (IsQuery parts before origin) made
    queries_accept made = same_set _ _ made (λ query bytes. (
      (λ is. (is.0, (rests_left is.0 is.1).0 is.2, is.3)),
      (λ is. let rest = rest_bytes is.0 is.1 in (is.0, rest, (rests_left is.0 rest).1 is.1, is.2)),
    ))

    pub paths_accept : (fronts made : Automaton)
        → AcceptsOnly (MadeOf (before_first is_question) (accepts left)) fronts
        → AcceptsOnly (MadeOf slashed (accepts fronts)) made → AcceptsOnly (IsPath parts before origin) made
    paths_accept fronts made of_fronts = same_set _ _ made (λ path bytes. (
      (λ is.
          let front = (of_fronts is.0 is.1).0 is.2 in
          (front.0, (rests_left front.0 front.1).0 front.2, is.3 ∙ ap slashed front.3)),
      (λ is.
          let rest = rest_bytes is.0 is.1 in
          let front : IsText (before_first is_question is.0) = (cut_text _ is.0 rest).0 in (
            before_first is_question is.0,
            front,
            (of_fronts _ front).1 (is.0, rest, (rests_left is.0 rest).1 is.1, refl),
            is.2,
          )),
    ))

-- ---- one server more

module _ (parts : List Part) (before : List Origin) (origin : Origin) (left fits made : Automaton)
    (of_left : AcceptsOnly (FitsNone parts before) left)
    (of_fits : Accepts fits (λ text. is_some (behind origin text))) where
  pub leads_accept : Accepts made (product_of Both left fits) → AcceptsOnly (LeadsTo parts before origin) made
  leads_accept both text bytes =
      let same = of_both left fits made text bytes both in (
        (λ accepted.
            let are = same.0 accepted in
            let none = (of_left text bytes).0 are.0 in
            let found = some_there (behind origin text) (sym (of_fits text bytes) ∙ are.1) in
            (none.0, (found.0, (none.1, found.1)))),
        (λ leads.
            same.1
            ((of_left text bytes).1 (leads.0, leads.1.1.0), of_fits text bytes ∙ ap is_some leads.1.1.1)),
      )
    where
      some_there : (found : Option (List ℕ)) → is_some found ≡ true → (rest : List ℕ) × (found ≡ Some rest)
      some_there None is = absurd (cc)
      some_there (Some rest) is = (rest, refl)

  pub rest_fits : Accepts made (product_of FirstOnly left fits)
      → AcceptsOnly (FitsNone parts (before ++ origin ∷ [])) made
  rest_fits first text bytes =
      let same = of_first left fits made text bytes first in
      let test : Origin → Bool = λ own. is_some (behind own text) in (
        (λ accepted.
            let are = same.0 accepted in
            let none = (of_left text bytes).0 are.0 in (
              none.0,
              list_any-append test before (origin ∷ [])
                  ∙ (λ i. none.1 i || ((sym (of_fits text bytes) ∙ are.1) i || false)),
            )),
        (λ none.
            let parts = or_parts _ _ (sym (list_any-append test before (origin ∷ [])) ∙ none.1) in
            let own = or_parts (is_some (behind origin text)) false parts.1 in
            same.1 ((of_left text bytes).1 (none.0, parts.0), of_fits text bytes ∙ own.0)),
      )
