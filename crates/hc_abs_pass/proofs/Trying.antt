-- The sets of an end, and the tests one after the other.
use Rattle.hc_abs_pass.proofs.Common.{◌≡◌, ◌∙◌, ℕ, List, [], ◌∷◌, ◌++◌, refl, sym, ap, subst, append_assoc, append-nil}
use Rattle.hc_dfa.specs.Automata.{Automaton, accepts}
use Rattle.hc_dfa.specs.Built.{Accepts}
use Rattle.hc_dfa.specs.Texts.{IsText}
use Rattle.hc_pat_lang.specs.Sets.{AcceptsOnly}
use Rattle.hc_rw_sets.proofs.Joins.{text_parts}
use Rattle.hc_rw_sets.specs.Made.{MadeOf}
use Rattle.hc_abs_pass.proofs.Components.{parts_text}
use Rattle.hc_abs_pass.specs.Walking.{AddsTried, AreTried, IsTried, LeadsTo, name_of, rests_of}
use Rattle.hc_abs_pass.specs.Walks.{component}
use Rattle.hc_abs_pass.specs.declared.walk.Named.{Named}
use Rattle.hc_abs_pass.specs.declared.walk.Walked.{Walked}
use Rattle.hc_abs_pass.specs.declared.walk_ends.End.{End}

-- A front with the components of texts behind it.
pub names_accept : (lent front : List ℕ) (rests components made : Automaton) → lent ≡ front
    → AcceptsOnly (MadeOf component (accepts rests)) components
    → AcceptsOnly (MadeOf (λ text. lent ++ text) (accepts components)) made
    → AcceptsOnly (MadeOf (name_of front) (accepts rests)) made
names_accept lent front rests components made same are_components are_made text bytes = (
  (λ accepted.
      let of = (are_made text bytes).0 accepted in
      let from = (are_components of.0 of.1).0 of.2 in
      (from.0, from.1, from.2, of.3 ∙ ap (λ front. front ++ of.0) same ∙ ap (λ own. front ++ own) from.3)),
  (λ of.
      let own = (parts_text of.0 of.1).0 in
      (are_made text bytes).1 (
        component of.0,
        own,
        (are_components (component of.0) own).1 (of.0, of.1, of.2, refl),
        of.3 ∙ ap (λ front. front ++ component of.0) (sym same),
      )),
)

pub end_accept : (lent : List ℕ) (end : End) (rests made : Automaton) → lent ≡ end.front
    → Accepts rests (rests_of end.behind) → AcceptsOnly (MadeOf (λ text. lent ++ text) (accepts rests)) made
    → AcceptsOnly (LeadsTo end) made
end_accept lent end rests made same are_rests are_made text bytes = (
  (λ accepted.
      let of = (are_made text bytes).0 accepted in record {
        rest = of.0;
        is = of.3 ∙ ap (λ front. front ++ of.0) same;
        within = sym (are_rests of.0 of.1) ∙ of.2;
      }),
  (λ leads.
      let own = (text_parts end.front leads.rest (subst IsText leads.is bytes)).1 in
      (are_made text bytes).1 (
        leads.rest,
        own,
        are_rests leads.rest own ∙ leads.within,
        leads.is ∙ ap (λ front. front ++ leads.rest) (sym same),
      )),
)

tried_last : (named : Named) (ends : List End) (end : End) (found one : List Walked) → AreTried named ends found
    → IsTried named end one → AreTried named (ends ++ end ∷ []) (found ++ one)
tried_last named [] end found one are is =
    (one, [], ap (λ found. found ++ one) are ∙ sym (append-nil one), is, refl)
tried_last named (first ∷ ends) end found one are is = (
  are.0,
  are.1 ++ one,
  ap (λ found. found ++ one) are.2 ∙ append_assoc are.0 are.1 one,
  are.3,
  tried_last named ends end are.1 one are.4 is,
)

pub tried_more : (named : Named) (ends : List End) (end : End) (found after : List Walked) → AreTried named ends found
    → AddsTried named end found after → AreTried named (ends ++ end ∷ []) after
tried_more named ends end found after are adds =
    subst (AreTried named (ends ++ end ∷ [])) (sym adds.1) (tried_last named ends end found adds.0 are adds.2)
