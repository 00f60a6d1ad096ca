-- What is stored on a way to an end is what the plan stores there.
use Rattle.hc_abs_pass.proofs.Common.{◌≡◌, ◌∙◌, ℕ, List, [], ◌∷◌, ◌++◌, drop, true, Option, Some}
use Rattle.hc_abs_pass.proofs.Common.{refl, sym, ap, subst, pick, Slot}
use Rattle.std.proofs.lemmas.Bool.{and_parts}
use Rattle.hc_addr.specs.declared.addr.Addr.{Addr}
use Rattle.hc_base.specs.Bytes.{slash}
use Rattle.hc_base.specs.Paths.{is_slash}
use Rattle.std.proofs.Common.{eqb-true}
use Rattle.hc_dfa.specs.Automata.{Automaton, accepts}
use Rattle.hc_dfa.specs.Texts.{IsText, TextSet}
use Rattle.hc_model.specs.World.{root}
use Rattle.hc_pat_lang.specs.Sets.{AcceptsOnly}
use Rattle.hc_plan.proofs.Coded.{Keeps, end_fits, make_fits}
use Rattle.hc_plan.proofs.Made.{set_of_bytes}
use Rattle.hc_plan.proofs.Stores.{Left, store_fits, stored_fits}
use Rattle.hc_plan.specs.Branches.{Image}
use Rattle.hc_plan.specs.Coded.{AreBranches}
use Rattle.hc_plan.specs.Hands.{set_in}
use Rattle.hc_plan.specs.Plan.{Stored as PlanStored, done, from_hand}
use Rattle.hc_plan.specs.States.{AbsState, Has, any_of, with_text}
use Rattle.hc_plan.specs.Texts.{IsSetOf}
use Rattle.hc_plan.specs.Ways.{Stands}
use Rattle.hc_plan.specs.declared.hand.Way.{Way}
use Rattle.hc_rw_sets.proofs.Joins.{joined_text, text_parts}
use Rattle.hc_rw_sets.specs.Made.{MadeOf}
use Rattle.hc_abs_rw.proofs.Images.{accepted, bytes_of, free_has, hand_has, there}
use Rattle.hc_abs_rw.specs.Templates.{main, second, third}
use Rattle.hc_abs_pass.proofs.Alike.{IsEnd}
use Rattle.hc_abs_pass.proofs.Components.{parts_text}
use Rattle.hc_abs_pass.specs.Walking.{HasName, IsWalked, LeadsTo, WalkedFits, name_of, rests_of}
use Rattle.hc_abs_pass.specs.Walks.{WalkEnd, arrived, behind_component, component, rooted}
use Rattle.hc_abs_pass.specs.declared.walk.Named.{Named}
use Rattle.hc_abs_pass.specs.declared.walk.Walked.{Walked}
use Rattle.hc_abs_pass.specs.declared.walk_ends.End.{End}

cancel : (front one other : List ℕ) → front ++ one ≡ front ++ other → one ≡ other
cancel [] one other same = same
cancel (b ∷ front) one other same = cancel front one other (ap (drop 1) same)

module _ (code : End) (end : WalkEnd) (is_end : IsEnd root code end) where
  -- The texts of an end, from the first slash on.
  pub to_leads : (x : List ℕ) → rooted end x ≡ true → LeadsTo code x
  to_leads [] is = absurd (let none = is in cc)
  to_leads (b ∷ bs) is =
      let parts = and_parts (is_slash b) (end.rests bs) is in
      let of = is_end.to bs parts.1 in record {
        rest = of.0;
        is = ap (λ b. b ∷ bs) (eqb-true b slash parts.0) ∙ ap (λ bs. slash ∷ bs) of.1
            ∙ ap (λ front. front ++ of.0) (sym is_end.front);
        within = of.2;
      }

  pub from_leads : (x : List ℕ) → LeadsTo code x → rooted end x ≡ true
  from_leads x leads =
      subst (λ x. rooted end x ≡ true) (sym (leads.is ∙ ap (λ front. front ++ leads.rest) is_end.front))
      (is_end.from leads.rest leads.within)

  behind_root : (tail : List ℕ) → drop 1 (code.front ++ tail) ≡ is_end.own ++ tail
  behind_root tail = ap (λ front. drop 1 (front ++ tail)) is_end.front

  -- What is made of the texts of a way to it.
  module _ (state : AbsState) (texts rests : Automaton) (front_text : IsText code.front)
      (are : IsSetOf (set_in texts) (Has state.cell (pick state.texts main)))
      (asked : (x : List ℕ) → Has state.cell (pick state.texts main) x → rooted end x ≡ true)
      (are_rests : (tail : List ℕ) → IsText tail → accepts rests tail ≡ accepts texts (code.front ++ tail))
      (made : Automaton) (spec own : List ℕ → List ℕ)
      (same : (tail : List ℕ) → rests_of code.behind tail ≡ true → spec (code.front ++ tail) ≡ own tail)
      (keeps : (tail : List ℕ) → IsText tail → IsText (own tail))
      (are_made : AcceptsOnly (MadeOf own (accepts rests)) made) where
    abbrev In : List ℕ → Type 0
    In = Has state.cell (pick state.texts main)

    abbrev Made : List ℕ → Type 0
    Made = Image state (λ text also. spec text) (pick state.texts main) (pick state.texts main)

    within : (tail : List ℕ) → In (code.front ++ tail) → rests_of code.behind tail ≡ true
    within tail has =
        let leads = to_leads (code.front ++ tail) (asked (code.front ++ tail) has) in
        subst (λ tail. rests_of code.behind tail ≡ true) (sym (cancel code.front tail leads.rest leads.is)) leads.within

    tail_text : (x : List ℕ) → (leads : LeadsTo code x) → In x → IsText leads.rest
    tail_text x leads has =
        (text_parts code.front leads.rest (subst IsText leads.is (bytes_of texts In are x has))).1

    from_image : (x y : List ℕ) → In y → x ≡ spec y → (leads : LeadsTo code y) → x ≡ own leads.rest
    from_image x y has is leads = is ∙ ap spec leads.is ∙ same leads.rest leads.within

    pub image_is : IsSetOf (set_in made) Made
    image_is = set_of_bytes (accepts made) Made
        (λ x image.
        let leads = to_leads image.0 (asked image.0 image.2) in
        subst IsText (sym (from_image x image.0 image.2 image.4 leads))
        (keeps leads.rest (tail_text image.0 leads image.2)))
        (λ x bytes. (
          (λ in_made.
              let of = (are_made x bytes).0 in_made in
              let text = joined_text code.front of.0 front_text of.1 in
              let has = there texts In are (code.front ++ of.0) text (sym (are_rests of.0 of.1) ∙ of.2) in
              (code.front ++ of.0, code.front ++ of.0, has, has, of.3 ∙ sym (same of.0 (within of.0 has)))),
          (λ image.
              let leads = to_leads image.0 (asked image.0 image.2) in
              let text = tail_text image.0 leads image.2 in
              (are_made x bytes).1 (
                leads.rest,
                text,
                are_rests leads.rest text ∙ ap (accepts texts) (sym leads.is) ∙ accepted texts In are image.0 image.2,
                from_image x image.0 image.2 image.4 leads,
              )),
        ))

module _ (client : Option Addr) (state : AbsState) (named : Named) (has : HasName named client state) (code : End)
    (end : WalkEnd) (is_end : IsEnd root code end) (way : Way) (walked : Walked) (is : IsWalked named code way walked)
    (asked : TextSet) (narrow : (x : List ℕ) → asked x ≡ true → rooted end x ≡ true) (now : AbsState)
    (stands : Stands way.cell named.tied.ties named.text.items 0 way.side now main) (keeps : Keeps state main asked now)
  where
    abbrev name : List ℕ → List ℕ
    name text = end.name (drop 1 text)

    abbrev info : List ℕ → List ℕ
    info text = end.info (drop 1 text)

    abbrev with_name : AbsState
    with_name = with_text now second (any_of (set_in is.names))

    abbrev with_both : AbsState
    with_both = with_text with_name third (any_of (set_in is.infos))

    abbrev list : List (Slot × PlanStored)
    list = (Slot.Name, from_hand second) ∷ (Slot.Info, from_hand third) ∷ []

    texts_are : IsSetOf (set_in is.texts) (Has now.cell (pick now.texts main))
    texts_are = hand_has way.cell named.text.items way.side is.texts now.cell (pick now.texts main) stands.holds
        stands.hand is.are_texts

    in_end : (x : List ℕ) → Has now.cell (pick now.texts main) x → rooted end x ≡ true
    in_end x own = narrow x (keeps.asked x own)

    name_text : (tail : List ℕ) → IsText tail → IsText (name_of code.front tail)
    name_text tail bytes = joined_text code.front (component tail) is.bytes (parts_text tail bytes).0

    names_are : IsSetOf (set_in is.names)
        (Image now (λ text also. name text) (pick now.texts main) (pick now.texts main))
    names_are = image_is code end is_end now is.texts is.rests is.bytes texts_are in_end is.are_rests is.names name
        (name_of code.front)
        (λ tail within. ap end.name (behind_root code end is_end tail) ∙ is_end.name tail within) name_text is.are_names

    infos_are : IsSetOf (set_in is.infos)
        (Image now (λ text also. info text) (pick now.texts main) (pick now.texts main))
    infos_are = image_is code end is_end now is.texts is.rests is.bytes texts_are in_end is.are_rests is.infos info
        behind_component
        (λ tail within. ap end.info (behind_root code end is_end tail) ∙ is_end.info tail within)
        (λ tail bytes. (parts_text tail bytes).1) is.are_infos

    left : Left with_both with_both list walked.tied
    left = store_fits with_both with_both way.cell named.tied.ties list
        (record { slot = Slot.Name; set = is.names } ∷ record { slot = Slot.Info; set = is.infos } ∷ []) walked.tied (
          record { slot = Slot.Name; set = is.names },
          record { slot = Slot.Info; set = is.infos } ∷ [],
          refl,
          (refl, free_has now.cell (set_in is.names)),
          (
            record { slot = Slot.Info; set = is.infos },
            [],
            refl,
            (refl, free_has now.cell (set_in is.infos)),
            refl,
          ),
        ) stands.holds stands.tied is.stored

    fits : WalkedFits client walked (left.next, end)
    fits = (
      record {
        cell = left.cell;
        ties = left.ties;
        given = left.given ∙ keeps.given ∙ has.given;
        texts = ap (λ (state : AbsState). state.texts) left.is.2.2;
        printed = left.printed ∙ keeps.printed ∙ has.text.printed;
      },
      is_end.kind ∙ sym is.kind,
      is_end.dirs ∙ sym is.dirs,
    )

    pub arrived_fits : AreBranches (WalkedFits client) (arrived (Some end)) now (walked ∷ [])
    arrived_fits =
        make_fits (WalkedFits client) now second (λ text also. name text) main main (set_in is.names) _ (walked ∷ [])
        names_are
        (make_fits (WalkedFits client) with_name third (λ text also. info text) main main (set_in is.infos) _
        (walked ∷ []) infos_are
        (stored_fits (WalkedFits client) with_both list walked.tied (done end) (walked ∷ []) left
        (end_fits (WalkedFits client) left.next end walked fits)))
