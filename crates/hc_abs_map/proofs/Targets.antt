-- The names that aliases and the document root give.
use Rattle.hc_abs_map.proofs.Common.{◌≡◌, ◌∙◌, ℕ, List, [], ◌∷◌, ◌++◌, length, true, false, Option, None, Some, refl, sym}
use Rattle.hc_abs_map.proofs.Common.{ap, subst, inl, Slot, done}
use Rattle.hc_addr.specs.declared.addr.Addr.{Addr}
use Rattle.hc_cells.specs.declared.ties.Ties.{Ties}
use Rattle.hc_dfa.specs.Automata.{Automaton}
use Rattle.hc_model.specs.declared.mapping.Alias.{Alias}
use Rattle.hc_model.specs.declared.mapping.PathTest.{PathTest}
use Rattle.hc_model.specs.declared.mapping.PathTest.TheVariants.{Prefix, Search}
use Rattle.hc_model.specs.declared.outcome.Reason.TheVariants.{NoRoot}
use Rattle.hc_model.specs.declared.template.Piece.{Piece}
use Rattle.hc_model.specs.declared.template.Piece.TheVariants as piece
use Rattle.hc_pattern.specs.Pattern.{pattern_of}
use Rattle.hc_plan.proofs.Coded.{end_fits, let_go_fits, take_up_fits}
use Rattle.hc_plan.specs.Branches.{with_given}
use Rattle.hc_plan.specs.Groups.{GroupHolds}
use Rattle.hc_plan.specs.Hands.{cell_of, part_of, parts_of, set_in}
use Rattle.hc_plan.specs.Plan.{Item, let_go, literal}
use Rattle.hc_plan.specs.States.{AbsState, AreParts, Has, IsGiven, Part, free, known, open_slot, this, whole, with_text}
use Rattle.hc_plan.specs.Texts.{IsSetOf, all_three}
use Rattle.hc_plan.specs.Ways.{IsFound, IsGroupSet, IsHand, Stands}
use Rattle.hc_plan.specs.declared.hand.Element.{Element}
use Rattle.hc_plan.specs.declared.hand.Element.TheVariants as element
use Rattle.hc_plan.specs.declared.hand.Way.{Way}
use Rattle.hc_plan.specs.declared.held.Found.{Found}
use Rattle.hc_plan.specs.declared.storing.Tied.{Tied}
use Rattle.hc_abs_rw.specs.Known.{client_given}
use Rattle.hc_abs_rw.specs.Templates.{groups, main, slot_item}
use Rattle.hc_abs_pass.specs.Ends.{outside}
use Rattle.hc_abs_pass.specs.Mapping.{over, rest_items, target_items, under_root_plan}
use Rattle.hc_abs_pass.specs.Mapping.{named as in_hand}
use Rattle.hc_abs_pass.specs.Walking.{HasName}
use Rattle.hc_abs_pass.specs.declared.ends.Left.TheVariants as left
use Rattle.hc_abs_pass.specs.declared.walk.Named.{Named}
use Rattle.hc_abs_map.specs.Aliases.{AddsAliased, AreTargetsBy, IsAliased, IsHeldFor, IsTargetBy, rest_elements}
use Rattle.hc_abs_map.specs.Along.{Adds, AreOn}
use Rattle.hc_abs_map.specs.Ends.{root_before}
use Rattle.hc_abs_map.specs.Entries.{HoldsGroups}
use Rattle.hc_abs_map.specs.Mapped.{MappedFits}
use Rattle.hc_abs_map.specs.Names.{tied_by}
use Rattle.hc_abs_map.specs.declared.mapped.Mapped.{Mapped}
use Rattle.hc_abs_map.specs.declared.mapped.Mapped.TheVariants as mapped

-- ---- pieces

group_held : (found : Found) (number : ℕ) (made : Automaton) → IsGroupSet found number made
    → IsTargetBy (Some found) (piece.Group number) (element.Free made)
group_held found number made are (Prefix from) way is state cell holds = absurd (let some = is in cc)
group_held found number made are (Search pattern) way is state cell holds =
    subst (λ given. IsGiven (given number) (free (set_in made))) (sym holds.2) (
      set_in made,
      subst (λ own. IsSetOf (set_in made) (GroupHolds (Has state.cell holds.0) own number)) is.0
          (subst (λ cell. IsSetOf (set_in made) (GroupHolds (Has cell holds.0) (pattern_of found.pattern.now) number))
          (sym cells) (are holds.0 found_there)),
      refl,
    )
  where
    cells : state.cell ≡ cell_of found.cell
    cells = cell ∙ ap cell_of (sym is.1)

    found_there : IsFound found holds.0
    found_there = subst (λ cell. IsHand cell found.elements.items found.off found.side holds.0) cells
        (subst (λ side. IsHand state.cell found.elements.items found.off side holds.0) (sym is.4)
        (subst (λ off. IsHand state.cell found.elements.items off way.side holds.0) (sym is.3)
        (subst (λ elements. IsHand state.cell elements 0 way.side holds.0) (sym is.2) holds.1)))

pub group_some : (held : Option Found) (found : Found) (number : ℕ) (made : Automaton) → held ≡ Some found
    → IsGroupSet found number made → IsTargetBy held (piece.Group number) (element.Free made)
group_some held found number made there are =
    subst (λ held. IsTargetBy held (piece.Group number) (element.Free made)) (sym there)
    (group_held found number made are)

-- ---- parts

parts_joined : (state : AbsState) (items more : List Item) (parts others : List Part) → AreParts state items parts
    → AreParts state more others → AreParts state (items ++ more) (parts ++ others)
parts_joined state [] more parts others are rest =
    subst (λ parts. AreParts state more (parts ++ others)) (sym are) rest
parts_joined state (item ∷ items) more parts others are rest = (
  are.0,
  are.1 ++ others,
  ap (λ parts. parts ++ others) are.2,
  are.3,
  parts_joined state items more are.1 others are.4 rest,
)

both_parts : (one other : List Element) → parts_of (one ++ other) ≡ parts_of one ++ parts_of other
both_parts [] other = refl
both_parts (element ∷ one) other = ap (λ parts. part_of element ∷ parts) (both_parts one other)

module _ (held : Option Found) (test : PathTest) (way : Way) (is : IsHeldFor test way held) (state : AbsState)
    (cell : state.cell ≡ cell_of way.cell) (holds : HoldsGroups test way state) where
  target_parts : (pieces : List Piece) (made : List Element) → AreTargetsBy held pieces made
      → AreParts state (target_items test pieces) (parts_of made)
  target_parts [] made are = ap parts_of are
  target_parts (piece ∷ pieces) made are = (
    part_of are.0,
    parts_of are.1,
    ap parts_of are.2,
    are.3 test way is state cell holds,
    target_parts pieces are.1 are.4,
  )

rest_parts : (test : PathTest) (state : AbsState) → AreParts state (rest_items test) (parts_of (rest_elements test))
rest_parts (Prefix from) state = (open_slot Slot.Path (length from), [], refl, refl, refl)
rest_parts (Search pattern) state = refl

-- ---- names

-- Elements that were taken up become a name.
name_taken : (tied : Tied) (named : Named) (client : Option Addr) (state : AbsState) → named.tied ≡ tied
    → named.side ≡ None → state.cell ≡ cell_of tied.cell → state.ties ≡ tied.ties
    → state.given ≡ all_three (λ at. this []) → state.printed ≡ client_given client
    → HasName named client (with_text state main (whole (parts_of named.text.items)))
name_taken tied named client state same none cell ties given printed = record {
  text = record {
    stands =
        subst (λ tied. Stands tied.cell tied.ties named.text.items 0 named.side next main) (sym same)
        (subst (λ side. Stands tied.cell tied.ties named.text.items 0 side next main) (sym none) (record {
          holds = cell;
          tied = ties;
          hand = record { made = refl; behind = refl; lies = inl (λ x bytes. refl) };
        }));
    looked = ap (λ given. given.third) given;
    printed = printed;
  };
  given = given;
}
  where
    next : AbsState
    next = with_text state main (whole (parts_of named.text.items))

pub aliased_is : (alias : Alias) (ties : Ties) (way : Way) (held : Option Found) (text : List Element) (made : Named)
    → IsHeldFor alias.from way held → AreTargetsBy held alias.to text
    → made.text.items ≡ text ++ rest_elements alias.from → made.tied ≡ tied_by ties way → made.side ≡ None
    → IsAliased alias ties way made
aliased_is alias ties way held text made is are more tied side = record {
  tied = tied;
  side = side;
  parts = λ state cell holds.
      subst (AreParts state (target_items alias.from alias.to ++ rest_items alias.from))
      (sym (ap parts_of more ∙ both_parts text (rest_elements alias.from)))
      (parts_joined state (target_items alias.from alias.to) (rest_items alias.from) (parts_of text)
      (parts_of (rest_elements alias.from)) (target_parts held alias.from way is state cell holds alias.to text are)
      (rest_parts alias.from state));
}

-- What an alias leaves that takes the path.
pub aliased_taken : (alias : Alias) (ties : Ties) (way : Way) (made : Named) (given : Option Way)
    (earlier later : List Mapped) → given ≡ Some way → IsAliased alias ties way made
    → later ≡ earlier ++ mapped.Name made true ∷ [] → AddsAliased alias ties given earlier later
aliased_taken alias ties way made given earlier later there is more =
    subst (λ given. AddsAliased alias ties given earlier later) (sym there) (
      mapped.Name made true ∷ [],
      more,
      (λ client state taken.
          let ready = with_text state main (whole (parts_of made.text.items)) in
          take_up_fits (MappedFits client) state main (target_items alias.from alias.to ++ rest_items alias.from)
          (parts_of made.text.items) (let_go groups (done (in_hand true))) (mapped.Name made true ∷ [])
          (is.parts state taken.cell taken.holds)
          (let_go_fits (MappedFits client) ready groups (done (in_hand true)) (mapped.Name made true ∷ [])
          (end_fits (MappedFits client) (with_given ready groups (λ at. this [])) (in_hand true) (mapped.Name made true) (
            name_taken (tied_by ties way) made client (with_given state groups (λ at. this [])) is.tied is.side taken.cell
                taken.ties_are taken.others taken.printed,
            refl,
          )))),
    )

-- ---- the document root

pub root_fits : (tied : Tied) (root : List ℕ) (slot : Slot) (made : Named) → made.tied ≡ tied → made.side ≡ None
    → made.text.items ≡ root_before root slot
    → AreOn MappedFits (Some tied) (under_root_plan (Some root) slot) (mapped.Name made false ∷ [])
root_fits tied root slot made same none items client state ends =
    take_up_fits (MappedFits client) state main (literal root ∷ slot_item slot ∷ []) (parts_of made.text.items)
    (done (in_hand false)) (mapped.Name made false ∷ [])
    (known root, open_slot slot 0 ∷ [], ap parts_of items, refl, (open_slot slot 0, [], refl, refl, refl))
    (end_fits (MappedFits client) (with_text state main (whole (parts_of made.text.items))) (in_hand false)
    (mapped.Name made false)
    (name_taken tied made client state same none ends.cell ends.ties ends.given ends.printed, refl))

module _ (slot : Slot) (root : Option (List ℕ)) (given : Option Tied) (tied : Tied) (earlier later : List Mapped)
    (there : given ≡ Some tied) where
  abbrev pub AddsRoot : Type 0
  AddsRoot = Adds (AreOn MappedFits given (under_root_plan root slot)) earlier later

  pub rootless : root ≡ None → later ≡ earlier ++ mapped.Over tied (left.Outside NoRoot) ∷ [] → AddsRoot
  rootless none more =
      subst (λ root. Adds (AreOn MappedFits given (under_root_plan root slot)) earlier later) (sym none)
      (subst (λ given. Adds (AreOn MappedFits given (under_root_plan None slot)) earlier later) (sym there) (
        mapped.Over tied (left.Outside NoRoot) ∷ [],
        more,
        (λ client state ends.
            end_fits (MappedFits client) state (over (outside NoRoot)) (mapped.Over tied (left.Outside NoRoot))
            (ends, refl)),
      ))

  pub rooted : (own : List ℕ) (made : Named) → root ≡ Some own → made.tied ≡ tied → made.side ≡ None
      → made.text.items ≡ root_before own slot → later ≡ earlier ++ mapped.Name made false ∷ [] → AddsRoot
  rooted own made some same none items more =
      subst (λ root. Adds (AreOn MappedFits given (under_root_plan root slot)) earlier later) (sym some)
      (subst (λ given. Adds (AreOn MappedFits given (under_root_plan (Some own) slot)) earlier later) (sym there)
      (mapped.Name made false ∷ [], more, root_fits tied own slot made same none items))
