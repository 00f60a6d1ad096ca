-- What a pass goes on with behind the rules of the server.
use Rattle.hc_abs_map.proofs.Common.{◌≡◌, ◌∙◌, List, [], ◌∷◌, ◌++◌, Bool, true, false, Option, None, Some, refl, sym, ap, subst}
use Rattle.hc_abs_map.proofs.Common.{Plan, Slot, append_assoc, done, pick}
use Rattle.std.specs.declared.alloc.Global.{Global}
use Rattle.std.specs.declared.vec.Vec.{Vec}
use Rattle.hc_addr.specs.declared.addr.Addr.{Addr}
use Rattle.hc_alias.specs.Mapping.{root_of}
use Rattle.hc_base.specs.Paths.{begins_with_slash, has_double_slash, merge_slashes}
use Rattle.hc_cells.specs.declared.ties.Ties.{Ties}
use Rattle.hc_dfa.specs.Automata.{Automaton, accepts}
use Rattle.hc_dfa.specs.Built.{Accepts}
use Rattle.hc_model.specs.declared.config.Server.{Server}
use Rattle.hc_plan.proofs.Coded.{take_up_fits}
use Rattle.hc_plan.proofs.Stores.{store_fits}
use Rattle.hc_plan.specs.Branches.{others}
unfoldable use Rattle.hc_plan.specs.Branches.{Branches}
use Rattle.hc_plan.specs.Coded.{AreBranches}
use Rattle.hc_plan.specs.Hands.{parts_of}
use Rattle.hc_plan.specs.Plan.{from_hand, store, take_up, test, tidy}
use Rattle.hc_plan.specs.States.{AbsState, open_slot, whole, with_text}
use Rattle.hc_plan.specs.Stores.{Stores}
use Rattle.hc_plan.specs.Ways.{IsHandSet}
use Rattle.hc_plan.specs.declared.hand.Element.{Element}
use Rattle.hc_plan.specs.declared.hand.Way.{Way}
use Rattle.hc_plan.specs.declared.storing.Stored.{Stored}
use Rattle.hc_plan.specs.declared.storing.Tied.{Tied}
use Rattle.hc_steps.specs.Step.{Shown}
use Rattle.hc_abs_rw.proofs.Images.{hand_has}
use Rattle.hc_abs_rw.specs.Drafts.{InHand, slot_alone}
use Rattle.hc_abs_rw.specs.Templates.{main, slot_item}
use Rattle.hc_abs_rw.specs.Trials.{AreWays}
use Rattle.hc_abs_rw.specs.declared.ways.Ways.{Ways}
use Rattle.hc_abs_pass.specs.Ends.{EndsAt, status}
use Rattle.hc_abs_pass.specs.Mapping.{Placing, map_plan, over, under_root_plan}
use Rattle.hc_abs_pass.specs.Mapping.{named as in_hand}
use Rattle.hc_abs_pass.specs.Naming.{first_exists, text_plan}
unfoldable use Rattle.hc_abs_pass.specs.Naming.{placed_plan}
use Rattle.hc_abs_pass.specs.Walking.{HasName}
use Rattle.hc_abs_pass.specs.declared.ends.Left.TheVariants as left
use Rattle.hc_abs_pass.specs.declared.walk.Named.{Named}
use Rattle.hc_abs_map.proofs.Going.{goes_added, goes_to_end}
use Rattle.hc_abs_map.proofs.Names.{on_named, over_fits, text_tested, tidy_fits}
use Rattle.hc_abs_map.proofs.Taking.{elements_stand}
use Rattle.hc_abs_map.specs.Along.{Adds, AreNamed, AreOn}
use Rattle.hc_abs_map.specs.Ends.{AddsOver, over_on}
use Rattle.hc_abs_map.specs.Entries.{tied_on}
use Rattle.hc_abs_map.specs.Mapped.{AreMapped, ArePlaced, MappedFits}
use Rattle.hc_abs_map.specs.Names.{GoesUndotted, HasText, IsTidied, OnText, named_on, undotted_plan}
use Rattle.hc_abs_map.specs.Places.{GoesAbsolute, IsStored, IsTextName, absolute_plan}
use Rattle.hc_abs_map.specs.declared.mapped.Mapped.{Mapped}

-- ---- the text in hand

abbrev pub ready : AbsState → AbsState
ready state = with_text state main (whole (parts_of (slot_alone Slot.Text)))

text_taken : (tied : Tied) (client : Option Addr) (state : AbsState) → EndsAt client tied state
    → HasText tied (slot_alone Slot.Text) None client (ready state)
text_taken tied client state ends = record {
  text = record {
    stands = elements_stand tied (slot_alone Slot.Text) state ends.cell ends.ties;
    looked = ap (λ given. given.third) ends.given;
    printed = ends.printed;
  };
  given = ends.given;
}

take_text : (plan : Plan Placing) (found : List Mapped) (client : Option Addr) (state : AbsState)
    → AreBranches (MappedFits client) plan (ready state) found
    → AreBranches (MappedFits client) (take_up main (slot_item Slot.Text ∷ []) plan) state found
take_text plan found client state =
    take_up_fits (MappedFits client) state main (slot_item Slot.Text ∷ []) (parts_of (slot_alone Slot.Text)) plan found
    (open_slot Slot.Text 0, [], refl, refl, refl)

-- States on a way that go on without their text.
on_tied : (ties : Ties) (elements : List Element) (plan : Plan Placing) (way : Option Way) (found : List Mapped)
    → AreOn MappedFits (tied_on ties way) plan found → OnText MappedFits ties elements plan way found
on_tied ties elements plan None found none = none
on_tied ties elements plan (Some way) found leads = λ client state has. leads client state (record {
  cell = has.text.stands.holds;
  ties = has.text.stands.tied;
  given = has.given;
  printed = has.text.printed;
})

module _ (tied : Tied) (set : Automaton) (ways : Ways)
    (are : AreWays tied.cell tied.ties (slot_alone Slot.Text) 0 None false (accepts set) ways) where
  -- A relative text is answered 400.
  pub absolute_goes : (rest : Option Tied) (earlier later : List Mapped) → Accepts set (others begins_with_slash)
      → AddsOver tied.ties ways.held (left.Status 400) earlier later → rest ≡ tied_on tied.ties ways.failed
      → GoesAbsolute tied rest earlier later
  absolute_goes rest earlier later means more is = record {
    added = over_on tied.ties ways.held (left.Status 400);
    more = more;
    leads = λ plan tail found client state ends.
        take_text (test main (others begins_with_slash) (λ relative. elim relative [
          | true ↦ done (over (status 400))
          | false ↦ plan
        ])) (over_on tied.ties ways.held (left.Status 400) ++ tail) client state
        (text_tested MappedFits tied (slot_alone Slot.Text) None set (others begins_with_slash) means ways are
        (λ relative. elim relative [
          | true ↦ done (over (status 400))
          | false ↦ plan
        ]) (over_on tied.ties ways.held (left.Status 400)) tail client (ready state)
        (text_taken tied client state ends)
        (over_fits tied.ties (slot_alone Slot.Text) ways.held (left.Status 400))
        (on_tied tied.ties (slot_alone Slot.Text) plan ways.failed tail
        (subst (λ rest. AreOn MappedFits rest plan tail) is found)));
  }

  -- A file name, or what stands under the document root.
  pub file_fits : (shown : Shown) (servers : List Server) (text : Vec Element Global) (earlier mid later : List Mapped)
      → Accepts set (first_exists shown) → text.items ≡ slot_alone Slot.Text
      → Adds (AreNamed MappedFits (named_on tied.ties text ways.held) (done (in_hand true))) earlier mid
      → Adds (AreOn MappedFits (tied_on tied.ties ways.failed) (under_root_plan (root_of servers) Slot.Text)) mid later
      → Adds (AreOn MappedFits (Some tied) (text_plan shown servers false)) earlier later
  file_fits shown servers text earlier mid later means same first rest = (
    first.0 ++ rest.0,
    rest.1 ∙ ap (λ mid. mid ++ rest.0) first.1 ∙ append_assoc earlier first.0 rest.0,
    (λ client state ends.
        take_text (test main (first_exists shown) (λ own. elim own [
          | true ↦ done (in_hand true)
          | false ↦ under_root_plan (root_of servers) Slot.Text
        ])) (first.0 ++ rest.0) client state
        (text_tested MappedFits tied (slot_alone Slot.Text) None set (first_exists shown) means ways are
        (λ own. elim own [
          | true ↦ done (in_hand true)
          | false ↦ under_root_plan (root_of servers) Slot.Text
        ]) first.0 rest.0 client (ready state) (text_taken tied client state ends)
        (subst (λ items. OnText MappedFits tied.ties items (done (in_hand true)) ways.held first.0) same
        (on_named MappedFits tied.ties text (done (in_hand true)) ways.held first.0 first.2))
        (on_tied tied.ties (slot_alone Slot.Text) (under_root_plan (root_of servers) Slot.Text) ways.failed rest.0
        rest.2))),
  )

-- ---- a URL path

pub path_stored : (named : Named) (set : Automaton) (stored : List Stored) (made : Tied)
    → IsHandSet named.tied.cell named.text.items 0 named.side set
    → stored ≡ record { slot = Slot.Path; set = set } ∷ [] → Stores named.tied.cell named.tied.ties stored made
    → IsStored named made
path_stored named set stored made of is stores client state has =
    let left = store_fits state state named.tied.cell named.tied.ties ((Slot.Path, from_hand main) ∷ []) stored made (
      record { slot = Slot.Path; set = set },
      [],
      is,
      (
        refl,
        hand_has named.tied.cell named.text.items named.side set state.cell (pick state.texts main)
            has.text.stands.holds has.text.stands.hand of,
      ),
      refl,
    )
    has.text.stands.holds has.text.stands.tied stores in (
      left.next,
      left.is,
      record {
        cell = left.cell;
        ties = left.ties;
        given = left.given ∙ has.given;
        printed = left.printed ∙ has.text.printed;
      },
    )

pub stored_adds : (servers : List Server) (named : Named) (made : Tied) (given : Option Named)
    (found earlier later : List Mapped) → given ≡ Some named → IsStored named made → AreMapped servers made found
    → later ≡ earlier ++ found
    → Adds (AreNamed MappedFits given (store ((Slot.Path, from_hand main) ∷ []) (map_plan servers))) earlier later
unfolding Branches
stored_adds servers named made given found earlier later there stored are more =
    subst (λ given. Adds (AreNamed MappedFits given (store ((Slot.Path, from_hand main) ∷ []) (map_plan servers)))
    earlier later) (sym there) (
      found,
      more,
      (λ client state has.
          let is = stored client state has in
          let rest = are client is.0 is.2 in
          (rest.0, (is.0, is.1, rest.1), rest.2)),
    )

name_of : (tied : Tied) (named : Named) → IsTextName tied named → (client : Option Addr) (state : AbsState)
    → EndsAt client tied state → HasName named client (ready state)
name_of tied named is client state ends = record {
  text =
      subst (λ tied. InHand tied named.text.items named.side client (ready state)) (sym is.tied_is)
      (subst (λ items. InHand tied items named.side client (ready state)) (sym is.items)
      (subst (λ side. InHand tied (slot_alone Slot.Text) side client (ready state)) (sym is.side)
      (text_taken tied client state ends).text));
  given = ends.given;
}

pub path_fits : (shown : Shown) (servers : List Server) (tied : Tied) (named made : Named) (rest : Option Named)
    (earlier mid later : List Mapped) → IsTextName tied named → IsTidied named made → GoesUndotted made rest earlier mid
    → Adds (AreNamed MappedFits rest (store ((Slot.Path, from_hand main) ∷ []) (map_plan servers))) mid later
    → Adds (AreOn MappedFits (Some tied) (text_plan shown servers true)) earlier later
path_fits shown servers tied named made rest earlier mid later is tidied goes adds =
    let stored : Plan Placing = store ((Slot.Path, from_hand main) ∷ []) (map_plan servers) in
    let all = goes_added (AreNamed MappedFits (Some made)) (AreNamed MappedFits rest) undotted_plan stored earlier mid
    later goes adds in (
      all.0,
      all.1,
      (λ client state ends.
          take_text (tidy main has_double_slash merge_slashes (undotted_plan stored)) all.0 client state
          (tidy_fits MappedFits named made (undotted_plan stored) all.0 tidied all.2 client (ready state)
          (name_of tied named is client state ends))),
    )

-- ---- all

module _ (shown : Shown) (servers : List Server) (passed : Bool) (tied : Tied) where
  pub unplaced : (substituted : Bool) (found : List Mapped) → substituted ≡ false → AreMapped servers tied found
      → ArePlaced shown servers substituted passed tied found
  unfolding placed_plan
  unplaced substituted found none are =
      subst (λ substituted. ArePlaced shown servers substituted passed tied found) (sym none) are

  pub placed_fit : (substituted : Bool) (rest : Option Tied) (earlier mid later : List Mapped) → substituted ≡ true
      → earlier ≡ [] → GoesAbsolute tied rest earlier mid
      → Adds (AreOn MappedFits rest (text_plan shown servers passed)) mid later
      → ArePlaced shown servers substituted passed tied later
  unfolding placed_plan
  placed_fit substituted rest earlier mid later some none goes adds =
      subst (λ substituted. ArePlaced shown servers substituted passed tied later) (sym some)
      (goes_to_end (AreOn MappedFits (Some tied)) (AreOn MappedFits rest) absolute_plan (text_plan shown servers passed)
      earlier mid later none goes adds)

  pub text_added : (given : Option Tied) (earlier later : List Mapped) (own : Bool) → passed ≡ own → given ≡ Some tied
      → Adds (AreOn MappedFits (Some tied) (text_plan shown servers own)) earlier later
      → Adds (AreOn MappedFits given (text_plan shown servers passed)) earlier later
  text_added given earlier later own is there adds =
      subst (λ given. Adds (AreOn MappedFits given (text_plan shown servers passed)) earlier later) (sym there)
      (subst (λ passed. Adds (AreOn MappedFits (Some tied) (text_plan shown servers passed)) earlier later) (sym is) adds)
