-- What code finds of a test is what plans say of it.
use Rattle.hc_plan.proofs.Common.{◌≡◌, ◌∙◌, ℕ, List, [], ◌∷◌, ◌++◌, drop, true, false, not}
use Rattle.hc_plan.proofs.Common.{◌&&◌, ◌||◌, Option}
use Rattle.hc_plan.proofs.Common.{Some, None, option_map, refl, sym, ap, subst, inl, inr, ◌⊎◌, true≢false}
use Rattle.hc_plan.proofs.Common.{append_assoc}
use Rattle.hc_plan.proofs.Common.{and_both, and_left, and_right, cases, Key, first_key, second_key, third_key, pick}
use Rattle.hc_plan.proofs.Common.{place}
use Rattle.hc_plan.proofs.Common.{TextSet, Three}
use Rattle.std.specs.List.{AllByRecursion, list_all}
use Rattle.std.specs.Prelude.{nat_lt}
use Rattle.hc_cells.specs.Cells.{Sets, holds}
use Rattle.hc_cells.specs.Ties.{tied_to}
use Rattle.hc_cells.specs.declared.ties.Ties.{Ties}
use Rattle.hc_dfa.specs.Automata.{Automaton, accepts}
use Rattle.hc_dfa.specs.Texts.{IsText}
use Rattle.hc_plan.proofs.Made.{dropped, is_text, text_is, no_side, sole_side}
use Rattle.hc_plan.proofs.Narrowed.{joined_bytes, own_slot}
use Rattle.hc_plan.proofs.Unique.{all_one}
use Rattle.hc_plan.specs.Branches.{IsWay}
use Rattle.hc_plan.specs.Hands.{HasPart, HasParts, IsOfBytes, IsShape, cell_of, part_of, parts_of, side_of}
use Rattle.hc_plan.specs.Shapes.{shape_by}
use Rattle.hc_plan.specs.Slots.{Slot, touched}
use Rattle.hc_plan.specs.States.{AbsState, AbsText, IsWhole, Meets, Part, PartHas, PartsHave, ReadNow, ReadsNow, Sole}
use Rattle.hc_plan.specs.States.{all_known}
use Rattle.hc_plan.specs.States.{free, joined_with, known, met as met_text, on_side, open_slot, sole_at, sole_behind}
use Rattle.hc_plan.specs.States.{sole_in}
use Rattle.hc_plan.specs.States.{with_text}
use Rattle.hc_plan.specs.Ways.{HasText, IsHand, IsKnownWay, IsNarrowed, IsOpenWay, IsSide, IsSoleWay, IsTested}
use Rattle.hc_plan.specs.Ways.{LeftBy, LiesOn}
use Rattle.hc_plan.specs.Ways.{SoleLeft, Stands, kept, met}
use Rattle.hc_plan.specs.declared.hand.Element.{Element}
use Rattle.hc_plan.specs.declared.hand.Element.TheVariants as element
use Rattle.hc_plan.specs.declared.hand.Way.{Way}
use Rattle.hc_plan.specs.declared.shape.Shape.TheVariants.{Known, Open}
use Rattle.hc_plan.specs.declared.shape.Shape.TheVariants as shape

-- ---- shapes

pub shape_known : (own : Option (List ℕ)) (sole : Option Sole) (text : List ℕ) → Known text ≡ shape_by own sole
    → own ≡ Some text
shape_known (Some own) sole text is = ap (λ s. elim s [ Known own ↦ Some own | _ ↦ Some text ]) (sym is)
shape_known None (Some sole) text is = absurd (cc)
shape_known None None text is = absurd (cc)

shape_sole : (own : Option (List ℕ)) (sole : Option Sole) (one : Sole) → shape.Sole one ≡ shape_by own sole
    → sole ≡ Some one
shape_sole (Some own) sole one is = absurd (cc)
shape_sole None (Some sole) one is = ap (λ s. elim s [ shape.Sole own ↦ Some own | _ ↦ Some one ]) (sym is)
shape_sole None None one is = absurd (cc)

shape_open : (own : Option (List ℕ)) (sole : Option Sole) → Open ≡ shape_by own sole → sole ≡ None
shape_open (Some own) sole is = absurd (cc)
shape_open None (Some sole) is = absurd (cc)
shape_open None None is = refl

pub the_text : {text other : List ℕ} → Some text ≡ Some other → text ≡ other
the_text {text} is = ap (λ found. elim found [ Some z ↦ z | None ↦ text ]) is

none_behind : (own : List ℕ) (now : List Part) (text : List ℕ) (rest : Option (List ℕ))
    → ((r : List ℕ) → rest ≡ Some r → sole_in now ≡ None)
    → option_map (λ rest. own ++ rest) rest ≡ Some text
    → option_map (sole_behind own) (sole_in now) ≡ None
none_behind own now text None none is = absurd (cc)
none_behind own now text (Some r) none is = ap (option_map (sole_behind own)) (none r refl)

known_none : (now : List Part) (text : List ℕ) → all_known now ≡ Some text → sole_in now ≡ None
known_none [] text is = refl
known_none (known own ∷ now) text is = none_behind own now text (all_known now) (λ r e. known_none now r e) is
known_none (open_slot slot skip ∷ now) text is = absurd (cc)
known_none (free set ∷ now) text is = absurd (cc)

-- ---- the texts of parts

-- What stands behind a known front, where all is known.
rest_known : (own : List ℕ) (rest : Option (List ℕ)) (text : List ℕ)
    → option_map (λ rest. own ++ rest) rest ≡ Some text
    → (r : List ℕ) × (rest ≡ Some r) × (text ≡ own ++ r)
rest_known own None text is = absurd (cc)
rest_known own (Some r) text is = (r, refl, sym (the_text is))

rest_sole : (own : List ℕ) (rest : Option Sole) (one : Sole) → option_map (sole_behind own) rest ≡ Some one
    → (r : Sole) × (rest ≡ Some r) × (one ≡ sole_behind own r)
rest_sole own None one is = absurd (cc)
rest_sole own (Some r) one is = (r, refl, ap (λ found. elim found [ Some z ↦ z | None ↦ one ]) (sym is))

after_slot : (slot : Slot) (skip : ℕ) (rest : Option (List ℕ)) (one : Sole)
    → option_map (sole_at slot skip) rest ≡ Some one
    → (r : List ℕ) × (rest ≡ Some r) × (one ≡ sole_at slot skip r)
after_slot slot skip None one is = absurd (cc)
after_slot slot skip (Some r) one is = (r, refl, ap (λ found. elim found [ Some z ↦ z | None ↦ one ]) (sym is))

module _ (cell : Slot → TextSet) where
  reads_have : (part now : Part) → ReadsNow cell part now → (x : List ℕ) → PartHas cell part x
      → PartHas cell now x
  reads_have (known own) now reads x has = subst (λ now. PartHas cell now x) (sym reads) has
  reads_have (open_slot slot skip) now (inl is) x has = subst (λ now. PartHas cell now x) (sym is.2)
      (has.2 ∙ ap (drop skip) (is.1.1 has.0 has.1))
  reads_have (open_slot slot skip) now (inr is) x has = subst (λ now. PartHas cell now x) (sym is.1) has
  reads_have (free set) now reads x has = subst (λ now. PartHas cell now x) (sym reads) has

  pub all_have : (parts now : List Part) → ReadNow cell parts now → (x : List ℕ) → PartsHave cell parts x
      → PartsHave cell now x
  all_have [] now reads x has = subst (λ now. PartsHave cell now x) (sym reads) has
  all_have (part ∷ parts) now reads x has = subst (λ now. PartsHave cell now x) (sym reads.2)
      (has.0, has.1, has.2, reads_have part reads.0 reads.3 has.0 has.3, all_have parts reads.1 reads.4 has.1 has.4)

  -- Parts that are known now have one text.
  pub are_known : (now : List Part) (text x : List ℕ) → all_known now ≡ Some text → PartsHave cell now x
      → x ≡ text
  are_known [] text x is has = has ∙ the_text is
  are_known (known own ∷ now) text x is has =
      let rest = rest_known own (all_known now) text is in
      has.2 ∙ (λ i. has.3 i ++ are_known now rest.0 has.1 rest.1 has.4 i) ∙ sym rest.2
  are_known (open_slot slot skip ∷ now) text x is has = absurd (cc)
  are_known (free set ∷ now) text x is has = absurd (cc)

  -- A part that is read as this text has it.
  own_text : (part : Part) (own : List ℕ) → ReadsNow cell part (known own) → PartHas cell part own
  own_text (known own) other reads = ap (λ now. elim now [ known z ↦ z | _ ↦ other ]) reads
  own_text (open_slot slot skip) other (inl is) =
      (is.0, is.1.0, ap (λ now. elim now [ known z ↦ z | _ ↦ other ]) is.2)
  own_text (open_slot slot skip) other (inr is) = absurd (let e = is.1 in cc)
  own_text (free set) other reads = absurd (let e = reads in cc)

  by_first : (part first : Part) (rest parts : List Part) (text : List ℕ) → ReadsNow cell part first
      → all_known (first ∷ rest) ≡ Some text
      → ((r : List ℕ) → all_known rest ≡ Some r → PartsHave cell parts r)
      → PartsHave cell (part ∷ parts) text
  by_first part (known own) rest parts text reads is more =
      let e = rest_known own (all_known rest) text is in (own, e.0, e.2, own_text part own reads, more e.0 e.1)
  by_first part (open_slot slot skip) rest parts text reads is more = absurd (cc)
  by_first part (free set) rest parts text reads is more = absurd (cc)

  pub has_known : (parts now : List Part) (text : List ℕ) → ReadNow cell parts now → all_known now ≡ Some text
      → PartsHave cell parts text
  has_known [] now text reads is = sym (the_text (subst (λ now. all_known now ≡ Some text) reads is))
  has_known (part ∷ parts) now text reads is =
      by_first part reads.0 reads.1 parts text reads.3 (subst (λ now. all_known now ≡ Some text) reads.2 is)
      (λ r e. has_known parts reads.1 r reads.4 e)

  slot_text : (part : Part) (slot : Slot) (skip : ℕ) (m : List ℕ) → ReadsNow cell part (open_slot slot skip)
      → cell slot m ≡ true → PartHas cell part (drop skip m)
  slot_text (known own) slot skip m reads in_cell = absurd (let e = reads in cc)
  slot_text (open_slot own count) slot skip m (inl is) in_cell = absurd (let e = is.2 in cc)
  slot_text (open_slot own count) slot skip m (inr is) in_cell =
      let same_slot = ap (λ now. elim now [ open_slot s k ↦ s | _ ↦ slot ]) is.1 in
      let same_skip = ap (λ now. elim now [ open_slot s k ↦ k | _ ↦ skip ]) is.1 in
      (m, ap (λ slot. cell slot m) (sym same_slot) ∙ in_cell, ap (λ skip. drop skip m) same_skip)
  slot_text (free set) slot skip m reads in_cell = absurd (let e = reads in cc)

  by_sole : (part first : Part) (rest parts : List Part) (one : Sole) (m : List ℕ) → ReadsNow cell part first
      → sole_in (first ∷ rest) ≡ Some one → cell one.slot m ≡ true
      → ((r : List ℕ) → all_known rest ≡ Some r → PartsHave cell parts r)
      → ((r : Sole) → sole_in rest ≡ Some r → cell r.slot m ≡ true → PartsHave cell parts (joined_with r m))
      → PartsHave cell (part ∷ parts) (joined_with one m)
  by_sole part (known own) rest parts one m reads is in_cell more sole =
      let e = rest_sole own (sole_in rest) one is in (
        own,
        joined_with e.0 m,
        ap (λ one. joined_with one m) e.2 ∙ append_assoc own e.0.before (drop e.0.skip m ++ e.0.after),
        own_text part own reads,
        sole e.0 e.1 (ap (λ one. cell one.slot m) (sym e.2) ∙ in_cell),
      )
  by_sole part (open_slot slot skip) rest parts one m reads is in_cell more sole =
      let e = after_slot slot skip (all_known rest) one is in (
        drop skip m,
        e.0,
        ap (λ one. joined_with one m) e.2,
        slot_text part slot skip m reads (ap (λ one. cell one.slot m) (sym e.2) ∙ in_cell),
        more e.0 e.1,
      )
  by_sole part (free set) rest parts one m reads is in_cell more sole = absurd (cc)

  has_sole : (parts now : List Part) (one : Sole) (m : List ℕ) → ReadNow cell parts now → sole_in now ≡ Some one
      → cell one.slot m ≡ true → PartsHave cell parts (joined_with one m)
  has_sole [] now one m reads is in_cell = absurd (let e = subst (λ now. sole_in now ≡ Some one) reads is in cc)
  has_sole (part ∷ parts) now one m reads is in_cell =
      by_sole part reads.0 reads.1 parts one m reads.3 (subst (λ now. sole_in now ≡ Some one) reads.2 is) in_cell
      (λ r e. has_known parts reads.1 r reads.4 e) (λ r e member. has_sole parts reads.1 r m reads.4 e member)

-- ---- elements

element_bytes : (sets : Sets) (element : Element) → IsOfBytes (part_of element) → (x : List ℕ)
    → HasPart sets element x
    → IsText x
element_bytes sets (element.Known text) bytes x has = subst IsText (sym has) bytes
element_bytes sets (element.Open slot skip) bytes x has =
    subst IsText (sym has.2) (dropped skip has.0 (is_text has.0 (and_left _ (holds sets slot has.0) has.1)))
element_bytes sets (element.Free set) bytes x has = is_text x (and_left _ (accepts set x) has)

elements_bytes : (sets : Sets) (elements : List Element) → AllByRecursion IsOfBytes (parts_of elements)
    → (x : List ℕ)
    → HasParts sets elements x → IsText x
elements_bytes sets [] bytes x has = subst IsText (sym has) tt
elements_bytes sets (element ∷ elements) bytes x has =
    subst IsText (sym has.2) (joined_bytes has.0 has.1 (element_bytes sets element bytes.0 has.0 has.3)
    (elements_bytes sets elements bytes.1 has.1 has.4))

-- A text that the parts may be lies where its side says.
pub lies_so_far : (cell : Slot → TextSet) (own : AbsText) (side : Option Automaton) → LiesOn cell own side
    → (y : List ℕ)
    → IsText y → PartsHave cell own.parts y → own.side y ≡ side_of side y
lies_so_far cell own side (inl all) y bytes has = all y bytes
lies_so_far cell own side (inr is) y bytes has =
    let same = are_known cell is.1.0 is.0 y is.1.2 (all_have cell own.parts is.1.0 is.1.1 y has) in
    ap own.side same ∙ is.2 ∙ ap (side_of side) (sym same)

pub hand_bytes : (sets : Sets) (elements : List Element) → AllByRecursion IsOfBytes (parts_of elements)
    → (off : ℕ)
    (side : Option Automaton) (own : AbsText) → IsHand (cell_of sets) elements off side own → (x : List ℕ)
    → PartsHave (cell_of sets) own.parts x → IsText x
hand_bytes sets elements bytes off side own hand x has =
    elements_bytes sets elements bytes x (subst (λ parts. PartsHave (cell_of sets) parts x) hand.made has)

-- ---- a test

pick_place : {V : Type 0} (key : Key) (v : V) (vs : Three V) → pick (place key v vs) key ≡ v
pick_place first_key v vs = refl
pick_place second_key v vs = refl
pick_place third_key v vs = refl

module _ (sets : Sets) (ties : Ties) (elements : List Element) (off : ℕ) (side : Option Automaton) (set : TextSet)
    (state : AbsState) (key : Key) (asked : TextSet) (stands : Stands sets ties elements off side state key)
    (alike : (x : List ℕ) → IsText x → asked x ≡ set x)
    (bytes : AllByRecursion IsOfBytes (parts_of elements)) (now : List Part)
    (reads : ReadNow (cell_of sets) (parts_of elements) now) where
  abbrev own : AbsText
  own = pick state.texts key

  abbrev tested : AbsText
  tested = met_text own asked

  read : ReadNow state.cell own.parts now
  read = subst (λ parts. ReadNow state.cell parts now) (sym stands.hand.made)
      (subst (λ cell. ReadNow cell (parts_of elements) now) (sym stands.holds) reads)

  own_bytes : (x : List ℕ) → PartsHave state.cell own.parts x → IsText x
  own_bytes x has = elements_bytes sets elements bytes x (subst (λ cell. PartsHave cell (parts_of elements) x)
      stands.holds
      (subst (λ parts. PartsHave state.cell parts x) stands.hand.made has))

  -- What is asked behind the bytes that are taken off.
  asked_so : (x : List ℕ) → IsText x → asked (drop own.off x) ≡ set (drop off x)
  asked_so x is = ap (λ off. asked (drop off x)) stands.hand.behind ∙ alike (drop off x) (dropped off x is)

  to_met : Meets state.cell own asked
      → ((x : List ℕ) → PartsHave state.cell own.parts x → own.side x ≡ side_of side x)
      → (y : List ℕ) × PartsHave state.cell own.parts y × (met off side set y ≡ true)
  to_met meets lies =
      let has = meets.1 in
      let y = has.0 in (
        y,
        has.1,
        and_both (sym (lies y has.1) ∙ has.2)
            (sym (asked_so y (own_bytes y has.1)) ∙ ap asked (sym has.3) ∙ meets.2),
      )

  from_met : (y : List ℕ) → PartsHave state.cell own.parts y → own.side y ≡ side_of side y
      → met off side set y ≡ true → Meets state.cell own asked
  from_met y has lies is = (
    drop own.off y,
    (y, has, lies ∙ and_left (side_of side y) _ is, refl),
    asked_so y (own_bytes y has) ∙ and_right (side_of side y) _ is,
  )

  -- ---- nothing is narrowed

  whole_none : sole_in now ≡ None → IsWhole (on_side state key asked now) (sole_in now)
  whole_none none = subst (λ sole. IsWhole (on_side state key asked now) sole) (sym none) tt

  stands_same : (new : Option Automaton) → sole_in now ≡ None → LiesOn state.cell tested new
      → Stands sets ties elements off new (on_side state key asked now) key
  stands_same new none lies = subst (λ s. Stands sets ties elements off new s key)
      (sym (no_side state key asked now none))
      (record {
        holds = stands.holds;
        tied = stands.tied;
        hand = subst (λ own. IsHand state.cell elements off new own) (sym (pick_place key tested state.texts))
            (record { made = stands.hand.made; behind = stands.hand.behind; lies = lies });
      })

  -- ---- a known text

  module _ (text : List ℕ) (is_known : all_known now ≡ Some text) where
    only_text : (y : List ℕ) → PartsHave state.cell own.parts y → y ≡ text
    only_text y has = are_known state.cell now text y is_known (all_have state.cell own.parts now read y has)

    lies_known : (y : List ℕ) → PartsHave state.cell own.parts y → own.side y ≡ side_of side y
    lies_known y has = lies_so_far state.cell own side stands.hand.lies y (own_bytes y has) has

    text_has : PartsHave state.cell own.parts text
    text_has = has_known state.cell own.parts now text read is_known

    pub known_left : (found : Option Way) → IsKnownWay sets side (met off side set) text found
        → LeftBy state key asked now ties elements off found
    known_left None is = λ way.
        let m = to_met way.0 lies_known in
        true≢false (sym m.2 ∙ ap (met off side set) (only_text m.0 m.1) ∙ is)
    known_left (Some way) is = (
      (from_met text text_has (lies_known text text_has) is.0, whole_none (known_none now text is_known)),
      subst (λ cell. Stands cell ties elements off way.side (on_side state key asked now) key) (sym is.1)
          (subst (λ new. Stands sets ties elements off new (on_side state key asked now) key) (sym is.2)
          (stands_same side (known_none now text is_known) (inr (text, (now, read, is_known), same)))),
    )
      where
        same : tested.side text ≡ side_of side text
        same =
            and_both (lies_known text text_has ∙ and_left (side_of side text) _ is.0)
            (asked_so text (own_bytes text text_has) ∙ and_right (side_of side text) _ is.0)
            ∙ sym (and_left (side_of side text) _ is.0)

  -- ---- texts that are not known

  module _ (unknown : (text : List ℕ) → all_known now ≡ Some text → ⊥) where
    lies_all : (x : List ℕ) → IsText x → own.side x ≡ side_of side x
    lies_all x is = by stands.hand.lies
      where
        by : LiesOn state.cell own side → own.side x ≡ side_of side x
        by (inl all) = all x is
        by (inr one) = absurd (unknown one.0
            (ap all_known (all_one state.cell own.parts now one.1.0 read one.1.1) ∙ one.1.2))

    tested_so : (x : List ℕ) → IsText x → tested.side x ≡ met off side set x
    tested_so x is = λ i. lies_all x is i && asked_so x is i

    lies_so : (new : Option Automaton) → IsSide (met off side set) new → (x : List ℕ) → IsText x
        → tested.side x ≡ side_of new x
    lies_so new is x text = tested_so x text ∙ sym (is.2 x text) ∙ ap (λ new. side_of new x) (sym is.1)

    to_parts : (y : List ℕ) → PartsHave state.cell own.parts y → HasParts sets elements y
    to_parts y has = subst (λ cell. PartsHave cell (parts_of elements) y) stands.holds
        (subst (λ parts. PartsHave state.cell parts y) stands.hand.made has)

    of_parts : (y : List ℕ) → HasParts sets elements y → PartsHave state.cell own.parts y
    of_parts y has = subst (λ parts. PartsHave state.cell parts y) (sym stands.hand.made)
        (subst (λ cell. PartsHave cell (parts_of elements) y) (sym stands.holds) has)

    met_by : Meets state.cell own asked → (y : List ℕ) × PartsHave state.cell own.parts y
        × (met off side set y ≡ true)
    met_by meets = to_met meets (λ y has. lies_all y (own_bytes y has))

    pub open_left : (found : Option Way) → sole_in now ≡ None → IsOpenWay sets elements (met off side set) found
        → LeftBy state key asked now ties elements off found
    open_left None none is = λ way.
        let m = met_by way.0 in true≢false (sym m.2 ∙ is m.0 (to_parts m.0 m.1) (own_bytes m.0 m.1))
    open_left (Some way) none is =
        let y = is.0.0 in
        let has = of_parts y is.0.1 in (
          (from_met y has (lies_all y (own_bytes y has)) is.0.2, whole_none none),
          subst (λ cell. Stands cell ties elements off way.side (on_side state key asked now) key) (sym is.1)
              (stands_same way.side none (inl (lies_so way.side is.2))),
        )

    -- ---- one open slot

    module _ (one : Sole) (is_sole : sole_in now ≡ Some one) (before : IsText one.before) (after : IsText one.after)
      where
        abbrev all_slots : List Slot
        all_slots = one.slot ∷ tied_to ties one.slot

        abbrev keeps : TextSet
        keeps m = met off side set (joined_with one m)

        abbrev left : Slot → TextSet
        left slot m = state.cell slot m && (not (touched state.ties one.slot slot) || tested.side (joined_with one m))

        with_bytes : (m : List ℕ) → IsText m → IsText (joined_with one m)
        with_bytes m is = joined_bytes one.before (drop one.skip m ++ one.after) before
            (joined_bytes (drop one.skip m) one.after (dropped one.skip m is) after)

        cell_so : (slot : Slot) (m : List ℕ) → IsText m → state.cell slot m ≡ holds sets slot m
        cell_so slot m is = ap (λ cell. cell slot m) stands.holds ∙ ap (λ b. b && holds sets slot m) (text_is m is)

        left_so : (slot : Slot) (m : List ℕ) → IsText m → left slot m ≡ kept sets all_slots keeps slot m
        left_so slot m is = λ i. cell_so slot m is i
            && (not (touched (stands.tied i) one.slot slot) || tested_so (joined_with one m) (with_bytes m is) i)

        side_is : on_side state key asked now ≡ with_text (record state { cell = left }) key tested
        side_is = sole_side state key asked now one is_sole left (λ slot x. refl)

        whole_by : IsWhole (on_side state key asked now) (sole_in now)
            → (slot : Slot) → touched state.ties one.slot slot ≡ true → (m : List ℕ) × (left slot m ≡ true)
        whole_by whole slot is =
            subst (λ s. IsWhole s (Some one)) side_is
            (subst (λ sole. IsWhole (on_side state key asked now) sole) is_sole whole) slot is

        bytes_in : (slot : Slot) (m : List ℕ) → state.cell slot m ≡ true → IsText m
        bytes_in slot m is = is_text m (and_left _ (holds sets slot m)
            (sym (ap (λ cell. cell slot m) stands.holds) ∙ is))

        none_left : SoleLeft sets ties (met off side set) one None → IsWay state key asked now → ⊥
        none_left none way =
            let m = whole_by way.1 none.0 (ap (λ ties. touched ties one.slot none.0) stands.tied ∙ none.1) in
            let is = bytes_in none.0 m.0 (and_left (state.cell none.0 m.0) _ m.1) in
            true≢false (sym m.1 ∙ left_so none.0 m.0 is ∙ none.2 m.0 is)

        module _ (way : Way) (narrowed : IsNarrowed sets all_slots keeps way.cell)
            (lies : IsSide (met off side set) way.side)
          where
            new_is : (slot : Slot) (x : List ℕ) → cell_of way.cell slot x ≡ left slot x
            new_is slot x = by (cases (list_all (λ b. nat_lt b 256) x))
              where
                by : (list_all (λ b. nat_lt b 256) x ≡ true) ⊎ (list_all (λ b. nat_lt b 256) x ≡ false)
                    → cell_of way.cell slot x ≡ left slot x
                by (inl e) =
                    let is = is_text x e in
                    ap (λ b. b && holds way.cell slot x) e ∙ narrowed.keeps slot x is ∙ sym (left_so slot x is)
                by (inr e) =
                    ap (λ b. b && holds way.cell slot x) e
                    ∙ sym (ap (λ b. b && (not (touched state.ties one.slot slot) || tested.side (joined_with one x)))
                    (ap (λ cell. cell slot x) stands.holds ∙ ap (λ b. b && holds sets slot x) e))

            now_is : on_side state key asked now ≡ with_text (record state { cell = cell_of way.cell }) key tested
            now_is = sole_side state key asked now one is_sole (cell_of way.cell) new_is

            member : HasText (holds way.cell one.slot)
            member = narrowed.some one.slot (own_slot one.slot (tied_to ties one.slot))

            is_kept : kept sets all_slots keeps one.slot member.0 ≡ true
            is_kept = sym (narrowed.keeps one.slot member.0 member.1) ∙ member.2

            on_side_too : keeps member.0 ≡ true
            on_side_too =
                ap (λ b. not b || keeps member.0) (sym (own_slot one.slot (tied_to ties one.slot)))
                ∙ and_right (holds sets one.slot member.0) _ is_kept

            pub sole_found : LeftBy state key asked now ties elements off (Some way)
            sole_found = (
              (
                from_met (joined_with one member.0)
                    (has_sole state.cell own.parts now one member.0 read is_sole
                    (cell_so one.slot member.0 member.1 ∙ and_left (holds sets one.slot member.0) _ is_kept))
                    (lies_all (joined_with one member.0) (with_bytes member.0 member.1)) on_side_too,
                subst (λ sole. IsWhole (on_side state key asked now) sole) (sym is_sole)
                    (subst (λ s. IsWhole s (Some one)) (sym now_is) (λ slot is.
                    let has = narrowed.some slot (ap (λ ties. touched ties one.slot slot) (sym stands.tied) ∙ is) in
                    (has.0, and_both (text_is has.0 has.1) has.2))),
              ),
              subst (λ s. Stands way.cell ties elements off way.side s key) (sym now_is) (record {
                holds = refl;
                tied = stands.tied;
                hand = subst (λ own. IsHand (cell_of way.cell) elements off way.side own)
                    (sym (pick_place key tested state.texts))
                    (record { made = stands.hand.made; behind = stands.hand.behind; lies = inl (lies_so way.side lies) });
              }),
            )

        pub sole_left : (found : Option Way) → SoleLeft sets ties (met off side set) one found
            → LeftBy state key asked now ties elements off found
        sole_left None none = none_left none
        sole_left (Some way) is = sole_found way is.0 is.1

-- ---- by the shape

module _ (sets : Sets) (ties : Ties) (elements : List Element) (off : ℕ) (side : Option Automaton) (set : TextSet)
    (found : Option Way) where
  pub known_tested : (text : List ℕ) → IsShape sets elements (Known text)
      → IsKnownWay sets side (met off side set) text found → IsTested sets ties elements off side set found
  known_tested text s is = λ state key asked stands alike. (
    s.now,
    read sets ties elements off side set state key asked stands alike s.bytes s.now s.reads,
    known_left sets ties elements off side set state key asked stands alike s.bytes s.now s.reads text
        (shape_known (all_known s.now) (sole_in s.now) text s.is) found is,
  )

  pub open_tested : IsShape sets elements Open → IsOpenWay sets elements (met off side set) found
      → IsTested sets ties elements off side set found
  open_tested s is = λ state key asked stands alike. (
    s.now,
    read sets ties elements off side set state key asked stands alike s.bytes s.now s.reads,
    open_left sets ties elements off side set state key asked stands alike s.bytes s.now s.reads unknown found
        (shape_open (all_known s.now) (sole_in s.now) s.is) is,
  )
    where
      unknown : (text : List ℕ) → all_known s.now ≡ Some text → ⊥
      unknown text e = let is = s.is ∙ ap (λ own. shape_by own (sole_in s.now)) e in cc

  pub sole_tested : (one : Sole) → IsShape sets elements (shape.Sole one)
      → IsSoleWay sets ties (met off side set) one found → IsTested sets ties elements off side set found
  sole_tested one s is = λ state key asked stands alike. (
    s.now,
    read sets ties elements off side set state key asked stands alike s.bytes s.now s.reads,
    sole_left sets ties elements off side set state key asked stands alike s.bytes s.now s.reads unknown one
        (shape_sole (all_known s.now) (sole_in s.now) one s.is) is.0 is.1 found is.2,
  )
    where
      unknown : (text : List ℕ) → all_known s.now ≡ Some text → ⊥
      unknown text e = let is = s.is ∙ ap (λ own. shape_by own (sole_in s.now)) e in cc
