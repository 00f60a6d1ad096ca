-- What look-ups give.
use Rattle.hc_abs_rw.proofs.Common.{◌≡◌, ◌∙◌, ℕ, List, [], ◌∷◌, Bool, true, false, Option, None, Some, refl, sym, ap, subst}
use Rattle.hc_abs_rw.proofs.Common.{inl, inr, ◌||◌, Frame}
use Rattle.hc_addr.specs.declared.addr.Addr.{Addr}
use Rattle.hc_cells.specs.Cells.{Sets}
use Rattle.hc_dfa.specs.Automata.{Automaton, accepts}
use Rattle.hc_dfa.specs.Built.{Accepts, product_of}
use Rattle.hc_dfa.specs.Texts.{IsText}
use Rattle.hc_dfa.specs.declared.products.Keep.TheVariants.{Either}
use Rattle.hc_map.specs.Images.{IsImageOf}
use Rattle.hc_map.specs.declared.images.ImageSet.{ImageSet}
use Rattle.hc_model.specs.declared.template.Piece.{Piece}
use Rattle.hc_plan.proofs.Common.{and_both, and_left, and_right, either}
use Rattle.hc_plan.proofs.Made.{is_text, set_of_bytes, text_is}
use Rattle.hc_plan.proofs.Tested.{all_have, are_known, has_known, shape_known, the_text}
use Rattle.hc_plan.proofs.Unique.{all_one}
use Rattle.hc_plan.specs.Branches.{Else, GivesFor, IsLiteral, LooksUp}
use Rattle.hc_plan.specs.Hands.{IsShape, cell_of, part_of, parts_of, set_in}
use Rattle.hc_plan.specs.States.{AbsState, AreParts, Given, Has, IsGiven, ReadNow, all_known, sole_in, some_of, this}
use Rattle.hc_plan.specs.States.{whole}
use Rattle.hc_plan.specs.Shapes.{shape_by}
use Rattle.hc_plan.specs.Texts.{IsSetOf}
use Rattle.hc_plan.specs.Ways.{IsHandSet}
use Rattle.hc_plan.specs.declared.hand.Element.{Element}
use Rattle.hc_plan.specs.declared.hand.Element.TheVariants as element
use Rattle.hc_plan.specs.declared.shape.Shape.{Shape}
use Rattle.hc_plan.specs.declared.shape.Shape.TheVariants.{Known, Open}
use Rattle.hc_plan.specs.declared.shape.Shape.TheVariants as shape
use Rattle.hc_plan.specs.declared.shape.Sole.{Sole}
use Rattle.hc_abs_rw.specs.Elements.{AreElementsOf, IsLookedUp, LooksUpTo}
use Rattle.hc_abs_rw.specs.Known.{Holds}
use Rattle.hc_abs_rw.specs.Looks.{IsValue, IsValues, KnownAs, May, NoneKnown}
use Rattle.hc_abs_rw.specs.Templates.{plain_items}
use Rattle.hc_abs_rw.specs.declared.known.Known.{Known as KnownState}

-- ---- shapes

pub known_as : (sets : Sets) (elements : List Element) (text : List ℕ) → IsShape sets elements (Known text)
    → KnownAs sets elements text
known_as sets elements text is = (is.now, is.reads, shape_known (all_known is.now) (sole_in is.now) text is.is)

-- Another shape is no known text.
none_by : (sets : Sets) (elements : List Element) (shape : Shape) → IsShape sets elements shape
    → ((text : List ℕ) → shape ≡ Known text → ⊥) → NoneKnown sets elements
none_by sets elements shape is other text known =
    let same : all_known is.now ≡ Some text =
    ap all_known (all_one (cell_of sets) (parts_of elements) is.now known.0 is.reads known.1) ∙ known.2 in
    other text (is.is ∙ ap (λ all. shape_by all (sole_in is.now)) same)

pub sole_none : (sets : Sets) (elements : List Element) (sole : Sole) → IsShape sets elements (shape.Sole sole)
    → NoneKnown sets elements
sole_none sets elements sole is = none_by sets elements (shape.Sole sole) is (λ text same. let none = same in cc)

pub open_none : (sets : Sets) (elements : List Element) → IsShape sets elements Open → NoneKnown sets elements
open_none sets elements is = none_by sets elements Open is (λ text same. let none = same in cc)

-- The texts that elements joined may be.
pub may_set : (sets : Sets) (elements : List Element) (set : Automaton) → IsHandSet sets elements 0 None set
    → IsSetOf (set_in set) (May sets elements)
may_set sets elements set is =
    is (whole (parts_of elements)) (record { made = refl; behind = refl; lies = inl (λ x bytes. refl) })

-- ---- values of sets

module _ (sets : Sets) (table : List ℕ → Option (List ℕ)) (keys fallbacks : List Element)
    (bytes : (key value : List ℕ) → IsText key → table key ≡ Some value → IsText value) (texts : Automaton)
    (is_keys : IsSetOf (set_in texts) (May sets keys)) (image : ImageSet)
    (is_image : IsImageOf table (accepts texts) image) where
  abbrev Looked : List ℕ → Type 0
  Looked = LooksUp (May sets keys) table (May sets fallbacks)

  key_there : (key : List ℕ) → IsText key → accepts texts key ≡ true → May sets keys key
  key_there key text accepted = (is_keys key).0 (and_both (text_is key text) accepted)

  key_text : (key : List ℕ) → May sets keys key → IsText key
  key_text key may = is_text key (and_left _ (accepts texts key) ((is_keys key).1 may))

  from_value : (x : List ℕ) → IsText x → accepts image.values x ≡ true → Looked x
  from_value x text accepted =
      let of = (is_image.values x text).0 accepted in
      (of.key, key_there of.key of.bytes of.member, subst (λ value. Else (May sets fallbacks) value x) (sym of.has) refl)

  to_value : (x : List ℕ) (value : List ℕ) (key : List ℕ) → May sets keys key → table key ≡ Some value → x ≡ value
      → accepts image.values x ≡ true
  to_value x value key may has same =
      let in_keys = (is_keys key).1 may in
      subst (λ x. accepts image.values x ≡ true) (sym same)
      ((is_image.values value (bytes key value (key_text key may) has)).1 (record {
        key = key;
        bytes = is_text key (and_left _ (accepts texts key) in_keys);
        member = and_right _ (accepts texts key) in_keys;
        has = has;
      }))

  lacks : (key : List ℕ) → May sets keys key → table key ≡ None → image.missing ≡ true
  lacks key may none =
      let in_keys = (is_keys key).1 may in
      is_image.missing.1
      (key, is_text key (and_left _ (accepts texts key) in_keys), and_right _ (accepts texts key) in_keys, none)

  -- Each key has a value.
  pub all_values : image.missing ≡ false → IsValues sets table keys fallbacks (element.Free image.values)
  all_values none = (
    image.values,
    refl,
    set_of_bytes (accepts image.values) Looked in_bytes
        (λ x text. (from_value x text, λ looked. by x looked (table looked.0) refl looked.2)),
  )
    where
      by : (x : List ℕ) (looked : Looked x) (value : Option (List ℕ)) → table looked.0 ≡ value
          → Else (May sets fallbacks) value x → accepts image.values x ≡ true
      by x looked (Some value) has same = to_value x value looked.0 looked.1 has same
      by x looked None has may = absurd (let both = sym (lacks looked.0 looked.1 has) ∙ none in cc)

      in_bytes : (x : List ℕ) → Looked x → IsText x
      in_bytes x looked = of (table looked.0) refl looked.2
        where
          of : (value : Option (List ℕ)) → table looked.0 ≡ value → Else (May sets fallbacks) value x → IsText x
          of (Some value) has same = subst IsText (sym same) (bytes looked.0 value (key_text looked.0 looked.1) has)
          of None has may = absurd (let both = sym (lacks looked.0 looked.1 has) ∙ none in cc)

  -- Some key has none.
  module _ (others made : Automaton) (is_others : IsSetOf (set_in others) (May sets fallbacks))
      (both : Accepts made (product_of Either image.values others)) where
    pub some_values : image.missing ≡ true → IsValues sets table keys fallbacks (element.Free made)
    some_values some = (
      made,
      refl,
      set_of_bytes (accepts made) Looked in_bytes (λ x text. (
        from x text,
        λ looked.
            both x text ∙ by x text looked (table looked.0) refl looked.2,
      )),
    )
      where
        in_bytes : (x : List ℕ) → Looked x → IsText x
        in_bytes x looked = of (table looked.0) refl looked.2
          where
            of : (value : Option (List ℕ)) → table looked.0 ≡ value → Else (May sets fallbacks) value x → IsText x
            of (Some value) has same = subst IsText (sym same) (bytes looked.0 value (key_text looked.0 looked.1) has)
            of None has may = is_text x (and_left _ (accepts others x) ((is_others x).1 may))

        by : (x : List ℕ) → IsText x → (looked : Looked x) (value : Option (List ℕ)) → table looked.0 ≡ value
            → Else (May sets fallbacks) value x → (accepts image.values x || accepts others x) ≡ true
        by x text looked (Some value) has same = rw (to_value x value looked.0 looked.1 has same) refl
        by x text looked None has may =
            or_other (accepts image.values x) (and_right _ (accepts others x) ((is_others x).1 may))
          where
            or_other : (v : Bool) {w : Bool} → w ≡ true → (v || w) ≡ true
            or_other true is = refl
            or_other false is = is

        from : (x : List ℕ) → IsText x → accepts made x ≡ true → Looked x
        from x text accepted =
            elim (either (accepts image.values x) (accepts others x) (sym (both x text) ∙ accepted)) [
              | inl value ↦ from_value x text value
              | inr other ↦
                  let key = is_image.missing.0 some in (
                    key.0,
                    key_there key.0 key.1 key.2,
                    subst (λ value. Else (May sets fallbacks) value x) (sym key.3)
                        ((is_others x).0 (and_both (text_is x text) other)),
                  )
            ]

-- ---- what is given

parts_are : (frame : Frame) (client : Option Addr) (known : KnownState) (state : AbsState) → Holds client known state
    → (pieces : List Piece) (elements : List Element) → AreElementsOf frame client known pieces elements
    → AreParts state (plain_items frame pieces) (parts_of elements)
parts_are frame client known state holds [] elements are = ap parts_of are
parts_are frame client known state holds (piece ∷ pieces) elements are = (
  part_of are.0,
  parts_of are.1,
  ap parts_of are.2,
  are.3 state holds,
  parts_are frame client known state holds pieces are.1 are.4,
)

module _ (frame : Frame) (client : Option Addr) (known : KnownState) (name : List ℕ) (key fallback : List Piece)
    (keys fallbacks : List Element) (are_keys : AreElementsOf frame client known key keys)
    (are_fallbacks : AreElementsOf frame client known fallback fallbacks) (made : Element) where
  abbrev table : List ℕ → Option (List ℕ)
  table = frame.values name

  module _ (state : AbsState) (cell : state.cell ≡ cell_of known.cell) (holds : Holds client known state) where
    literal : (elements : List Element) (text : List ℕ) → KnownAs known.cell elements text
        → IsLiteral state (whole (parts_of elements)) text
    literal elements text known_so =
        (known_so.0, text, subst (λ cell. ReadNow cell (parts_of elements) known_so.0) (sym cell) known_so.1, known_so.2, refl)

    unliteral : (elements : List Element) (x : List ℕ) → IsLiteral state (whole (parts_of elements)) x
        → KnownAs known.cell elements x
    unliteral elements x is = (
      is.0,
      subst (λ cell. ReadNow cell (parts_of elements) is.0) cell is.2,
      is.3 ∙ ap Some (sym is.4),
    )

    looked_up : (given : Given) → GivesFor state table (whole (parts_of keys)) (whole (parts_of fallbacks)) given
        → IsGiven given (part_of made) → IsLookedUp frame client known name key fallback made state
    looked_up given gives is = record {
      keys = parts_of keys;
      fallbacks = parts_of fallbacks;
      key_parts = parts_are frame client known state holds key keys are_keys;
      fallback_parts = parts_are frame client known state holds fallback fallbacks are_fallbacks;
      given = given;
      gives = gives;
      is = is;
    }

    -- One known text.
    one_text : (elements : List Element) (text other : List ℕ) → KnownAs known.cell elements text
        → KnownAs known.cell elements other → other ≡ text
    one_text elements text other is also =
        the_text (sym also.2
        ∙ ap all_known (all_one (cell_of known.cell) (parts_of elements) also.0 is.0 also.1 is.1) ∙ is.2)

    -- Elements that are a known text may be nothing else.
    may_known : (elements : List Element) (text x : List ℕ) → KnownAs known.cell elements text
        → May known.cell elements x → x ≡ text
    may_known elements text x is may =
        may.3 ∙ are_known (cell_of known.cell) is.0 text may.0 is.2
        (all_have (cell_of known.cell) (parts_of elements) is.0 is.1 may.0 may.1)

    known_may : (elements : List Element) (text : List ℕ) → KnownAs known.cell elements text
        → May known.cell elements text
    known_may elements text is =
        (text, has_known (cell_of known.cell) (parts_of elements) is.0 text is.1 is.2, refl, refl)

    -- By a set, where no literal is given.
    by_set : (set : Automaton)
        → ((x : List ℕ) → LooksUp (IsLiteral state (whole (parts_of keys))) table
        (IsLiteral state (whole (parts_of fallbacks))) x → ⊥)
        → IsSetOf (set_in set) (LooksUp (May known.cell keys) table (May known.cell fallbacks))
        → made ≡ element.Free set → IsLookedUp frame client known name key fallback made state
    by_set set none is same =
        looked_up (some_of (set_in set))
        (inr (
          none,
          set_in set,
          subst (λ cell. IsSetOf (set_in set)
              (LooksUp (Has cell (whole (parts_of keys))) table (Has cell (whole (parts_of fallbacks))))) (sym cell) is,
          refl,
        ))
        (ap part_of same)

    by_value : (text : List ℕ) → KnownAs known.cell keys text → (value : Option (List ℕ)) → table text ≡ value
        → IsValue known.cell value fallbacks made → IsLookedUp frame client known name key fallback made state
    by_value text is (Some value) has same =
        looked_up (this value)
        (inl (
          value,
          (
            text,
            literal keys text is,
            subst (λ value_at. Else (IsLiteral state (whole (parts_of fallbacks))) value_at value) (sym has) refl,
          ),
          refl,
        ))
        (ap part_of same)
    by_value text is None has (inl one) =
        looked_up (this one.0)
        (inl (
          one.0,
          (
            text,
            literal keys text is,
            subst (λ value_at. Else (IsLiteral state (whole (parts_of fallbacks))) value_at one.0) (sym has)
                (literal fallbacks one.0 one.2),
          ),
          refl,
        ))
        (ap part_of one.1)
    by_value text is None has (inr other) =
        by_set other.1.0
        (λ x looked.
        let same = one_text keys text looked.0 is (unliteral keys looked.0 looked.1) in
        other.0 x (unliteral fallbacks x
        (subst (λ value_at. Else (IsLiteral state (whole (parts_of fallbacks))) value_at x) (ap table same ∙ has) looked.2)))
        (λ x. (
          (λ in_set. (
            text,
            known_may keys text is,
            subst (λ value_at. Else (May known.cell fallbacks) value_at x) (sym has) ((other.1.2 x).0 in_set),
          )),
          (λ looked.
              (other.1.2 x).1 (subst (λ value_at. Else (May known.cell fallbacks) value_at x)
              (ap table (may_known keys text looked.0 is looked.1) ∙ has) looked.2)),
        ))
        other.1.1

  pub known_looks : (text : List ℕ) → KnownAs known.cell keys text → IsValue known.cell (table text) fallbacks made
      → LooksUpTo frame client known name key fallback made
  known_looks text is value state cell holds = by_value state cell holds text is (table text) refl value

  pub open_looks : NoneKnown known.cell keys → IsValues known.cell table keys fallbacks made
      → LooksUpTo frame client known name key fallback made
  open_looks none values state cell holds =
      by_set state cell holds values.0 (λ x looked. none looked.0 (unliteral state cell holds keys looked.0 looked.1))
      values.2 values.1
