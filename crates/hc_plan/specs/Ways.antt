-- What a test of a text in hand leaves on one of its sides, in code and in the state that plans speak of.
use Rattle.std.specs.Prelude.{◌≡◌, ℕ, ◌&&◌, ◌||◌, ◌⊎◌, not, List, ◌∷◌, drop, Bool, true}
use Rattle.std.specs.Prelude.{false, Option, None, Some}
use Rattle.hc_cells.specs.Cells.{Sets, holds}
use Rattle.hc_cells.specs.Ties.{in_slots, tied_to}
use Rattle.hc_cells.specs.declared.ties.Ties.{Ties}
use Rattle.hc_dfa.specs.Automata.{Automaton}
use Rattle.hc_dfa.specs.Built.{Accepts}
use Rattle.hc_dfa.specs.Texts.{IsEmptySet, IsText, TextSet}
use Rattle.hc_pattern.specs.Pattern.{pattern_of}
use Rattle.hc_plan.specs.Branches.{IsWay, others}
use Rattle.hc_plan.specs.Groups.{GroupHolds}
use Rattle.hc_plan.specs.Hands.{HasParts, cell_of, parts_of, set_in, side_of}
use Rattle.hc_plan.specs.Slots.{Slot}
use Rattle.hc_plan.specs.States.{AbsState, AbsText, Has, Part, ReadNow, Sole, all_known, joined_with, on_side}
use Rattle.hc_plan.specs.Texts.{IsSetOf, Key, pick}
use Rattle.hc_plan.specs.declared.hand.Element.{Element}
use Rattle.hc_plan.specs.declared.hand.Way.{Way}
use Rattle.hc_plan.specs.declared.held.Found.{Found}

-- The texts on this side of a test.
abbrev pub on : Bool → TextSet → TextSet
on true set = set
on false set = others set

-- The elements joined, when the text is in the set, too.
abbrev pub met : ℕ → Option Automaton → TextSet → TextSet
met off side set y = side_of side y && set (drop off y)

abbrev pub HasText : TextSet → Type 0
HasText set = (m : List ℕ) × IsText m × (set m ≡ true)

-- ---- narrowing

-- Whether the set has no text.
abbrev pub IsEmptyAnswer : TextSet → Bool → Type 0
IsEmptyAnswer set true = IsEmptySet set
IsEmptyAnswer set false = HasText set

-- What these slots keep of their texts.
abbrev pub kept : Sets → List Slot → TextSet → Slot → TextSet
kept sets slots set slot m = holds sets slot m && (not (in_slots slots slot) || set m)

-- Each of the slots keeps its texts in the set, and has one.
pub record IsNarrowed (sets : Sets) (slots : List Slot) (set : TextSet) (made : Sets) : Type 0 where
  pub keeps : (slot : Slot) (m : List ℕ) → IsText m → holds made slot m ≡ kept sets slots set slot m
  pub some : (slot : Slot) → in_slots slots slot ≡ true → HasText (holds made slot)

-- Or one of them is left empty.
abbrev pub NarrowedBy : Sets → List Slot → TextSet → Option Sets → Type 0
NarrowedBy sets slots set None =
    (slot : Slot) × (in_slots slots slot ≡ true) × IsEmptySet (kept sets slots set slot)
NarrowedBy sets slots set (Some made) = IsNarrowed sets slots set made

abbrev pub NarrowedOr : Sets → Slot → List Slot → TextSet → Option Sets → Type 0
NarrowedOr sets slot rest set = NarrowedBy sets (slot ∷ rest) set

-- ---- ways by shapes

abbrev pub IsKnownWay : Sets → Option Automaton → TextSet → List ℕ → Option Way → Type 0
IsKnownWay sets side met whole None = met whole ≡ false
IsKnownWay sets side met whole (Some way) = (met whole ≡ true) × (way.cell ≡ sets) × (way.side ≡ side)

-- The side is this set.
abbrev pub IsSide : TextSet → Option Automaton → Type 0
IsSide met side = (set : Automaton) × (side ≡ Some set) × Accepts set met

abbrev pub IsOpenWay : Sets → List Element → TextSet → Option Way → Type 0
IsOpenWay sets elements met None = (y : List ℕ) → HasParts sets elements y → IsText y → met y ≡ false
IsOpenWay sets elements met (Some way) =
    ((y : List ℕ) × HasParts sets elements y × (met y ≡ true)) × (way.cell ≡ sets) × IsSide met way.side

abbrev pub SoleLeft : Sets → Ties → TextSet → Sole → Option Way → Type 0
SoleLeft sets ties met sole None =
    NarrowedBy sets (sole.slot ∷ tied_to ties sole.slot) (λ m. met (joined_with sole m)) None
SoleLeft sets ties met sole (Some way) =
    IsNarrowed sets (sole.slot ∷ tied_to ties sole.slot) (λ m. met (joined_with sole m)) way.cell
    × IsSide met way.side

-- The texts around the slot are of bytes.
abbrev pub IsSoleWay : Sets → Ties → TextSet → Sole → Option Way → Type 0
IsSoleWay sets ties met sole found = IsText sole.before × IsText sole.after × SoleLeft sets ties met sole found

-- ---- what plans speak of

-- The parts are one known text, as they are read now.
abbrev pub AreKnown : (Slot → TextSet) → List Part → List ℕ → Type 0
AreKnown cell parts text = (now : List Part) × ReadNow cell parts now × (all_known now ≡ Some text)

-- Tests put the text on this side. Of a known text no side is looked at but for itself.
abbrev pub LiesOn : (Slot → TextSet) → AbsText → Option Automaton → Type 0
LiesOn cell own side =
    ((x : List ℕ) → IsText x → own.side x ≡ side_of side x)
    ⊎ ((text : List ℕ) × AreKnown cell own.parts text × (own.side text ≡ side_of side text))

-- The text is made of these elements, and lies on this side.
pub record IsHand (cell : Slot → TextSet) (elements : List Element) (off : ℕ) (side : Option Automaton)
    (own : AbsText) :
    Type 0 where
  pub made : own.parts ≡ parts_of elements
  pub behind : own.off ≡ off
  pub lies : LiesOn cell own side

-- The state has this cell and these ties, and this text in hand.
pub record Stands (sets : Sets) (ties : Ties) (elements : List Element) (off : ℕ) (side : Option Automaton)
    (state : AbsState) (key : Key) : Type 0 where
  pub holds : state.cell ≡ cell_of sets
  pub tied : state.ties ≡ ties
  pub hand : IsHand state.cell elements off side (pick state.texts key)

-- The state on the side, and none where there is no way.
abbrev pub LeftBy : AbsState → Key → TextSet → List Part → Ties → List Element → ℕ → Option Way
    → Type 0
LeftBy state key set now ties elements off None = IsWay state key set now → ⊥
LeftBy state key set now ties elements off (Some way) =
    IsWay state key set now × Stands way.cell ties elements off way.side (on_side state key set now) key

abbrev pub IsTested : Sets → Ties → List Element → ℕ → Option Automaton → TextSet → Option Way → Type 0
IsTested sets ties elements off side set found =
    (state : AbsState) (key : Key) (asked : TextSet) → Stands sets ties elements off side state key
    → ((x : List ℕ) → IsText x → asked x ≡ set x)
    → (now : List Part) × ReadNow state.cell (pick state.texts key).parts now
    × LeftBy state key asked now ties elements off found

-- The texts that lie on a side.
abbrev pub lying : TextSet → Option Automaton → TextSet
lying set side x = set x && side_of side x

-- The automaton of what a text in hand may be.
abbrev pub IsHandSet : Sets → List Element → ℕ → Option Automaton → Automaton → Type 0
IsHandSet sets elements off side made =
    (own : AbsText) → IsHand (cell_of sets) elements off side own → IsSetOf (set_in made) (Has (cell_of sets) own)

-- A text in which a pattern was found is this one.
abbrev pub IsFound : Found → AbsText → Type 0
IsFound found own = IsHand (cell_of found.cell) found.elements.items found.off found.side own

-- The automaton of what a group holds there.
abbrev pub IsGroupSet : Found → ℕ → Automaton → Type 0
IsGroupSet found number made =
    (own : AbsText) → IsFound found own
    → IsSetOf (set_in made) (GroupHolds (Has (cell_of found.cell) own) (pattern_of found.pattern.now) number)
