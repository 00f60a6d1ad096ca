-- What code finds of a text, and of a test, where an expression is asked.
use Rattle.std.specs.Prelude.{◌≡◌, ◌⊎◌, ℕ, List, [], ◌++◌, Bool, true, false, Option, None, Some, option_map}
use Rattle.std.specs.Str.{bytes_eq}
use Rattle.hc_cells.specs.Cells.{Sets}
use Rattle.hc_cells.specs.declared.ties.Ties.{Ties}
use Rattle.hc_dfa.specs.Automata.{Automaton, accepts}
use Rattle.hc_dfa.specs.Built.{Accepts}
use Rattle.hc_dfa.specs.Singles.{single}
use Rattle.hc_dfa.specs.Texts.{TextSet}
use Rattle.hc_model.specs.declared.template.Piece.{Piece}
use Rattle.hc_plan.specs.Coded.{AllFit, AreBranches}
use Rattle.hc_plan.specs.Hands.{part_of}
use Rattle.hc_plan.specs.Plan.{Item, Plan}
use Rattle.hc_plan.specs.States.{AbsState, Given, IsPart}
use Rattle.hc_plan.specs.Branches.{Branch, no_text}
use Rattle.hc_plan.specs.Texts.{Three, all_three}
use Rattle.hc_plan.specs.declared.hand.Element.{Element}
use Rattle.hc_plan.specs.declared.hand.Way.{Way}
use Rattle.hc_plan.specs.declared.storing.Tied.{Tied}
use Rattle.hc_abs_rw.specs.Known.{client_given}
use Rattle.hc_abs_rw.specs.Looks.{KnownAs, May, NoneKnown}
use Rattle.hc_abs_rw.specs.Trials.{AreWays}
use Rattle.hc_abs_rw.specs.declared.ways.Ways.{Ways}
use Rattle.hc_abs_pass.specs.Views.{piece_item}
use Rattle.hc_abs_view.specs.Viewing.{HoldsQuery, SeenAt, scene_of}
use Rattle.hc_abs_view.specs.declared.jump.Target.{Target}
use Rattle.hc_abs_view.specs.declared.jump.Target.TheVariants.{Behind, Over}
use Rattle.hc_abs_view.specs.declared.scene.Scene.{Scene}
use Rattle.hc_abs_view.specs.declared.sides.Sides.{Sides}
use Rattle.hc_abs_view.specs.declared.placed.Placed.{Placed}

-- ---- texts

-- The element of an item, and those of a template.
abbrev pub IsItemOf : Scene → Item → Element → Type 0
IsItemOf scene item made =
    (state : AbsState) → HoldsQuery scene.query state.given → state.printed ≡ client_given scene.client
    → IsPart state item (part_of made)

abbrev pub IsPieceOf : Scene → Piece → Element → Type 0
IsPieceOf scene piece made = IsItemOf scene (piece_item (scene_of scene) piece) made

abbrev pub ArePiecesOf : Scene → List Piece → List Element → Type 0
ArePiecesOf scene pieces made = AllFit (IsPieceOf scene) pieces made

-- ---- places

-- An end has no text in hand.
abbrev pub IsAt : Target → AbsState → Type 0
IsAt (Over is) state = state.texts ≡ all_three no_text
IsAt (Behind count) state = Unit {0}

pub record PlacedFits (scene : Scene) (given : Three (ℕ → Given)) (placed : Placed) (branch : Branch Target) :
    Type 0 where
  pub seen : SeenAt scene given placed.tied branch.0
  pub at : IsAt placed.target branch.0
  pub is : branch.1 ≡ placed.target

-- ---- the sides of a test

abbrev pub tied_at : Sets → Ties → Tied
tied_at cell ties = record { cell = cell; ties = ties }

-- What follows on a side, and nothing where there is none.
abbrev pub FollowsOn : Scene → Three (ℕ → Given) → Ties → Option Sets → Plan Target → List Placed → Type 0
FollowsOn scene given ties None plan found = found ≡ []
FollowsOn scene given ties (Some cell) plan found =
    (now : AbsState) → SeenAt scene given (tied_at cell ties) now → now.texts ≡ all_three no_text
    → AreBranches (PlacedFits scene given) plan now found

-- The sides of a test that goes on by whether it holds.
abbrev pub AreSides : Scene → ((Bool → Plan Target) → Plan Target) → Tied → Sides → Type 0
AreSides scene ways tied sides =
    (given : Three (ℕ → Given)) (state : AbsState) (plan : Bool → Plan Target) (first rest : List Placed)
    → SeenAt scene given tied state → FollowsOn scene given tied.ties sides.held (plan true) first
    → FollowsOn scene given tied.ties sides.failed (plan false) rest
    → AreBranches (PlacedFits scene given) (ways plan) state (first ++ rest)

abbrev pub cell_in : Option Way → Option Sets
cell_in way = option_map (λ way. way.cell) way

abbrev pub sides_of : Ways → Sides
sides_of ways = record { held = cell_in ways.held; failed = cell_in ways.failed }

-- The sides of a test of a text by a set.
abbrev pub IsTestedBy : Tied → List Element → Bool → TextSet → Sides → Type 0
IsTestedBy tied elements negated set sides =
    (ways : Ways) × AreWays tied.cell tied.ties elements 0 None negated set ways × (sides ≡ sides_of ways)

-- ---- two texts

abbrev pub IsTestedByText : Tied → List Element → Bool → List ℕ → Sides → Type 0
IsTestedByText tied elements negated text sides =
    (set : Automaton) × Accepts set (single text) × IsTestedBy tied elements negated (accepts set) sides

abbrev pub IsAnswer : Type 0 → Bool → Type 0
IsAnswer P true = P
IsAnswer P false = P → ⊥

-- Members of two sets may be equal or not.
abbrev pub MayAgree : (List ℕ → Type 0) → (List ℕ → Type 0) → Bool → Type 0
MayAgree P Q is = (x : List ℕ) × (y : List ℕ) × P x × Q y × (bytes_eq x y ≡ is)

abbrev pub In : TextSet → List ℕ → Type 0
In set x = set x ≡ true

-- A set has a member other than this text.
abbrev pub HasOther : TextSet → List ℕ → Type 0
HasOther set text = (x : List ℕ) × In set x × (bytes_eq x text ≡ false)

abbrev pub cell_if : Bool → Sets → Option Sets
cell_if true cell = Some cell
cell_if false cell = None

abbrev pub picked : Bool → Bool → Bool → Bool
picked true equal differ = differ
picked false equal differ = equal

-- The sides of a comparison of two texts that narrows none.
abbrev pub AreApart : Tied → List Element → List Element → Bool → Sides → Type 0
AreApart tied one other negated sides =
    (equal : Bool) × (differ : Bool) × IsAnswer (MayAgree (May tied.cell one) (May tied.cell other) true) equal
    × IsAnswer (MayAgree (May tied.cell one) (May tied.cell other) false) differ
    × (sides.held ≡ cell_if (picked negated equal differ) tied.cell)
    × (sides.failed ≡ cell_if (picked negated differ equal) tied.cell)

-- Beside a text that is known now the other is tested by it, first the left one.
abbrev pub AreComparedBy : Tied → List Element → List Element → Bool → Sides → Type 0
AreComparedBy tied one other negated sides =
    ((text : List ℕ) × KnownAs tied.cell one text × IsTestedByText tied other negated text sides)
    ⊎ (NoneKnown tied.cell one × AreApart tied one other negated sides)

abbrev pub AreCompared : Tied → List Element → List Element → Bool → Sides → Type 0
AreCompared tied one other negated sides =
    ((text : List ℕ) × KnownAs tied.cell other text × IsTestedByText tied one negated text sides)
    ⊎ (NoneKnown tied.cell other × AreComparedBy tied one other negated sides)
