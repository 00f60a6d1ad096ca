-- What a look-up gives over what is known, in code.
use Rattle.std.specs.Prelude.{◌≡◌, ◌⊎◌, ℕ, List, Option, None, Some}
use Rattle.hc_cells.specs.Cells.{Sets}
use Rattle.hc_dfa.specs.Automata.{Automaton}
use Rattle.hc_plan.specs.Branches.{LooksUp}
use Rattle.hc_plan.specs.Hands.{cell_of, parts_of, set_in}
use Rattle.hc_plan.specs.States.{Has, whole}
use Rattle.hc_plan.specs.Texts.{IsSetOf}
use Rattle.hc_plan.specs.Ways.{AreKnown}
use Rattle.hc_plan.specs.declared.hand.Element.{Element}
use Rattle.hc_plan.specs.declared.hand.Element.TheVariants as element

-- The elements joined are this text, as they are read now; or they are no known text.
abbrev pub KnownAs : Sets → List Element → List ℕ → Type 0
KnownAs sets elements = AreKnown (cell_of sets) (parts_of elements)

abbrev pub NoneKnown : Sets → List Element → Type 0
NoneKnown sets elements = (text : List ℕ) → KnownAs sets elements text → ⊥

-- The text that they are, where it is known.
abbrev pub IsKnownText : Sets → List Element → Option (List ℕ) → Type 0
IsKnownText sets elements (Some text) = KnownAs sets elements text
IsKnownText sets elements None = NoneKnown sets elements

-- What the elements joined may be.
abbrev pub May : Sets → List Element → List ℕ → Type 0
May sets elements = Has (cell_of sets) (whole (parts_of elements))

abbrev pub IsFree : (List ℕ → Type 0) → Element → Type 0
IsFree P made = (set : Automaton) × (made ≡ element.Free set) × IsSetOf (set_in set) P

-- A known text, or any that the elements may be.
abbrev pub IsFallback : Sets → List Element → Element → Type 0
IsFallback sets fallbacks made =
    ((text : List ℕ) × (made ≡ element.Known text) × KnownAs sets fallbacks text)
    ⊎ (NoneKnown sets fallbacks × IsFree (May sets fallbacks) made)

-- By the value of a known key.
abbrev pub IsValue : Sets → Option (List ℕ) → List Element → Element → Type 0
IsValue sets (Some value) fallbacks made = made ≡ element.Known value
IsValue sets None fallbacks made = IsFallback sets fallbacks made

-- By the values of the keys of a set.
abbrev pub IsValues : Sets → (List ℕ → Option (List ℕ)) → List Element → List Element → Element → Type 0
IsValues sets table keys fallbacks made = IsFree (LooksUp (May sets keys) table (May sets fallbacks)) made
