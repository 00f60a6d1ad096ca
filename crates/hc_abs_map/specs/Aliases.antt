-- The names that aliases give, and what they leave.
use Rattle.std.specs.Prelude.{◌≡◌, ◌++◌, List, [], ◌∷◌, length, Option, None, Some}
use Rattle.hc_addr.specs.declared.addr.Addr.{Addr}
use Rattle.hc_alias.specs.Mapping.{maps_of, root_of}
use Rattle.hc_cells.specs.declared.ties.Ties.{Ties}
use Rattle.hc_model.specs.declared.config.Server.{Server}
use Rattle.hc_model.specs.declared.mapping.Alias.{Alias}
use Rattle.hc_model.specs.declared.mapping.PathTest.{PathTest}
use Rattle.hc_model.specs.declared.mapping.PathTest.TheVariants.{Prefix, Search}
use Rattle.hc_model.specs.declared.template.Piece.{Piece}
use Rattle.hc_pattern.specs.Pattern.{pattern_of}
use Rattle.hc_plan.specs.Coded.{AddsNext, AllFit, AreNext}
use Rattle.hc_plan.specs.Hands.{cell_of, part_of, parts_of}
use Rattle.hc_plan.specs.Plan.{Plan, done}
use Rattle.hc_plan.specs.Slots.{Slot}
use Rattle.hc_plan.specs.States.{AbsState, AreParts, IsPart}
use Rattle.hc_plan.specs.declared.hand.Element.{Element}
use Rattle.hc_plan.specs.declared.hand.Element.TheVariants as element
use Rattle.hc_plan.specs.declared.hand.Way.{Way}
use Rattle.hc_plan.specs.declared.held.Found.{Found}
use Rattle.hc_plan.specs.declared.storing.Tied.{Tied}
use Rattle.hc_abs_pass.specs.Ends.{Left}
use Rattle.hc_abs_pass.specs.Mapping.{Placing, alias_named, aliases_plan, over, rest_items, target_item, target_items}
use Rattle.hc_abs_pass.specs.Mapping.{under_root_plan}
use Rattle.hc_abs_pass.specs.declared.walk.Named.{Named}
use Rattle.hc_abs_map.specs.Along.{Adds, AreOn, Goes}
use Rattle.hc_abs_map.specs.Entries.{HoldsGroups, OnTaken, path_alone}
use Rattle.hc_abs_map.specs.Mapped.{MappedFits, RedirectedFits}
use Rattle.hc_abs_map.specs.Names.{tied_by}
use Rattle.hc_abs_map.specs.declared.mapped.Mapped.{Mapped}
use Rattle.hc_abs_map.specs.declared.redirects.Redirected.{Redirected}

-- ---- targets

-- What is held of the groups of an alias that takes the path on a way.
abbrev pub IsHeldFor : PathTest → Way → Option Found → Type 0
IsHeldFor (Prefix from) way held = held ≡ None
IsHeldFor (Search pattern) way None = ⊥
IsHeldFor (Search pattern) way (Some found) = (pattern_of found.pattern.now ≡ pattern) × (found.cell ≡ way.cell)
    × (found.elements.items ≡ path_alone) × (found.off ≡ 0) × (found.side ≡ way.side)

-- The element of a piece of its target, on each way of which this is held.
abbrev pub IsTargetBy : Option Found → Piece → Element → Type 0
IsTargetBy held piece made = (test : PathTest) (way : Way) → IsHeldFor test way held → (state : AbsState)
    → state.cell ≡ cell_of way.cell → HoldsGroups test way state → IsPart state (target_item test piece) (part_of made)

abbrev pub AreTargetsBy : Option Found → List Piece → List Element → Type 0
AreTargetsBy held = AllFit (IsTargetBy held)

-- What follows a prefix.
abbrev pub rest_elements : PathTest → List Element
rest_elements (Prefix from) = element.Open Slot.Path (length from) ∷ []
rest_elements (Search pattern) = []

-- The name that an alias gives on a way.
pub record IsAliased (alias : Alias) (ties : Ties) (way : Way) (made : Named) : Type 0 where
  pub tied : made.tied ≡ tied_by ties way
  pub side : made.side ≡ None
  pub parts : (state : AbsState) → state.cell ≡ cell_of way.cell → HoldsGroups alias.from way state
      → AreParts state (target_items alias.from alias.to ++ rest_items alias.from) (parts_of made.text.items)

-- ---- aliases

abbrev pub AddsAliased : Alias → Ties → Option Way → List Mapped → List Mapped → Type 0
AddsAliased alias ties way = Adds (OnTaken MappedFits alias.from ties (alias_named alias) way)

abbrev pub GoesAliases : List Alias → Option Tied → Option Tied → List Mapped → List Mapped → Type 0
GoesAliases aliases before rest = Goes (AreOn MappedFits before) (AreOn MappedFits rest) (aliases_plan aliases)

-- ---- behind redirects

abbrev pub behind_redirects : List Server → Option Left → Plan Placing
behind_redirects servers (Some left) = done (over left)
behind_redirects servers None = aliases_plan (maps_of servers) (under_root_plan (root_of servers) Slot.Path)

module _ (servers : List Server) where
  abbrev pub AddsBehind : Redirected → List Mapped → List Mapped → Type 0
  AddsBehind one earlier later = (client : Option Addr)
      → AddsNext (RedirectedFits client) (MappedFits client) (behind_redirects servers) one earlier later

  abbrev pub AreBehind : List Redirected → List Mapped → Type 0
  AreBehind redirected found = (client : Option Addr)
      → AreNext (RedirectedFits client) (MappedFits client) (behind_redirects servers) redirected found
