-- At which leaves a claim may be broken, as code has them.
use Rattle.std.specs.Prelude.{◌≡◌, ℕ, List, Bool, true, Option}
use Rattle.std.specs.List.{list_any}
use Rattle.hc_addr.specs.declared.addr.Addr.{Addr}
use Rattle.hc_base.specs.declared.place.Place.{Place}
use Rattle.hc_broken.specs.Breaking.{lacks}
use Rattle.hc_cells.specs.declared.slot.Slot.TheVariants.{Name}
use Rattle.hc_dfa.specs.Automata.{accepts}
use Rattle.hc_dfa.specs.Texts.{IsText, TextSet}
use Rattle.hc_model.specs.declared.request.Caller.{Caller}
use Rattle.hc_plan.specs.Hands.{cell_of}
use Rattle.hc_scope.specs.declared.claim.Claim.{Claim}
use Rattle.hc_scope.specs.declared.claim.Claim.TheVariants.{Guarded, Shadowed, Stops}
use Rattle.hc_serve.specs.Needs.{needs_of}
use Rattle.hc_abs_leaves.specs.Fitting.{LeafFits}
use Rattle.hc_abs_leaves.specs.declared.leaf.Leaf.{Leaf as LeafIn}
use Rattle.hc_abs_tree.specs.Trees.{Leaf}
use Rattle.hc_abs_view.specs.Seen.{IsAnswer}
use Rattle.hc_claim.specs.Bad.{IsBad, is_match}
use Rattle.hc_claim.specs.Ending.{ends_limited, ends_served}

-- Some text of bytes is of the set.
abbrev pub HasMember : TextSet → Type 0
HasMember set = (text : List ℕ) × IsText text × (set text ≡ true)

-- Some text is of both sets.
abbrev pub Meets : TextSet → TextSet → Type 0
Meets one other = (text : List ℕ) × (one text ≡ true) × (other text ≡ true)

abbrev pub UnguardedIn : TextSet → Place → LeafIn → Type 0
UnguardedIn target by leaf =
    (ends_served leaf.end ≡ true) × (lacks (needs_of leaf.require) by ≡ true)
    × Meets (cell_of (leaf.tied).cell Name) target

abbrev pub MayBreakIn : Claim → LeafIn → Type 0
MayBreakIn Stops leaf = ends_limited leaf.end ≡ true
MayBreakIn (Shadowed place) leaf = list_any (is_match place) leaf.decisions ≡ true
MayBreakIn (Guarded target by) leaf = UnguardedIn (accepts target) by leaf

-- The leaf that it stands for is bad, or not.
abbrev pub IsJudged : Claim → LeafIn → Bool → Type 0
IsJudged claim own bad = (client : Option Addr) (caller : Caller) (leaf : Leaf) → LeafFits client caller own leaf
    → IsAnswer (IsBad claim leaf) bad
