-- What is read for the first component.
use Rattle.hc_abs_map.proofs.Common.{◌≡◌, ◌∙◌, ℕ, List, [], ◌∷◌, Bool, true, false, ◌||◌, Option, None, Some, refl, sym, ap}
use Rattle.hc_abs_map.proofs.Common.{if◌then◌else◌, arith}
use Rattle.std.specs.FinMap.{get}
use Rattle.hc_base.specs.Bytes.{slash}
use Rattle.hc_base.specs.Paths.{is_slash}
use Rattle.hc_dfa.specs.Automata.{Automaton, is_final, run}
unfoldable use Rattle.hc_dfa.specs.Automata.{accepts}
use Rattle.hc_dfa.specs.Built.{Accepts, product_of}
use Rattle.hc_dfa.specs.Readings.{reading_from}
use Rattle.hc_dfa.specs.Singles.{is_among}
use Rattle.hc_dfa.specs.Texts.{IsText, TextSet}
use Rattle.hc_dfa.specs.declared.products.Keep.TheVariants.{Either}
use Rattle.hc_model.specs.Node.{Node, dir, file, kind_of}
use Rattle.hc_model.specs.Node.{text as with_bytes}
use Rattle.hc_model.specs.World.{World}
use Rattle.hc_rw_sets.specs.Naming.{names}
use Rattle.hc_serve.specs.ServerRules.{as_path, behind_slashes, component, is_there}
use Rattle.hc_steps.specs.Shown.{shown_by}
use Rattle.hc_world.proofs.Listed.{among_paths}
use Rattle.hc_world.specs.Places.{is_listed, paths_of}
use Rattle.hc_world.specs.declared.world.ListKind.TheVariants as kinds
use Rattle.hc_abs_pass.specs.Naming.{first_exists, there}
use Rattle.hc_abs_map.specs.First.{first_in, next_spot, spot_holds, stands_in}
use Rattle.hc_abs_map.specs.declared.first.Spot.{Spot}
use Rattle.hc_abs_map.specs.declared.first.Spot.TheVariants as spot

module _ (a : Automaton) where
  abbrev meant : Spot → TextSet
  meant spot.Slashes text = first_in (accepts a) text
  meant (spot.Within state) text = is_final a (run a state (component text))
  meant (spot.Behind is) text = is

  goes_by : (at : Spot) (b : ℕ) (text : List ℕ) (slashed : Bool) → is_slash b ≡ slashed
      → meant (next_spot a at b) text ≡ meant at (b ∷ text)
  unfolding accepts
  goes_by spot.Slashes b text true is = rw (is) refl
  goes_by spot.Slashes b text false is =
      rw (is) (ap (λ v. names (accepts a) (as_path (if v then [] else b ∷ component text))) (sym is))
  goes_by (spot.Within state) b text true is = rw (is) refl
  goes_by (spot.Within state) b text false is = rw (is) refl
  goes_by (spot.Behind found) b text slashed is = refl

  read : (at : Spot) (text : List ℕ) → reading_from (next_spot a) (spot_holds a) at text ≡ meant at text
  read spot.Slashes [] = refl
  read (spot.Within state) [] = refl
  read (spot.Behind is) [] = refl
  read at (b ∷ text) = read (next_spot a at b) text ∙ goes_by at b text (is_slash b) refl

  pub first_read : (text : List ℕ)
      → reading_from (next_spot a) (spot_holds a) spot.Slashes text ≡ first_in (accepts a) text
  first_read text = read spot.Slashes text

-- ---- texts of bytes

behind_text : (text : List ℕ) → IsText text → IsText (behind_slashes text)
behind_text [] bytes = tt
behind_text (b ∷ text) bytes = by (is_slash b) (behind_text text bytes.1)
  where
    by : (slashed : Bool) → IsText (behind_slashes text)
        → IsText (if slashed then behind_slashes text else b ∷ text)
    by true rest = rest
    by false rest = bytes

component_text : (text : List ℕ) → IsText text → IsText (component text)
component_text [] bytes = tt
component_text (b ∷ text) bytes = by (is_slash b) (component_text text bytes.1)
  where
    by : (slashed : Bool) → IsText (component text) → IsText (if slashed then [] else b ∷ component text)
    by true rest = tt
    by false rest = (bytes.0, rest)

-- ---- what stands there

kinds_are : (node : Option Node) → (is_listed kinds.File node || is_listed kinds.Dir node) ≡ is_there (kind_of node)
kinds_are None = refl
kinds_are (Some dir) = refl
kinds_are (Some file) = refl
kinds_are (Some (with_bytes bytes)) = refl

pub stand_there : (world : World) (one other made : Automaton) → Accepts one (is_among (paths_of world kinds.File))
    → Accepts other (is_among (paths_of world kinds.Dir)) → Accepts made (product_of Either one other)
    → Accepts made (stands_in world)
stand_there world one other made files dirs both path bytes =
    both path bytes
    ∙ (λ i. files path bytes i || dirs path bytes i)
    ∙ (λ i. among_paths world kinds.File path i || among_paths world kinds.Dir path i)
    ∙ kinds_are (get world path)

pub first_there : (world : World) (paths made : Automaton) → Accepts paths (stands_in world)
    → Accepts made (first_in (accepts paths)) → Accepts made (first_exists (shown_by world))
first_there world paths made are is text bytes =
    is text bytes ∙ by (component (behind_slashes text))
    (component_text (behind_slashes text) (behind_text text bytes))
  where
    by : (own : List ℕ) → IsText own
        → names (accepts paths) (as_path own) ≡ there (shown_by world) (as_path own)
    by [] bytes = refl
    by (b ∷ own) bytes = are (slash ∷ b ∷ own) (omega arith, bytes)
