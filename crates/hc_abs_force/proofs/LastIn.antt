-- The names whose last component is in a set, as they are read.
use Rattle.std.proofs.Common.{◌≡◌, ◌∙◌, ℕ, List, [], ◌∷◌, ◌++◌, Bool, true, false, not, ◌&&◌, if◌then◌else◌, refl, sym}
use Rattle.std.proofs.Common.{ap, append_assoc, append-nil}
use Rattle.hc_base.specs.Paths.{ends_with_slash, is_slash}
unfoldable use Rattle.hc_dfa.specs.Automata.{accepts}
use Rattle.hc_dfa.specs.Automata.{Automaton, is_final, next_state, run}
use Rattle.hc_dfa.specs.Built.{Accepts}
use Rattle.hc_dfa.specs.Readings.{reading_from}
use Rattle.hc_dfa.specs.Texts.{IsText}
use Rattle.hc_merge.specs.Reaching.{behind_slashes, is_component_found, is_found, last_component}
use Rattle.hc_pattern.specs.Pattern.{Pattern}
use Rattle.hc_abs_force.specs.Components.{ends_at, last_in, next_spot}
use Rattle.hc_abs_force.specs.declared.components.Spot.{Spot}

-- Whether a text ends with a slash, where this holds of an empty one.
ends : Bool → List ℕ → Bool
ends is [] = is
ends is (b ∷ bs) = ends (is_slash b) bs

ends_is : (name : List ℕ) → ends false name ≡ ends_with_slash name
unfolding ends
ends_is [] = refl
ends_is (b ∷ []) = refl
ends_is (b ∷ c ∷ bs) = ends_is (c ∷ bs)

run_more : (set : Automaton) (state : ℕ) (front : List ℕ) (b : ℕ)
    → next_state set (run set state front) b ≡ run set state (front ++ b ∷ [])
run_more set state [] b = refl
run_more set state (c ∷ front) b = run_more set (next_state set state c) front b

module _ (set : Automaton) where
  spot : ℕ → Bool → Spot
  spot state ended = record { state = state; ended = ended }

  abbrev Reads : Spot → List ℕ → Bool
  Reads = reading_from (next_spot set) (ends_at set)

  abbrev Last : Bool → List ℕ → List ℕ → Bool
  Last ended name component = not (ends ended name) && is_final set (run set 0 component)

  -- The component so far was read from the first state on.
  reads_on : (name front : List ℕ) (ended : Bool)
      → Reads (spot (run set 0 front) ended) name ≡ Last ended name (behind_slashes (front ++ name) name)
  unfolding spot ends
  reads_on [] front ended = ap (λ own. not ended && is_final set (run set 0 own)) (sym (append-nil front))
  reads_on (b ∷ name) front ended =
      by (is_slash b) (reads_on name [] true)
      (ap (λ state. Reads (spot state false) name) (run_more set 0 front b) ∙ reads_on name (front ++ b ∷ []) false
      ∙ ap (λ own. Last false name (behind_slashes own name)) (append_assoc front (b ∷ []) name))
    where
      by : (is : Bool)
          → Reads (spot 0 true) name ≡ Last true name (behind_slashes name name)
          → Reads (spot (next_state set (run set 0 front) b) false) name
          ≡ Last false name (behind_slashes (front ++ b ∷ name) name)
          → Reads (if is then spot 0 true else spot (next_state set (run set 0 front) b) false) name
          ≡ Last is name (if is then behind_slashes name name else behind_slashes (front ++ b ∷ name) name)
      by true slash other = slash
      by false slash other = other

  pub last_read : (name : List ℕ)
      → reading_from (next_spot set) (ends_at set) (record { state = 0; ended = false }) name ≡ last_in (accepts set) name
  unfolding spot accepts
  last_read name =
      reads_on name [] false
      ∙ ap (λ ended. not ended && is_final set (run set 0 (last_component name))) (ends_is name)

-- ---- bytes

last_text : (last name : List ℕ) → IsText last → IsText name → IsText (behind_slashes last name)
last_text last [] is bytes = is
last_text last (b ∷ name) is bytes = by (is_slash b) (last_text name name bytes.1 bytes.1) (last_text last name is bytes.1)
  where
    by : (slash : Bool) → IsText (behind_slashes name name) → IsText (behind_slashes last name)
        → IsText (if slash then behind_slashes name name else behind_slashes last name)
    by true one other = one
    by false one other = other

pub component_is : (pattern : Pattern) (set made : Automaton) → Accepts set (is_found pattern)
    → Accepts made (last_in (accepts set)) → Accepts made (is_component_found pattern)
component_is pattern set made is_set is name bytes =
    is name bytes
    ∙ ap (λ found. not (ends_with_slash name) && found) (is_set (last_component name) (last_text name name bytes bytes))
