-- The graph of the images of an automaton's texts.
use Rattle.hc_dfa.proofs.Common.{◌≡◌, ℕ, ◌<◌, List, [], ◌∷◌, map, slice_index, true, refl, subst}
use Rattle.hc_dfa.proofs.Common.{None, Some}
use Rattle.hc_dfa.proofs.Common.{Automaton, states, next_state, accepts_from, accepts, AcceptsImages, IsText}
use Rattle.hc_dfa.specs.Graphs.{Way, AcceptsWays, IsChoice}
use Rattle.hc_dfa.specs.Graphs.Way.{ends, passes, reads}
use Rattle.hc_dfa.specs.Images.{image_graph, image_moves}
use Rattle.hc_dfa.specs.declared.graphs.Choice.{Choice}
use Rattle.hc_dfa.specs.declared.graphs.Choice.TheVariants.{Byte, One, Other}
use Rattle.hc_dfa.proofs.Following.{same_move}
use Rattle.hc_dfa.proofs.Runs.{IsAutomaton, next_within}

module _ (a : Automaton) (is : IsAutomaton a) (table : List ℕ) where
  -- The text is an image of one that is accepted from the state.
  record ImageFrom (state : ℕ) (text : List ℕ) : Type 0 where
    pub original : List ℕ
    pub bytes : IsText original
    pub member : accepts_from a state original ≡ true
    pub replaced : map (λ byte. slice_index table byte) original ≡ text

  -- A move is the step of a byte.
  record StepOf (state byte next : ℕ) : Type 0 where
    pub original : ℕ
    pub below : original < 256
    pub replaced : slice_index table original ≡ byte
    pub leads : next_state a state original ≡ next

  step_of : (state byte next : ℕ) (choice : Choice) → IsChoice choice
      → image_moves a table state choice ≡ Some (record { byte = Some byte; to = next }) → StepOf state byte next
  step_of state byte next (Byte b) small move =
      let same = same_move _ _ move in
      record { original = b; below = small; replaced = (let e = same.0 in cc); leads = same.1 }
  step_of state byte next One small move = absurd (cc)
  step_of state byte next Other small move = absurd (cc)

  no_pass : (state next : ℕ) (choice : Choice)
      → image_moves a table state choice ≡ Some (record { byte = None; to = next }) → ⊥
  no_pass state next (Byte b) move = (let e = (same_move _ _ move).0 in cc)
  no_pass state next One move = cc
  no_pass state next Other move = cc

  to_image : {state : ℕ} {text : List ℕ} → state < states a → Way (image_graph a table) state text
      → ImageFrom state text
  to_image s (ends final) = record { original = []; bytes = tt; member = final; replaced = refl }
  to_image {state = state} s (passes {to = next} leads way) = absurd (no_pass state next leads.choice leads.move)
  to_image {state = state} s (reads {to = next} {byte = byte} leads way) =
      let step = step_of state byte next leads.choice leads.is leads.move in
      let within : next < states a =
      subst (λ (x : ℕ). x < states a) step.leads (next_within a is state step.original s step.below) in
      let later = to_image within way in
      record {
        original = step.original ∷ later.original;
        bytes = (step.below, later.bytes);
        member = rw step.leads later.member;
        replaced = cc (step.replaced, later.replaced);
      }

  from_image : (original : List ℕ) (state : ℕ) → IsText original → accepts_from a state original ≡ true
      → Way (image_graph a table) state (map (λ byte. slice_index table byte) original)
  from_image [] state bytes member = ends member
  from_image (byte ∷ original) state bytes member =
      reads {to = next_state a state byte} (record { choice = Byte byte; is = bytes.0; move = refl })
      (from_image original (next_state a state byte) bytes.1 member)

  pub images_accepted : (image : Automaton) → AcceptsWays (image_graph a table) 0 image
      → AcceptsImages a table image
  unfolding accepts
  images_accepted image same text bytes = (
    (λ accepted.
        let from = to_image is.some ((same text bytes).0 accepted) in
        record { original = from.original; bytes = from.bytes; member = from.member; replaced = from.replaced }),
    (λ is. (same text bytes).1 (rw (← is.replaced) (from_image is.original 0 is.bytes is.member))),
  )
