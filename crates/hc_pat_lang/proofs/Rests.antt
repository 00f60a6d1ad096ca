-- What is left of the texts of a set behind, or before, the texts of another one.
use Rattle.hc_pat_lang.proofs.Common.{◌≡◌, ℕ, List, [], ◌∷◌, ◌++◌, ◌&&◌, Bool, true, false, refl}
use Rattle.hc_pat_lang.proofs.Common.{Automaton, next_state, is_final, accepts_from, accepts, IsText}
use Rattle.hc_pat_lang.proofs.Common.{AcceptsOnly}
use Rattle.hc_pat_lang.proofs.Common.{IsRest, IsFront}
use Rattle.hc_dfa.specs.Graphs.{Way, AcceptsWays, IsChoice}
use Rattle.hc_dfa.specs.Graphs.Way.{ends, passes, reads}
use Rattle.hc_dfa.specs.declared.graphs.Choice.{Choice}
use Rattle.hc_dfa.specs.declared.graphs.Choice.TheVariants.{Byte, One, Other}
use Rattle.hc_pat_lang.proofs.Moving.{Keeps, each_way, keeps_where}
use Rattle.hc_pat_lang.specs.Graphs.{rest_final, rest_graph, rest_moves, front_final, front_graph, front_moves}
use Rattle.hc_pat_lang.specs.declared.quotients.Along.{Along}
use Rattle.hc_pat_lang.specs.declared.quotients.Along.TheVariants.{Alone, Beside}

module _ (set by : Automaton) where
  -- ---- behind

  abbrev RestBy : Along → List ℕ → Type 0
  RestBy (Alone state) text = accepts_from set state text ≡ true
  RestBy (Beside state other) text = IsRest (accepts_from set state) (accepts_from by other) text

  rest_end : (along : Along) → rest_final set along ≡ true → RestBy along []
  rest_end (Alone state) final = final
  rest_end (Beside state other) final = absurd (cc)

  rest_keeps : (along : Along) (choice : Choice) → IsChoice choice
      → Keeps RestBy along (rest_moves set by along choice)
  rest_keeps (Beside state other) (Byte byte) small = λ text later.
      record {
        front = byte ∷ later.front;
        bytes = (small, later.bytes);
        begins = later.begins;
        member = later.member;
      }
  rest_keeps (Beside state other) One is =
      keeps_where RestBy (Beside state other) (is_final by other) _
      (λ final text later. record { front = []; bytes = tt; begins = final; member = later })
  rest_keeps (Beside state other) Other is = tt
  rest_keeps (Alone state) (Byte byte) is = λ text later. later
  rest_keeps (Alone state) One is = tt
  rest_keeps (Alone state) Other is = tt

  alone_way : (text : List ℕ) (state : ℕ) → IsText text → accepts_from set state text ≡ true
      → Way (rest_graph set by) (Alone state) text
  alone_way [] state bytes member = ends member
  alone_way (byte ∷ text) state bytes member =
      reads {to = Alone (next_state set state byte)} (record { choice = Byte byte; is = bytes.0; move = refl })
      (alone_way text (next_state set state byte) bytes.1 member)

  rest_way : (front text : List ℕ) (state other : ℕ) → IsText front → IsText text
      → accepts_from by other front ≡ true
      → accepts_from set state (front ++ text) ≡ true → Way (rest_graph set by) (Beside state other) text
  rest_way [] text state other front_bytes bytes begins member =
      passes {to = Alone state} (record { choice = One; is = tt; move = rw begins refl })
      (alone_way text state bytes member)
  rest_way (byte ∷ front) text state other front_bytes bytes begins member =
      passes {to = Beside (next_state set state byte) (next_state by other byte)}
      (record { choice = Byte byte; is = front_bytes.0; move = refl })
      (rest_way front text (next_state set state byte) (next_state by other byte) front_bytes.1 bytes begins member)

  pub rest_accepts : (made : Automaton) → AcceptsWays (rest_graph set by) (Beside 0 0) made
      → AcceptsOnly (IsRest (accepts set) (accepts by)) made
  unfolding accepts
  rest_accepts made same text bytes = (
    (λ accepted. each_way (rest_graph set by) RestBy rest_end rest_keeps ((same text bytes).0 accepted)),
    (λ rest. (same text bytes).1 (rest_way rest.front text 0 0 rest.bytes bytes rest.begins rest.member)),
  )

  -- ---- before

  abbrev FrontBy : Along → List ℕ → Type 0
  FrontBy (Alone state) text = IsFront (accepts_from set state) (accepts_from by 0) text
  FrontBy (Beside state other) text = (text ≡ []) × IsFront (accepts_from set state) (accepts_from by other) []

  both_final : (v w : Bool) → (v && w) ≡ true → (v ≡ true) × (w ≡ true)
  both_final true w both = (refl, both)
  both_final false w both = absurd (cc)

  front_end : (along : Along) → front_final set by along ≡ true → FrontBy along []
  front_end (Alone state) final = absurd (cc)
  front_end (Beside state other) final =
      let both = both_final (is_final set state) (is_final by other) final in
      (refl, record { back = []; bytes = tt; goes_on = both.1; member = both.0 })

  front_keeps : (along : Along) (choice : Choice) → IsChoice choice
      → Keeps FrontBy along (front_moves set by along choice)
  front_keeps (Alone state) (Byte byte) is = λ text later.
      record { back = later.back; bytes = later.bytes; goes_on = later.goes_on; member = later.member }
  front_keeps (Alone state) One is = λ text later. rw later.0 later.1
  front_keeps (Alone state) Other is = tt
  front_keeps (Beside state other) (Byte byte) small = λ text later. (
    later.0,
    record {
      back = byte ∷ later.1.back;
      bytes = (small, later.1.bytes);
      goes_on = later.1.goes_on;
      member = later.1.member;
    },
  )
  front_keeps (Beside state other) One is = tt
  front_keeps (Beside state other) Other is = tt

  beside_way : (back : List ℕ) (state other : ℕ) → IsText back → accepts_from set state back ≡ true
      → accepts_from by other back ≡ true → Way (front_graph set by) (Beside state other) []
  beside_way [] state other bytes member goes_on = ends (rw (member, goes_on) refl)
  beside_way (byte ∷ back) state other bytes member goes_on =
      passes {to = Beside (next_state set state byte) (next_state by other byte)}
      (record { choice = Byte byte; is = bytes.0; move = refl })
      (beside_way back (next_state set state byte) (next_state by other byte) bytes.1 member goes_on)

  front_way : (text back : List ℕ) (state : ℕ) → IsText text → IsText back
      → accepts_from set state (text ++ back) ≡ true → accepts_from by 0 back ≡ true
      → Way (front_graph set by) (Alone state) text
  front_way [] back state bytes back_bytes member goes_on =
      passes {to = Beside state 0} (record { choice = One; is = tt; move = refl })
      (beside_way back state 0 back_bytes member goes_on)
  front_way (byte ∷ text) back state bytes back_bytes member goes_on =
      reads {to = Alone (next_state set state byte)} (record { choice = Byte byte; is = bytes.0; move = refl })
      (front_way text back (next_state set state byte) bytes.1 back_bytes member goes_on)

  pub front_accepts : (made : Automaton) → AcceptsWays (front_graph set by) (Alone 0) made
      → AcceptsOnly (IsFront (accepts set) (accepts by)) made
  unfolding accepts
  front_accepts made same text bytes = (
    (λ accepted. each_way (front_graph set by) FrontBy front_end front_keeps ((same text bytes).0 accepted)),
    (λ front. (same text bytes).1 (front_way text front.back 0 bytes front.bytes front.member front.goes_on)),
  )
