-- The graph of nodes, and the graph of what is marked in their texts.
use Rattle.hc_pat_lang.proofs.Common.{◌≡◌, ℕ, ◌+◌, ◌<◌, ◌&&◌, Bool, List, [], ◌∷◌, true}
use Rattle.hc_pat_lang.proofs.Common.{false, Option, Some}
use Rattle.hc_pat_lang.proofs.Common.{None, slice_get, refl, ◌∙◌, ap, arith, Automaton}
use Rattle.hc_pat_lang.proofs.Common.{next_state, is_final}
use Rattle.hc_pat_lang.proofs.Common.{accepts_from, accepts, IsText, Takes, IsMarked, ReadsMarked, ReadsNode}
use Rattle.hc_pat_lang.proofs.Common.{byte_of, marks, unmarked, Node, Dead, End, Step, Marked, Fork}
use Rattle.hc_dfa.specs.Graphs.{Way, AcceptsWays, IsChoice}
use Rattle.hc_dfa.specs.Graphs.Way.{ends, passes, reads}
use Rattle.hc_dfa.specs.declared.graphs.Choice.{Choice}
use Rattle.hc_dfa.specs.declared.graphs.Choice.TheVariants.{Byte, One, Other}
use Rattle.hc_pat_lang.proofs.Moving.{Keeps, each_way, keeps_class, keeps_fork}
use Rattle.hc_pat_lang.specs.Graphs.{Place, is_end, marked_graph, marked_moves, node_graph, node_moves}
use Rattle.hc_pat_lang.specs.Nodes.Takes.{at_end, by_byte, by_marked, by_first, by_second}

end_is : (node : Option Node) → is_end node ≡ true → node ≡ Some End
end_is None is = absurd (cc)
end_is (Some Dead) is = absurd (cc)
end_is (Some End) is = refl
end_is (Some (Step set to)) is = absurd (cc)
end_is (Some (Marked set to)) is = absurd (cc)
end_is (Some (Fork first second)) is = absurd (cc)

-- ---- the texts that a node takes

module _ (nodes : List Node) where
  node_keeps : (here : Option Node) (node : ℕ) (choice : Choice) → IsChoice choice → slice_get nodes node ≡ here
      → Keeps (Takes nodes) node (node_moves here choice)
  node_keeps None node choice is at = tt
  node_keeps (Some Dead) node choice is at = tt
  node_keeps (Some End) node choice is at = tt
  node_keeps (Some (Step set to)) node choice is at =
      keeps_class (Takes nodes) node _ set choice is
      (λ byte small has text taken. by_byte {text = text} at small has taken)
  node_keeps (Some (Marked set to)) node choice is at = tt
  node_keeps (Some (Fork first second)) node choice is at =
      keeps_fork (Takes nodes) node first second choice (λ text. by_first at) (λ text. by_second at)

  from_taken : {node : ℕ} {text : List ℕ} → IsText text → Takes nodes node text
      → Way (node_graph nodes) node text
  from_taken bytes (at_end end) = ends (rw end refl)
  from_taken bytes (by_byte {to = to} {byte = byte} step small has rest) =
      reads {to = to} (record { choice = Byte byte; is = small; move = rw (step, has) refl })
      (from_taken bytes.1 rest)
  from_taken bytes (by_marked step small has rest) = absurd (let b = bytes.0 in omega arith)
  from_taken bytes (by_first {first = first} fork rest) =
      passes {to = first} (record { choice = One; is = tt; move = rw fork refl }) (from_taken bytes rest)
  from_taken bytes (by_second {second = second} fork rest) =
      passes {to = second} (record { choice = Other; is = tt; move = rw fork refl }) (from_taken bytes rest)

  pub reads_node : (start : ℕ) (made : Automaton) → AcceptsWays (node_graph nodes) start made
      → ReadsNode nodes start made
  reads_node start made same text bytes = (
    (λ accepted.
        each_way (node_graph nodes) (Takes nodes) (λ node final. at_end (end_is _ final))
        (λ node choice is. node_keeps _ node choice is refl) ((same text bytes).0 accepted)),
    (λ taken. (same text bytes).1 (from_taken bytes taken)),
  )

-- ---- what is marked in them

plain_letter : (byte : ℕ) (text : List ℕ) → byte < 256 → (byte_of byte ≡ byte)
    × (marks (byte ∷ text) ≡ marks text)
plain_letter byte text small = grind arith

marked_letter : (byte : ℕ) (text : List ℕ) → (byte_of (256 + byte) ≡ byte)
    × (marks ((256 + byte) ∷ text) ≡ byte ∷ marks text)
marked_letter byte text = grind arith

both_true : (v w : Bool) → (v && w) ≡ true → (v ≡ true) × (w ≡ true)
both_true true w both = (refl, both)
both_true false w both = absurd (cc)

module _ (nodes : List Node) (a : Automaton) where
  -- The piece is marked in a text that the node takes, and that leads from the state to a final one.
  abbrev MarkedAt : Place → List ℕ → Type 0
  MarkedAt place piece = IsMarked nodes place.0 (accepts_from a place.1) piece

  marked_end : (place : Place) → (is_end (slice_get nodes place.0) && is_final a place.1) ≡ true
      → MarkedAt place []
  marked_end place final =
      let both = both_true _ _ final in
      record { text = []; taken = at_end (end_is (slice_get nodes place.0) both.0); member = both.1; marked = refl }

  marked_keeps : (here : Option Node) (place : Place) (choice : Choice) → IsChoice choice
      → slice_get nodes place.0 ≡ here → Keeps MarkedAt place (marked_moves a place.1 here choice)
  marked_keeps None place choice is at = tt
  marked_keeps (Some Dead) place choice is at = tt
  marked_keeps (Some End) place choice is at = tt
  marked_keeps (Some (Step set to)) place choice is at =
      keeps_class MarkedAt place _ set choice is
      (λ byte small has piece later.
      let plain = plain_letter byte later.text small in
      record {
        text = byte ∷ later.text;
        taken = by_byte at small has later.taken;
        member = rw plain.0 later.member;
        marked = plain.1 ∙ later.marked;
      })
  marked_keeps (Some (Marked set to)) place choice is at =
      keeps_class MarkedAt place _ set choice is
      (λ byte small has piece later.
      let letter = marked_letter byte later.text in
      record {
        text = (256 + byte) ∷ later.text;
        taken = by_marked at small has later.taken;
        member = rw letter.0 later.member;
        marked = letter.1 ∙ ap (λ (t : List ℕ). byte ∷ t) later.marked;
      })
  marked_keeps (Some (Fork first second)) place choice is at =
      keeps_fork MarkedAt place (first, place.1) (second, place.1) choice
      (λ piece later.
      record { text = later.text; taken = by_first at later.taken; member = later.member; marked = later.marked })
      (λ piece later.
      record { text = later.text; taken = by_second at later.taken; member = later.member; marked = later.marked })

  marked_way : {node : ℕ} {text : List ℕ} (state : ℕ) → accepts_from a state (unmarked text) ≡ true
      → Takes nodes node text → Way (marked_graph nodes a) (node, state) (marks text)
  marked_way {node = node} state member (at_end end) = ends {key = (node, state)} (rw (end, member) refl)
  marked_way {node = node} state member (by_byte {to = to} {byte = byte} {text = text} step small has rest) =
      let plain = plain_letter byte text small in
      rw plain.1
      (passes {key = (node, state)} {to = (to, next_state a state byte)}
      (record { choice = Byte byte; is = small; move = rw (step, has) refl })
      (marked_way (next_state a state byte) (rw plain.0 at member) rest))
  marked_way {node = node} state member (by_marked {to = to} {byte = byte} {text = text} step small has rest) =
      let letter = marked_letter byte text in
      rw letter.1
      (reads {key = (node, state)} {to = (to, next_state a state byte)} {byte = byte}
      (record { choice = Byte byte; is = small; move = rw (step, has) refl })
      (marked_way (next_state a state byte) (rw letter.0 at member) rest))
  marked_way {node = node} state member (by_first {first = first} fork rest) =
      passes {key = (node, state)} {to = (first, state)} (record { choice = One; is = tt; move = rw fork refl })
      (marked_way state member rest)
  marked_way {node = node} state member (by_second {second = second} fork rest) =
      passes {key = (node, state)} {to = (second, state)} (record { choice = Other; is = tt; move = rw fork refl })
      (marked_way state member rest)

  pub reads_marked : (node : ℕ) (made : Automaton) → AcceptsWays (marked_graph nodes a) (node, 0) made
      → ReadsMarked nodes node (accepts a) made
  unfolding accepts
  reads_marked node made same piece bytes = (
    (λ accepted.
        each_way (marked_graph nodes a) MarkedAt marked_end
        (λ place choice is. marked_keeps _ place choice is refl) ((same piece bytes).0 accepted)),
    (λ is. (same piece bytes).1 (rw is.marked at (marked_way 0 is.member is.taken))),
  )
