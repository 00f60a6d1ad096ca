-- The graph of a text of each automaton, one behind the other.
use Rattle.hc_pat_lang.proofs.Common.{◌≡◌, ℕ, ◌+◌, List, [], ◌∷◌, ◌++◌, true, refl, sym}
use Rattle.hc_pat_lang.proofs.Common.{◌∙◌, ap, subst, zero, suc, map, drop, slice_get}
use Rattle.hc_pat_lang.proofs.Common.{Automaton, is_final, next_state, accepts_from, accepts, IsText, AcceptsOnly}
use Rattle.hc_pat_lang.proofs.Common.{TextSet, AreJoined, IsJoined, Some}
use Rattle.hc_dfa.specs.Graphs.{Way, AcceptsWays}
use Rattle.hc_dfa.specs.Graphs.Way.{ends, passes, reads}
use Rattle.hc_dfa.specs.declared.graphs.Choice.{Choice}
use Rattle.hc_dfa.specs.declared.graphs.Choice.TheVariants.{Byte, One, Other}
use Rattle.hc_pat_lang.proofs.Moving.{Keeps, each_way, keeps_where}
use Rattle.hc_pat_lang.specs.Graphs.{joined_graph, stage_moves}
use Rattle.hc_pat_lang.specs.declared.joined.Stage.{Stage}
use Rattle.std.proofs.lemmas.List.{append-nil, drop-drop}
use Rattle.std.proofs.Math.Seq.{drop-nil}
use Rattle.std.specs.Option.{is_none}
use Rattle.hc_pat_lang.proofs.Common.{◌↔◌, nat_eq, eqb-true, eq-eqb}
use Rattle.std.proofs.Common.{◌<◌, ◌≤◌, IsTrue, append_assoc, arith, get_or, length}
use Rattle.hc_dfa.specs.Fronts.{behind_text}
use Rattle.hc_dfa.specs.Members.{IsOnly}
use Rattle.hc_pat_lang.specs.Sets.{AreOnly}
use Rattle.std.proofs.lemmas.Bool.{and_from, and_parts}

-- What stands at a place is the first of what is left from there on.
first_left : {X : Type 0} (xs : List X) (i : ℕ) → slice_get xs i ≡ slice_get (drop i xs) 0
first_left [] i = rw (drop-nil i) refl
first_left (x ∷ xs) zero = refl
first_left (x ∷ xs) (suc i) = first_left xs i

back_text : (front back : List ℕ) → IsText (front ++ back) → IsText back
back_text [] back bytes = bytes
back_text (byte ∷ front) back bytes = back_text front back bytes.1

-- The texts of each set, but those of the first one from a state on.
abbrev sets_from : ℕ → List Automaton → List TextSet
sets_from state [] = []
sets_from state (a ∷ rest) = accepts_from a state ∷ map accepts rest

from_start : (sets : List Automaton) → sets_from 0 sets ≡ map accepts sets
unfolding accepts
from_start [] = refl
from_start (a ∷ rest) = refl

module _ (sets : List Automaton) where
  abbrev ReadAt : Stage → List ℕ → Type 0
  ReadAt stage text = AreJoined (sets_from stage.state (drop stage.set sets)) text

  read_end : (left : List Automaton) (stage : Stage) → drop stage.set sets ≡ left
      → is_none (slice_get left 0) ≡ true → ReadAt stage []
  read_end [] stage from final = rw from refl
  read_end (a ∷ rest) stage from final = absurd (cc)

  read_keeps : (left : List Automaton) (stage : Stage) (choice : Choice) → drop stage.set sets ≡ left
      → Keeps ReadAt stage (stage_moves (slice_get left 0) stage choice)
  read_keeps [] stage choice from = tt
  read_keeps (a ∷ rest) stage (Byte byte) from = λ text later.
      let read = rw from at later in
      rw from (byte ∷ read.0, read.1, ap (λ t. byte ∷ t) read.2, read.3, read.4)
  read_keeps (a ∷ rest) stage One from =
      keeps_where ReadAt stage (is_final a stage.state) _
      (λ final text later.
      rw from ([], text, refl, final, rw (← drop-drop 1 stage.set sets, from, from_start rest) at later))
  read_keeps (a ∷ rest) stage Other from = tt

  within_way : (a : Automaton) (front back : List ℕ) (set state : ℕ) → slice_get sets set ≡ Some a
      → IsText (front ++ back) → accepts_from a state front ≡ true
      → Way (joined_graph sets) (record { set = set + 1; state = 0 }) back
      → Way (joined_graph sets) (record { set = set; state = state }) (front ++ back)
  within_way a [] back set state at bytes final way =
      passes {to = record { set = set + 1; state = 0 }}
      (record { choice = One; is = tt; move = rw (at, final) refl }) way
  within_way a (byte ∷ front) back set state at bytes begins way =
      reads {to = record { set = set; state = next_state a state byte }}
      (record { choice = Byte byte; is = bytes.0; move = rw at refl })
      (within_way a front back set (next_state a state byte) at bytes.1 begins way)

  from_read : (left : List Automaton) (set : ℕ) (text : List ℕ) → drop set sets ≡ left → IsText text
      → AreJoined (map accepts left) text → Way (joined_graph sets) (record { set = set; state = 0 }) text
  unfolding accepts
  from_read [] set text from bytes empty =
      subst (Way (joined_graph sets) (record { set = set; state = 0 })) (sym empty)
      (ends (rw (first_left sets set, from) refl))
  from_read (a ∷ rest) set text from bytes read =
      let all : IsText (read.0 ++ read.1) = subst IsText read.2 bytes in
      rw read.2
      (within_way a read.0 read.1 set 0 (rw from at (first_left sets set)) all read.3
      (from_read rest (set + 1) read.1 (rw from at (sym (drop-drop 1 set sets))) (back_text read.0 read.1 all) read.4))

  pub joined_accepts : (made : Automaton) → AcceptsWays (joined_graph sets) (record { set = 0; state = 0 }) made
      → AcceptsOnly (AreJoined (map accepts sets)) made
  joined_accepts made same text bytes = (
    (λ accepted.
        rw (from_start sets) at
        (each_way (joined_graph sets) ReadAt
        (λ stage final. read_end _ stage refl (rw (first_left sets stage.set) at final))
        (λ stage choice is. rw (first_left sets stage.set) (read_keeps _ stage choice refl))
        ((same text bytes).0 accepted))),
    (λ read. (same text bytes).1 (from_read sets 0 text refl bytes read)),
  )

-- ---- two sets

pub two_joined : (a b : TextSet) (made : Automaton) → AcceptsOnly (AreJoined (a ∷ b ∷ [])) made
    → AcceptsOnly (IsJoined a b) made
two_joined a b made same text bytes = (
  (λ accepted.
      let read = (same text bytes).0 accepted in
      let back = read.4 in
      let whole : read.1 ≡ back.0 = back.2 ∙ ap (λ rest. back.0 ++ rest) back.4 ∙ append-nil back.0 in
      record { front = read.0; back = read.1; begins = read.3; goes_on = rw whole back.3; joined = sym read.2 }),
  (λ is.
      (same text bytes).1
      (is.front, is.back, sym is.joined, is.begins, (is.back, [], sym (append-nil is.back), is.goes_on, refl))),
)

-- ---- sets with one text each, before others

pub one_joined : (set made : Automaton) → made ≡ set → AcceptsOnly (AreJoined (accepts set ∷ [])) made
one_joined set made same text bytes = (
  (λ accepted. (text, [], sym (append-nil text), subst (λ a. IsTrue (accepts a text)) same accepted, refl)),
  (λ is.
      let whole : text ≡ is.0 = is.2 ∙ ap (λ rest. is.0 ++ rest) is.4 ∙ append-nil is.0 in
      subst (λ a. IsTrue (accepts a text)) (sym same) (subst (λ text. IsTrue (accepts set text)) (sym whole) is.3)),
)

pub sole : {A : Type 0} (xs : List A) (x : A) → 1 ≤ length xs → length xs < 2 → x ≡ get_or xs 0 x → xs ≡ x ∷ []
sole [] x some few is = absurd (omega (arith, some))
sole (y ∷ []) x some few is = ap (λ first. first ∷ []) (sym is)
sole (y ∷ z ∷ xs) x some few is = absurd (omega (arith, few))

pub sole_set : (sets : List Automaton) (set made : Automaton) → sets ≡ set ∷ [] → made ≡ set
    → AcceptsOnly (AreJoined (map accepts sets)) made
sole_set sets set made sole same =
    subst (λ sets. AcceptsOnly (AreJoined (map accepts sets)) made) (sym sole) (one_joined set made same)

pub only_more : (sets : List Automaton) (set : Automaton) (text own : List ℕ) → AreOnly sets text
    → IsOnly (accepts set) own → AreOnly (sets ++ set ∷ []) (text ++ own)
only_more [] set text own are is =
    (own, [], ap (λ text. text ++ own) are ∙ sym (append-nil own), is, refl)
only_more (first ∷ sets) set text own are is = (
  are.0,
  are.1 ++ own,
  ap (λ text. text ++ own) are.2 ∙ append_assoc are.0 are.1 own,
  are.3,
  only_more sets set are.1 own are.4 is,
)

front_text : (front back : List ℕ) → IsText (front ++ back) → IsText front
front_text [] back bytes = tt
front_text (byte ∷ front) back bytes = (bytes.0, front_text front back bytes.1)

-- A text behind another one.
abbrev IsBeyond : List ℕ → (List ℕ → Type 0) → List ℕ → Type 0
IsBeyond front Rest text = (rest : List ℕ) × (text ≡ front ++ rest) × Rest rest

beyond_only : (taken left : List Automaton) (front text : List ℕ) → AreOnly taken front → IsText text
    → AreJoined (map accepts (taken ++ left)) text ↔ IsBeyond front (AreJoined (map accepts left)) text
beyond_only [] left front text are bytes = (
  (λ is. (text, ap (λ front. front ++ text) (sym are), is)),
  (λ is. subst (AreJoined (map accepts left)) (sym (is.1 ∙ ap (λ front. front ++ is.0) are)) is.2),
)
beyond_only (set ∷ taken) left front text are bytes = (
  (λ is.
      let all = subst IsText is.2 bytes in
      let own : is.0 ≡ are.0 = are.3.only is.0 (front_text is.0 is.1 all) is.3 in
      let behind = (beyond_only taken left are.1 is.1 are.4 (back_text is.0 is.1 all)).0 is.4 in (
        behind.0,
        is.2 ∙ ap (λ first. first ++ is.1) own ∙ ap (λ back. are.0 ++ back) behind.1
            ∙ sym (append_assoc are.0 are.1 behind.0) ∙ ap (λ front. front ++ behind.0) (sym are.2),
        behind.2,
      )),
  (λ is.
      let whole : text ≡ are.0 ++ (are.1 ++ is.0) =
      is.1 ∙ ap (λ front. front ++ is.0) are.2 ∙ append_assoc are.0 are.1 is.0 in (
        are.0,
        are.1 ++ is.0,
        whole,
        are.3.member,
        (beyond_only taken left are.1 (are.1 ++ is.0) are.4 (back_text are.0 _ (subst IsText whole bytes))).1
            (is.0, refl, is.2),
      )),
)

behind_parts : (front : List ℕ) (set : TextSet) (text : List ℕ)
    → IsTrue (behind_text front set text) ↔ IsBeyond front (λ rest. IsTrue (set rest)) text
behind_parts [] set text = ((λ is. (text, refl, is)), (λ is. subst (λ text. IsTrue (set text)) (sym is.1) is.2))
behind_parts (own ∷ front) set [] = ((λ is. absurd (cc)), (λ is. absurd (cc)))
behind_parts (own ∷ front) set (byte ∷ text) = (
  (λ is.
      let parts = and_parts (nat_eq byte own) (behind_text front set text) is in
      let behind = (behind_parts front set text).0 parts.1 in (
        behind.0,
        ap (λ first. first ∷ text) (eqb-true byte own parts.0) ∙ ap (λ rest. own ∷ rest) behind.1,
        behind.2,
      )),
  (λ is.
      and_from (nat_eq byte own) (behind_text front set text) (eq-eqb byte own (cc))
      ((behind_parts front set text).1 (is.0, cc, is.2))),
)

pub put_before : (taken left : List Automaton) (front : List ℕ) (rest made : Automaton) → AreOnly taken front
    → AcceptsOnly (AreJoined (map accepts left)) rest
    → ((text : List ℕ) → IsText text → accepts made text ≡ behind_text front (accepts rest) text)
    → AcceptsOnly (AreJoined (map accepts (taken ++ left))) made
put_before taken left front rest made are is behind text bytes =
    let same = behind text bytes in
    let parts = behind_parts front (accepts rest) text in
    let only = beyond_only taken left front text are bytes in (
      (λ accepted.
          let own = parts.0 (sym same ∙ accepted) in
          only.1 (
            own.0,
            own.1,
            (is own.0 (back_text front own.0 (subst IsText own.1 bytes))).0 own.2,
          )),
      (λ joined.
          let own = only.0 joined in
          same
          ∙ parts.1 (own.0, own.1, (is own.0 (back_text front own.0 (subst IsText own.1 bytes))).1 own.2)),
    )
