-- The automaton of the texts of a list.
use Rattle.hc_dfa.proofs.Common.{◌≡◌, ℕ, ◌+◌, ◌<◌, ◌∷◌, ◌++◌, List, [], length, take, drop}
use Rattle.hc_dfa.proofs.Common.{refl, sym, ◌∙◌, ap, arith, add-one, Bool, true, false, Option, Some, None}
use Rattle.hc_dfa.proofs.Common.{get_or, get_or_default, append-nil, append_assoc, Contains, Automaton, accepts}
use Rattle.hc_dfa.proofs.Common.{Accepts, is_among, same_text, IsText}
use Rattle.std.proofs.Common.{zero, suc}
use Rattle.hc_dfa.specs.Graphs.{AcceptsWays, Way}
use Rattle.hc_dfa.specs.Graphs.Way.{ends, passes, reads}
use Rattle.hc_dfa.specs.Lists.{has_byte, list_graph, list_moves, text_at}
use Rattle.hc_dfa.specs.declared.graphs.Choice.{Choice}
use Rattle.hc_dfa.specs.declared.graphs.Choice.TheVariants.{Byte, One, Other}
use Rattle.hc_dfa.proofs.Following.{same_move}
use Rattle.std.proofs.lemmas.Bool.{and_from, and_parts, eqb-true, eq-eqb, le-leb, leb-true, lt-ltb, ltb-true}
use Rattle.std.proofs.lemmas.Cmp.{nat_list_eq_equiv}
use Rattle.std.proofs.lemmas.List.{drop_more, length-drop, take_all, take_more}
use Rattle.std.proofs.lemmas.List.Elements.{Contains-get_or}
use Rattle.std.proofs.lemmas.Map.Views.{Contains-from_any, list_any-from_Contains}
use Rattle.std.proofs.lemmas.Option.{cond_some}

same_answer : (x y : Bool) → (x ≡ true → y ≡ true) → (y ≡ true → x ≡ true) → x ≡ y
same_answer true y to from = sym (to refl)
same_answer false true to from = from refl
same_answer false false to from = refl

-- A text behind what a move reads.
abbrev onto : Option ℕ → List ℕ → List ℕ
onto None text = text
onto (Some byte) text = byte ∷ text

module _ (texts : List (List ℕ)) where
  -- The front of a key's text and this are one of the texts.
  abbrev GoesOn : (ℕ × ℕ) → List ℕ → Type 0
  GoesOn spot text = Contains texts (take spot.1 (text_at texts spot.0) ++ text)

  moved : (spot to : ℕ × ℕ) (byte : Option ℕ) (text : List ℕ) (choice : Choice)
      → list_moves texts spot choice ≡ Some (record { byte = byte; to = to }) → GoesOn to text
      → GoesOn spot (onto byte text)
  moved spot to byte text (Byte b) move there =
      let is = cond_some (has_byte texts spot b) _ _ move in
      let same = same_move _ _ (ap Some is.1) in
      let here = and_parts _ _ is.0 in
      let own = text_at texts spot.0 in
      let front : take (spot.1 + 1) own ≡ take spot.1 own ++ b ∷ [] =
      take_more own spot.1 0 (ltb-true spot.1 (length own) here.0)
      ∙ ap (λ x. take spot.1 own ++ x ∷ []) (eqb-true (get_or own spot.1 0) b here.1) in
      rw (← same.0) (rw append_assoc at (rw front at (rw (← same.1) at there)))
  moved spot to byte text One move there =
      let is = cond_some _ _ _ move in
      let same = same_move _ _ (ap Some is.1) in
      rw (← same.0, eqb-true spot.1 0 (and_parts _ _ is.0).0) (rw (← same.1) at there)
  moved spot to byte text Other move there = absurd (cc)

  to_text : {spot : ℕ × ℕ} {text : List ℕ} → Way (list_graph texts) spot text → GoesOn spot text
  to_text {spot = spot} (ends final) =
      let end = and_parts _ _ final in
      rw (append-nil, take_all spot.1 (text_at texts spot.0) (leb-true (length (text_at texts spot.0)) spot.1 end.1))
      (Contains-get_or texts spot.0 [] (ltb-true spot.0 (length texts) end.0))
  to_text {spot = spot} {text = text} (passes {to = to} leads way) =
      moved spot to None text leads.choice leads.move (to_text way)
  to_text {spot = spot} (reads {to = to} {byte = byte} {text = text} leads way) =
      moved spot to (Some byte) text leads.choice leads.move (to_text way)

  rest_read : (number place : ℕ) (rest : List ℕ) → number < length texts → IsText rest
      → drop place (text_at texts number) ≡ rest → Way (list_graph texts) (number, place) rest
  rest_read number place [] within bytes is =
      let len = length-drop place (text_at texts number) in
      let none = ap length is in
      ends (and_from _ _ (lt-ltb number (length texts) within)
      (le-leb (length (text_at texts number)) place (omega arith)))
  rest_read number place (byte ∷ rest) within bytes is =
      let own = text_at texts number in
      let inside : place < length own = (let len = length-drop place own in let some = ap length is in omega arith) in
      let more = drop_more own place 0 inside in
      let move : has_byte texts (number, place) byte ≡ true =
      and_from _ _ (lt-ltb place (length own) inside) (eq-eqb (get_or own place 0) byte (cc)) in
      reads {to = (number, place + 1)} (record { choice = Byte byte; is = bytes.0; move = rw move refl })
      (rest_read number (place + 1) rest within bytes.1 (cc))

  from_first : (number : ℕ) (text : List ℕ) → number < length texts → Way (list_graph texts) (number, 0) text
      → Way (list_graph texts) (0, 0) text
  from_first zero text within way = way
  from_first (suc number) text within way =
      from_first number text (omega arith)
      (passes {to = (suc number, 0)} (record {
        choice = One;
        is = tt;
        move = rw (lt-ltb number (length texts) (omega arith), add-one) refl;
      }) way)

  pub listed : (made : Automaton) → AcceptsWays (list_graph texts) (0, 0) made → Accepts made (is_among texts)
  listed made same text bytes =
      same_answer (accepts made text) (is_among texts text)
      (λ accepted. list_any-from_Contains nat_list_eq_equiv text texts (to_text ((same text bytes).0 accepted)))
      (λ among.
      let there = Contains-from_any (λ x y e. same_text x y (sym e)) text texts among in
      (same text bytes).1 (from_first there.0 text there.1
      (rest_read there.0 0 text there.1 bytes (get_or_default texts there.0 [] text there.1 ∙ there.2))))
