-- A text with its slashes merged is one of a list, by the graph that reads the list so.
use Rattle.hc_rw_sets.proofs.Common.{◌≡◌, ℕ, ◌+◌, ◌<◌, List, [], ◌∷◌, ◌++◌, length, take}
use Rattle.hc_rw_sets.proofs.Common.{drop, Bool, true, false, cond, ◌&&◌, Option, Some, None, refl, sym, ◌∙◌}
use Rattle.hc_rw_sets.proofs.Common.{ap, arith, append-nil, append_assoc, eqb-true, Automaton, accepts, Accepts, IsText}
use Rattle.std.proofs.Common.{zero, suc, get_or, Contains, add-one}
use Rattle.std.proofs.lemmas.Bool.{and_from, and_parts, eq-eqb, le-leb, leb-true, lt-ltb, ltb-true}
use Rattle.std.proofs.lemmas.Cmp.{nat_list_eq_equiv}
use Rattle.std.proofs.lemmas.List.{drop_more, length-drop, take_all, take_more}
use Rattle.std.proofs.lemmas.List.Elements.{Contains-get_or}
use Rattle.std.proofs.lemmas.Map.Views.{Contains-from_any, list_any-from_Contains}
use Rattle.std.proofs.lemmas.Option.{cond_some}
use Rattle.hc_base.specs.Paths.{is_slash, merge_slashes}
use Rattle.hc_dfa.proofs.Common.{get_or_default, same_text}
use Rattle.hc_dfa.proofs.Following.{same_move}
use Rattle.hc_dfa.specs.Graphs.{AcceptsWays, Way}
use Rattle.hc_dfa.specs.Graphs.Way.{ends, passes, reads}
use Rattle.hc_dfa.specs.Lists.{has_byte, text_at}
use Rattle.hc_dfa.specs.Singles.{is_among}
use Rattle.hc_dfa.specs.declared.graphs.Choice.{Choice}
use Rattle.hc_dfa.specs.declared.graphs.Choice.TheVariants.{Byte, One, Other}
use Rattle.hc_dfa.specs.declared.graphs.Move.{Move}
use Rattle.hc_rw_sets.specs.Naming.{merged_behind, merging_graph, merging_moves}
use Rattle.hc_rw_sets.specs.declared.naming.Spot.{Spot}

pub same_answer : (x y : Bool) → (x ≡ true → y ≡ true) → (y ≡ true → x ≡ true) → x ≡ y
same_answer true y to from = sym (to refl)
same_answer false true to from = from refl
same_answer false false to from = refl

-- ---- merging, byte by byte

pub merged-more : (b : ℕ) (text : List ℕ) → merge_slashes (b ∷ text) ≡ b ∷ merged_behind (is_slash b) text
merged-more b [] = refl
merged-more b (c ∷ text) = by (is_slash b) (is_slash c) refl refl (merged-more c text)
  where
    by : (one two : Bool) → is_slash b ≡ one → is_slash c ≡ two
        → merge_slashes (c ∷ text) ≡ c ∷ merged_behind (is_slash c) text
        → cond (one && two) (merge_slashes (c ∷ text)) (b ∷ merge_slashes (c ∷ text))
        ≡ b ∷ cond (one && two) (merged_behind one text) (c ∷ merged_behind two text)
    by true true e f more =
        let same : c ≡ b = eqb-true c 47 f ∙ sym (eqb-true b 47 e) in
        more ∙ (λ i. same i ∷ merged_behind (f i) text)
    by true false e f more = ap (λ rest. b ∷ rest) (more ∙ ap (λ s. c ∷ merged_behind s text) f)
    by false two e f more = ap (λ rest. b ∷ rest) (more ∙ ap (λ s. c ∷ merged_behind s text) f)

pub merged : (text : List ℕ) → merged_behind false text ≡ merge_slashes text
merged [] = refl
merged (b ∷ text) = sym (merged-more b text)

-- ---- ways

-- A text behind what a move reads.
abbrev onto : Option ℕ → List ℕ → List ℕ
onto None text = text
onto (Some byte) text = byte ∷ text

module _ (texts : List (List ℕ)) where
  -- The front of a spot's text and what is left of this are one of the texts.
  abbrev GoesOn : Spot → List ℕ → Type 0
  GoesOn spot text =
      Contains texts (take spot.place (text_at texts spot.text) ++ merged_behind spot.behind_slash text)

  moved : (spot to : Spot) (byte : Option ℕ) (text : List ℕ) (choice : Choice)
      → merging_moves texts spot choice ≡ Some (record { byte = byte; to = to }) → GoesOn to text
      → GoesOn spot (onto byte text)
  moved spot to byte text (Byte b) move there = by (spot.behind_slash && is_slash b) refl move
    where
      by : (stays : Bool) → (spot.behind_slash && is_slash b) ≡ stays
          → cond {A = Option (Move Spot)} stays (Some (record { byte = Some b; to = spot }))
          (cond (has_byte texts (spot.text, spot.place) b) (Some (record {
            byte = Some b;
            to = record { text = spot.text; place = spot.place + 1; behind_slash = is_slash b };
          })) None)
          ≡ Some (record { byte = byte; to = to })
          → GoesOn spot (onto byte text)
      by true stays move =
          let same = same_move _ _ move in
          rw (← same.0, stays) (rw (← same.1) at there)
      by false leaves move =
          let is = cond_some (has_byte texts (spot.text, spot.place) b) _ _ move in
          let same = same_move _ _ (ap Some is.1) in
          let here = and_parts _ _ is.0 in
          let own = text_at texts spot.text in
          let front : take (spot.place + 1) own ≡ take spot.place own ++ b ∷ [] =
          take_more own spot.place 0 (ltb-true spot.place (length own) here.0)
          ∙ ap (λ x. take spot.place own ++ x ∷ []) (eqb-true (get_or own spot.place 0) b here.1) in
          rw (← same.0, leaves) (rw append_assoc at (rw front at (rw (← same.1) at there)))
  moved spot to byte text One move there =
      let is = cond_some _ _ _ move in
      let same = same_move _ _ (ap Some is.1) in
      rw (← same.0, eqb-true spot.place 0 (and_parts _ _ is.0).0) (rw (← same.1) at there)
  moved spot to byte text Other move there = absurd (cc)

  to_text : {spot : Spot} {text : List ℕ} → Way (merging_graph texts) spot text → GoesOn spot text
  to_text {spot = spot} (ends final) =
      let end = and_parts _ _ final in
      let own = text_at texts spot.text in
      rw (append-nil, take_all spot.place own (leb-true (length own) spot.place end.1))
      (Contains-get_or texts spot.text [] (ltb-true spot.text (length texts) end.0))
  to_text {spot = spot} {text = text} (passes {to = to} leads way) =
      moved spot to None text leads.choice leads.move (to_text way)
  to_text {spot = spot} (reads {to = to} {byte = byte} {text = text} leads way) =
      moved spot to (Some byte) text leads.choice leads.move (to_text way)

  -- The rest of a spot's text is read.
  rest_read : (number place : ℕ) (behind : Bool) (text : List ℕ) → number < length texts → IsText text
      → drop place (text_at texts number) ≡ merged_behind behind text
      → Way (merging_graph texts) (record { text = number; place = place; behind_slash = behind }) text
  rest_read number place behind [] within bytes is =
      let own = text_at texts number in
      let len = length-drop place own in
      let none = ap length is in
      ends (and_from _ _ (lt-ltb number (length texts) within) (le-leb (length own) place (omega arith)))
  rest_read number place behind (byte ∷ text) within bytes is =
      by (behind && is_slash byte) refl is (λ place behind. rest_read number place behind text within bytes.1)
    where
      by : (stays : Bool) → (behind && is_slash byte) ≡ stays
          → drop place (text_at texts number)
          ≡ cond stays (merged_behind behind text) (byte ∷ merged_behind (is_slash byte) text)
          → ((place : ℕ) (behind : Bool) → drop place (text_at texts number) ≡ merged_behind behind text
          → Way (merging_graph texts) (record { text = number; place = place; behind_slash = behind }) text)
          → Way (merging_graph texts) (record { text = number; place = place; behind_slash = behind }) (byte ∷ text)
      by true stays is later =
          reads {to = record { text = number; place = place; behind_slash = behind }}
          (record { choice = Byte byte; is = bytes.0; move = rw stays refl })
          (later place behind is)
      by false leaves is later =
          let own = text_at texts number in
          let inside : place < length own =
          (let len = length-drop place own in let some = ap length is in omega arith) in
          let more = drop_more own place 0 inside in
          let move : has_byte texts (number, place) byte ≡ true =
          and_from _ _ (lt-ltb place (length own) inside) (eq-eqb (get_or own place 0) byte (cc)) in
          reads {to = record { text = number; place = place + 1; behind_slash = is_slash byte }}
          (record { choice = Byte byte; is = bytes.0; move = rw (leaves, move) refl })
          (later (place + 1) (is_slash byte) (cc))

  from_first : (number : ℕ) (text : List ℕ) → number < length texts
      → Way (merging_graph texts) (record { text = number; place = 0; behind_slash = false }) text
      → Way (merging_graph texts) (record { text = 0; place = 0; behind_slash = false }) text
  from_first zero text within way = way
  from_first (suc number) text within way =
      from_first number text (omega arith)
      (passes {to = record { text = suc number; place = 0; behind_slash = false }} (record {
        choice = One;
        is = tt;
        move = rw (lt-ltb number (length texts) (omega arith), add-one) refl;
      }) way)

  pub merging_accept : (made : Automaton)
      → AcceptsWays (merging_graph texts) (record { text = 0; place = 0; behind_slash = false }) made
      → Accepts made (λ text. is_among texts (merge_slashes text))
  merging_accept made same text bytes =
      same_answer (accepts made text) (is_among texts (merge_slashes text))
      (λ accepted. list_any-from_Contains nat_list_eq_equiv (merge_slashes text) texts
      (rw (merged text) at (to_text ((same text bytes).0 accepted))))
      (λ among.
      let there = Contains-from_any (λ x y e. same_text x y (sym e)) (merge_slashes text) texts among in
      (same text bytes).1 (from_first there.0 text there.1
      (rest_read there.0 0 false text there.1 bytes
      (get_or_default texts there.0 [] (merge_slashes text) there.1 ∙ there.2 ∙ sym (merged text)))))
