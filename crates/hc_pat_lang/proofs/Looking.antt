-- The nodes that look for a pattern at any place.
use Rattle.hc_pat_lang.proofs.Common.{◌≡◌, ◌≢◌, ℕ, zero, suc, ◌+◌, ◌<◌, ◌≤◌, ◌⊎◌}
use Rattle.hc_pat_lang.proofs.Common.{◌↔◌, Bool, false, List, [], ◌∷◌, ◌++◌, length, drop, nat_lt}
use Rattle.hc_pat_lang.proofs.Common.{◌||◌, Some, slice_get, slice_set, refl, sym, ◌∙◌, ap, inl, inr, arith}
use Rattle.hc_pat_lang.proofs.Common.{slice_get_within, Extends, ByteSet, Contains, Turns, Way, Ways, seen, Outside}
use Rattle.hc_pat_lang.proofs.Common.{point_at, Exists, LeadsTo, KnowsEnd, KnowsEnds, IsReady, IsFragment, anything}
use Rattle.hc_pat_lang.proofs.Common.{IsFull, LooksFor, first_nodes, Gate, Point, Node, Dead, Step, Fork}
use Rattle.std.proofs.Math.ListN.{length-set}
use Rattle.std.proofs.lemmas.List.{drop_all, length-drop}
use Rattle.hc_pat_lang.specs.Nodes.{Takes, AreNodes}
use Rattle.hc_pat_lang.specs.Nodes.Takes.{at_end, by_byte, by_first, by_second}
use Rattle.hc_pat_lang.proofs.Fragmenting.{are_set, pushed, two_nodes}
use Rattle.hc_base.proofs.Shared.{get_set_other, get_set_same}
use Rattle.hc_pat_lang.proofs.Parts.{GoesOn, exists_among, among_exists, goes_on}
use Rattle.hc_pat_lang.proofs.Serving.{at_point, taken, plain_is, sees_plain}

-- ---- the first nodes

are_first : (every : ByteSet) → AreNodes (first_nodes every)
are_first every = record { dead = refl; end = refl; within = λ i node at. grind arith }

pub first_ready : (every : ByteSet) (nodes : List Node) (gate : Gate) → nodes ≡ first_nodes every
    → gate ≡ anything → IsReady nodes gate
first_ready every nodes gate is same = rw (is, same) (record { are = are_first every; below = omega arith })

-- ---- the nodes that are added

-- What the nodes that look for the entries are.
pub record Looked (built later : List Node) (every : ByteSet) (entries : Gate) (start : ℕ) : Type 0 where
  pub kept : Extends built later
  pub are : AreNodes later
  pub below : start < length later
  pub at_later : slice_get later (length built) ≡ Some (Fork entries.still.state (length built + 1))
  pub at_byte : slice_get later (length built + 1) ≡ Some (Step every (length built))
  pub at_start : slice_get later start ≡ Some (Fork entries.first.state (length built + 1))

looked_by : (built one two three later : List Node) (every : ByteSet) (entries : Gate) (start : ℕ)
    → IsReady built entries → one ≡ built ++ Dead ∷ [] → two ≡ one ++ Step every (length built) ∷ []
    → three ≡ slice_set two (length built) (Fork entries.still.state (length built + 1))
    → later ≡ three ++ Fork entries.first.state (length built + 1) ∷ [] → start ≡ length built + 2
    → Looked built later every entries start
looked_by built one two three later every entries start ready is_one is_two is_three is_later is =
    let a = pushed built one _ is_one in
    let b = pushed one two _ is_two in
    let c : length three ≡ length two = ap length is_three ∙ length-set two (length built) _ in
    let d = pushed three later _ is_later in
    let some = two_nodes built ready.are in
    let below = ready.below in
    let are_three : AreNodes three =
    rw is_three (are_set two (length built) _ (b.are (a.are ready.are tt) (omega arith)) some (omega arith)
    (omega arith)) in
    let other = λ (i : ℕ) (o : i ≢ length built). let e : slice_get three i ≡ slice_get two i = rw is_three
    (get_set_other two (length built) i _ o) in e in
    let start_is : start ≡ length three = omega arith in
    record {
      kept = λ i node at. let w = slice_get_within built i node at in
          d.kept i node (other i (λ e. omega arith) ∙ b.kept i node (a.kept i node at));
      are = d.are are_three (omega arith);
      below = omega arith;
      at_later = d.kept _ _ (rw is_three (get_set_same two (length built) _ (omega arith)));
      at_byte = d.kept _ _ (other (length built + 1) (λ e. omega arith) ∙ rw a.longer at b.last);
      at_start = rw start_is d.last;
    }

pub looked : (built later : List Node) (every : ByteSet) (entries : Gate) (start : ℕ) → IsReady built entries
    → LooksFor built later every entries start → Looked built later every entries start
looked built later every entries start ready looks =
    looked_by built _ _ _ later every entries start ready refl refl refl looks.nodes looks.is

-- ---- what they take

-- The letters from a place on, up to another, are bytes that are not marked.
abbrev pub ArePlain : List ℕ → ℕ → ℕ → Type 0
ArePlain text at end = (k : ℕ) → at ≤ k → k < end → seen Outside text k ≡ slice_get text k

-- A way is found at a place, and nothing is marked before and behind it.
pub record Finds (ways : List ℕ → Ways Turns) (text : List ℕ) : Type 0 where
  pub from : ℕ
  pub within : from ≤ length text
  pub before : ArePlain text 0 from
  pub way : Way Turns
  pub among : Contains (ways text from []) way
  pub after : ArePlain text way.end (length text)

plain_here : (text : List ℕ) (at : ℕ) (on : GoesOn text at) → on.byte < 256
    → seen Outside text at ≡ slice_get text at
plain_here text at on small = rw on.here (sees_plain on.byte small)

small_here : (text : List ℕ) (at : ℕ) (on : GoesOn text at) → seen Outside text at ≡ slice_get text at
    → on.byte < 256
small_here text at on plain = (plain_is on.byte on.byte (rw on.here at plain)).0

plain_more : (text : List ℕ) (at : ℕ) → ArePlain text 0 at → seen Outside text at ≡ slice_get text at
    → ArePlain text 0 (at + 1)
plain_more text at before here k past below =
    let cases : (k < at) ⊎ (k ≡ at) = grind arith in
    elim cases [ inl less ↦ before k past less | inr e ↦ rw e here ]

module _ (every : ByteSet) (full : IsFull every) (ways : List ℕ → Ways Turns) (built later : List Node)
    (entries : Gate) (start : ℕ)
    (fragment : IsFragment ways anything (first_nodes every) built entries)
    (look : Looked built later every entries start) where
  fork_at : slice_get later 2 ≡ Some (Fork 1 3)
  fork_at = look.kept 2 _ (fragment.kept 2 (Fork 1 3) refl)

  every_at : slice_get later 3 ≡ Some (Step every 2)
  every_at = look.kept 3 _ (fragment.kept 3 (Step every 2) refl)

  -- A byte is passed.
  abbrev Passed : ℕ → List ℕ → ℕ → Type 0
  Passed to text at = (on : GoesOn text at) × (seen Outside text at ≡ slice_get text at)
      × Takes later to (drop (at + 1) text)

  passes : (node to : ℕ) (text : List ℕ) (at : ℕ) → slice_get later node ≡ Some (Step every to)
      → Takes later node (drop at text) ↔ Passed to text at
  passes node to text at step = (
    (λ path.
        let byte = taken later _ step path in
        elim (goes_on text at) [
          | inl end ↦ absurd (let e = byte.is in let f = end.1 in cc)
          | inr on ↦
              let both : byte.letter ∷ byte.rest ≡ on.byte ∷ drop (at + 1) text = sym byte.is ∙ on.rest in
              let letters : byte.letter ≡ on.byte = cc in
              let rests : byte.rest ≡ drop (at + 1) text = cc in (
                on,
                plain_here text at on (rw letters at (plain_is byte.letter byte.byte byte.sees).0),
                rw rests at byte.taken,
              )
        ]),
    (λ on. let small = small_here text at on.0 on.1 in rw on.0.rest (by_byte step small (full on.0.byte small) on.2)),
  )

  every_rest : (fuel : ℕ) (text : List ℕ) (at : ℕ) → length text ≤ at + fuel → Takes later 2 (drop at text)
      ↔ ArePlain text at (length text)
  every_rest zero text at enough = (
    (λ path k past below. absurd (omega arith)),
    (λ plain. by_first fork_at (rw (drop_all at text (omega arith)) (at_end look.are.end))),
  )
  every_rest (suc fuel) text at enough = (
    (λ path. elim (taken later _ fork_at path) [
      | inl end ↦
          (λ k past below. absurd (let none = taken later _ look.are.end end in
          omega (arith, simp length-drop at (ap length none))))
      | inr byte ↦ (λ k past below.
          let on = (passes 3 2 text at every_at).0 byte in
          let w = on.0.within in
          let cases : (k ≡ at) ⊎ (at + 1 ≤ k) = grind arith in
          elim cases [
            | inl e ↦ rw e on.1
            | inr more ↦ (every_rest fuel text (at + 1) (omega arith)).0 on.2 k more
                below
          ])
    ]),
    (λ plain. elim (goes_on text at) [
      | inl past ↦ by_first fork_at (rw past.1 (at_end look.are.end))
      | inr on ↦
          let w = on.within in
          by_second fork_at
          ((passes 3 2 text at every_at).1 (
            on,
            plain at (omega arith) w,
            (every_rest fuel text (at + 1) (omega arith)).1 (λ k past below. plain k (omega arith) below),
          ))
    ]),
  )

  knows : KnowsEnds later anything
  knows =
      let k : KnowsEnd later anything.first =
      record {
        ends = λ e. (every_rest 0 [] 0 (omega arith)).1 (λ k past below. absurd (omega arith));
        only = λ path. refl;
      } in
      record { first = k; still = k; moved = k; widens = λ text path. path }

  any_at : (moved : Bool) (at : ℕ) → (point_at anything moved at).state ≡ 2
  any_at moved at = at_point (λ (p : Gate → Point). (p anything).state ≡ 2) moved at refl refl refl

  -- What the entries take at a place.
  leads : (text : List ℕ) (at : ℕ) → at ≤ length text
      → Takes later (point_at entries false at).state (drop at text)
      ↔ Exists (LeadsTo later text anything false at) (ways text at [])
  leads text at within = (fragment.serves later look.are (λ i node past is. look.kept i node is) knows text).leads at
      [] false within (λ e. absurd (let f = e in cc))

  found_at : (text : List ℕ) (at : ℕ) → at ≤ length text → ArePlain text 0 at
      → Takes later (point_at entries false at).state (drop at text) → Finds ways text
  found_at text at within before path =
      let some = exists_among _ (ways text at []) ((leads text at within).0 path) in
      record {
        from = at;
        within = within;
        before = before;
        way = some.0;
        among = some.1;
        after = (every_rest (length text) text some.0.end (omega arith)).0
            (rw (any_at (false || nat_lt at some.0.end) some.0.end) at some.2);
      }

  still_at : (at : ℕ) → 0 < at → point_at entries false at ≡ entries.still
  still_at at past = grind arith

  later_found : (fuel : ℕ) (text : List ℕ) (at : ℕ) → 0 < at → at ≤ length text → length text < at + fuel
      → ArePlain text 0 at → Takes later (length built) (drop at text) → Finds ways text
  later_found zero text at past within enough before path = absurd (omega arith)
  later_found (suc fuel) text at past within enough before path = elim (taken later _ look.at_later path) [
    | inl still ↦ found_at text at within before (rw (still_at at past) still)
    | inr byte ↦ let on = (passes _ _ text at look.at_byte).0 byte in let w = on.0.within in
        later_found fuel text (at + 1) (omega arith) (omega arith) (omega arith) (plain_more text at before on.1) on.2
  ]

  byte_passed : (text : List ℕ) (at : ℕ) → at < length text → seen Outside text at ≡ slice_get text at
      → Takes later (length built) (drop (at + 1) text) → Takes later (length built + 1) (drop at text)
  byte_passed text at within plain path =
      elim (goes_on text at) [
        | inl end ↦ absurd (let e = end.2 in omega arith)
        | inr on ↦ (passes _ _ text at look.at_byte).1
            (on, plain, path)
      ]

  found_later : (count : ℕ) (text : List ℕ) (at from : ℕ) → ArePlain text 0 from → from ≡ at + count
      → from ≤ length text → Takes later entries.still.state (drop from text)
      → Takes later (length built) (drop at text)
  found_later zero text at from before is within still =
      (let same : from ≡ at = omega arith in by_first look.at_later (rw same at still))
  found_later (suc count) text at from before is within still =
      by_second look.at_later
      (byte_passed text at (omega arith) (before at (omega arith) (omega arith))
      (found_later count text (at + 1) from before (omega arith) within still))

  start_found : (text : List ℕ) → Takes later start text → Finds ways text
  start_found text path = elim (taken later _ look.at_start path) [
    | inl first ↦ found_at text 0 (omega arith) (λ k past below. absurd (omega arith)) first
    | inr byte ↦ let on = (passes _ _ text 0 look.at_byte).0 byte in let w = on.0.within in
        later_found (length text) text 1 (omega arith) (omega arith) (omega arith)
        (plain_more text 0 (λ k past below. absurd (omega arith)) on.1) on.2
  ]

  found_by : (text : List ℕ) (from : ℕ) → ArePlain text 0 from → from ≤ length text
      → Takes later (point_at entries false from).state (drop from text) → Takes later start text
  found_by text zero before within path = by_first look.at_start path
  found_by text (suc from) before within path =
      by_second look.at_start
      (byte_passed text 0 (omega arith) (before 0 (omega arith) (omega arith))
      (found_later from text 1 (suc from) before (omega arith) within
      (rw (still_at (suc from) (omega arith)) at path)))

  pub taken_finds : (text : List ℕ) → Takes later start text ↔ Finds ways text
  taken_finds text = (
    (λ path. start_found text path),
    (λ is. found_by text is.from is.before is.within
        ((leads text is.from is.within).1
        (among_exists (LeadsTo later text anything false is.from) (ways text is.from []) is.way is.among
        (rw (any_at (false || nat_lt is.from is.way.end) is.way.end)
        ((every_rest (length text) text is.way.end (omega arith)).1 is.after))))),
  )
