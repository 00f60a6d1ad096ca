-- Entries and exits, for each form of a pattern.
use Rattle.hc_pat_lang.proofs.Common.{◌≡◌, ℕ, zero, suc, ◌+◌, ◌<◌, ◌≤◌, ◌⊎◌, ◌↔◌}
use Rattle.hc_pat_lang.proofs.Common.{◌||◌, Bool, true, false, List, [], ◌∷◌, length, drop}
use Rattle.hc_pat_lang.proofs.Common.{if◌then◌else◌, nat_lt, nat_eq, Option, Some, slice_get, refl, sym}
use Rattle.hc_pat_lang.proofs.Common.{◌∙◌, ap, subst, inl, inr, arith, eq-eqb, eqb-true, lt-ltb, ltb-true}
use Rattle.hc_pat_lang.proofs.Common.{AllByRecursion, has_byte, ByteSet, Way, Ways, none, stop, behind, either}
use Rattle.hc_pat_lang.proofs.Common.{stop_where, meets, closed, grouped, preferred, moving, any_turns, Turns}
use Rattle.hc_pat_lang.proofs.Common.{with_turn, Bounded, any_turns_is, Exists, point_at, TakesRest, LeadsTo, Serves}
use Rattle.hc_pat_lang.proofs.Common.{KnowsEnd, KnowsEnds, KeepsEnd, alone_gate, nowhere, nowhere_gate, finish_point}
use Rattle.hc_pat_lang.proofs.Common.{finish_gate, Takes, AreNodes, Gate, Point, Node, Dead, End, Step, Marked, Fork}
use Rattle.hc_pat_lang.proofs.Common.{GroupPart, Inside, marked_byte, plain_byte, seen, seen_in, step_by, step_node}
use Rattle.hc_pat_lang.proofs.Common.{Each-append, Each-filter, Each-flat_map, Each-map}
use Rattle.hc_pat_lang.specs.Nodes.Takes.{at_end, by_byte, by_marked, by_first, by_second}
use Rattle.std.proofs.lemmas.List.{length-drop}
use Rattle.std.proofs.lemmas.Bool.{or_cases}
use Rattle.hc_pat_lang.proofs.Parts.{some_filtered, some_mapped, exists_as, exists_with, exists_left, exists_right}
use Rattle.hc_pat_lang.proofs.Parts.{exists_cases, exists_if, if_exists, all_if, all_as, all_passed, some_preferred}
use Rattle.hc_pat_lang.proofs.Parts.{to_flat, from_flat, meets_some, GoesOn, goes_on, all_among, among_exists}
use Rattle.hc_pat_lang.proofs.Parts.{exists_among}

-- ---- tests

still_here : (moved : Bool) (at : ℕ) → (moved || nat_lt at at) ≡ moved
still_here moved at = grind arith

further : (moved : Bool) (at end : ℕ) → at < end → (moved || nat_lt at end) ≡ true
further moved at end less = grind arith

-- To have moved in two steps is to have moved in all.
moved_on : (moved : Bool) (at mid end : ℕ) → at ≤ mid → mid ≤ end
    → ((moved || nat_lt at mid) || nat_lt mid end) ≡ (moved || nat_lt at end)
moved_on moved at mid end first second = grind arith

moved_past : (moved : Bool) (at end : ℕ) → (moved ≡ true → 0 < at) → at ≤ end
    → (moved || nat_lt at end) ≡ true → 0 < end
moved_past moved at end past ordered is = grind arith

-- ---- letters and points

pub sees_plain : (byte : ℕ) → byte < 256 → plain_byte byte ≡ Some byte
sees_plain byte small = grind arith

sees_marked : (byte : ℕ) → byte < 256 → marked_byte (256 + byte) ≡ Some byte
sees_marked byte small = grind arith

pub plain_is : (letter byte : ℕ) → plain_byte letter ≡ Some byte → (letter < 256) × (letter ≡ byte)
plain_is letter byte is = grind arith

marked_is : (letter byte : ℕ) → marked_byte letter ≡ Some byte → (byte < 256) × (letter ≡ 256 + byte)
marked_is letter byte is = grind arith

-- What holds at each point of gates holds at the point for a place.
pub at_point : (P : (Gate → Point) → Type 0) (moved : Bool) (at : ℕ) → P (λ g. g.first) → P (λ g. g.still)
    → P (λ g. g.moved) → P (λ g. point_at g moved at)
at_point P true at first still moved = moved
at_point P false at first still moved = by_place (nat_eq at 0)
  where
    by_place : (v : Bool) → P (λ g. if v then g.first else g.still)
    by_place true = first
    by_place false = still

-- ---- what nodes take

module _ (nodes : List Node) where
  -- The text begins with a letter in which a byte of the set is seen.
  pub record TakesByte (see : ℕ → Option ℕ) (set : ByteSet) (to : ℕ) (text : List ℕ) : Type 0 where
    pub letter : ℕ
    pub rest : List ℕ
    pub is : text ≡ letter ∷ rest
    pub byte : ℕ
    pub sees : see letter ≡ Some byte
    pub has : has_byte set byte ≡ true
    pub taken : Takes nodes to rest

  -- What a node takes.
  abbrev pub TakenBy : Node → List ℕ → Type 0
  TakenBy Dead text = ⊥
  TakenBy End text = text ≡ []
  TakenBy (Step set to) text = TakesByte plain_byte set to text
  TakenBy (Marked set to) text = TakesByte marked_byte set to text
  TakenBy (Fork first second) text = Takes nodes first text ⊎ Takes nodes second text

  as_node : (number : ℕ) (one other : Node) (text : List ℕ) → slice_get nodes number ≡ Some one
      → slice_get nodes number ≡ Some other → TakenBy one text → TakenBy other text
  as_node number one other text first second =
      (let same : one ≡ other = cc in subst (λ (n : Node). TakenBy n text) same)

  pub taken : {number : ℕ} {text : List ℕ} (node : Node) → slice_get nodes number ≡ Some node
      → Takes nodes number text → TakenBy node text
  taken node is (at_end end) = as_node _ _ node _ end is refl
  taken node is (by_byte {byte = byte} {text = rest} step small has path) =
      as_node _ _ node _ step is
      (record {
        letter = byte;
        rest = rest;
        is = refl;
        byte = byte;
        sees = sees_plain byte small;
        has = has;
        taken = path;
      })
  taken node is (by_marked {byte = byte} {text = rest} step small has path) =
      as_node _ _ node _ step is
      (record {
        letter = 256 + byte;
        rest = rest;
        is = refl;
        byte = byte;
        sees = sees_marked byte small;
        has = has;
        taken = path;
      })
  taken node is (by_first fork path) = as_node _ _ node _ fork is (inl path)
  taken node is (by_second fork path) = as_node _ _ node _ fork is (inr path)

  byte_taken : {node : ℕ} {text : List ℕ} (part : GroupPart) (set : ByteSet) (to : ℕ)
      → slice_get nodes node ≡ Some (step_node part set to) → Takes nodes node text
      → TakesByte (seen_in part) set to text
  byte_taken Inside set to is path = taken (Marked set to) is path
  byte_taken _ set to is path = taken (Step set to) is path

  takes_byte : {node : ℕ} {text : List ℕ} (part : GroupPart) (set : ByteSet) (to letter byte : ℕ)
      → slice_get nodes node ≡ Some (step_node part set to) → seen_in part letter ≡ Some byte
      → has_byte set byte ≡ true → Takes nodes to text → Takes nodes node (letter ∷ text)
  takes_byte Inside set to letter byte is sees has path =
      (let found = marked_is letter byte sees in rw found.1 (by_marked is found.0 has path))
  takes_byte _ set to letter byte is sees has path =
      (let found = plain_is letter byte sees in by_byte is found.0 (rw found.1 has) path)

  -- The point takes what either of two points takes.
  pub record IsEither (first second point : Point) : Type 0 where
    pub fork : slice_get nodes point.state ≡ Some (Fork first.state second.state)
    pub ends : point.ends ≡ (first.ends || second.ends)

  pub record AreEither (one two gate : Gate) : Type 0 where
    pub first : IsEither one.first two.first gate.first
    pub still : IsEither one.still two.still gate.still
    pub moved : IsEither one.moved two.moved gate.moved

  either_taken : {number first second : ℕ} {text : List ℕ} → slice_get nodes number ≡ Some (Fork first second)
      → Takes nodes number text ↔ (Takes nodes first text ⊎ Takes nodes second text)
  either_taken fork = (
    (λ path. taken _ fork path),
    (λ paths. elim paths [ inl path ↦ by_first fork path | inr path ↦ by_second fork path ]),
  )

  either_at : (first second gate : Gate) (moved : Bool) (at : ℕ) → AreEither first second gate
      → IsEither (point_at first moved at) (point_at second moved at) (point_at gate moved at)
  either_at first second gate moved at are = at_point (λ (p : Gate → Point). IsEither (p first) (p second) (p gate))
      moved at are.first are.still are.moved

  knows_at : (gate : Gate) (moved : Bool) (at : ℕ) → KnowsEnds nodes gate
      → KnowsEnd nodes (point_at gate moved at)
  knows_at gate moved at knows = at_point (λ (p : Gate → Point). KnowsEnd nodes (p gate)) moved at knows.first
      knows.still knows.moved

  -- ---- ends

  pub keeps_same : (point : Point) → KeepsEnd nodes point point
  keeps_same point = record { knows = λ knows. knows; back = λ knows path. path }

  knows_none : (point : Point) → (Takes nodes point.state [] → ⊥) → point.ends ≡ false
      → KnowsEnd nodes point
  knows_none point none isnt = record { ends = λ e. absurd (let f = isnt in cc); only = λ path. absurd (none path) }

  keeps_none : (exit point : Point) → (Takes nodes point.state [] → ⊥) → point.ends ≡ false
      → KeepsEnd nodes exit point
  keeps_none exit point none isnt =
      record { knows = λ knows. knows_none point none isnt; back = λ knows path. absurd (none path) }

  pub knows_nowhere : AreNodes nodes → KnowsEnd nodes nowhere
  knows_nowhere are = knows_none nowhere (λ path. taken _ are.dead path) refl

  pub keeps_dead : AreNodes nodes → (point : Point) → KeepsEnd nodes point nowhere
  keeps_dead are point = keeps_none point nowhere (λ path. taken _ are.dead path) refl

  pub keeps_finish : AreNodes nodes → (point : Point) → KeepsEnd nodes point (finish_point point)
  keeps_finish are point = by_end point.ends refl
    where
      by_end : (v : Bool) → point.ends ≡ v
          → KeepsEnd nodes point (if v then record { state = 1; ends = true } else nowhere)
      by_end true is =
          record {
            knows = λ knows. record { ends = λ e. at_end are.end; only = λ path. refl };
            back = λ knows path. knows.ends is;
          }
      by_end false is = keeps_dead are point

  pub keeps_step : (part : GroupPart) (set : ByteSet) (to : ℕ) (exit entry : Point) → slice_get nodes entry.state
      ≡ Some (step_node part set to) → entry.ends ≡ false → KeepsEnd nodes exit entry
  keeps_step part set to exit entry step isnt =
      keeps_none exit entry (λ path. (let f = (byte_taken part set to step path).is in cc)) isnt

  pub keeps_then : (exit mid entry : Point) → KeepsEnd nodes exit mid → KeepsEnd nodes mid entry
      → KeepsEnd nodes exit entry
  keeps_then exit mid entry first second = record {
    knows = λ knows. second.knows (first.knows knows);
    back = λ knows path. first.back knows (second.back (first.knows knows) path);
  }

  pub keeps_either : (exit first second entry : Point) → KeepsEnd nodes exit first → KeepsEnd nodes exit second
      → IsEither first second entry → KeepsEnd nodes exit entry
  keeps_either exit first second entry left right either = record {
    knows = λ knows. record {
      ends = λ e. elim (or_cases first.ends second.ends (sym either.ends ∙ e)) [
        | inl one ↦ by_first either.fork ((left.knows knows).ends one)
        | inr two ↦ by_second either.fork ((right.knows knows).ends two)
      ];
      only = λ path. elim (taken _ either.fork path) [
        | inl one ↦ (let e = (left.knows knows).only one in let f = either.ends in grind arith)
        | inr two ↦ (let e = (right.knows knows).only two in let f = either.ends in grind arith)
      ];
    };
    back = λ knows path. elim (taken _ either.fork path)
        [ inl one ↦ left.back knows one | inr two ↦ right.back knows two ];
  }

  -- ---- ways

  module _ (text : List ℕ) where
    abbrev Ordered : ℕ → Way Turns → Type 0
    Ordered at way = (at ≤ way.end) × (way.end ≤ length text)

    -- What is taken at a place, by the ways from there.
    abbrev LeadsAt : Type 0 → Ways Turns → Gate → ℕ → Turns → Bool → Type 0
    LeadsAt Taken ways exits at held moved = Taken ↔ Exists (LeadsTo nodes text exits moved at) (ways at held)

    pub serves_stop : (exits : Gate) → Serves nodes text stop exits exits
    serves_stop exits = record {
      ordered = λ at held within. (((let o : at ≤ at = omega arith in o), within), tt);
      leads = λ at held moved within past. (
        (λ path. inl (rw (still_here moved at) path)),
        (λ some. elim some [ inl here ↦ rw (still_here moved at) at here | inr none ↦ absurd none ]),
      );
    }

    pub serves_none : AreNodes nodes → (exits : Gate) → Serves nodes text none exits nowhere_gate
    serves_none are exits = record {
      ordered = λ at held within. tt;
      leads = λ at held moved within past. (
        (λ path. absurd
            (taken _ are.dead
            (rw (at_point (λ (p : Gate → Point). (p nowhere_gate).state ≡ 0) moved at refl refl refl) at path))),
        (λ some. absurd some),
      );
    }

    fits : (part : GroupPart) (test : ℕ → Bool) (at : ℕ) → meets test (seen part text at) ≡ true
        → (on : GoesOn text at) × ((byte : ℕ) × (seen_in part on.byte ≡ Some byte) × (test byte ≡ true))
    fits part test at is = elim (goes_on text at) [
      | inl past ↦ absurd (let f = rw past.0 at is in cc)
      | inr on ↦ (on, meets_some test (seen_in part on.byte) (rw on.here at is))
    ]

    pub serves_step : (part : GroupPart) (set : ByteSet) (test : ℕ → Bool) (exits : Gate) (entry : Point)
        → ((byte : ℕ) → test byte ≡ has_byte set byte) → slice_get nodes entry.state
        ≡ Some (step_node part set exits.moved.state)
        → (entries : Gate) → ((moved : Bool) (at : ℕ) → point_at entries moved at ≡ entry)
        → Serves nodes text (step_by (seen part text) test) exits entries
    serves_step part set test exits entry same step entries are = record {
      ordered = λ at held within. all_if (Ordered at) _ (meets test (seen part text at))
          (λ is. let w = (fits part test at is).0.within in omega arith);
      leads = λ at held moved within past. (
        (λ path.
            let byte = byte_taken part set exits.moved.state step (rw (are moved at) at path) in
            elim (goes_on text at) [
              | inl end ↦ absurd (let e = byte.is in let f = end.1 in cc)
              | inr on ↦
                  let both : byte.letter ∷ byte.rest ≡ on.byte ∷ drop (at + 1) text = sym byte.is ∙ on.rest in
                  let letters : byte.letter ≡ on.byte = cc in
                  let rests : byte.rest ≡ drop (at + 1) text = cc in
                  exists_if _ _ (meets test (seen part text at))
                  (rw (on.here, ← letters, byte.sees, same byte.byte) byte.has)
                  (rw (further moved at (at + 1) (omega arith)) (rw rests at byte.taken))
            ]),
        (λ some.
            let found = if_exists _ _ (meets test (seen part text at)) some in
            let fit = fits part test at found.0 in
            let path = rw (further moved at (at + 1) (omega arith)) at found.1 in
            rw (are moved at, fit.0.rest)
            (takes_byte part set exits.moved.state fit.0.byte fit.1.0 step fit.1.1 (sym (same fit.1.0) ∙ fit.1.2)
            path)),
      );
    }

    finish_at : (gate : Gate) (moved : Bool) (at : ℕ) → point_at (finish_gate gate) moved at
        ≡ finish_point (point_at gate moved at)
    finish_at gate moved at = at_point (λ (p : Gate → Point). p (finish_gate gate) ≡ finish_point (p gate)) moved
        at refl refl refl

    finish_taken : AreNodes nodes → (point : Point) (rest : List ℕ) → KnowsEnd nodes point
        → Takes nodes (finish_point point).state rest ↔ ((rest ≡ []) × Takes nodes point.state [])
    finish_taken are point rest knows = by_end point.ends refl
      where
        by_end : (v : Bool) → point.ends ≡ v
            → Takes nodes (if v then record { state = 1; ends = true } else nowhere).state rest
            ↔ ((rest ≡ []) × Takes nodes point.state [])
        by_end true is = ((λ path. (taken _ are.end path, knows.ends is)), (λ both. rw both.0 (at_end are.end)))
        by_end false is = (
          (λ path. absurd (taken _ are.dead path)),
          (λ both. absurd (let e = knows.only both.1 in let f = is in cc)),
        )

    ends_here : (at : ℕ) → at ≤ length text → drop at text ≡ [] → at ≡ length text
    ends_here at within none = omega (arith, simp length-drop at (ap length none))

    nothing_left : (at : ℕ) → at ≡ length text → drop at text ≡ []
    nothing_left at is =
        elim (goes_on text at) [ inl past ↦ past.1 | inr on ↦ absurd (let w = on.within in omega arith) ]

    pub serves_finish : AreNodes nodes → (exits : Gate) → KnowsEnds nodes exits
        → Serves nodes text (stop_where (λ at. nat_eq at (length text))) exits (finish_gate exits)
    serves_finish are exits knows = record {
      ordered = λ at held within. all_if (Ordered at) _ (nat_eq at (length text)) (λ is. omega arith);
      leads = λ at held moved within past.
          let point = point_at exits moved at in
          let finish = finish_taken are point (drop at text) (knows_at exits moved at knows) in (
            (λ path.
                let found = finish.0 (rw (finish_at exits moved at) at path) in
                exists_if _ _ (nat_eq at (length text)) (eq-eqb at (length text) (ends_here at within found.0))
                (rw (still_here moved at, found.0) found.1)),
            (λ some.
                let found = if_exists _ _ (nat_eq at (length text)) some in
                let left = nothing_left at (eqb-true at (length text) found.0) in
                rw (finish_at exits moved at) (finish.1 (left, rw (still_here moved at, left) at found.1))),
          );
    }

    -- ---- one behind the other, and either of two

    ordered_behind : (first second : Ways Turns) (at : ℕ) (held : Turns)
        → AllByRecursion (Ordered at) (first at held)
        → ((way : Way Turns) → Ordered at way → AllByRecursion (Ordered way.end) (second way.end way.held))
        → AllByRecursion (Ordered at) (behind first second at held)
    ordered_behind first second at held all later =
        Each-flat_map (Ordered at) (Ordered at) _ (first at held) all
        (λ way here. all_as (Ordered way.end) (Ordered at) _ (λ other there. omega arith) (later way here))

    leads_behind : (Taken : Type 0) (first second : Ways Turns) (exits middle : Gate) (at : ℕ) (held : Turns)
        (moved : Bool) (All : Way Turns → Type 0) → AllByRecursion All (first at held)
        → ((way : Way Turns) → All way → (at ≤ way.end)
        × AllByRecursion (Ordered way.end) (second way.end way.held)
        × LeadsAt (TakesRest nodes text middle (moved || nat_lt at way.end) way.end) second exits way.end way.held
        (moved || nat_lt at way.end))
        → LeadsAt Taken first middle at held moved → LeadsAt Taken (behind first second) exits at held moved
    leads_behind Taken first second exits middle at held moved All all later leads = (
      (λ path. to_flat _ _ (first at held) (exists_with All _ _ (first at held) all
          (λ way here there.
          let on = later way here in
          exists_with (Ordered way.end) _ _ (second way.end way.held) on.1
          (λ other behind end. rw (moved_on moved at way.end other.end on.0 behind.0) at end) (on.2.0 there))
          (leads.0 path))),
      (λ some. leads.1 (exists_with All _ _ (first at held) all
          (λ way here there.
          let on = later way here in
          on.2.1 (exists_with (Ordered way.end) _ _ (second way.end way.held) on.1
          (λ other behind end. rw (moved_on moved at way.end other.end on.0 behind.0) end) there))
          (from_flat _ _ (first at held) some))),
    )

    pub serves_behind : (first second : Ways Turns) (exits middle entries : Gate)
        → Serves nodes text first middle entries → Serves nodes text second exits middle
        → Serves nodes text (behind first second) exits entries
    serves_behind first second exits middle entries one two = record {
      ordered = λ at held within. ordered_behind first second at held (one.ordered at held within)
          (λ way here. two.ordered way.end way.held here.1);
      leads = λ at held moved within past. leads_behind _ first second exits middle at held moved (Ordered at)
          (one.ordered at held within)
          (λ way here. (
            here.0,
            two.ordered way.end way.held here.1,
            two.leads way.end way.held (moved || nat_lt at way.end) here.1 (moved_past moved at way.end past here.0),
          ))
          (one.leads at held moved within past);
    }

    pub serves_either : (first second : Ways Turns) (exits one two entries : Gate) → Serves nodes text first exits one
        → Serves nodes text second exits two → AreEither one two entries
        → Serves nodes text (either first second) exits entries
    serves_either first second exits one two entries left right are = record {
      ordered = λ at held within. Each-append _ (first at held) (second at held) (left.ordered at held within)
          (right.ordered at held within);
      leads = λ at held moved within past.
          let split = either_taken (either_at one two entries moved at are).fork in (
            (λ path. elim (split.0 path) [
              | inl here ↦ exists_left _ (first at held) (second at held)
                  ((left.leads at held moved within past).0 here)
              | inr here ↦ exists_right _ (first at held) (second at held)
                  ((right.leads at held moved within past).0 here)
            ]),
            (λ some. split.1 (elim (exists_cases _ (first at held) (second at held) some) [
              | inl here ↦ inl ((left.leads at held moved within past).1 here)
              | inr here ↦ inr ((right.leads at held moved within past).1 here)
            ])),
          );
    }

    ordered_preferred : (greedy : Bool) (turn : Ways Turns) (at : ℕ) (held : Turns) → at ≤ length text
        → AllByRecursion (Ordered at) (turn at held) → AllByRecursion (Ordered at) (preferred greedy turn at held)
    ordered_preferred true turn at held within all =
        Each-append _ (turn at held) (stop at held) all ((serves_stop nowhere_gate).ordered at held within)
    ordered_preferred false turn at held within all = (((serves_stop nowhere_gate).ordered at held within).0, all)

    -- The order of the ways doesn't matter.
    leads_preferred : (Taken Turned : Type 0) (greedy : Bool) (turn : Ways Turns) (exits : Gate) (at : ℕ)
        (held : Turns) (moved : Bool) → Taken ↔ (Turned ⊎ TakesRest nodes text exits moved at)
        → LeadsAt Turned turn exits at held moved → LeadsAt Taken (preferred greedy turn) exits at held moved
    leads_preferred Taken Turned greedy turn exits at held moved split leads =
        let some = some_preferred (LeadsTo nodes text exits moved at) greedy turn at held in (
          (λ path. some.1
              (elim (split.0 path)
              [ inl one ↦ inl (leads.0 one) | inr here ↦ inr (rw (still_here moved at) here) ])),
          (λ either. split.1
              (elim (some.0 either)
              [ inl one ↦ inl (leads.1 one) | inr here ↦ inr (rw (still_here moved at) at here) ])),
        )

    pub serves_preferred : (greedy : Bool) (turn : Ways Turns) (exits one entries : Gate)
        → Serves nodes text turn exits one → AreEither one exits entries
        → Serves nodes text (preferred greedy turn) exits entries
    serves_preferred greedy turn exits one entries left are = record {
      ordered = λ at held within. ordered_preferred greedy turn at held within (left.ordered at held within);
      leads = λ at held moved within past. leads_preferred _ _ greedy turn exits at held moved
          (either_taken (either_at one exits entries moved at are).fork) (left.leads at held moved within past);
    }

    pub serves_grouped : (number : ℕ) (body : Ways Turns) (exits entries : Gate)
        → Serves nodes text body exits entries → Serves nodes text (grouped with_turn number body) exits entries
    serves_grouped number body exits entries serves = record {
      ordered = λ at held within. Each-map _ _ (closed with_turn number at) (body at held)
          (serves.ordered at held within) (λ way ordered. ordered);
      leads = λ at held moved within past. (
        (λ path. (some_mapped _ (closed with_turn number at) (body at held)).1
            ((serves.leads at held moved within past).0 path)),
        (λ some. (serves.leads at held moved within past).1
            ((some_mapped _ (closed with_turn number at) (body at held)).0 some)),
      );
    }

    -- ---- any number of turns

    ordered_any : (greedy : Bool) (body : Ways Turns)
        → ((at : ℕ) (held : Turns) → at ≤ length text → AllByRecursion (Ordered at) (body at held))
        → (bytes at : ℕ) (held : Turns) → at ≤ length text
        → AllByRecursion (Ordered at) (any_turns greedy body bytes at held)
    ordered_any greedy body ordered zero at held within = (serves_stop nowhere_gate).ordered at held within
    ordered_any greedy body ordered (suc bytes) at held within =
        ordered_preferred greedy _ at held within
        (ordered_behind (moving body) _ at held (Each-filter _ _ (body at held) (ordered at held within))
        (λ way here. ordered_any greedy body ordered bytes way.end way.held here.1))

    -- The gate behind a turn: the turn has to have moved.
    abbrev pub behind_turn : Point → Gate
    behind_turn again = record { first = nowhere; still = nowhere; moved = again }

    behind_to : AreNodes nodes → (again : Point) (at : ℕ) (v : Bool)
        → TakesRest nodes text (behind_turn again) v at → (v ≡ true) × Takes nodes again.state (drop at text)
    behind_to are again at true path = (refl, path)
    behind_to are again at false path =
        absurd (taken _ are.dead
        (rw (at_point (λ (p : Gate → Point). (p nowhere_gate).state ≡ 0) false at refl refl refl) at path))

    alone_at : (turn : Gate) (moved : Bool) (at : ℕ) → (moved ≡ true → 0 < at)
        → point_at (alone_gate turn) moved at ≡ point_at turn false at
    alone_at turn moved at past = grind arith

    -- Only the ways that move lead through the gate behind a turn.
    pub serves_moving : AreNodes nodes → (body : Ways Turns) (exits turn : Gate)
        → Serves nodes text body (behind_turn exits.moved) turn
        → Serves nodes text (moving body) exits (alone_gate turn)
    serves_moving are body exits turn serves = record {
      ordered = λ at held within. Each-filter _ (λ way. nat_lt at way.end) (body at held)
          (serves.ordered at held within);
      leads = λ at held moved within past.
          let leads = serves.leads at held false within (λ e. absurd (let f = e in cc)) in (
            (λ path. (some_filtered _ (λ way. nat_lt at way.end) (body at held)).1 (exists_as _ _ (body at held)
                (λ way there.
                let found = behind_to are exits.moved way.end (nat_lt at way.end) there in
                (rw (further moved at way.end (ltb-true at way.end found.0)) found.1, found.0))
                (leads.0 (rw (alone_at turn moved at past) at path)))),
            (λ some. rw (alone_at turn moved at past) (leads.1 (exists_as _ _ (body at held)
                (λ way there. rw there.1 (rw (further moved at way.end (ltb-true at way.end there.1)) at there.0))
                ((some_filtered _ (λ way. nat_lt at way.end) (body at held)).0 some)))),
          );
    }

    still_at : (gate : Gate) (at : ℕ) → 0 < at → point_at gate false at ≡ gate.still
    still_at gate at past = grind arith

    unmoved : (moved : Bool) (at end : ℕ) → at ≤ end → (moved || nat_lt at end) ≡ false → (moved ≡ false)
        × (end ≡ at)
    unmoved moved at end ordered is = grind arith

    -- A turn whose exits lead back to it, where it has moved.
    module _ (greedy : Bool) (body : Ways Turns) (is_bounded : Bounded (length text) body) (exits turn : Gate)
        (again : Point)
        (loop : slice_get nodes again.state ≡ Some (Fork exits.moved.state turn.still.state))
        (widens : (rest : List ℕ) → Takes nodes exits.still.state rest → Takes nodes exits.moved.state rest)
        (serves : Serves nodes text body (record exits { moved = again }) turn) where
      abbrev inner : Gate
      inner = record exits { moved = again }

      abbrev any : Ways Turns
      any = any_turns greedy body (length text)

      -- The ways that move.
      abbrev Moves : Bool → ℕ → Turns → Type 0
      Moves moved at held = Exists (LeadsTo nodes text inner moved at) (moving body at held)

      ordered : (at : ℕ) (held : Turns) → at ≤ length text → AllByRecursion (Ordered at) (any at held)
      ordered = ordered_any greedy body serves.ordered (length text)

      any_is : any ≡ preferred greedy (behind (moving body) any)
      any_is = any_turns_is text greedy body is_bounded

      split : (at : ℕ) (held : Turns) (moved other : Bool) → at ≤ length text
          → Exists (LeadsTo nodes text inner moved at) (body at held) → Moves other at held
          ⊎ TakesRest nodes text inner moved at
      split at held moved other within some =
          let found = exists_among _ (body at held) some in
          let way = found.0 in
          let o = all_among (Ordered at) (body at held) way (serves.ordered at held within) found.1 in
          let cases : (at < way.end) ⊎ (way.end ≡ at) = (let l = o.0 in grind arith) in
          elim cases [
            | inl less ↦ inl
                ((some_filtered _ (λ (w : Way Turns). nat_lt at w.end) (body at held)).1
                (among_exists _ (body at held) way found.1 (
                  rw (further other at way.end less) (rw (further moved at way.end less) at found.2),
                  lt-ltb at way.end less,
                )))
            | inr e ↦ inr (rw (still_here moved at) at (rw e at found.2))
          ]

      moves_are : (at : ℕ) (held : Turns) (moved other : Bool) → Moves other at held
          → Exists (LeadsTo nodes text inner moved at) (body at held)
      moves_are at held moved other some =
          exists_as _ _ (body at held) (λ way here. let less = ltb-true at way.end here.1 in
          rw (further moved at way.end less) (rw (further other at way.end less) at here.0))
          ((some_filtered _ (λ way. nat_lt at way.end) (body at held)).0 some)

      -- Where the turn has moved.
      abbrev Loops : ℕ → Turns → Type 0
      Loops at held = LeadsAt (Takes nodes again.state (drop at text)) any exits at held true

      any_leads : (Taken : Type 0) (at : ℕ) (held : Turns) (moved : Bool) → at ≤ length text
          → ((way : Way Turns) → at < way.end → way.end ≤ length text → Loops way.end way.held)
          → Taken ↔ (Moves moved at held ⊎ TakesRest nodes text exits moved at)
          → LeadsAt Taken any exits at held moved
      any_leads Taken at held moved within later either =
          rw any_is (leads_preferred Taken _ greedy (behind (moving body) any) exits at held moved either
          (leads_behind _ (moving body) any exits inner at held moved
          (λ way. Ordered at way × (nat_lt at way.end ≡ true))
          (all_passed (Ordered at) _ (body at held) (serves.ordered at held within))
          (λ way here. let less = ltb-true at way.end here.1 in (
            here.0.0,
            ordered way.end way.held here.0.1,
            rw (further moved at way.end less) (later way less here.0.1),
          ))
          ((λ some. some), (λ some. some))))

      again_split : (at : ℕ) (held : Turns) → 0 < at → at ≤ length text
          → Takes nodes again.state (drop at text) → Moves true at held
          ⊎ Takes nodes exits.moved.state (drop at text)
      again_split at held past within path = elim (taken _ loop path) [
        | inl here ↦ inr here
        | inr turned ↦
            elim (split at held false true within
            ((serves.leads at held false within (λ e. absurd (let f = e in cc))).0
            (rw (still_at turn at past) turned))) [
              | inl moves ↦ inl moves
              | inr here ↦ inr (widens _ (rw (still_at inner at past) at here))
            ]
      ]

      again_joins : (at : ℕ) (held : Turns) → 0 < at → at ≤ length text → Moves true at held
          → Takes nodes again.state (drop at text)
      again_joins at held past within moves =
          by_second loop
          (rw (still_at turn at past) at
          ((serves.leads at held false within (λ e. absurd (let f = e in cc))).1
          (moves_are at held false true moves)))

      loops_by : (at : ℕ) (held : Turns) → 0 < at → at ≤ length text
          → ((way : Way Turns) → at < way.end → way.end ≤ length text → Loops way.end way.held)
          → Loops at held
      loops_by at held past within later = any_leads _ at held true within later (
        again_split at held past within,
        (λ either. elim either
            [ inl moves ↦ again_joins at held past within moves | inr here ↦ by_first loop here ]),
      )

      loops_for : (fuel at : ℕ) (held : Turns) → length text ≤ at + fuel → 0 < at → at ≤ length text
          → Loops at held
      loops_for zero at held enough past within = loops_by at held past within (λ way less w. absurd (omega arith))
      loops_for (suc fuel) at held enough past within =
          loops_by at held past within (λ way less w. loops_for fuel way.end way.held (omega arith) (omega arith) w)

      loops : (at : ℕ) (held : Turns) → 0 < at → at ≤ length text → Loops at held
      loops at held = loops_for (length text) at held (omega arith)

      -- The turn and further ones, or none.
      pub serves_any : (entries : Gate) → AreEither turn exits entries → Serves nodes text any exits entries
      serves_any entries are = record {
        ordered = ordered;
        leads = λ at held moved within past.
            let fork = either_taken (either_at turn exits entries moved at are).fork in
            let leads = serves.leads at held moved within past in
            any_leads _ at held moved within (λ way less w. loops way.end way.held (omega arith) w) (
              (λ path. elim (fork.0 path) [
                | inl turned ↦ elim (split at held moved moved within (leads.0 turned))
                    [ inl moves ↦ inl moves | inr here ↦ inner_split moved at held within past here ]
                | inr here ↦ inr here
              ]),
              (λ either. fork.1
                  (elim either
                  [ inl moves ↦ inl (leads.1 (moves_are at held moved moved moves)) | inr here ↦ inr here ])),
            );
      }
        where
          inner_split : (moved : Bool) (at : ℕ) (held : Turns) → at ≤ length text → (moved ≡ true → 0 < at)
              → TakesRest nodes text inner moved at → Moves moved at held ⊎ TakesRest nodes text exits moved at
          inner_split true at held within past path = again_split at held (past refl) within path
          inner_split false at held within past path = inr path

      -- From where the turn has ended.
      inner_any : (moved : Bool) (at : ℕ) (held : Turns) → at ≤ length text → (moved ≡ true → 0 < at)
          → TakesRest nodes text inner moved at → Exists (LeadsTo nodes text exits moved at) (any at held)
      inner_any true at held within past path = (loops at held (past refl) within).0 path
      inner_any false at held within past path =
          subst (λ (w : Ways Turns). Exists (LeadsTo nodes text exits false at) (w at held)) (sym any_is)
          ((some_preferred _ greedy (behind (moving body) any) at held).1 (inr (rw (still_here false at) path)))

      any_inner : (moved : Bool) (at : ℕ) (held : Turns) → at ≤ length text → (moved ≡ true → 0 < at)
          → Exists (LeadsTo nodes text exits moved at) (any at held)
          → TakesRest nodes text inner moved at ⊎ ((moved ≡ false) × TakesRest nodes text turn false at)
      any_inner true at held within past some = inl ((loops at held (past refl) within).1 some)
      any_inner false at held within past some =
          let leads = any_leads (Moves false at held ⊎ TakesRest nodes text exits false at) at held false within
          (λ way less w. loops way.end way.held (omega arith) w) ((λ either. either), (λ either. either)) in
          elim (leads.1 some) [
            | inl moves ↦ inr
                (refl, (serves.leads at held false within past).1 (moves_are at held false false moves))
            | inr here ↦
                inl here
          ]

      pub serves_turns : Serves nodes text (behind body any) exits turn
      serves_turns = record {
        ordered = λ at held within. ordered_behind body any at held (serves.ordered at held within)
            (λ way here. ordered way.end way.held here.1);
        leads = λ at held moved within past. (
          (λ path. to_flat _ _ (body at held)
              (exists_with (Ordered at) _ _ (body at held) (serves.ordered at held within)
              (λ way o here. exists_with (Ordered way.end) _ _ (any way.end way.held) (ordered way.end way.held o.1)
              (λ other on end. rw (moved_on moved at way.end other.end o.0 on.0) at end)
              (inner_any (moved || nat_lt at way.end) way.end way.held o.1 (moved_past moved at way.end past o.0) here))
              ((serves.leads at held moved within past).0 path))),
          (λ some.
              let found = exists_among _ (body at held) (from_flat _ _ (body at held) some) in
              let way = found.0 in
              let o = all_among (Ordered at) (body at held) way (serves.ordered at held within) found.1 in
              let later = exists_with (Ordered way.end) _ _ (any way.end way.held) (ordered way.end way.held o.1)
              (λ other on end. rw (moved_on moved at way.end other.end o.0 on.0) end) found.2 in
              elim (any_inner (moved || nat_lt at way.end) way.end way.held o.1 (moved_past moved at way.end past o.0)
              later) [
                | inl here ↦ (serves.leads at held moved within past).1
                    (among_exists (LeadsTo nodes text inner moved at) (body at held) way found.1 here)
                | inr turned ↦ let same = unmoved moved at way.end o.0 turned.0 in rw same.0 (rw same.1 at turned.1)
              ]),
        );
      }

  -- What is taken where the turn has not moved is taken where it has.
  pub serves_widens : (rest : List ℕ) (ways : Ways Turns) (exits entries : Gate)
      → ((text : List ℕ) → Takes nodes exits.still.state text → Takes nodes exits.moved.state text)
      → Serves nodes (0 ∷ rest) ways exits entries → Takes nodes entries.still.state rest
      → Takes nodes entries.moved.state rest
  serves_widens rest ways exits entries widens serves path =
      let text = 0 ∷ rest in
      let within : 1 ≤ length text = omega arith in
      (serves.leads 1 [] true within (λ e. omega arith)).1
      (exists_with (λ way. (1 ≤ way.end) × (way.end ≤ length text)) _ _ (ways 1 [])
      (serves.ordered 1 [] within)
      (λ way o there. wide (nat_lt 1 way.end) way.end o.0 there)
      ((serves.leads 1 [] false within (λ e. absurd (let f = e in cc))).0 path))
    where
      wide : (v : Bool) (end : ℕ) → 1 ≤ end → TakesRest nodes (0 ∷ rest) exits v end
          → TakesRest nodes (0 ∷ rest) exits true end
      wide true end past path = path
      wide false end past path = widens _ (rw (still_at [] exits end past) at path)
