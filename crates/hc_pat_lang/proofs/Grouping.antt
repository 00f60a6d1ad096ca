-- What is marked in the texts in which a pattern is found, and what its groups may hold.
use Rattle.hc_pat_lang.proofs.Common.{◌≡◌, ℕ, zero, suc, ◌+◌, ◌-◌, ◌<◌, ◌≤◌, ◌⊎◌}
use Rattle.hc_pat_lang.proofs.Common.{◌↔◌, ◌&&◌, nat_lt, nat_eq, Bool, true, false, List, [], ◌∷◌}
use Rattle.hc_pat_lang.proofs.Common.{length, take, drop, slice_get, if◌then◌else◌, Some, refl, sym, ◌∙◌}
use Rattle.hc_pat_lang.proofs.Common.{ap, subst, inl, inr, arith, eqb-true, eqb_tells, Contains, Span, IsText, TextSet}
use Rattle.hc_pat_lang.proofs.Common.{Pattern, Way, Ways, either, Turns, all_ways, Exists, IsGroupText, MayHold, Takes}
use Rattle.hc_pat_lang.proofs.Common.{chosen_ways, group_ways, part_ways, seen, seen_in, IsMarked, byte_of, marks}
use Rattle.hc_pat_lang.proofs.Common.{unmarked, GroupPart, Outside, Inside, Without, Node}
use Rattle.std.proofs.Math.Seq.{take-nil}
use Rattle.std.proofs.lemmas.List.{drop_all, length-map}
use Rattle.std.proofs.lemmas.Option.{slice_get-map, slice_get_past}
use Rattle.hc_pat_lang.specs.Found.MayHold.{whole, turn, unset}
use Rattle.hc_pat_lang.specs.Nodes.Takes.{at_end, by_byte, by_marked, by_first, by_second}
use Rattle.hc_pat_lang.proofs.Choosing.{to_chosen}
use Rattle.hc_pat_lang.proofs.Looking.{ArePlain, Finds}
use Rattle.hc_pat_lang.proofs.Marking.{from_chosen}
use Rattle.hc_pat_lang.proofs.Parts.{all_among, exists_among, among_exists, exists_cases, exists_left, exists_right}
use Rattle.hc_pat_lang.proofs.Seeing.{Grown, sees_part}

-- ---- letters

same_length : (text : List ℕ) → length text ≡ length (unmarked text)
same_length text = sym (length-map text byte_of)

plain_of : (b : ℕ) → b < 256 → byte_of b ≡ b
plain_of b small = grind arith

marked_of : (b : ℕ) → byte_of (256 + b) ≡ b
marked_of b = grind arith

reads : (text : List ℕ) (part : GroupPart) (k b : ℕ) → seen part text k ≡ Some b → slice_get (unmarked text) k
    ≡ Some b
reads text part k b is = (let e = slice_get-map byte_of text k in grind arith)

taken_bytes : (nodes : List Node) {node : ℕ} {text : List ℕ} → Takes nodes node text → IsText (unmarked text)
taken_bytes nodes (at_end end) = tt
taken_bytes nodes (by_byte {byte = byte} step small has rest) = (rw (plain_of byte small) small, taken_bytes nodes rest)
taken_bytes nodes (by_marked {byte = byte} step small has rest) = (rw (marked_of byte) small, taken_bytes nodes rest)
taken_bytes nodes (by_first fork rest) = taken_bytes nodes rest
taken_bytes nodes (by_second fork rest) = taken_bytes nodes rest

-- ---- what is marked

-- A letter stands in the text without marks, and is plain there.
abbrev Plain : List ℕ → ℕ → Type 0
Plain text k = seen Outside text k ≡ slice_get (unmarked text) k

-- A text is marked from one place to another.
record IsMarkedAt (text : List ℕ) (begin end : ℕ) : Type 0 where
  pub plain : (k : ℕ) → (k < begin) ⊎ (end ≤ k) → Plain text k
  pub inside : (k : ℕ) → begin ≤ k → k < end → seen Inside text k ≡ slice_get (unmarked text) k

marked_later : (l : ℕ) (text : List ℕ) (begin end first last : ℕ) → first ≡ begin - 1 → last ≡ end - 1
    → IsMarkedAt (l ∷ text) begin end → IsMarkedAt text first last
marked_later l text begin end first last one other is =
    record {
      plain = λ k side. is.plain (suc k) (grind arith);
      inside = λ k past below. is.inside (suc k) (omega arith) (omega arith);
    }

-- The first letter, where it is plain and where it is marked.
first_plain : (l : ℕ) (text : List ℕ) → seen_in Outside l ≡ Some (byte_of l)
    → marks (l ∷ text) ≡ marks text
first_plain l text is = grind arith

first_marked : (l : ℕ) (text : List ℕ) → seen_in Inside l ≡ Some (byte_of l)
    → marks (l ∷ text) ≡ byte_of l ∷ marks text
first_marked l text is = grind arith

marks_piece : (text : List ℕ) (begin end : ℕ) → begin ≤ end → IsMarkedAt text begin end
    → marks text ≡ take (end - begin) (drop begin (unmarked text))
marks_piece [] begin end ordered is = rw (drop_all {X = ℕ} begin [] (omega arith)) (sym (take-nil (end - begin)))
marks_piece (l ∷ text) zero zero ordered is = first_plain l text (is.plain 0 (inr (omega arith)))
    ∙ marks_piece text 0 0 ordered (marked_later l text 0 0 0 0 refl refl is)
marks_piece (l ∷ text) zero (suc end) ordered is =
    let more : suc (end - 0) ≡ suc end - 0 = omega arith in
    first_marked l text (is.inside 0 (omega arith) (omega arith))
    ∙ ap (λ (t : List ℕ). byte_of l ∷ t)
    (marks_piece text 0 end (omega arith) (marked_later l text 0 (suc end) 0 end refl (omega arith) is))
    ∙ ap (λ (n : ℕ). take n (unmarked (l ∷ text))) more
marks_piece (l ∷ text) (suc begin) zero ordered is = absurd (omega arith)
marks_piece (l ∷ text) (suc begin) (suc end) ordered is =
    let shorter : suc end - suc begin ≡ end - begin = omega arith in
    first_plain l text (is.plain 0 (inl (omega arith))) ∙ marks_piece text begin end (omega arith)
    (marked_later l text (suc begin) (suc end) begin end (omega arith) (omega arith) is)
    ∙ ap (λ (n : ℕ). take n (drop begin (unmarked text))) (sym shorter)

-- The text with marks from one place to another.
abbrev mark : ℕ → ℕ → ℕ → ℕ
mark begin end b = if (nat_eq begin 0 && nat_lt 0 end) then 256 + b else b

abbrev marked_text : List ℕ → ℕ → ℕ → List ℕ
marked_text [] begin end = []
marked_text (b ∷ text) begin end = mark begin end b ∷ marked_text text (begin - 1) (end - 1)

byte_marked : (begin end b : ℕ) → b < 256 → byte_of (mark begin end b) ≡ b
byte_marked begin end b small = grind arith

unmarked_marked : (text : List ℕ) (begin end : ℕ) → IsText text → unmarked (marked_text text begin end) ≡ text
unmarked_marked [] begin end bytes = refl
unmarked_marked (b ∷ text) begin end bytes =
    rw (byte_marked begin end b bytes.0, unmarked_marked text (begin - 1) (end - 1) bytes.1)

mark_plain : (begin end b : ℕ) → b < 256 → (0 < begin) ⊎ (end ≤ 0) → seen_in Outside (mark begin end b)
    ≡ Some (byte_of (mark begin end b))
mark_plain begin end b small side = grind arith

mark_inside : (begin end b : ℕ) → b < 256 → begin ≤ 0 → 0 < end → seen_in Inside (mark begin end b)
    ≡ Some (byte_of (mark begin end b))
mark_inside begin end b small past below = grind arith

is_marked_at : (text : List ℕ) (begin end : ℕ) → IsText text → IsMarkedAt (marked_text text begin end) begin end
is_marked_at [] begin end bytes = record { plain = λ k side. refl; inside = λ k past below. refl }
is_marked_at (b ∷ text) begin end bytes =
    record {
      plain = plain (is_marked_at text (begin - 1) (end - 1) bytes.1);
      inside = inside (is_marked_at text (begin - 1) (end - 1) bytes.1);
    }
  where
    plain : IsMarkedAt (marked_text text (begin - 1) (end - 1)) (begin - 1) (end - 1) → (k : ℕ) → (k < begin)
        ⊎ (end ≤ k) → Plain (marked_text (b ∷ text) begin end) k
    plain later zero side = mark_plain begin end b bytes.0 side
    plain later (suc k) side = (let s : (k < begin - 1) ⊎ (end - 1 ≤ k) = grind arith in later.plain k s)

    inside : IsMarkedAt (marked_text text (begin - 1) (end - 1)) (begin - 1) (end - 1) → (k : ℕ) → begin ≤ k
        → k < end
        → seen Inside (marked_text (b ∷ text) begin end) k
        ≡ slice_get (unmarked (marked_text (b ∷ text) begin end)) k
    inside later zero past below = mark_inside begin end b bytes.0 past below
    inside later (suc k) past below = later.inside k (omega arith) (omega arith)

-- ---- plain letters

plain_same : (text : List ℕ) (k : ℕ) → seen Outside text k ≡ slice_get text k → Plain text k
plain_same text k is = (let e = slice_get-map byte_of text k in grind arith)

plain_back : (text : List ℕ) (k : ℕ) → Plain text k → seen Outside text k ≡ slice_get text k
plain_back text k is = (let e = slice_get-map byte_of text k in grind arith)

past_end : (text : List ℕ) (k : ℕ) → length text ≤ k → Plain text k
past_end text k past = (let e = slice_get-map byte_of text k in let f = slice_get_past text k past in grind arith)

without_sees : (number : ℕ) (text : List ℕ) (k : ℕ) → seen (Without number) text k ≡ seen Outside text k
without_sees number text k = grind arith

-- ---- ways and marks

-- The ways of a group that is not the whole pattern.
abbrev turn_ways : ℕ → Pattern → List ℕ → Ways Turns
turn_ways number pattern text = either (chosen_ways number text pattern) (part_ways (Without number) text pattern)

module _ (pattern : Pattern) (number : ℕ) where
  abbrev Ends : ℕ → Way Turns → Type 0
  Ends end way = way.end ≡ end

  -- The group may hold what is marked, on a way through the text without marks.
  record Held (text : List ℕ) : Type 0 where
    pub from : ℕ
    pub within : from ≤ length (unmarked text)
    pub way : Way Turns
    pub among : Contains (all_ways (unmarked text) pattern from []) way
    pub holds : MayHold (unmarked text) from way number (marks text)

  module _ (text : List ℕ) (from end : ℕ) (within : from ≤ length text) (before : ArePlain text 0 from)
      (after : ArePlain text end (length text)) where
    in_text : from ≤ length (unmarked text)
    in_text = rw (← same_length text) within

    held : (way : Way Turns) → Contains (all_ways (unmarked text) pattern from []) way
        → MayHold (unmarked text) from way number (marks text) → Held text
    held way among holds = record { from = from; within = in_text; way = way; among = among; holds = holds }

    -- Where the way is plain but for a part.
    around : (begin last stop : ℕ) → stop ≡ end → ((k : ℕ) → from ≤ k → k < begin → Plain text k)
        → ((k : ℕ) → from ≤ k → last ≤ k → k < stop → Plain text k)
        → ((k : ℕ) → begin ≤ k → k < last → seen Inside text k ≡ slice_get (unmarked text) k)
        → IsMarkedAt text begin last
    around begin last stop ends first second inside = record {
      plain = λ k side.
          let cases : (k < from)
          ⊎ (((end ≤ k) × (k < length text)) ⊎ ((length text ≤ k) ⊎ ((from ≤ k) × (k < stop)))) =
          grind arith in
          elim cases [
            | inl front ↦ plain_same text k (before k (omega arith) front)
            | inr rest ↦ elim rest [
              | inl behind ↦ plain_same text k (after k behind.0 behind.1)
              | inr other ↦ elim other [
                | inl past ↦ past_end text k past
                | inr here ↦ elim side
                    [ inl less ↦ first k here.0 less | inr more ↦ second k here.0 more here.1 ]
              ]
            ]
          ];
      inside = inside;
    }

    whole_held : number ≡ 0 → Exists (Ends end) (part_ways Inside text pattern from []) → Held text
    whole_held zero_is some =
        let sees = sees_part Inside text (unmarked text) (same_length text) (reads text Inside) pattern in
        let found =
        exists_among _ (all_ways (unmarked text) pattern from [])
        (sees.to from [] [] (λ n. n ≡ end) in_text (λ x among. refl) some) in
        let grown = all_among _ _ found.0 (sees.grown from [] in_text) found.1 in
        let is = around from found.0.end found.0.end found.2.1 (λ k past below. absurd (omega arith))
        (λ k past over below. absurd (omega arith)) found.2.0.0 in
        held found.0 found.1
        (subst (λ (n : ℕ). MayHold (unmarked text) from found.0 n (marks text)) (sym zero_is)
        (rw (marks_piece text from found.0.end grown.ordered is) whole))

    turn_held : 0 < number → Exists (Ends end) (chosen_ways number text pattern from []) → Held text
    turn_held past some =
        let found =
        exists_among _ (all_ways (unmarked text) pattern from [])
        (to_chosen text (unmarked text) (same_length text) (reads text) number pattern from [] []
        (λ n. n ≡ end) in_text some) in
        let chosen = found.2.0 in
        let is = around chosen.span.start chosen.span.end found.0.end found.2.1 chosen.before
        (λ k past over. chosen.after k over) chosen.inside in
        held found.0 found.1
        (rw (marks_piece text chosen.span.start chosen.span.end chosen.runs is) (turn past chosen.turn))

    unset_held : 0 < number → Exists (Ends end) (part_ways (Without number) text pattern from []) → Held text
    unset_held past some =
        let sees = sees_part (Without number) text (unmarked text) (same_length text) (reads text (Without number))
        pattern in
        let found =
        exists_among _ (all_ways (unmarked text) pattern from [])
        (sees.to from [] [] (λ n. n ≡ end) in_text (λ x among. absurd (let w = among.1 in omega arith))
        some) in
        let is = around 0 0 found.0.end found.2.1 (λ k past below. absurd (omega arith))
        (λ k past over below. sym (without_sees number text k) ∙ found.2.0.0 k past below)
        (λ k above below. absurd (omega arith)) in
        held found.0 found.1
        (rw (marks_piece text 0 0 (omega arith) is)
        (unset past (λ span among. (let f = found.2.0.1 (number, span) among in grind arith))))

  held_by : (v : Bool) → nat_eq number 0 ≡ v → (text : List ℕ)
      → Finds (λ other. if v then part_ways Inside other pattern else turn_ways number pattern other) text
      → Held text
  held_by true is text finds = whole_held text finds.from finds.way.end finds.within finds.before finds.after
      (eqb-true number 0 is) (among_exists _ _ finds.way finds.among refl)
  held_by false is text finds =
      let past : 0 < number = grind arith in
      elim (exists_cases (Ends finds.way.end) (chosen_ways number text pattern finds.from [])
      (part_ways (Without number) text pattern finds.from [])
      (among_exists (Ends finds.way.end) (turn_ways number pattern text finds.from []) finds.way finds.among refl)) [
        | inl here ↦ turn_held text finds.from finds.way.end finds.within finds.before finds.after past here
        | inr here ↦ unset_held text finds.from finds.way.end finds.within finds.before finds.after past here
      ]

  finds_held : (text : List ℕ) → Finds (λ other. group_ways number other pattern) text → Held text
  finds_held text finds = held_by (nat_eq number 0) refl text finds

-- ---- marks for what a group may hold

-- A text with marks, in which the group's ways are found.
record Marked (pattern : Pattern) (number : ℕ) (text held : List ℕ) : Type 0 where
  pub marked : List ℕ
  pub finds : Finds (λ other. group_ways number other pattern) marked
  pub plain : unmarked marked ≡ text
  pub marks_are : marks marked ≡ held

module _ (pattern : Pattern) (marked : List ℕ) (from : ℕ) (way : Way Turns)
    (within : from ≤ length (unmarked marked))
    (among : Contains (all_ways (unmarked marked) pattern from []) way) where
  way_grown : Grown (unmarked marked) from [] way
  way_grown =
      all_among _ _ way
      ((sees_part Outside marked (unmarked marked) (same_length marked) (reads marked Outside) pattern).grown from []
      within) among

  finds_by : (ways : List ℕ → Ways Turns) (begin end : ℕ) → IsMarkedAt marked begin end → from ≤ begin
      → end ≤ way.end → Exists (λ (w : Way Turns). w.end ≡ way.end) (ways marked from []) → Finds ways marked
  finds_by ways begin end is first last some =
      let found = exists_among _ (ways marked from []) some in
      let ends = found.2 in
      record {
        from = from;
        within = rw (same_length marked) within;
        before = λ k past below. plain_back marked k (is.plain k (inl (omega arith)));
        way = found.0;
        among = found.1;
        after = λ k past below. plain_back marked k (is.plain k (inr (omega arith)));
      }

  whole_finds : IsMarkedAt marked from way.end → Finds (λ other. part_ways Inside other pattern) marked
  whole_finds is =
      finds_by (λ other. part_ways Inside other pattern) from way.end is (omega arith) (omega arith)
      ((sees_part Inside marked (unmarked marked) (same_length marked) (reads marked Inside) pattern).from from [] []
      (λ n. n ≡ way.end) within (among_exists _ _ way among ((is.inside, (λ x also. refl)), refl)))

  turn_finds : (number : ℕ) (span : Span) → Contains way.held (number, span)
      → IsMarkedAt marked span.start span.end → Finds (turn_ways number pattern) marked
  turn_finds number span kept is = elim (way_grown.new (number, span) kept) [
    | inl none ↦ absurd (let w = none.1 in omega arith)
    | inr own ↦ elim (from_chosen marked (unmarked marked) (same_length marked) (reads marked) number span is.plain
        is.inside pattern from [] [] way within among kept) [
          | inl none ↦ absurd (let w = none.1 in omega arith)
          | inr some ↦ finds_by _ span.start span.end is own.0 own.2
              (exists_left _ (chosen_ways number marked pattern from [])
              (part_ways (Without number) marked pattern from [])
              some)
        ]
  ]

  unset_finds : (number : ℕ) → ((span : Span) → Contains way.held (number, span) → ⊥)
      → ((k : ℕ) → Plain marked k) → Finds (turn_ways number pattern) marked
  unset_finds number none plain =
      finds_by _ from from (record { plain = λ k side. plain k; inside = λ k past below. absurd (omega arith) })
      (omega arith) way_grown.ordered
      (exists_right _ (chosen_ways number marked pattern from []) (part_ways (Without number) marked pattern from [])
      ((sees_part (Without number) marked (unmarked marked) (same_length marked) (reads marked (Without number))
      pattern).from from [] [] (λ n. n ≡ way.end) within
      (among_exists _ _ way among (((λ k past below. without_sees number marked k ∙ plain k), fresh), refl))))
    where
      fresh : (x : ℕ × Span) → Contains way.held x → nat_eq number x.0 ≡ false
      fresh x kept = elim (eqb_tells number x.0) [ inl is ↦ absurd (none x.1 (rw is.1 kept)) | inr isnt ↦ isnt.0 ]

as_group : (number : ℕ) (pattern : Pattern) (marked : List ℕ) → 0 < number
    → Finds (turn_ways number pattern) marked → Finds (λ other. group_ways number other pattern) marked
as_group number pattern marked past =
    let isnt : nat_eq number 0 ≡ false = grind arith in
    subst (λ (v : Bool). Finds (λ other. if v then part_ways Inside other pattern else turn_ways number pattern other)
    marked) (sym isnt)

module _ (pattern : Pattern) (text : List ℕ) (bytes : IsText text) (from : ℕ) (way : Way Turns)
    (within : from ≤ length text) (among : Contains (all_ways text pattern from []) way) where
  in_marked : (begin end : ℕ) → from ≤ length (unmarked (marked_text text begin end))
  in_marked begin end = rw (unmarked_marked text begin end bytes) within

  among_marked : (begin end : ℕ) → Contains (all_ways (unmarked (marked_text text begin end)) pattern from []) way
  among_marked begin end = rw (unmarked_marked text begin end bytes) among

  marked_by : (number begin end : ℕ) → begin ≤ end
      → Finds (λ other. group_ways number other pattern) (marked_text text begin end)
      → Marked pattern number text (take (end - begin) (drop begin text))
  marked_by number begin end ordered finds =
      let plain = unmarked_marked text begin end bytes in
      record {
        marked = marked_text text begin end;
        finds = finds;
        plain = plain;
        marks_are =
            rw plain at (marks_piece (marked_text text begin end) begin end ordered
            (is_marked_at text begin end bytes));
      }

  held_marked : (number : ℕ) (held : List ℕ) → MayHold text from way number held
      → Marked pattern number text held
  held_marked number held whole =
      let grown = way_grown pattern (marked_text text 0 0) from way (in_marked 0 0) (among_marked 0 0) in
      marked_by 0 from way.end grown.ordered
      (whole_finds pattern (marked_text text from way.end) from way (in_marked from way.end)
      (among_marked from way.end) (is_marked_at text from way.end bytes))
  held_marked number held (turn {span = span} past kept) =
      let grown = way_grown pattern (marked_text text 0 0) from way (in_marked 0 0) (among_marked 0 0) in
      marked_by number span.start span.end
      (elim (grown.new (number, span) kept)
      [ inl none ↦ absurd (let w = none.1 in omega arith) | inr own ↦ own.1 ])
      (as_group number pattern _ past
      (turn_finds pattern _ from way (in_marked span.start span.end) (among_marked span.start span.end) number span
      kept (is_marked_at text span.start span.end bytes)))
  held_marked number held (unset past none) =
      marked_by number 0 0 (omega arith)
      (as_group number pattern _ past
      (unset_finds pattern _ from way (in_marked 0 0) (among_marked 0 0) number none
      (λ k. (is_marked_at text 0 0 bytes).plain k (inr (omega arith)))))

pub group_text : (pattern : Pattern) (number : ℕ) (set : TextSet) (nodes : List Node) (start : ℕ)
    → ((text : List ℕ) → Takes nodes start text ↔ Finds (λ other. group_ways number other pattern) text)
    → (held : List ℕ) → IsMarked nodes start set held ↔ IsGroupText pattern set number held
group_text pattern number set nodes start finds held = (
  (λ is.
      let found = finds_held pattern number is.text ((finds is.text).0 is.taken) in
      record {
        text = unmarked is.text;
        bytes = taken_bytes nodes is.taken;
        member = is.member;
        from = found.from;
        within = found.within;
        way = found.way;
        among = found.among;
        holds = rw is.marked at found.holds;
      }),
  (λ is.
      let marked = held_marked pattern is.text is.bytes is.from is.way is.within is.among number held is.holds in
      record {
        text = marked.marked;
        taken = (finds marked.marked).1 marked.finds;
        member = rw marked.plain is.member;
        marked = marked.marks_are;
      }),
)
