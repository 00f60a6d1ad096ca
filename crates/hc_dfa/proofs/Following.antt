-- The machine of a graph, whose states are the keys that are met.
use Rattle.hc_dfa.proofs.Common.{◌≡◌, ℕ, ◌+◌, ◌<◌, ◌≤◌, ◌⊎◌, List, [], ◌∷◌, ◌++◌}
use Rattle.hc_dfa.proofs.Common.{length, Bool, false}
use Rattle.hc_dfa.proofs.Common.{refl, sym, ◌∙◌, ap, inl, inr, arith, Option, Some, None, Vec, Global, slice_get}
use Rattle.hc_dfa.proofs.Common.{slice_get_cases, slice_get_within, slice_get-get_or, get_or_from_slice_get}
use Rattle.hc_dfa.proofs.Common.{slice_index_or, get_or_append_left, get_or-append_seam, length-append, Extends, IsMet}
use Rattle.hc_dfa.proofs.Common.{Machine, Step, AddsStep, Goes, IsMachine, PathToFinal}
use Rattle.hc_dfa.proofs.Cells.{first_key}
use Rattle.hc_dfa.specs.Graphs.{GraphOf, Leads, Way, ReadsWays, AreKeys, AreSteps, Follows, IsChoice, choice_number}
use Rattle.hc_dfa.specs.Graphs.Way.{ends, passes, reads}
use Rattle.hc_dfa.specs.Machines.PathToFinal.{ends as path_ends, passes as path_passes, reads as path_reads}
use Rattle.hc_dfa.specs.declared.graphs.Choice.{Choice}
use Rattle.hc_dfa.specs.declared.graphs.Choice.TheVariants.{Byte, One, Other}
use Rattle.hc_dfa.specs.declared.graphs.Move.{Move}

pub same_move : {K : Type 0} (m n : Move K) → Some m ≡ Some n → (m.byte ≡ n.byte) × (m.to ≡ n.to)
same_move {K} m n same =
    (let e : m ≡ n = cc in (ap (λ (move : Move K). move.byte) e, ap (λ (move : Move K). move.to) e))

-- Choices with one number are one.
same_choice : (c d : Choice) → IsChoice c → IsChoice d → choice_number c ≡ choice_number d → c ≡ d
same_choice (Byte b) (Byte d) is_c is_d same = ap Byte same
same_choice (Byte b) One is_c is_d same = absurd (omega arith)
same_choice (Byte b) Other is_c is_d same = absurd (omega arith)
same_choice One (Byte d) is_c is_d same = absurd (omega arith)
same_choice One One is_c is_d same = refl
same_choice One Other is_c is_d same = absurd (omega arith)
same_choice Other (Byte d) is_c is_d same = absurd (omega arith)
same_choice Other One is_c is_d same = absurd (omega arith)
same_choice Other Other is_c is_d same = refl

-- What stands in a list with one more element.
got_push : {X : Type 0} (xs : List X) (x y : X) (i : ℕ) → slice_get (xs ++ x ∷ []) i ≡ Some y
    → (slice_get xs i ≡ Some y) ⊎ ((i ≡ length xs) × (x ≡ y))
got_push xs x y i at =
    let within = slice_get_within (xs ++ x ∷ []) i y at in
    let value = get_or_from_slice_get (xs ++ x ∷ []) i y y at in
    let l = length-append xs (x ∷ []) in
    let cases : (i < length xs) ⊎ (i ≡ length xs) = grind arith in
    elim cases [
      | inl old ↦ inl (slice_get-get_or xs i y old
          ∙ ap Some (sym (get_or_append_left xs (x ∷ []) y i old) ∙ value))
      | inr e ↦ inr (
        e,
        sym (get_or-append_seam xs x [] y)
            ∙ ap (λ k. slice_index_or (xs ++ x ∷ []) k y) (sym e) ∙ value,
      )
    ]

-- Keys that were met keep their places.
earlier : {K : Type 0} (keys more : List K) (i : ℕ) (key : K) → Extends keys more → i < length keys
    → slice_get more i ≡ Some key → slice_get keys i ≡ Some key
earlier keys more i key extends within here = elim (slice_get_cases keys i).1 [
  | inl found ↦ (let e = extends i found.0 found.2 in cc)
  | inr past ↦ absurd (let w = past.0 in omega arith)
]

pub same_extends : {K : Type 0} (keys : List K) → Extends keys keys
same_extends keys i key at = at

pub met_keys : {K : Type 0} (IsKey : K → Type 0) (keys more : List K) (key : K) (number : ℕ) → AreKeys IsKey keys
    → IsMet keys key more number → IsKey key → AreKeys IsKey more
met_keys IsKey keys more key number are met is i other at = elim (met.only i other at)
    [ inl old ↦ are i other old | inr e ↦ rw e is ]

module _ {K : Type 0} (g : GraphOf K) where
  pub no_steps : (keys : List K) (key : K) → AreSteps g keys key 0 []
  no_steps keys key = record {
    sound = λ byte number has. absurd (let w = has.1.1 in omega arith);
    complete = λ choice move is below at. absurd (omega arith);
  }

  steps_later : (keys more : List K) (key : K) (choices : ℕ) (steps : List Step) → Extends keys more
      → AreSteps g keys key choices steps → AreSteps g more key choices steps
  steps_later keys more key choices steps extends is = record {
    sound = λ byte number has. let to = is.sound byte number has in (to.0, extends number to.0 to.1, to.2);
    complete = λ choice move a b at.
        let found = is.complete choice move a b at in (found.0, extends found.0 move.to found.1, found.2);
  }

  -- One more choice leads to a key, or nowhere.
  pub steps_more : (keys more : List K) (key : K) (choice : Choice) (move : Move K) (steps next : List Step)
      (number : ℕ) → AreSteps g keys key (choice_number choice) steps → IsChoice choice
      → g.moves key choice ≡ Some move → IsMet keys move.to more number → AddsStep steps next move.byte number
      → AreSteps g more key (choice_number choice + 1) next
  steps_more keys more key choice move steps next number before is leads met adds = record {
    sound = λ byte j has. elim ((adds byte j).0 has) [
      | inl old ↦ let to = before.sound byte j old in (to.0, met.extends j to.0 to.1, to.2)
      | inr own ↦ rw (own.0, own.1) (move.to, met.stored, record { choice = choice; is = is; move = leads })
    ];
    complete = λ c other is_c below at.
        let n = choice_number choice in
        let cases : (choice_number c < n) ⊎ (choice_number c ≡ n) = grind arith in
        elim cases [
          | inl old ↦
              let found = before.complete c other is_c old at in
              (found.0, met.extends found.0 other.to found.1, (adds other.byte found.0).1 (inl found.2))
          | inr e ↦
              let same : move ≡ other = (let h = rw (same_choice c choice is_c is e) at at in cc) in
              rw (← same) (number, met.stored, (adds move.byte number).1 (inr (refl, refl)))
        ];
  }

  pub steps_same : (keys : List K) (key : K) (choice : Choice) (steps : List Step)
      → AreSteps g keys key (choice_number choice) steps → IsChoice choice → g.moves key choice ≡ None
      → AreSteps g keys key (choice_number choice + 1) steps
  steps_same keys key choice steps before is none = record {
    sound = before.sound;
    complete = λ c other is_c below at.
        let n = choice_number choice in
        let cases : (choice_number c < n) ⊎ (choice_number c ≡ n) = grind arith in
        elim cases [
          | inl old ↦ before.complete c other is_c old at
          | inr e ↦ absurd (let h = rw (same_choice c choice is_c is e) at at in cc)
        ];
  }

  module _ (IsKey : K → Type 0) (start : K) where
    pub begun : (keys : List K) (m : Machine) (number : ℕ) → IsKey start → IsMet [] start keys number
        → m.steps.items ≡ [] → m.finals.items ≡ [] → Follows IsKey g start keys m 0
    begun keys m number is met steps finals = record {
      first = first_key [] keys start number refl met;
      proper = λ i key at. elim (met.only i key at) [ inl none ↦ absurd (cc) | inr e ↦ rw e is ];
      within = omega arith;
      states = ap length steps;
      marks = ap length finals;
      steps = λ i key own at row. absurd (let none = rw steps at row in cc);
      final = λ i key below at. absurd (omega arith);
    }

    pub follows_more : (keys more : List K) (m n : Machine) (count : ℕ) (key : K) (own : Vec Step Global)
        (final : Bool) → Follows IsKey g start keys m count → slice_get keys count ≡ Some key
        → AreKeys IsKey more → Extends keys more → AreSteps g more key 258 own.items → final ≡ g.is_final key
        → n.steps.items ≡ m.steps.items ++ own ∷ [] → n.finals.items ≡ m.finals.items ++ final ∷ []
        → Follows IsKey g start more n (count + 1)
    follows_more keys more m n count key own final before at proper extends are is_final steps finals = record {
      first = extends 0 start before.first;
      proper = proper;
      within = (let w = slice_get_within more count key (extends count key at) in omega arith);
      states = (let l = length-append m.steps.items (own ∷ []) in let b = before.states in rw steps (omega arith));
      marks = (let l = length-append m.finals.items (final ∷ []) in let b = before.marks in rw finals (omega arith));
      steps = λ i other row here at_row. elim (got_push m.steps.items own row i (rw steps at at_row)) [
        | inl old ↦
            let w = slice_get_within m.steps.items i row old in
            let b = before.states in
            let f = before.within in
            steps_later keys more other 258 row.items extends
            (before.steps i other row (earlier keys more i other extends (omega arith) here) old)
        | inr new ↦
            let e : other ≡ key =
            (let h = rw (new.0, before.states) at here in let k = extends count key at in cc) in
            rw (e, ← new.1) are
      ];
      final = λ i other below here.
          let f = before.within in
          let cases : (i < count) ⊎ (i ≡ count) = grind arith in
          elim cases [
            | inl old ↦ rw finals (get_or_append_left m.finals.items (final ∷ []) false i
                (let b = before.marks in omega arith)
                ∙ before.final i other old (earlier keys more i other extends (omega arith) here))
            | inr e ↦
                let same : other ≡ key = (let h = rw e at here in let k = extends count key at in cc) in
                rw (finals, e, ← before.marks, same) (get_or-append_seam m.finals.items final [] false ∙ is_final)
          ];
    }

    module _ (keys : List K) (m : Machine) (count : ℕ) (is : Follows IsKey g start keys m count)
        (all : length keys ≤ count) where
      leads_of : (i : ℕ) (key : K) (byte : Option ℕ) (j : ℕ) → slice_get keys i ≡ Some key → Goes m i byte j
          → (to : K) × (slice_get keys j ≡ Some to) × Leads g key byte to
      leads_of i key byte j at goes = (is.steps i key goes.0 at goes.1).sound byte j goes.2

      goes_of : (i : ℕ) (key : K) (byte : Option ℕ) (to : K) → slice_get keys i ≡ Some key
          → Leads g key byte to → (j : ℕ) × (slice_get keys j ≡ Some to) × Goes m i byte j
      goes_of i key byte to at leads = elim (slice_get_cases m.steps.items i).1 [
        | inl row ↦
            let found = (is.steps i key row.0 at row.2).complete leads.choice (record { byte = byte; to = to }) leads.is
            (number_below leads.choice leads.is) leads.move in
            (found.0, found.1, (row.0, row.2, found.2))
        | inr past ↦ absurd
            (let w = slice_get_within keys i key at in let p = past.0 in let s = is.states in omega arith)
      ]
        where
          number_below : (choice : Choice) → IsChoice choice → choice_number choice < 258
          number_below (Byte byte) below = omega arith
          number_below One below = omega arith
          number_below Other below = omega arith

      final_of : (i : ℕ) (key : K) → slice_get keys i ≡ Some key
          → slice_index_or m.finals.items i false ≡ g.is_final key
      final_of i key at = is.final i key (let w = slice_get_within keys i key at in omega arith) at

      to_way : {i : ℕ} {text : List ℕ} (key : K) → slice_get keys i ≡ Some key → PathToFinal m i text
          → Way g key text
      to_way {i} key at (path_ends final) = ends (sym (final_of i key at) ∙ final)
      to_way {i} key at (path_passes {next = next} goes path) =
          let to = leads_of i key None next at goes in
          passes to.2 (to_way to.0 to.1 path)
      to_way {i} key at (path_reads {next = next} {byte = byte} goes path) =
          let to = leads_of i key (Some byte) next at goes in
          reads to.2 (to_way to.0 to.1 path)

      from_way : {key : K} {text : List ℕ} (i : ℕ) → slice_get keys i ≡ Some key → Way g key text
          → PathToFinal m i text
      from_way {key} i at (ends final) = path_ends (final_of i key at ∙ final)
      from_way {key} i at (passes {to = to} leads way) =
          let goes = goes_of i key None to at leads in
          path_passes goes.2 (from_way goes.0 goes.1 way)
      from_way {key} i at (reads {to = to} {byte = byte} leads way) =
          let goes = goes_of i key (Some byte) to at leads in
          path_reads goes.2 (from_way goes.0 goes.1 way)

      pub reads_ways : ReadsWays g start m
      reads_ways text = (to_way start is.first, from_way 0 is.first)

      pub is_machine : IsMachine m
      is_machine = record {
        some = (let w = slice_get_within keys 0 start is.first in let s = is.states in omega arith);
        finals = is.marks ∙ sym is.states;
        within = λ i byte j goes.
            let w = slice_get_within m.steps.items i goes.0 goes.1 in
            let s = is.states in
            let f = is.within in
            elim (slice_get_cases keys i).1 [
              | inl key ↦
                  let to = leads_of i key.0 byte j key.2 goes in
                  let t = slice_get_within keys j to.0 to.1 in
                  omega arith
              | inr past ↦ absurd (let p = past.0 in omega arith)
            ];
      }
