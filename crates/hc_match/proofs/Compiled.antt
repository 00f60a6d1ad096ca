-- What each kind of pattern adds to a program.
use Rattle.hc_match.proofs.Common.{◌≡◌, ℕ, zero, suc, ◌+◌, ◌<◌, ◌≤◌, inl, inr, Bool, true, false}
use Rattle.hc_match.proofs.Common.{List, [], ◌∷◌, ◌++◌, length, Option, Some, None, map, if◌then◌else◌}
use Rattle.hc_match.proofs.Common.{get_or, nat_lt, lt-ltb, le-ltb, max, slice_get, slice_set, refl, sym, ap, ◌∙◌}
use Rattle.hc_match.proofs.Common.{arith, flat_map, length-append, length-set, slice_get-get_or, slice_get_past, Way}
use Rattle.hc_match.proofs.Common.{Ways, any_turns, behind, closed, either, grouped, meets, moving, none, preferred}
use Rattle.hc_match.proofs.Common.{step_where, stop, turns_then, Pattern, has_byte, behind-behind, behind-either}
use Rattle.hc_match.proofs.Common.{behind-preferred, behind-stop, same_ways, stop-behind, turn_or_next, Compiles}
use Rattle.hc_match.proofs.Common.{Extends, HasMeaning, IsAdded, IsMeaning, Kept, Meaning, NamesBelow, closed_at}
use Rattle.hc_match.proofs.Common.{keeping_held, kept_ways, opened, step_ways, turn_step, Step}
use Rattle.std.specs.Prelude.{IfOk}
use Rattle.std.specs.declared.result.Result.{Result}
use Rattle.std.proofs.lemmas.Result.{IfOk-weaker}
use Rattle.std.proofs.lemmas.Bool.{cases_eq, cases_lt}
use Rattle.hc_pattern.specs.declared.set.ByteSet.{ByteSet}
use Rattle.hc_ways.proofs.Images.{alike_ways, image}
use Rattle.hc_ways.proofs.Turns.{any_turns_is, bounded}
use Rattle.hc_match.specs.declared.program.Step.TheVariants.{Done, Byte, Class, Start, Finish, Open, Close, Either}
use Rattle.hc_base.proofs.Shared.{get_last, get_set_same, get_set_other}
use Rattle.hc_match.proofs.StepLists.{get_kept, placed, placed_there, placed_before}

pub same_step : (text : List ℕ) (a b : Meaning) (count : ℕ) (step : Step) → NamesBelow count step
    → ((place : ℕ) → place < count → a place ≡ b place)
    → step_ways text a step ≡ step_ways text b step
same_step text a b count Done names same = refl
same_step text a b count (Byte c next) names same = ap (behind _) (same next names)
same_step text a b count (Class set next) names same = ap (behind _) (same next names)
same_step text a b count (Start next) names same = ap (behind _) (same next names)
same_step text a b count (Finish next) names same = ap (behind _) (same next names)
same_step text a b count (Open next) names same = ap (λ ways at kept. ways at (opened at kept)) (same next names)
same_step text a b count (Close number next) names same =
    ap (λ ways at kept. ways at (closed_at number at kept)) (same next names)
same_step text a b count (Either first second) names same =
    ap (λ ways. either ways (a second)) (same first names.0) ∙ ap (either (b first)) (same second names.1)

names_raised : (few many : ℕ) (step : Step) → few ≤ many → NamesBelow few step → NamesBelow many step
names_raised few many Done more names = tt
names_raised few many (Byte c next) more names = omega (arith, more, names)
names_raised few many (Class set next) more names = omega (arith, more, names)
names_raised few many (Start next) more names = omega (arith, more, names)
names_raised few many (Finish next) more names = omega (arith, more, names)
names_raised few many (Open next) more names = omega (arith, more, names)
names_raised few many (Close number next) more names = omega (arith, more, names)
names_raised few many (Either first second) more names = (omega (arith, more, names.0), omega (arith, more, names.1))

-- What was added stays so where still more is.
added_raised : (text : List ℕ) (a b : Meaning) (few many place : ℕ) (step : Option Step) → few ≤ many
    → place < few → ((place : ℕ) → place < few → b place ≡ a place)
    → IsAdded text a few place step → IsAdded text b many place step
added_raised text a b few many place None more within same is = tt
added_raised text a b few many place (Some step) more within same is =
    (names_raised few many step more is.0, same place within ∙ is.1 ∙ sym (same_step text b a few step is.0 same))

added_as : (text : List ℕ) (a : Meaning) (count place : ℕ) (s t : Option Step) → s ≡ t
    → IsAdded text a count place t → IsAdded text a count place s
added_as text a count place s t same is = rw same is

meaning_as : (text : List ℕ) (a : Meaning) (place : ℕ) (s t : Option Step) → s ≡ t → IsMeaning text a place t
    → IsMeaning text a place s
meaning_as text a place s t same is = rw same is

extends_none : (text : List ℕ) (old : List Step) (before : Meaning) → Extends text old old before before
extends_none text old before = record {
  longer = omega arith;
  kept = λ place within. refl;
  agrees = λ place within. refl;
  added = λ place past. added_as text before (length old) place (slice_get old place) None
      (slice_get_past old place past) tt;
}

extends_more : (text : List ℕ) (old mid new : List Step) (a b c : Meaning) → Extends text old mid a b
    → Extends text mid new b c → Extends text old new a c
extends_more text old mid new a b c first second = record {
  longer = omega (arith, first.longer, second.longer);
  kept = λ place within. second.kept place (omega (arith, within, first.longer)) ∙ first.kept place within;
  agrees = λ place within. second.agrees place (omega (arith, within, first.longer)) ∙ first.agrees place within;
  added = λ place past.
      elim (cases_lt place (length mid)) [
        | inl within ↦
            added_as text c (length new) place (slice_get new place) (slice_get mid place) (second.kept place within)
            (added_raised text b c (length mid) (length new) place (slice_get mid place) second.longer within
            second.agrees (first.added place past))
        | inr beyond ↦ second.added place beyond
      ];
}

-- One step more, whose meaning may be chosen.
extends_one : (text : List ℕ) (old : List Step) (step : Step) (before : Meaning) (ways : Ways Kept)
    → NamesBelow (length old) step → ways ≡ step_ways text before step
    → Extends text old (old ++ step ∷ []) before (placed (length old) ways before)
extends_one text old step before ways names is =
    let count = length old in
    let more : length (old ++ step ∷ []) ≡ count + 1 = length-append old (step ∷ []) in
    record {
      longer = omega (arith, more);
      kept = λ place within. get_kept old (step ∷ []) place within;
      agrees = λ place within. placed_before count ways before place within;
      added = λ place past.
          elim (cases_eq place count) [
            | inl same ↦
                added_as text (placed count ways before) (length (old ++ step ∷ [])) place _ (Some step)
                (ap (slice_get (old ++ step ∷ [])) same ∙ get_last old step) (
                  names_raised count (length (old ++ step ∷ [])) step (omega (arith, more)) names,
                  ap (placed count ways before) same ∙ placed_there count ways before ∙ is
                      ∙ same_step text before (placed count ways before) count step names
                      (λ there within. sym (placed_before count ways before there within)),
                )
            | inr other ↦ added_as text (placed count ways before) (length (old ++ step ∷ [])) place _ None
                (slice_get_past (old ++ step ∷ []) place (omega (arith, more, past, other))) tt
          ];
    }

-- ---- one step, and steps behind one another

pub compiled_none : (text : List ℕ) (old : List Step) (next : ℕ) → next < length old
    → Compiles text old old stop next next
compiled_none text old next within = record {
  within = within;
  longer = omega arith;
  reads = λ before. record {
    after = before;
    extends = extends_none text old before;
    is = sym (behind-stop (before next));
  };
}

pub compiled_step : (text : List ℕ) (old : List Step) (step : Step) (ways : Ways Kept) (next : ℕ)
    → NamesBelow (length old) step
    → ((before : Meaning) → step_ways text before step ≡ behind ways (before next))
    → Compiles text old (old ++ step ∷ []) ways next (length old)
compiled_step text old step ways next names is = record {
  within = omega (arith, length-append old (step ∷ []));
  longer = omega (arith, length-append old (step ∷ []));
  reads = λ before. record {
    after = placed (length old) (step_ways text before step) before;
    extends = extends_one text old step before (step_ways text before step) names refl;
    is = placed_there (length old) (step_ways text before step) before ∙ is before;
  };
}

pub compiled_behind : (text : List ℕ) (old mid new : List Step) (first second : Ways Kept) (next between place : ℕ)
    → Compiles text old mid second next between → Compiles text mid new first between place
    → Compiles text old new (behind first second) next place
compiled_behind text old mid new first second next between place later now = record {
  within = now.within;
  longer = omega (arith, later.longer, now.longer);
  reads = λ before.
      let a = later.reads before in
      let b = now.reads a.after in
      record {
        after = b.after;
        extends = extends_more text old mid new before a.after b.after a.extends b.extends;
        is = b.is ∙ ap (behind first) a.is ∙ sym (behind-behind first second (before next));
      };
}

pub compiled_as : (text : List ℕ) (old new : List Step) (a b : Ways Kept) (next place : ℕ) → a ≡ b
    → Compiles text old new a next place → Compiles text old new b next place
compiled_as text old new a b next place same is = rw (← same) is

-- A step that was put behind others.
pub emitted : {E : Type 0} (result : Result ℕ E) (old mid new : List Step) (step : Step)
    (ways : List ℕ → Ways Kept) (next : ℕ)
    → IfOk result (λ place. (place ≡ length mid) × (new ≡ mid ++ step ∷ []))
    → ((text : List ℕ) → Compiles text old (mid ++ step ∷ []) (ways text) next (length mid))
    → IfOk result (λ place. (text : List ℕ) → Compiles text old new (ways text) next place)
emitted result old mid new step ways next is compiled =
    IfOk-weaker result (λ place. (place ≡ length mid) × (new ≡ mid ++ step ∷ []))
    (λ place. (text : List ℕ) → Compiles text old new (ways text) next place)
    (λ place here text. rw (here.0, here.1) (compiled text)) is

pub ok_behind : {E : Type 0} (result : Result ℕ E) (old mid new : List Step) (first second : List ℕ → Ways Kept)
    (next between : ℕ)
    → ((text : List ℕ) → Compiles text old mid (second text) next between)
    → IfOk result (λ place. (text : List ℕ) → Compiles text mid new (first text) between place)
    → IfOk result
    (λ place. (text : List ℕ) → Compiles text old new (behind (first text) (second text)) next place)
ok_behind result old mid new first second next between later now =
    IfOk-weaker result (λ place. (text : List ℕ) → Compiles text mid new (first text) between place)
    (λ place. (text : List ℕ) → Compiles text old new (behind (first text) (second text)) next place)
    (λ place is text. compiled_behind text old mid new (first text) (second text) next between place (later text)
    (is text)) now

-- Both parts, and then a step of both.
pub compiled_either : (text : List ℕ) (old mid new : List Step) (first second : Ways Kept) (next p q : ℕ)
    → next < length old
    → Compiles text old mid second next q → Compiles text mid new first next p
    → Compiles text old (new ++ Either p q ∷ []) (either first second) next (length new)
compiled_either text old mid new first second next p q within later now = record {
  within = omega (arith, length-append new (Either p q ∷ []));
  longer = omega (arith, later.longer, now.longer, length-append new (Either p q ∷ []));
  reads = λ before.
      let a = later.reads before in
      let b = now.reads a.after in
      let ways = step_ways text b.after (Either p q) in
      record {
        after = placed (length new) ways b.after;
        extends = extends_more text old new (new ++ Either p q ∷ []) before b.after (placed (length new) ways b.after)
            (extends_more text old mid new before a.after b.after a.extends b.extends)
            (extends_one text new (Either p q) b.after ways (now.within, omega (arith, later.within, b.extends.longer))
            refl);
        is = placed_there (length new) ways b.after
            ∙ ap (λ ways. either ways (b.after q)) (b.is ∙ ap (behind first) (a.extends.agrees next within))
            ∙ ap (either (behind first (before next))) (b.extends.agrees q later.within ∙ a.is)
            ∙ sym (behind-either first second (before next));
      };
}

turn_names : (greedy : Bool) (count turn next : ℕ) → turn < count → next < count
    → NamesBelow count (turn_step greedy turn next)
turn_names true count turn next first second = (first, second)
turn_names false count turn next first second = (second, first)

turn_ways : (text : List ℕ) (meaning : Meaning) (greedy : Bool) (turn next : ℕ)
    → step_ways text meaning (turn_step greedy turn next) ≡ turn_or_next greedy (meaning turn) (meaning next)
turn_ways text meaning true turn next = refl
turn_ways text meaning false turn next = refl

-- A turn, and then a step of it and of what comes without it.
pub compiled_preferred : (text : List ℕ) (old mid : List Step) (greedy : Bool) (turns : Ways Kept) (next turn : ℕ)
    → next < length old
    → Compiles text old mid turns next turn → Compiles text old (mid ++ turn_step greedy turn next ∷ [])
    (preferred greedy turns) next (length mid)
compiled_preferred text old mid greedy turns next turn within body =
    let step = turn_step greedy turn next in
    record {
      within = omega (arith, length-append mid (step ∷ []));
      longer = omega (arith, body.longer, length-append mid (step ∷ []));
      reads = λ before.
          let a = body.reads before in
          let ways = step_ways text a.after step in
          record {
            after = placed (length mid) ways a.after;
            extends = extends_more text old mid (mid ++ step ∷ []) before a.after (placed (length mid) ways a.after)
                a.extends
                (extends_one text mid step a.after ways
                (turn_names greedy (length mid) turn next body.within (omega (arith, within, a.extends.longer)))
                refl);
            is = placed_there (length mid) ways a.after ∙ turn_ways text a.after greedy turn next
                ∙ ap (λ ways. turn_or_next greedy ways (a.after next)) a.is
                ∙ ap (turn_or_next greedy (behind turns (before next))) (a.extends.agrees next within)
                ∙ sym (behind-preferred greedy turns (before next));
          };
    }

-- ---- a group

each_closed : (number at : ℕ) (next : Ways Kept) (found : List (Way Kept))
    → flat_map (λ way. next way.end (closed_at number way.end way.held)) (map (image (opened at)) found)
    ≡ flat_map (λ way. next way.end way.held) (map (closed keeping_held number at) found)
each_closed number at next [] = refl
each_closed number at next (way ∷ found) =
    ap (λ l. next way.end (keeping_held number (record { start = at; end = way.end }) way.held) ++ l)
    (each_closed number at next found)

group_is : (text : List ℕ) (pattern : Pattern) (number : ℕ) (next : Ways Kept)
    → (λ at kept. behind (kept_ways text pattern) (λ there held. next there (closed_at number there held)) at
    (opened at kept)) ≡ behind (grouped keeping_held number (kept_ways text pattern)) next
group_is text pattern number next =
    same_ways _ _ (λ at kept.
    ap (flat_map (λ way. next way.end (closed_at number way.end way.held)))
    (sym (alike_ways (opened at) keeping_held keeping_held (λ number span held. refl) text pattern at kept))
    ∙ each_closed number at next (kept_ways text pattern at kept))

pub compiled_group : (text : List ℕ) (old mid : List Step) (pattern : Pattern) (number next p : ℕ)
    → next < length old
    → Compiles text (old ++ Close number next ∷ []) mid (kept_ways text pattern) (length old) p
    → Compiles text old (mid ++ Open p ∷ []) (grouped keeping_held number (kept_ways text pattern)) next
    (length mid)
compiled_group text old mid pattern number next p within body =
    let close = Close number next in
    let open_step = Open p in
    let body_ways = kept_ways text pattern in
    record {
      within = omega (arith, length-append mid (open_step ∷ []));
      longer = omega (arith, body.longer, length-append old (close ∷ []), length-append mid (open_step ∷ []));
      reads = λ before.
          let ends = step_ways text before close in
          let a = placed (length old) ends before in
          let b = body.reads a in
          let ways = step_ways text b.after open_step in
          record {
            after = placed (length mid) ways b.after;
            extends = extends_more text old mid (mid ++ open_step ∷ []) before b.after
                (placed (length mid) ways b.after)
                (extends_more text old (old ++ close ∷ []) mid before a b.after
                (extends_one text old close before ends within refl) b.extends)
                (extends_one text mid open_step b.after ways body.within refl);
            is = placed_there (length mid) ways b.after
                ∙ ap (λ ways at kept. ways at (opened at kept))
                (b.is ∙ ap (behind body_ways) (placed_there (length old) ends before))
                ∙ group_is text pattern number (before next);
          };
    }

-- ---- turns

no_byte : {K : Type 0} (test : ℕ → Bool) (found : Option ℕ) (there : List (Way K))
    → ((c : ℕ) → test c ≡ false) → (if meets test found then there else []) ≡ []
no_byte test None there isnt = refl
no_byte test (Some c) there isnt = ap (λ v. if v then there else []) (isnt c)

pub compiled_nothing : (text : List ℕ) (old : List Step) (set : ByteSet) (next : ℕ) → next < length old
    → ((c : ℕ) → has_byte set c ≡ false)
    → Compiles text old (old ++ Class set next ∷ []) none next (length old)
compiled_nothing text old set next within isnt =
    compiled_step text old (Class set next) none next within
    (λ before. ap (λ first. behind first (before next))
    (same_ways (step_where text (has_byte set)) none
    (λ at held. no_byte (has_byte set) (slice_get text at) _ isnt)))

pub then_behind : (body : Ways Kept) (least : ℕ) (more : Ways Kept) → behind (turns_then body least stop) more
    ≡ turns_then body least more
then_behind body zero more = behind-stop more
then_behind body (suc least) more = behind-behind body (turns_then body least stop) more
    ∙ ap (behind body) (then_behind body least more)

any_is : (text : List ℕ) (greedy : Bool) (pattern : Pattern) (next : Ways Kept) → moving (kept_ways text pattern)
    ≡ kept_ways text pattern
    → behind (any_turns greedy (kept_ways text pattern) (length text)) next
    ≡ turn_or_next greedy
    (behind (kept_ways text pattern) (behind (any_turns greedy (kept_ways text pattern) (length text)) next)) next
any_is text greedy pattern next moves =
    let body = kept_ways text pattern in
    let turns = any_turns greedy body (length text) in
    ap (λ ways. behind ways next) (any_turns_is text greedy body (bounded keeping_held text pattern))
    ∙ behind-preferred greedy (behind (moving body) turns) next
    ∙ ap (λ ways. turn_or_next greedy ways next)
    (behind-behind (moving body) turns next ∙ ap (λ ways. behind ways (behind turns next)) moves)

-- So many turns that have to be, before more of them.
pub ok_turns : {E : Type 0} (result : Result ℕ E) (old mid new : List Step) (body more ways : List ℕ → Ways Kept)
    (least next between : ℕ)
    → ((text : List ℕ) → turns_then (body text) least (more text) ≡ ways text)
    → ((text : List ℕ) → Compiles text old mid (more text) next between)
    → IfOk result
    (λ place. (text : List ℕ) → Compiles text mid new (turns_then (body text) least stop) between place)
    → IfOk result (λ place. (text : List ℕ) → Compiles text old new (ways text) next place)
ok_turns result old mid new body more ways least next between same later now =
    IfOk-weaker result
    (λ place. (text : List ℕ) → Compiles text mid new (turns_then (body text) least stop) between place)
    (λ place. (text : List ℕ) → Compiles text old new (ways text) next place)
    (λ place is text.
    rw (← (then_behind (body text) least (more text) ∙ same text))
    (compiled_behind text old mid new (turns_then (body text) least stop) (more text) next between place (later text)
    (is text))) now

-- The head of a loop is kept free, and then set to its step. It may begin there, or at a turn.
pub compiled_loop : (text : List ℕ) (old mid : List Step) (pattern : Pattern) (greedy : Bool) (next turn : ℕ)
    → next < length old → moving (kept_ways text pattern) ≡ kept_ways text pattern
    → Compiles text (old ++ Done ∷ []) mid (kept_ways text pattern) (length old) turn
    → (place : ℕ) (ways : Ways Kept) → place ≤ max (length old) turn
    → ((meaning : Meaning)
    → meaning (length old) ≡ behind (any_turns greedy (kept_ways text pattern) (length text)) (meaning next)
    → meaning turn ≡ behind (kept_ways text pattern) (meaning (length old))
    → meaning place ≡ behind ways (meaning next))
    → Compiles text old (slice_set mid (length old) (turn_step greedy turn next)) ways next place
compiled_loop text old mid pattern greedy next turn within moves body place ways there is =
    let head = length old in
    let step = turn_step greedy turn next in
    let new = slice_set mid head step in
    let room : head < length mid = omega (arith, body.longer, length-append old (Done ∷ [])) in
    let size : length new ≡ length mid = length-set mid head step in
    let free : head < length (old ++ Done ∷ []) = omega (arith, length-append old (Done ∷ [])) in
    record {
      within = omega (arith, there, room, body.within, size);
      longer = omega (arith, room, size);
      reads = λ before.
          let all = behind (any_turns greedy (kept_ways text pattern) (length text)) (before next) in
          let a = placed head all before in
          let b = body.reads a in
          let old_kept : (place : ℕ) → place < head → b.after place ≡ before place =
          λ place below. b.extends.agrees place (omega (arith, below, free))
          ∙ placed_before head all before place below in
          let here : b.after head ≡ all = b.extends.agrees head free ∙ placed_there head all before in
          record {
            after = b.after;
            extends = record {
              longer = omega (arith, room, size);
              kept = λ place below. get_set_other mid head place step (λ same. omega (arith, same, below))
                  ∙ b.extends.kept place (omega (arith, below, free)) ∙ get_kept old (Done ∷ []) place below;
              agrees = old_kept;
              added = λ place past.
                  elim (cases_eq place head) [
                    | inl same ↦
                        added_as text b.after (length new) place (slice_get new place) (Some step)
                        (ap (slice_get new) same ∙ get_set_same mid head step room) (
                          turn_names greedy (length new) turn next (omega (arith, body.within, size))
                              (omega (arith, within, room, size)),
                          ap b.after same ∙ here ∙ any_is text greedy pattern (before next) moves
                              ∙ ap (λ ways. turn_or_next greedy ways (before next))
                              (sym (b.is ∙ ap (behind (kept_ways text pattern)) (placed_there head all before)))
                              ∙ ap (turn_or_next greedy (b.after turn)) (sym (old_kept next within))
                              ∙ sym (turn_ways text b.after greedy turn next),
                        )
                    | inr other ↦
                        added_as text b.after (length new) place (slice_get new place) (slice_get mid place)
                        (get_set_other mid head place step other)
                        (rw size (b.extends.added place (omega (arith, past, other, length-append old (Done ∷ [])))))
                  ];
            };
            is =
                let same = old_kept next within in
                is b.after (here ∙ ap (behind (any_turns greedy (kept_ways text pattern) (length text))) (sym same))
                (b.is ∙ ap (behind (kept_ways text pattern)) (placed_there head all before ∙ sym here))
                ∙ ap (behind ways) same;
          };
    }

pub turns_before : (body : Ways Kept) (least : ℕ) (more : Ways Kept) → turns_then body least (behind body more)
    ≡ behind body (turns_then body least more)
turns_before body zero more = refl
turns_before body (suc least) more = ap (behind body) (turns_before body least more)

-- ---- a whole program

-- Behind the steps there is no way.
abbrev cut : ℕ → Meaning → Meaning
cut count meaning place = if nat_lt place count then meaning place else none

cut_below : (count : ℕ) (meaning : Meaning) (place : ℕ) → place < count
    → cut count meaning place ≡ meaning place
cut_below count meaning place within = ap (λ v. if v then meaning place else none) (lt-ltb place count within)

cut_past : (count : ℕ) (meaning : Meaning) (place : ℕ) → count ≤ place → cut count meaning place ≡ none
cut_past count meaning place past = ap (λ v. if v then meaning place else none) (le-ltb place count past)

added_means : (text : List ℕ) (count : ℕ) (after : Meaning) (place : ℕ) (step : Step) → place < count
    → IsAdded text after count place (Some step)
    → cut count after place ≡ step_ways text (cut count after) step
added_means text count after place step within is =
    cut_below count after place within ∙ is.1 ∙ same_step text after (cut count after) count step is.0
    (λ there below. sym (cut_below count after there below))

pub whole : (text : List ℕ) (new : List Step) (ways : Ways Kept) (start : ℕ)
    → Compiles text (Done ∷ []) new ways 0 start → HasMeaning text new start ways
whole text new ways start compiled =
    let count = length new in
    let read = compiled.reads (λ place. stop) in
    let some : 0 < count = omega (arith, compiled.longer) in
    record {
      meaning = cut count read.after;
      means = λ place.
          elim (cases_lt place count) [
            | inl within ↦
                let e : slice_get new place ≡ Some (get_or new place Done) = slice_get-get_or new place Done within in
                meaning_as text (cut count read.after) place (slice_get new place) (Some (get_or new place Done)) e
                (elim (cases_lt place 1) [
                  | inl first ↦
                      let here : place ≡ 0 = omega (arith, first) in
                      let done : Some (get_or new place Done) ≡ Some Done = sym e ∙ ap (slice_get new) here
                      ∙ read.extends.kept 0 (omega arith) in
                      meaning_as text (cut count read.after) place (Some (get_or new place Done)) (Some Done) done
                      (cut_below count read.after place within ∙ ap read.after here
                      ∙ read.extends.agrees 0 (omega arith))
                  | inr later ↦
                      added_means text count read.after place (get_or new place Done) within
                      (added_as text read.after count place (Some (get_or new place Done)) (slice_get new place) (sym e)
                      (read.extends.added place later))
                ])
            | inr past ↦ meaning_as text (cut count read.after) place (slice_get new place) None
                (slice_get_past new place past) (cut_past count read.after place past)
          ];
      is = cut_below count read.after start compiled.within ∙ read.is ∙ stop-behind ways;
    }
