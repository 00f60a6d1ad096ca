-- The ways of a part through a marked text, by those of the pattern through the text without marks.
use Rattle.hc_pat_lang.proofs.Common.{◌≡◌, ℕ, zero, suc, ◌+◌, ◌-◌, ◌<◌, ◌≤◌, ◌⊎◌, Bool}
use Rattle.hc_pat_lang.proofs.Common.{true, false, List, [], length, if◌then◌else◌, nat_lt, nat_eq, Option, Some}
use Rattle.hc_pat_lang.proofs.Common.{None, slice_get, refl, sym, ◌∙◌, subst, inl, inr, arith, AllByRecursion}
use Rattle.hc_pat_lang.proofs.Common.{Contains, Contains-append_left, Contains-push, Contains-push_cases, Span}
use Rattle.hc_pat_lang.proofs.Common.{has_byte, Pattern, empty, byte, class, start, finish, cat, alt, group, repeat}
use Rattle.hc_pat_lang.proofs.Common.{Way, Ways, none, stop, behind, either, stop_where, step_where, meets, closed}
use Rattle.hc_pat_lang.proofs.Common.{grouped, preferred, moving, any_turns, turns_up_to, turns_then, repeated, Turns}
use Rattle.hc_pat_lang.proofs.Common.{all_ways, with_turn, Exists, leaves_out, part_ways, seen, step_by, GroupPart}
use Rattle.hc_pat_lang.proofs.Common.{Each-append, Each-filter, Each-flat_map, Each-map}
use Rattle.hc_pat_lang.proofs.Parts.{some_filtered, some_mapped, exists_as, exists_with, exists_left, exists_right}
use Rattle.hc_pat_lang.proofs.Parts.{exists_cases, to_flat, from_flat, exists_among, all_as, all_if, exists_if}
use Rattle.hc_pat_lang.proofs.Parts.{if_exists, goes_on, meets_some}

-- What a way from a place on has kept more lies behind the place, and before its end.
pub record Grown (text : List ℕ) (at : ℕ) (held : Turns) (way : Way Turns) : Type 0 where
  pub ordered : at ≤ way.end
  pub within : way.end ≤ length text
  pub keeps : (x : ℕ × Span) → Contains held x → Contains way.held x
  pub new : (x : ℕ × Span) → Contains way.held x → Contains held x
      ⊎ ((at ≤ x.1.start) × (x.1.start ≤ x.1.end) × (x.1.end ≤ way.end))

module _ (text : List ℕ) where
  grown_stop : (at : ℕ) (held : Turns) → at ≤ length text
      → Grown text at held (record { end = at; held = held })
  grown_stop at held within =
      record { ordered = omega arith; within = within; keeps = λ x among. among; new = λ x among. inl among }

  grown_on : (at : ℕ) (held : Turns) (way later : Way Turns) → Grown text at held way
      → Grown text way.end way.held later → Grown text at held later
  grown_on at held way later first second = record {
    ordered = (let a = first.ordered in let b = second.ordered in omega arith);
    within = second.within;
    keeps = λ x among. second.keeps x (first.keeps x among);
    new = λ x among. let last = second.new x among in let before = first.new x in let ends = second.ordered in
        let begins = first.ordered in grind arith;
  }

  grown_closed : (number at : ℕ) (held : Turns) (way : Way Turns) → Grown text at held way
      → Grown text at held (closed with_turn number at way)
  grown_closed number at held way grown = record {
    ordered = grown.ordered;
    within = grown.within;
    keeps = λ x among. Contains-append_left way.held _ x (grown.keeps x among);
    new = λ x among. let last = Contains-push_cases way.held (number, record { start = at; end = way.end }) x among in
        let before = grown.new x in let ordered = grown.ordered in grind arith;
  }

module _ (part : GroupPart) (marked text : List ℕ) (same : length marked ≡ length text)
    (reads : (k b : ℕ) → seen part marked k ≡ Some b → slice_get text k ≡ Some b) where
  -- The part sees what stands there.
  abbrev pub SeesOn : ℕ → ℕ → Type 0
  SeesOn at end = (k : ℕ) → at ≤ k → k < end → seen part marked k ≡ slice_get text k

  -- No turn is kept that the part leaves out.
  abbrev pub Fresh : Turns → Type 0
  Fresh held = (x : ℕ × Span) → Contains held x → leaves_out part x.0 ≡ false

  pub seen_over : (at mid end : ℕ) → SeesOn at mid → SeesOn mid end → SeesOn at end
  seen_over at mid end first second k past below = (let a = first k past in let b = second k in grind arith)

  abbrev pub IsSeen : ℕ → Way Turns → Type 0
  IsSeen at way = SeesOn at way.end × Fresh way.held

  -- The first ways are those of the second in which all is seen.
  pub record Sees (first second : Ways Turns) : Type 1 where
    pub grown : (at : ℕ) (held : Turns) → at ≤ length text
        → AllByRecursion (Grown text at held) (second at held)
    pub to : (at : ℕ) (one other : Turns) (P : ℕ → Type 0) → at ≤ length text → Fresh other
        → Exists (λ (way : Way Turns). P way.end) (first at one)
        → Exists (λ (way : Way Turns). IsSeen at way × P way.end) (second at other)
    pub from : (at : ℕ) (one other : Turns) (P : ℕ → Type 0) → at ≤ length text
        → Exists (λ (way : Way Turns). IsSeen at way × P way.end) (second at other)
        → Exists (λ (way : Way Turns). P way.end) (first at one)

  sees_none : Sees none none
  sees_none =
      record {
        grown = λ at held within. tt;
        to = λ at one other P within fresh some. absurd some;
        from = λ at one other P within some. absurd some;
      }

  sees_stop : Sees stop stop
  sees_stop = record {
    grown = λ at held within. (grown_stop text at held within, tt);
    to = λ at one other P within fresh some. elim some
        [ inl here ↦ inl (((λ k past below. absurd (omega arith)), fresh), here) | inr isnt ↦ absurd isnt ];
    from = λ at one other P within some. elim some [ inl here ↦ inl here.1 | inr isnt ↦ absurd isnt ];
  }

  sees_either : (a b c d : Ways Turns) → Sees a c → Sees b d → Sees (either a b) (either c d)
  sees_either a b c d left right = record {
    grown = λ at held within. Each-append _ (c at held) (d at held) (left.grown at held within)
        (right.grown at held within);
    to = λ at one other P within fresh some. elim (exists_cases _ (a at one) (b at one) some) [
      | inl here ↦ exists_left _ (c at other) (d at other) (left.to at one other P within fresh here)
      | inr here ↦ exists_right _ (c at other) (d at other) (right.to at one other P within fresh here)
    ];
    from = λ at one other P within some. elim (exists_cases _ (c at other) (d at other) some) [
      | inl here ↦ exists_left _ (a at one) (b at one) (left.from at one other P within here)
      | inr here ↦ exists_right _ (a at one) (b at one) (right.from at one other P within here)
    ];
  }

  grown_behind : (c d : Ways Turns)
      → ((at : ℕ) (held : Turns) → at ≤ length text → AllByRecursion (Grown text at held) (c at held))
      → ((at : ℕ) (held : Turns) → at ≤ length text → AllByRecursion (Grown text at held) (d at held))
      → (at : ℕ) (held : Turns) → at ≤ length text
      → AllByRecursion (Grown text at held) (behind c d at held)
  grown_behind c d first second at held within =
      Each-flat_map (Grown text at held) (Grown text at held) _ (c at held) (first at held within)
      (λ way grown. all_as (Grown text way.end way.held) _ _ (λ later on. grown_on text at held way later grown on)
      (second way.end way.held grown.within))

  pub sees_behind : (a b c d : Ways Turns) → Sees a c → Sees b d → Sees (behind a b) (behind c d)
  sees_behind a b c d one two = record {
    grown = grown_behind c d one.grown two.grown;
    to = λ at first other P within fresh some.
        to_flat _ _ (c at other)
        (exists_with (Grown text at other) _ _ (c at other) (one.grown at other within)
        (λ way grown here.
        exists_as _ _ (d way.end way.held)
        (λ later there. (
          (
            seen_over at way.end later.end here.0.0 there.0.0,
            there.0.1,
          ),
          there.1,
        ))
        (here.1 grown.within way.held here.0.1))
        (one.to at first other
        (λ end. end ≤ length text → (held : Turns) → Fresh held
        → Exists (λ (later : Way Turns). IsSeen end later × P later.end) (d end held)) within fresh
        (exists_as _ _ (a at first) (λ way later inside held still. two.to way.end way.held held P inside still later)
        (from_flat _ _ (a at first) some))));
    from = λ at first other P within some.
        to_flat _ _ (a at first)
        (exists_as _ _ (a at first) (λ way next. next way.held)
        (one.from at first other (λ end. (held : Turns) → Exists (λ (later : Way Turns). P later.end) (b end held))
        within
        (exists_with (Grown text at other) _ _ (c at other) (one.grown at other within)
        (λ way grown there.
        let last =
        exists_among _ (d way.end way.held)
        (exists_with (Grown text way.end way.held) _ (λ (later : Way Turns). (way.end ≤ later.end)
        × (Fresh way.held × SeesOn at later.end)) (d way.end way.held)
        (two.grown way.end way.held grown.within)
        (λ later on seen. (on.ordered, ((λ x among. seen.0.1 x (on.keeps x among)), seen.0.0))) there) in
        let less = last.2.0 in (
          ((λ k past below. last.2.1.1 k past (omega arith)), last.2.1.0),
          (λ held. two.from way.end held way.held P grown.within
              (exists_as _ _ (d way.end way.held)
              (λ later seen.
              (((λ k past below. seen.0.0 k (let o = grown.ordered in omega arith) below), seen.0.1), seen.1))
              there)),
        ))
        (from_flat _ _ (c at other) some))));
  }

  pub sees_moving : (a c : Ways Turns) → Sees a c → Sees (moving a) (moving c)
  sees_moving a c sees = record {
    grown = λ at held within. Each-filter _ _ (c at held) (sees.grown at held within);
    to = λ at one other P within fresh some.
        (some_filtered _ (λ way. nat_lt at way.end) (c at other)).1
        (exists_as _ _ (c at other) (λ way here. ((here.0, here.1.0), here.1.1))
        (sees.to at one other (λ end. P end × (nat_lt at end ≡ true)) within fresh
        ((some_filtered _ (λ way. nat_lt at way.end) (a at one)).0 some)));
    from = λ at one other P within some.
        (some_filtered _ (λ way. nat_lt at way.end) (a at one)).1
        (sees.from at one other (λ end. P end × (nat_lt at end ≡ true)) within
        (exists_as _ _ (c at other) (λ way here. (here.0.0, (here.0.1, here.1)))
        ((some_filtered _ (λ way. nat_lt at way.end) (c at other)).0 some)));
  }

  sees_preferred : (greedy : Bool) (a c : Ways Turns) → Sees a c → Sees (preferred greedy a) (preferred greedy c)
  sees_preferred true a c sees = sees_either a stop c stop sees sees_stop
  sees_preferred false a c sees = sees_either stop a stop c sees_stop sees

  pub sees_any : (greedy : Bool) (a c : Ways Turns) (bytes : ℕ) → Sees a c
      → Sees (any_turns greedy a bytes) (any_turns greedy c bytes)
  sees_any greedy a c zero sees = sees_stop
  sees_any greedy a c (suc bytes) sees =
      sees_preferred greedy _ _
      (sees_behind (moving a) _ (moving c) _ (sees_moving a c sees) (sees_any greedy a c bytes sees))

  pub sees_up_to : (greedy : Bool) (a c : Ways Turns) (most : ℕ) → Sees a c
      → Sees (turns_up_to greedy a most) (turns_up_to greedy c most)
  sees_up_to greedy a c zero sees = sees_stop
  sees_up_to greedy a c (suc most) sees =
      sees_preferred greedy _ _ (sees_behind a _ c _ sees (sees_up_to greedy a c most sees))

  pub sees_then : (a c : Ways Turns) (least : ℕ) (b d : Ways Turns) → Sees a c → Sees b d
      → Sees (turns_then a least b) (turns_then c least d)
  sees_then a c zero b d sees later = later
  sees_then a c (suc least) b d sees later = sees_behind a _ c _ sees (sees_then a c least b d sees later)

  sees_unless : (v : Bool) (a c : Ways Turns) → Sees a c → Sees (if v then none else a) (if v then none else c)
  sees_unless true a c sees = sees_none
  sees_unless false a c sees = sees

  sees_repeated : (greedy : Bool) (a c : Ways Turns) (least : ℕ) (most : Option ℕ) → Sees a c
      → Sees (repeated (length marked) a least most greedy) (repeated (length text) c least most greedy)
  sees_repeated greedy a c least None sees =
      sees_then a c least _ _ sees
      (subst (λ (n : ℕ). Sees (any_turns greedy a (length marked)) (any_turns greedy c n)) same
      (sees_any greedy a c (length marked) sees))
  sees_repeated greedy a c least (Some most) sees =
      sees_unless (nat_lt most least) _ _ (sees_then a c least _ _ sees (sees_up_to greedy a c (most - least) sees))

  -- ---- places and bytes

  -- One way, where a test says so.
  sees_test : (one other : ℕ → Bool) (far : ℕ → ℕ)
      → ((at : ℕ) → at ≤ length text → other at ≡ true → (at ≤ far at) × (far at ≤ length text))
      → ((at : ℕ) → one at ≡ true → (other at ≡ true) × SeesOn at (far at))
      → ((at : ℕ) → other at ≡ true → SeesOn at (far at) → one at ≡ true)
      → Sees (λ at held. if one at then stop (far at) held else [])
      (λ at held. if other at then stop (far at) held else [])
  sees_test one other far fits to from = record {
    grown = λ at held within. all_if _ _ (other at) (λ is. let fit = fits at within is in
        record { ordered = fit.0; within = fit.1; keeps = λ x among. among; new = λ x among. inl among });
    to = λ at one_held other_held P within fresh some. let found = if_exists _ _ (one at) some in
        let shown = to at found.0 in exists_if _ _ (other at) shown.0 ((shown.1, fresh), found.1);
    from = λ at one_held other_held P within some. let found = if_exists _ _ (other at) some in
        exists_if _ _ (one at) (from at found.0 found.1.0.0) found.1.1;
  }

  sees_stop_where : (test : ℕ → Bool) → Sees (stop_where test) (stop_where test)
  sees_stop_where test = sees_test test test (λ at. at) (λ at within is. omega arith)
      (λ at is. (is, (λ k past below. absurd (omega arith)))) (λ at is seen_on. is)

  sees_step : (test : ℕ → Bool) → Sees (step_by (seen part marked) test) (step_where text test)
  sees_step test = sees_test (λ at. meets test (seen part marked at)) (λ at. meets test (slice_get text at))
      (λ at. at + 1)
      (λ at within is. elim (goes_on text at)
      [ inl past ↦ absurd (let f = rw past.0 at is in cc) | inr on ↦ (let w = on.within in omega arith) ])
      (λ at is.
      let found = meets_some test (seen part marked at) is in
      let here = reads at found.0 found.1 in
      (rw here found.2, (λ k past below. let same : k ≡ at = omega arith in rw same (found.1 ∙ sym here))))
      (λ at is seen_on. rw (seen_on at (omega arith) (omega arith)) is)

  sees_grouped : (number : ℕ) (v : Bool) (a c : Ways Turns) → leaves_out part number ≡ v → Sees a c
      → Sees (if v then none else grouped with_turn number a) (grouped with_turn number c)
  sees_grouped number true a c out sees = record {
    grown = λ at held within. Each-map _ _ (closed with_turn number at) (c at held) (sees.grown at held within)
        (λ way grown. grown_closed text number at held way grown);
    to = λ at one other P within fresh some. absurd some;
    from = λ at one other P within some.
        let found = exists_among _ (c at other) ((some_mapped _ (closed with_turn number at) (c at other)).0 some) in
        absurd (let f = found.2.0.1 _ (Contains-push found.0.held (number, record { start = at; end = found.0.end })) in
        let g = out in cc);
  }
  sees_grouped number false a c out sees = record {
    grown = λ at held within. Each-map _ _ (closed with_turn number at) (c at held) (sees.grown at held within)
        (λ way grown. grown_closed text number at held way grown);
    to = λ at one other P within fresh some.
        (some_mapped _ (closed with_turn number at) (c at other)).1
        (exists_as _ _ (c at other)
        (λ way here. (
          (
            here.0.0,
            (λ x among. elim (Contains-push_cases way.held (number, record { start = at; end = way.end }) x among) [
              | inl before ↦ here.0.1 x before
              | inr own ↦ subst (λ (t : ℕ × Span). leaves_out part t.0 ≡ false) own out
            ]),
          ),
          here.1,
        ))
        (sees.to at one other P within fresh ((some_mapped _ (closed with_turn number at) (a at one)).0 some)));
    from = λ at one other P within some.
        (some_mapped _ (closed with_turn number at) (a at one)).1
        (sees.from at one other P within
        (exists_as _ _ (c at other)
        (λ way here. ((here.0.0, (λ x among. here.0.1 x (Contains-append_left way.held _ x among))), here.1))
        ((some_mapped _ (closed with_turn number at) (c at other)).0 some)));
  }

  pub sees_part : (pattern : Pattern) → Sees (part_ways part marked pattern) (all_ways text pattern)
  sees_part empty = sees_stop
  sees_part (byte b) = sees_step (λ c. nat_eq c b)
  sees_part (class set) = sees_step (has_byte set)
  sees_part start = sees_stop_where (λ at. nat_eq at 0)
  sees_part finish =
      subst (λ (n : ℕ). Sees (stop_where (λ at. nat_eq at (length marked))) (stop_where (λ at. nat_eq at n))) same
      (sees_stop_where (λ at. nat_eq at (length marked)))
  sees_part (cat first second) = sees_behind _ _ _ _ (sees_part first) (sees_part second)
  sees_part (alt first second) = sees_either _ _ _ _ (sees_part first) (sees_part second)
  sees_part (group number body) = sees_grouped number (leaves_out part number) _ _ refl (sees_part body)
  sees_part (repeat body least most greedy) = sees_repeated greedy _ _ least most (sees_part body)
