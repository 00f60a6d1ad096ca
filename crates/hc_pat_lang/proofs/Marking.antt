-- The ways of a pattern with a given turn of the group, through a text in which the bytes of this turn are marked.
use Rattle.hc_pat_lang.proofs.Common.{◌≡◌, ℕ, zero, suc, ◌+◌, ◌-◌, ◌<◌, ◌≤◌, ◌⊎◌, Bool}
use Rattle.hc_pat_lang.proofs.Common.{true, false, List, [], ◌∷◌, ◌++◌, length, if◌then◌else◌, nat_lt}
use Rattle.hc_pat_lang.proofs.Common.{nat_eq, Some, None, slice_get, refl, sym, ◌∙◌, ap, subst, inl, inr, arith}
use Rattle.hc_pat_lang.proofs.Common.{eq-eqb, ltb-true, lt-ltb, Contains, Contains-push_cases, Span, has_byte, Pattern}
use Rattle.hc_pat_lang.proofs.Common.{empty, byte, class, start, finish, cat, alt, group, repeat, Way, Ways, none, stop}
use Rattle.hc_pat_lang.proofs.Common.{behind, either, meets, closed, grouped, preferred, moving, any_turns, turns_up_to}
use Rattle.hc_pat_lang.proofs.Common.{turns_then, Turns, all_ways, with_turn, behind-behind, behind-preferred, Bounded}
use Rattle.hc_pat_lang.proofs.Common.{any_turns_is, bounded, enough_turns, Exists, chosen_any, chosen_behind}
use Rattle.hc_pat_lang.proofs.Common.{chosen_then, chosen_up_to, chosen_ways, part_ways, takes_a_byte, seen, GroupPart}
use Rattle.hc_pat_lang.proofs.Common.{Outside, Inside}
use Rattle.hc_pat_lang.proofs.Bounds.{bounded_part}
use Rattle.hc_pat_lang.proofs.Choosing.{SeenOutside, SeesAll, fresh, sees_all, sees_rest, to_others}
use Rattle.hc_pat_lang.proofs.Parts.{some_filtered, some_mapped, all_among, exists_as, exists_left, exists_right}
use Rattle.hc_pat_lang.proofs.Parts.{exists_cases, if_exists, is_among, on_right, some_is, some_preferred}
use Rattle.hc_pat_lang.proofs.Parts.{some_turn_or_next, to_flat, from_flat, exists_among, among_exists, then_one}
use Rattle.hc_ways.proofs.Bytes.{moves}
use Rattle.std.proofs.lemmas.List.Elements.{Contains-append_cases}
use Rattle.hc_pat_lang.proofs.Seeing.{Grown, sees_any, sees_behind, sees_moving, sees_part, sees_then, sees_up_to}

module _ (marked text : List ℕ) (same : length marked ≡ length text) (reads : (part : GroupPart) (k b : ℕ)
    → seen part marked k ≡ Some b → slice_get text k ≡ Some b) (number : ℕ) (span : Span)
    (outside : (k : ℕ) → (k < span.start) ⊎ (span.end ≤ k) → seen Outside marked k ≡ slice_get text k)
    (inside : (k : ℕ) → span.start ≤ k → k < span.end → seen Inside marked k ≡ slice_get text k) where
  abbrev All : Ways Turns → Ways Turns → Type 1
  All a b = SeesAll marked text same reads number a b

  abbrev Ends : ℕ → Way Turns → Type 0
  Ends end way = way.end ≡ end

  -- Where a way keeps the turn, it was kept before, or there is a way with the turn chosen.
  abbrev FromChosen : Ways Turns → Ways Turns → Type 0
  FromChosen a b = (at : ℕ) (one other : Turns) (way : Way Turns) → at ≤ length text → Contains (b at other) way
      → Contains way.held (number, span) → Contains other (number, span) ⊎ Exists (Ends way.end) (a at one)

  kept_same : (v : Bool) (end : ℕ) (other : Turns) (way : Way Turns)
      → Contains (if v then stop end other else []) way → Contains way.held (number, span)
      → Contains other (number, span)
  kept_same v end other way among turn =
      (let found = if_exists (λ (w : Way Turns). w ≡ way) _ v (some_is _ way among) in rw (← found.1) at turn)

  from_test : (test : ℕ → Bool) (far : ℕ → ℕ)
      → FromChosen none (λ at held. if test at then stop (far at) held else [])
  from_test test far at one other way within among turn = inl (kept_same (test at) (far at) other way among turn)

  from_turn : (greedy : Bool) (turn : Ways Turns) (at : ℕ) (other : Turns) (way : Way Turns)
      → Contains (preferred greedy turn at other) way → Contains way.held (number, span)
      → Contains other (number, span) ⊎ Contains (turn at other) way
  from_turn greedy turn at other way among kept =
      elim ((some_preferred (λ (w : Way Turns). w ≡ way) greedy turn at other).0 (some_is _ way among)) [
        | inl turned ↦ inr (is_among (turn at other) way turned)
        | inr own ↦ inl (rw (← own) at kept)
      ]

  -- ---- one behind the other

  split : (b1 b2 : Ways Turns) (at : ℕ) (other : Turns) (way : Way Turns) → Contains (behind b1 b2 at other) way
      → (middle : Way Turns) × Contains (b1 at other) middle × Contains (b2 middle.end middle.held) way
  split b1 b2 at other way among =
      let found =
      exists_among _ (b1 at other)
      (from_flat (λ (w : Way Turns). w ≡ way) (λ (w : Way Turns). b2 w.end w.held) (b1 at other)
      (some_is _ way among)) in
      (found.0, found.1, is_among _ way found.2)

  put_behind : (a b : Ways Turns) (at middle end : ℕ) (one : Turns) → Exists (Ends middle) (a at one)
      → ((held : Turns) → Exists (Ends end) (b middle held)) → Exists (Ends end) (behind a b at one)
  put_behind a b at middle end one first second =
      to_flat _ (λ (w : Way Turns). b w.end w.held) (a at one)
      (exists_as _ _ (a at one) (λ way e. rw e (second way.held)) first)

  module _ (l1 a1 l2 a2 b1 b2 : Ways Turns) (first : All l1 b1) (chosen : FromChosen a1 b1) (at : ℕ)
      (one other : Turns) (way : Way Turns) (within : at ≤ length text)
      (grown : (middle : Way Turns) → Contains (b1 at other) middle → Contains (b2 middle.end middle.held) way
      → Grown text middle.end middle.held way)
      (sees : (middle : Way Turns) → Contains (b1 at other) middle → Contains (b2 middle.end middle.held) way
      → SeenOutside marked text same reads number middle.end way.end → (held : Turns)
      → Exists (Ends way.end) (l2 middle.end held))
      (chooses : (middle : Way Turns) → Contains (b1 at other) middle → Contains (b2 middle.end middle.held) way
      → (held : Turns) → Contains middle.held (number, span)
      ⊎ Exists (Ends way.end) (a2 middle.end held)) where
    from_first : (middle : Way Turns) → Contains (b1 at other) middle → Contains (b2 middle.end middle.held) way
        → Contains middle.held (number, span) → Contains other (number, span)
        ⊎ Exists (Ends way.end) (chosen_behind l1 a1 l2 a2 at one)
    from_first middle among later kept = elim (chosen at one other middle within among kept) [
      | inl before ↦ inl before
      | inr here ↦ elim ((all_among _ _ middle (first.grown at other within) among).new (number, span) kept) [
        | inl before ↦ inl before
        | inr own ↦ inr (exists_left _ (behind a1 l2 at one) (behind l1 a2 at one)
            (put_behind a1 l2 at middle.end way.end one here
            (sees middle among later (λ k past below. outside k (inr (let e = own.2 in omega arith))))))
      ]
    ]

    from_second : (middle : Way Turns) → Contains (b1 at other) middle → Contains (b2 middle.end middle.held) way
        → middle.end ≤ span.start → Contains other (number, span)
        ⊎ Exists (Ends way.end) (chosen_behind l1 a1 l2 a2 at one)
    from_second middle among later before =
        let found = exists_among _ (l1 at one) (first.from at one other (λ end. end ≡ middle.end) within
        (among_exists _ _ middle among (
          ((λ k past below. outside k (inl (omega arith))), fresh marked text same reads number middle.held),
          refl,
        ))) in
        elim (chooses middle among later found.0.held) [
          | inl kept ↦ from_first middle among later kept
          | inr there ↦ inr (exists_right _ (behind a1 l2 at one) (behind l1 a2 at one)
              (to_flat _ (λ (w : Way Turns). a2 w.end w.held) (l1 at one)
              (among_exists _ _ found.0 found.1 (rw found.2 there))))
        ]

    from_parts : Contains (behind b1 b2 at other) way → Contains way.held (number, span)
        → Contains other (number, span) ⊎ Exists (Ends way.end) (chosen_behind l1 a1 l2 a2 at one)
    from_parts among turn =
        let parts = split b1 b2 at other way among in
        elim ((grown parts.0 parts.1 parts.2).new (number, span) turn) [
          | inl kept ↦ from_first parts.0 parts.1 parts.2 kept
          | inr own ↦ from_second parts.0 parts.1 parts.2
              own.0
        ]

  sees_end : (l b : Ways Turns) → All l b → (middle way : Way Turns) → middle.end ≤ length text
      → Contains (b middle.end middle.held) way → SeenOutside marked text same reads number middle.end way.end
      → (held : Turns) → Exists (Ends way.end) (l middle.end held)
  sees_end l b all middle way within among seen_on held =
      all.from middle.end held middle.held (λ end. end ≡ way.end) within
      (among_exists _ _ way among ((seen_on, fresh marked text same reads number way.held), refl))

  from_behind : (l1 a1 l2 a2 b1 b2 : Ways Turns) → All l1 b1 → FromChosen a1 b1 → All l2 b2 → FromChosen a2 b2
      → FromChosen (chosen_behind l1 a1 l2 a2) (behind b1 b2)
  from_behind l1 a1 l2 a2 b1 b2 first chosen second later at one other way within among turn =
      let in_text = λ (middle : Way Turns) (here : Contains (b1 at other) middle). let w : middle.end ≤ length text =
      (all_among _ _ middle (first.grown at other within) here).within in w in
      from_parts l1 a1 l2 a2 b1 b2 first chosen at one other way within
      (λ middle here there. all_among _ _ way (second.grown middle.end middle.held (in_text middle here)) there)
      (λ middle here there. sees_end l2 b2 second middle way (in_text middle here) there)
      (λ middle here there held. later middle.end held middle.held way (in_text middle here) there turn)
      among turn

  from_up_to : (greedy : Bool) (l a b : Ways Turns) (most : ℕ) → All l b → FromChosen a b
      → FromChosen (chosen_up_to greedy l a most) (turns_up_to greedy b most)
  from_up_to greedy l a b zero first chosen = from_test (λ at. true) (λ at. at)
  from_up_to greedy l a b (suc most) first chosen = λ at one other way within among turn.
      elim (from_turn greedy (behind b (turns_up_to greedy b most)) at other way among turn) [
        | inl before ↦ inl before
        | inr turned ↦ from_behind l a _ _ b _ first chosen
            (sees_up_to Outside marked text same (reads Outside) greedy l b most first)
            (from_up_to greedy l a b most first chosen) at one other way within turned turn
      ]

  from_then : (l a b : Ways Turns) (least : ℕ) (rest chosen_rest others : Ways Turns) → All l b → FromChosen a b
      → All rest others → FromChosen chosen_rest others
      → FromChosen (chosen_then l a least rest chosen_rest) (turns_then b least others)
  from_then l a b zero rest chosen_rest others first chosen later last = last
  from_then l a b (suc least) rest chosen_rest others first chosen later last =
      from_behind l a _ _ b _ first chosen
      (sees_then Outside marked text same (reads Outside) l b least rest others first later)
      (from_then l a b least rest chosen_rest others first chosen later last)

  -- ---- any number of turns

  moved_past : (b : Ways Turns) (at : ℕ) (other : Turns) (way : Way Turns) → Contains (moving b at other) way
      → Contains (b at other) way × (at < way.end)
  moved_past b at other way among =
      let found =
      exists_among _ (b at other)
      ((some_filtered (λ (w : Way Turns). w ≡ way) (λ w. nat_lt at w.end) (b at other)).0
      (some_is _ way among)) in
      let less = ltb-true at found.0.end found.2.1 in
      (rw found.2.0 at found.1, rw found.2.0 at less)

  from_moving : (a b : Ways Turns) → FromChosen a b → FromChosen (moving a) (moving b)
  from_moving a b chosen at one other way within among turn =
      let moved = moved_past b at other way among in
      on_right (λ here. (some_filtered _ (λ w. nat_lt at w.end) (a at one)).1
      (exists_as _ _ (a at one) (λ w e. (e, rw e (lt-ltb at way.end moved.1))) here))
      (chosen at one other way within moved.0 turn)

  module _ (greedy : Bool) (l a b : Ways Turns) (first : All l b) (chosen : FromChosen a b)
      (bounded_marked : Bounded (length marked) l) where
    abbrev rest : Ways Turns
    rest = any_turns greedy l (length marked)

    abbrev result : Ways Turns
    result = behind rest (behind (moving a) rest)

    rest_is : rest ≡ preferred greedy (behind (moving l) rest)
    rest_is = any_turns_is marked greedy l bounded_marked

    to_result : (at end : ℕ) (one : Turns)
        → Exists (Ends end) (chosen_behind (moving l) (moving a) rest result at one)
        → Exists (Ends end) (result at one)
    to_result at end one some =
        let next = behind (moving a) rest in
        elim (exists_cases _ (next at one) (behind (moving l) result at one) some) [
          | inl own ↦ to_flat _ (λ (w : Way Turns). next w.end w.held) (rest at one)
              (subst (λ (w : Ways Turns). Exists (λ (way : Way Turns). Exists (Ends end) (next way.end way.held))
              (w at one)) (sym rest_is) ((some_preferred _ greedy (behind (moving l) rest) at one).1 (inr own)))
          | inr turned ↦ subst (λ (w : Ways Turns). Exists (Ends end) (w at one))
              (sym (ap (λ (w : Ways Turns). behind w next) rest_is
              ∙ behind-preferred greedy (behind (moving l) rest) next))
              ((some_turn_or_next _ greedy (behind (behind (moving l) rest) next) next at one).1
              (inl (subst (λ (w : Ways Turns). Exists (Ends end) (w at one))
              (sym (behind-behind (moving l) rest next)) turned)))
        ]

    from_any_by : (k at : ℕ) (one other : Turns) (way : Way Turns) → at ≤ length text → length text ≤ at + k
        → Contains (any_turns greedy b k at other) way → Contains way.held (number, span)
        → Contains other (number, span) ⊎ Exists (Ends way.end) (result at one)
    from_any_by zero at one other way within enough among turn = inl (kept_same true at other way among turn)
    from_any_by (suc k) at one other way within enough among turn =
        elim (from_turn greedy (behind (moving b) (any_turns greedy b k)) at other way among turn) [
          | inl before ↦ inl before
          | inr turned ↦
              let moved = sees_moving Outside marked text same (reads Outside) l b first in
              let in_text = λ (middle : Way Turns) (here : Contains (moving b at other) middle). let w : middle.end
              ≤ length text = (all_among _ _ middle (moved.grown at other within) here).within in w in
              let fewer = sees_any Outside marked text same (reads Outside) greedy l b k first in
              on_right (to_result at way.end one)
              (from_parts (moving l) (moving a) rest result (moving b) (any_turns greedy b k) moved
              (from_moving a b chosen) at one other way within
              (λ middle here there. all_among _ _ way (fewer.grown middle.end middle.held (in_text middle here)) there)
              (λ middle here there seen_on held.
              subst (λ (ws : List (Way Turns)). Exists (Ends way.end) ws)
              (enough_turns (length marked) greedy l bounded_marked k middle.end held
              (let p = (moved_past b at other middle here).1 in omega arith))
              (sees_end (any_turns greedy l k) (any_turns greedy b k) fewer middle way (in_text middle here)
              there seen_on
              held))
              (λ middle here there held. from_any_by k middle.end held middle.held way (in_text middle here)
              (let p = (moved_past b at other middle here).1 in omega arith) there turn)
              turned turn)
        ]

    from_any : FromChosen (chosen_any greedy l a (length marked)) (any_turns greedy b (length text))
    from_any at one other way within among turn =
        from_any_by (length text) at one other way within (omega arith) among turn

    module _ (fits : Bounded (length text) b) where
      abbrev others : Ways Turns
      others = any_turns greedy b (length text)

      all_rest : All rest others
      all_rest = sees_rest marked text same reads number greedy l a b first fits

      -- Where each turn moves, turns of which one has to be are among any number of them.
      from_some : moving b ≡ b → FromChosen result (behind b others)
      from_some moves at one other way within among turn =
          let moved =
          subst (λ (ways : Ways Turns). Exists (λ (w : Way Turns). w ≡ way) (behind ways others at other))
          (sym moves) (some_is _ way among) in
          from_any at one other way within
          (is_among (others at other) way
          (to_others marked text same reads number greedy l a b first fits _ at other moved)) turn

      from_endless : (each : Bool) (least : ℕ) → (each ≡ true → moving b ≡ b)
          → FromChosen (if each then chosen_then l a (least - 1) (behind l rest) result
          else chosen_then l a least rest result) (turns_then b least others)
      from_endless true (suc least) moves =
          let less : suc least - 1 ≡ least = omega arith in
          rw less (subst (FromChosen (chosen_then l a least (behind l rest) result)) (then_one b least others)
          (from_then l a b least _ _ _ first chosen
          (sees_behind Outside marked text same (reads Outside) l rest b others first all_rest)
          (from_some (moves refl))))
      from_endless _ least moves = from_then l a b least _ _ _ first chosen all_rest from_any

  from_if : (v : Bool) (a b : Ways Turns) → FromChosen a b
      → FromChosen (if v then none else a) (if v then none else b)
  from_if true a b chosen = λ at one other way within among turn. absurd (let w = among.1 in omega arith)
  from_if false a b chosen = chosen

  from_group : (own : ℕ) (body : Pattern) → FromChosen (chosen_ways number marked body) (all_ways text body)
      → FromChosen (chosen_ways number marked (group own body)) (grouped with_turn own (all_ways text body))
  from_group own body chosen at one other way within among turn =
      let found =
      exists_among _ (all_ways text body at other)
      ((some_mapped (λ (w : Way Turns). w ≡ way) (closed with_turn own at) (all_ways text body at other)).0
      (some_is _ way among)) in
      let own_span : Span = record { start = at; end = found.0.end } in
      let kept : Contains (found.0.held ++ (own, own_span) ∷ []) (number, span) = rw (← found.2) at turn in
      let ends : found.0.end ≡ way.end = ap (λ (w : Way Turns). w.end) found.2 in
      rw (← ends) (elim (Contains-push_cases found.0.held (own, own_span) (number, span) kept) [
        | inl before ↦ on_right (λ here. by_test found.0.end (nat_eq own number) (inr here))
            (chosen at one other found.0 within found.1 before)
        | inr is ↦
            let same_number : own ≡ number = ap (λ (t : ℕ × Span). t.0) is in
            let begins : at ≡ span.start = ap (λ (t : ℕ × Span). t.1.start) is in
            let runs : found.0.end ≡ span.end = ap (λ (t : ℕ × Span). t.1.end) is in
            inr (by_test found.0.end (nat_eq own number) (inl (
              eq-eqb own number same_number,
              (sees_part Inside marked text same (reads Inside) body).from at one other (λ end. end ≡ found.0.end)
                  within
                  (among_exists _ _ found.0 found.1
                  (((λ k past below. inside k (omega arith) (omega arith)), (λ x also. refl)), refl)),
            )))
      ])
    where
      by_test : (end : ℕ) (v : Bool) → ((v ≡ true) × Exists (Ends end) (part_ways Inside marked body at one))
          ⊎ Exists (Ends end) (chosen_ways number marked body at one)
          → Exists (Ends end)
          ((if v then either (part_ways Inside marked body) (chosen_ways number marked body)
          else chosen_ways number marked body) at one)
      by_test end true (inl whole) =
          exists_left _ (part_ways Inside marked body at one) (chosen_ways number marked body at one) whole.1
      by_test end true (inr inner) =
          exists_right _ (part_ways Inside marked body at one) (chosen_ways number marked body at one) inner
      by_test end false (inl whole) = absurd (let f = whole.0 in cc)
      by_test end false (inr inner) = inner

  pub from_chosen : (pattern : Pattern) → FromChosen (chosen_ways number marked pattern) (all_ways text pattern)
  from_chosen empty = from_test (λ at. true) (λ at. at)
  from_chosen (byte b) = from_test (λ at. meets (λ c. nat_eq c b) (slice_get text at)) (λ at. at + 1)
  from_chosen (class set) = from_test (λ at. meets (has_byte set) (slice_get text at)) (λ at. at + 1)
  from_chosen start = from_test (λ at. nat_eq at 0) (λ at. at)
  from_chosen finish = from_test (λ at. nat_eq at (length text)) (λ at. at)
  from_chosen (cat first second) = from_behind _ _ _ _ _ _ (sees_all marked text same reads number first)
      (from_chosen first) (sees_all marked text same reads number second) (from_chosen second)
  from_chosen (alt first second) = λ at one other way within among turn.
      elim (Contains-append_cases (all_ways text first at other) (all_ways text second at other) way among) [
        | inl here ↦ on_right
            (exists_left _ (chosen_ways number marked first at one) (chosen_ways number marked second at one))
            (from_chosen first at one other way within here turn)
        | inr here ↦ on_right
            (exists_right _ (chosen_ways number marked first at one) (chosen_ways number marked second at one))
            (from_chosen second at one other way within here turn)
      ]
  from_chosen (group own body) = from_group own body (from_chosen body)
  from_chosen (repeat body least None greedy) =
      from_endless greedy _ _ _ (sees_all marked text same reads number body) (from_chosen body)
      (bounded_part Outside marked body) (bounded with_turn text body) (takes_a_byte body) least
      (moves with_turn text body)
  from_chosen (repeat body least (Some most) greedy) =
      from_if (nat_lt most least) _ _
      (from_then _ _ _ least _ _ _ (sees_all marked text same reads number body) (from_chosen body)
      (sees_up_to Outside marked text same (reads Outside) greedy _ _ (most - least)
      (sees_all marked text same reads number body))
      (from_up_to greedy _ _ _ (most - least) (sees_all marked text same reads number body) (from_chosen body)))
