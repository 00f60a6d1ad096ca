use Rattle.hc_pat_lang.proofs.Common.{◌≡◌, ◌∙◌, [], Some, ap, sym, inl, inr, arith, add-one, le-ltb}
use Rattle.hc_pat_lang.proofs.Common.{eqb_tells, alt, cat, pattern_of, chosen_ways, has_turn, part_ways, Gate, Outside}
use Rattle.hc_pat_lang.proofs.Fragmenting.{fragment_as, fragment_behind, fragment_earlier, fragment_either}
use Rattle.hc_pat_lang.proofs.Fragmenting.{fragment_grows, fragment_joined, fragment_later, fragment_moving}
use Rattle.hc_pat_lang.proofs.Fragmenting.{fragment_none, fragment_stop, grows_on, ready_later}
use Rattle.hc_pat_lang.proofs.Serving.{behind_turn}
use Rattle.hc_pat_lang.proofs.Turning.{added_grows, added_ready, chosen_added, needed_behind, no_turn, then_added}
use Rattle.hc_pat_lang.proofs.Turning.{turns_optional}
use Rattle.hc_pattern.proofs.Nodes.{is_alt, is_cat}
use Rattle.hc_pat_lang.proofs.nodes.Nodes.+choose.Goals as goal

pub choose-returns-in_ok-entries-in-Cat : goal.choose-returns-in_ok-entries-in-Cat
choose-returns-in_ok-entries-in-Cat t c =
    let e : pattern_of c.args.pat.now ≡ cat (pattern_of c.in-Cat.first.value) (pattern_of c.in-Cat.second.value) =
    ap pattern_of c.in-Cat.is ∙ is_cat c.in-Cat.first c.in-Cat.second in
    let first = pattern_of c.in-Cat.first.value in
    let second = pattern_of c.in-Cat.second.value in
    let later = rw c.deref.ensures at c.in_ok-later-in-Cat.ensures in
    let rest = rw (c.has_group.ensures, c.deref-in-Cat.ensures, c.deref-in-Cat-2.ensures) at
    c.in_ok-rest-in-Cat.ensures in
    let one = rw c.deref-in-Cat-3.ensures at c.in_ok-one-in-Cat.ensures in
    let other = rw (c.has_group-in-Cat.ensures, c.deref-in-Cat-4.ensures, c.deref-in-Cat-5.ensures) at
    c.in_ok-other-in-Cat.ensures in
    let grows = fragment_grows _ _ _ _ _ rest in
    rw e (fragment_as _ _ _ _ _ _
    (λ text. needed_behind (has_turn c.args.number second) (has_turn c.args.number first)
    (part_ways Outside text first) (chosen_ways c.args.number text first) (part_ways Outside text second)
    (chosen_ways c.args.number text second) (no_turn c.args.number text first) (no_turn c.args.number text second))
    (chosen_added _ _ _ _ _ _ (record { all = c.in_ok-rest-in-Cat.rest; chosen = c.in_ok-later-in-Cat.later }) _ _ _ one
    other c.in_ok-entries-in-Cat.ensures _ _ c.args.exits _
    (record {
      all_ways = fragment_earlier _ _ _ _ _ _ (fragment_grows _ _ _ _ _ later) rest;
      chosen_ways = fragment_later _ _ _ _ _ _ later grows;
    })))

pub choose-returns-in_ok-entries-in-Alt : goal.choose-returns-in_ok-entries-in-Alt
choose-returns-in_ok-entries-in-Alt t c =
    let e : pattern_of c.args.pat.now ≡ alt (pattern_of c.in-Alt.first.value) (pattern_of c.in-Alt.second.value) =
    ap pattern_of c.in-Alt.is ∙ is_alt c.in-Alt.first c.in-Alt.second in
    rw e (fragment_either _ _ _ _ _ _ _ _ _ _ (rw c.deref-in-Alt.ensures at c.in_ok-one-in-Alt.ensures)
    (rw c.deref-in-Alt-2.ensures at c.in_ok-other-in-Alt.ensures) c.in_ok-entries-in-Alt.ensures)

pub choose_any-returns : goal.choose_any-returns
choose_any-returns t c =
    let all = c.in_ok-all.all in
    let behind_is : c.with_moved.result ≡ behind_turn [] [] all.moved = c.with_moved.ensures
    ∙ ap (λ (g : Gate). record g { moved = all.moved }) c.nowhere.ensures in
    let turn = rw behind_is at c.in_ok-turn.ensures in
    let moved = fragment_moving (λ text. chosen_ways c.args.number text (pattern_of c.args.body.now)) all
    c.in_ok-turn.turn _ _ turn in
    let chosen = rw c.alone.ensures at c.in_ok-chosen.ensures in
    record {
      all_ways =
          fragment_later _ _ _ _ _ _ c.in_ok-all.ensures
          (grows_on _ _ _ (fragment_grows _ _ _ _ _ turn) (fragment_grows _ _ _ _ _ chosen));
      chosen_ways = fragment_behind _ _ _ _ _ _ _ _ (fragment_behind _ _ _ _ _ _ _ _ c.in_ok-all.ensures moved) chosen;
    }

pub choose_group-returns-then-own-number : goal.choose_group-returns-then-own-number
choose_group-returns-then-own-number t c = elim (eqb_tells c.args.own c.args.number) [
  | inl is ↦ absurd (let e = is.1 in let f = c.if-own-number.true in grind arith)
  | inr isnt ↦ rw isnt.0 c.in_ok-inner.ensures
]

pub choose_group-returns : goal.choose_group-returns
choose_group-returns t c = elim (eqb_tells c.args.own c.args.number) [
  | inl is ↦ rw is.0 (fragment_joined _ _ _ _ _ _ _ _ _
      (fragment_earlier _ _ _ _ _ _ (fragment_grows _ _ _ _ _ c.in_ok-inner.ensures) c.in_ok-whole.ensures)
      (fragment_later _ _ _ _ _ _ c.in_ok-inner.ensures (fragment_grows _ _ _ _ _ c.in_ok-whole.ensures))
      c.in_ok-entries.ensures)
  | inr isnt ↦ absurd (let e = isnt.1 in let f = c.if-own-number.false in grind arith)
]

pub choose_repeat-returns-in_ok-entries-in-None : goal.choose_repeat-returns-in_ok-entries-in-None
choose_repeat-returns-in_ok-entries-in-None t c = rw c.in-None.is c.in_ok-entries-in-None.ensures

pub choose_endless-returns-then-not-takes_a_byte : goal.choose_endless-returns-then-not-takes_a_byte
choose_endless-returns-then-not-takes_a_byte t c =
    rw (sym c.takes_a_byte.ensures ∙ c.if-not-takes_a_byte.true)
    (c.in_ok-entries.ensures c.args.exits _ _ _ c.in_ok-more.ensures)

pub choose_endless-returns : goal.choose_endless-returns
choose_endless-returns t c =
    let all = c.in_ok-all.ensures in
    rw (sym c.takes_a_byte.ensures ∙ c.if-not-takes_a_byte.false, ← c.saturating_sub.ensures)
    (c.in_ok-entries-2.ensures c.args.exits _ _ _ (record {
      all_ways = fragment_behind _ _ _ _ _ _ _ _ c.in_ok-more.ensures.all_ways all;
      chosen_ways = fragment_later _ _ _ _ _ _ c.in_ok-more.ensures.chosen_ways (fragment_grows _ _ _ _ _ all);
    }))

pub choose_repeat-returns-in_ok-entries-in-Some-2 : goal.choose_repeat-returns-in_ok-entries-in-Some-2
choose_repeat-returns-in_ok-entries-in-Some-2 t c =
    let both : Some c.in-Some.most ≡ Some c.in-Some-2.most = sym c.in-Some.is ∙ c.in-Some-2.is in
    let same : c.in-Some.most ≡ c.in-Some-2.most = cc in
    let within = le-ltb c.in-Some-2.most c.args.times.least (let f = c.if-most-times.false in omega arith) in
    rw (c.in-Some-2.is, within) (c.in_ok-entries-in-Some-2.ensures c.args.exits _ _ _ c.in_ok-more-in-Some-2.ensures)

pub choose_turns-loop-turn-init : goal.choose_turns-loop-turn-init
choose_turns-loop-turn-init t c =
    record { all = c.requires.all; chosen = c.requires.chosen; turns = λ exits base all chosen are. are }

pub choose_turns-loop-turn-preserved : goal.choose_turns-loop-turn-preserved
choose_turns-loop-turn-preserved t c =
    let made = c.in_ok-turns.ensures in
    record {
      all = made.all;
      chosen = made.chosen;
      turns = λ exits base rest chosen_rest are. rw (add-one c.loop-turn._turn)
          (made.turns exits base _ _ (c.loop-turn.invariant.turns exits base rest chosen_rest are));
    }

pub choose_turns-returns : goal.choose_turns-returns
choose_turns-returns t c exits base rest chosen_rest are =
    (let e : c.loop-turn._turn ≡ c.args.count = omega arith in
    rw e at (c.loop-turn.invariant.turns exits base rest chosen_rest are).chosen_ways)

pub choose_up_to-loop-turn-init : goal.choose_up_to-loop-turn-init
choose_up_to-loop-turn-init t c =
    rw c.nowhere.ensures
    (record {
      all_ways = fragment_stop c.args.exits _ c.requires;
      chosen_ways = fragment_none c.args.exits _ c.requires;
    })

pub choose_up_to-loop-turn-preserved : goal.choose_up_to-loop-turn-preserved
choose_up_to-loop-turn-preserved t c =
    rw (add-one c.loop-turn._turn)
    (turns_optional c.args._greedy _ _ c.args.exits _ _ _ _ _ c.requires.below
    (c.in_ok-turn.ensures.turns c.args.exits _ _ _ c.loop-turn.invariant) c.in_ok-all.ensures)

pub choose_up_to-returns : goal.choose_up_to-returns
choose_up_to-returns t c = (let e : c.loop-turn._turn ≡ c.args.count = omega arith in rw e at c.loop-turn.invariant)

pub choose_turn-build-requires : goal.choose_turn-build-requires
choose_turn-build-requires t c = ready_later _ _ _ c.requires.chosen (fragment_grows _ _ _ _ _ c.in_ok-one.ensures)

pub choose_turn-build-requires-2 : goal.choose_turn-build-requires-2
choose_turn-build-requires-2 t c =
    ready_later _ _ _ c.requires.all
    (added_grows _ _ _ _ _ _ c.args.turns _ _ _ c.in_ok-one.ensures c.in_ok-other.ensures c.in_ok-chosen.ensures)

pub choose_turn-returns-clause-chosen : goal.choose_turn-returns-clause-chosen
choose_turn-returns-clause-chosen t c =
    ready_later _ _ _
    (added_ready _ _ _ _ _ _ c.args.turns _ _ _ c.in_ok-one.ensures c.in_ok-other.ensures c.in_ok-chosen.ensures)
    (fragment_grows _ _ _ _ _ c.in_ok-all.ensures)

pub choose_turn-returns-clause-turns : goal.choose_turn-returns-clause-turns
choose_turn-returns-clause-turns t c exits base rest chosen_rest are =
    then_added (λ text. part_ways Outside text (pattern_of c.args.body.now))
    (λ text. chosen_ways c.args.number text (pattern_of c.args.body.now)) _ _ _ _ c.args.turns _ _ _
    c.in_ok-one.ensures c.in_ok-other.ensures c.in_ok-chosen.ensures _ _ exits base are _ _ c.in_ok-all.ensures
