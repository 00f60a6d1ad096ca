use Rattle.hc_pat_lang.proofs.Common.{◌≡◌, ℕ, ◌∙◌, Some, ap, arith, rules, sym, alt, byte, cat, finish}
use Rattle.hc_pat_lang.proofs.Common.{pattern_of, part_ways, Point}
use Rattle.hc_pat_lang.proofs.Bounds.{bounded_part}
use Rattle.hc_pat_lang.proofs.Fragmenting.{fragment_behind, fragment_either, fragment_finish, fragment_grouped}
use Rattle.hc_pat_lang.proofs.Fragmenting.{fragment_least, fragment_none, fragment_optional, fragment_repeat}
use Rattle.hc_pat_lang.proofs.Fragmenting.{fragment_turn, inner_ready, is_looped, looped_any}
use Rattle.hc_pattern.proofs.Nodes.{is_alt, is_byte, is_cat, is_finish}
use Rattle.hc_pat_lang.proofs.nodes.Nodes.+build.Goals as goal

pub build-returns-in-Byte : goal.build-returns-in-Byte
build-returns-in-Byte t c =
    let e : pattern_of c.args.pat.now ≡ byte c.in-Byte.byte = ap pattern_of c.in-Byte.is ∙ is_byte c.in-Byte.byte in
    rw e c.byte.ensures

pub build-returns-in-Finish : goal.build-returns-in-Finish
build-returns-in-Finish t c =
    let e : pattern_of c.args.pat.now ≡ finish = ap pattern_of c.in-Finish.is ∙ is_finish in
    rw (e, c.finish.ensures) (fragment_finish c.args.exits _ c.requires)

pub build-returns-in_ok-entries-in-Cat : goal.build-returns-in_ok-entries-in-Cat
build-returns-in_ok-entries-in-Cat t c =
    let e : pattern_of c.args.pat.now ≡ cat (pattern_of c.in-Cat.first.value) (pattern_of c.in-Cat.second.value) =
    ap pattern_of c.in-Cat.is ∙ is_cat c.in-Cat.first c.in-Cat.second in
    rw e (fragment_behind _ _ _ _ _ _ _ _ (rw c.deref.ensures at c.in_ok-middle-in-Cat.ensures)
    (rw c.deref-in-Cat.ensures at c.in_ok-entries-in-Cat.ensures))

pub build-returns-in_ok-entries-in-Alt : goal.build-returns-in_ok-entries-in-Alt
build-returns-in_ok-entries-in-Alt t c =
    let e : pattern_of c.args.pat.now ≡ alt (pattern_of c.in-Alt.first.value) (pattern_of c.in-Alt.second.value) =
    ap pattern_of c.in-Alt.is ∙ is_alt c.in-Alt.first c.in-Alt.second in
    rw e (fragment_either _ _ _ _ _ _ _ _ _ _ (rw c.deref-in-Alt.ensures at c.in_ok-one-in-Alt.ensures)
    (rw c.deref-in-Alt-2.ensures at c.in_ok-other-in-Alt.ensures) c.in_ok-entries-in-Alt.ensures)

pub group-returns-then-leaves_out : goal.group-returns-then-leaves_out
group-returns-then-leaves_out t c = rw (sym c.leaves_out.ensures ∙ c.if-leaves_out.true, c.nowhere.ensures)
    (fragment_none c.args.exits _ c.requires)

pub group-returns : goal.group-returns
group-returns t c =
    rw (sym c.leaves_out.ensures ∙ c.if-leaves_out.false)
    (fragment_grouped c.args.number _ _ _ _ _ c.in_ok-entries.ensures)

pub repeat-returns-in_ok-entries-in-None : goal.repeat-returns-in_ok-entries-in-None
repeat-returns-in_ok-entries-in-None t c = rw (c.in-None.is, c.if-times-eq0.true) c.in_ok-entries-in-None.ensures

pub repeat-returns-in_ok-entries-in-None-2 : goal.repeat-returns-in_ok-entries-in-None-2
repeat-returns-in_ok-entries-in-None-2 t c =
    rw c.in-None-2.is
    (fragment_least c.args.times.greedy (λ text. part_ways c.args.part text (pattern_of c.args.body.now)) _ _ _ _ _
    _ c.args.times.least (let f = c.if-times-eq0.false in omega arith)
    (λ text. bounded_part c.args.part text (pattern_of c.args.body.now)) c.in_ok-more-in-None-2.ensures
    c.in_ok-entries-in-None-2.ensures)

pub repeat-returns-in_ok-entries-in-Some-2 : goal.repeat-returns-in_ok-entries-in-Some-2
repeat-returns-in_ok-entries-in-Some-2 t c =
    let both : Some c.in-Some.most ≡ Some c.in-Some-2.most = sym c.in-Some.is ∙ c.in-Some-2.is in
    let same : c.in-Some.most ≡ c.in-Some-2.most = cc in
    rw c.in-Some-2.is
    (fragment_repeat c.args.times.greedy (λ text. part_ways c.args.part text (pattern_of c.args.body.now)) _ _ _ _ _ _
    c.args.times.least c.in-Some-2.most (let f = c.if-most-times.false in omega arith)
    c.in_ok-more-in-Some-2.ensures c.in_ok-entries-in-Some-2.ensures)

pub turns-loop-turn-preserved : goal.turns-loop-turn-preserved
turns-loop-turn-preserved t c = fragment_turn (λ text. part_ways c.args.part text (pattern_of c.args.body.now)) _ _ _ _
    _ _ c.loop-turn._turn c.loop-turn.invariant c.in_ok-gate.ensures

pub looped-build-requires : goal.looped-build-requires
looped-build-requires t c =
    let again : Point = record { state = c.in_ok-add.field-0; ends = c.args.exits.moved.ends } in (
      search rules,
      inner_ready c.args.self.now.list.items _ c.args.exits _ again c.requires c.in_ok-add.ensures.ok
          c.in_ok-add.ensures.number c.with_moved.ensures,
    )

pub looped-returns : goal.looped-returns
looped-returns t c =
    is_looped (λ text. part_ways c.args.part text (pattern_of c.args.body.now)) c.args.exits c.in_ok-turn.turn _ _ _ _
    _ c.requires c.in_ok-add.ensures.ok
    (ap (λ (n : ℕ). record { state = n; ends = c.args.exits.moved.ends }) c.in_ok-add.ensures.number)
    (rw c.with_moved.ensures at c.in_ok-turn.ensures) (rw c.in_ok-add.ensures.number at c.set.ensures)

pub any_turns-returns : goal.any_turns-returns
any_turns-returns t c =
    looped_any (λ text. part_ways c.args.part text (pattern_of c.args.body.now)) _ _ _ _ _ _ c.args._greedy
    (λ text. bounded_part c.args.part text (pattern_of c.args.body.now)) c.requires.below c.in_ok-turn.ensures
    c.in_ok-entries.ensures

pub turns-returns : goal.turns-returns
turns-returns t c = (let e : c.loop-turn._turn ≡ c.args.count = omega arith in rw e at c.loop-turn.invariant)

pub turns_up_to-loop-turn-preserved : goal.turns_up_to-loop-turn-preserved
turns_up_to-loop-turn-preserved t c =
    fragment_optional c.args._greedy (λ text. part_ways c.args.part text (pattern_of c.args.body.now)) _ _ _ _ _ _ _ _
    c.loop-turn._turn c.requires.below c.loop-turn.invariant c.in_ok-turn.ensures c.in_ok-gate.ensures

pub turns_up_to-returns : goal.turns_up_to-returns
turns_up_to-returns t c = (let e : c.loop-turn._turn ≡ c.args.count = omega arith in rw e at c.loop-turn.invariant)
