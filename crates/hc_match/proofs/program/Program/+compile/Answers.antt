use Rattle.hc_match.proofs.Common.{◌≡◌, ℕ, List, Ways, Kept, suc, ◌+◌, unwrap_or, ◌∷◌, ◌-◌}
use Rattle.hc_match.proofs.Common.{◌≤◌, ◌∙◌, [], length, nat_eq, refl, sym, ap, lt-ltb, le-ltb, arith}
use Rattle.hc_match.proofs.Common.{length-append, has_byte, pattern_of, any_turns, behind, either, grouped, none}
use Rattle.hc_match.proofs.Common.{step_where, stop, stop_where, turns_then, turns_up_to, keeping_held, kept_ways}
use Rattle.hc_match.proofs.Common.{behind-behind, takes_a_byte, is_alt, is_byte, is_cat, is_class, is_empty, is_finish}
use Rattle.hc_match.proofs.Common.{is_group, is_repeat, is_start}
use Rattle.hc_ways.proofs.Bytes.{moves}
use Rattle.hc_match.proofs.Compiled.{compiled_as, compiled_behind, compiled_either, compiled_group, compiled_loop}
use Rattle.hc_match.proofs.Compiled.{compiled_none, compiled_nothing, compiled_preferred, compiled_step, emitted}
use Rattle.hc_match.proofs.Compiled.{ok_behind, ok_turns, turns_before}
use Rattle.hc_match.proofs.program.Program.+compile.Goals as goal

pub compile-returns-in-Empty-clause-ways : goal.compile-returns-in-Empty-clause-ways
compile-returns-in-Empty-clause-ways t c text =
    rw (c.in-Empty.is, is_empty) (compiled_none text c.args.self.now.steps.items c.args.next c.requires)

pub compile-returns-in-Byte-clause-ways : goal.compile-returns-in-Byte-clause-ways
compile-returns-in-Byte-clause-ways t c =
    rw (c.in-Byte.is, is_byte c.in-Byte.byte)
    (emitted _ c.args.self.now.steps.items _ _ _ (λ text. step_where text (λ b. nat_eq b c.in-Byte.byte)) c.args.next
    c.emit.ensures
    (λ text. compiled_step text c.args.self.now.steps.items _ _ c.args.next c.requires (λ before. refl)))

pub compile-returns-in-Class-clause-ways : goal.compile-returns-in-Class-clause-ways
compile-returns-in-Class-clause-ways t c =
    rw (c.in-Class.is, is_class c.in-Class.set)
    (emitted _ c.args.self.now.steps.items _ _ _ (λ text. step_where text (has_byte c.in-Class.set)) c.args.next
    c.emit-in-Class.ensures
    (λ text. compiled_step text c.args.self.now.steps.items _ _ c.args.next c.requires (λ before. refl)))

pub compile-returns-in-Start-clause-ways : goal.compile-returns-in-Start-clause-ways
compile-returns-in-Start-clause-ways t c =
    rw (c.in-Start.is, is_start)
    (emitted _ c.args.self.now.steps.items _ _ _ (λ text. stop_where (λ at. nat_eq at 0)) c.args.next
    c.emit-in-Start.ensures
    (λ text. compiled_step text c.args.self.now.steps.items _ _ c.args.next c.requires (λ before. refl)))

pub compile-returns-in-Finish-clause-ways : goal.compile-returns-in-Finish-clause-ways
compile-returns-in-Finish-clause-ways t c =
    rw (c.in-Finish.is, is_finish)
    (emitted _ c.args.self.now.steps.items _ _ _ (λ text. stop_where (λ at. nat_eq at (length text))) c.args.next
    c.emit-in-Finish.ensures
    (λ text. compiled_step text c.args.self.now.steps.items _ _ c.args.next c.requires (λ before. refl)))

pub compile-returns-in_ok-behind-in-Cat-clause-ways : goal.compile-returns-in_ok-behind-in-Cat-clause-ways
compile-returns-in_ok-behind-in-Cat-clause-ways t c =
    rw (c.in-Cat.is, is_cat c.in-Cat.first c.in-Cat.second, ← c.deref.ensures, ← c.deref-in-Cat.ensures)
    (ok_behind _ c.args.self.now.steps.items c.compile.new.self.steps.items c.compile-in-Cat.new.self.steps.items
    (λ text. kept_ways text (pattern_of c.deref-in-Cat.result.now))
    (λ text. kept_ways text (pattern_of c.deref.result.now)) c.args.next c.in_ok-behind-in-Cat.behind
    c.in_ok-behind-in-Cat.ensures.ways c.compile-in-Cat.ensures.ways)

pub compile-returns-in_ok-first-in-Alt-clause-ways : goal.compile-returns-in_ok-first-in-Alt-clause-ways
compile-returns-in_ok-first-in-Alt-clause-ways t c =
    rw (c.in-Alt.is, is_alt c.in-Alt.first c.in-Alt.second, ← c.deref-in-Alt.ensures, ← c.deref-in-Alt-2.ensures)
    (emitted _ c.args.self.now.steps.items c.compile-in-Alt-2.new.self.steps.items c.emit-in-Alt.new.self.steps.items _
    (λ text. either (kept_ways text (pattern_of c.deref-in-Alt-2.result.now))
    (kept_ways text (pattern_of c.deref-in-Alt.result.now))) c.args.next c.emit-in-Alt.ensures
    (λ text. compiled_either text c.args.self.now.steps.items c.compile-in-Alt.new.self.steps.items
    c.compile-in-Alt-2.new.self.steps.items
    (kept_ways text (pattern_of c.deref-in-Alt-2.result.now)) (kept_ways text (pattern_of c.deref-in-Alt.result.now))
    c.args.next c.in_ok-first-in-Alt.first c.in_ok-second-in-Alt.second c.requires
    (c.in_ok-second-in-Alt.ensures.ways text) (c.in_ok-first-in-Alt.ensures.ways text)))

pub compile-returns-in_ok-body-in-Group-clause-ways : goal.compile-returns-in_ok-body-in-Group-clause-ways
compile-returns-in_ok-body-in-Group-clause-ways t c =
    rw (c.in-Group.is, is_group c.in-Group.group c.in-Group.body, ← c.deref-in-Group.ensures)
    (emitted _ c.args.self.now.steps.items c.compile-in-Group.new.self.steps.items
    c.emit-in-Group-2.new.self.steps.items _
    (λ text. grouped keeping_held c.in-Group.group (kept_ways text (pattern_of c.deref-in-Group.result.now)))
    c.args.next c.emit-in-Group-2.ensures
    (λ text. compiled_group text c.args.self.now.steps.items c.compile-in-Group.new.self.steps.items
    (pattern_of c.deref-in-Group.result.now) c.in-Group.group c.args.next c.in_ok-body-in-Group.body c.requires
    (rw (← c.in_ok-close-in-Group.ensures.0, ← c.in_ok-close-in-Group.ensures.1)
    (c.in_ok-body-in-Group.ensures.ways text))))

pub compile-returns-in-Repeat-clause-ways : goal.compile-returns-in-Repeat-clause-ways
compile-returns-in-Repeat-clause-ways t c =
    rw (c.in-Repeat.is, is_repeat c.in-Repeat.body c.in-Repeat.least c.in-Repeat.most c.in-Repeat.greedy)
    c.repeat.ensures.ways

pub repeat-returns-in-None-clause-ways : goal.repeat-returns-in-None-clause-ways
repeat-returns-in-None-clause-ways t c = rw c.in-None.is c.endless.ensures.ways

pub repeat-returns-in-Some-clause-ways : goal.repeat-returns-in-Some-clause-ways
repeat-returns-in-Some-clause-ways t c =
    rw (c.in-Some.is, lt-ltb c.in-Some.most c.args.least c.if-most-least.true)
    (emitted _ c.args.self.now.steps.items _ _ _ (λ text. none) c.args.next c.emit.ensures
    (λ text. compiled_nothing text c.args.self.now.steps.items c.empty.result c.args.next c.requires c.empty.ensures))

pub repeat-returns-in_ok-more-in-Some-2-clause-ways : goal.repeat-returns-in_ok-more-in-Some-2-clause-ways
repeat-returns-in_ok-more-in-Some-2-clause-ways t c =
    let same : c.in-Some-2.most ≡ c.in-Some.most =
    ap (λ most. unwrap_or most 0) (sym c.in-Some-2.is ∙ c.in-Some.is) in
    let fits : c.args.least ≤ c.in-Some-2.most = omega (arith, same, c.if-most-least.false) in
    rw (c.in-Some-2.is, le-ltb c.in-Some-2.most c.args.least fits)
    (ok_turns _ c.args.self.now.steps.items c.turns_up_to.new.self.steps.items c.turns.new.self.steps.items
    (λ text. kept_ways text (pattern_of c.args.body.now.value))
    (λ text. turns_up_to c.args.greedy (kept_ways text (pattern_of c.args.body.now.value))
    (c.in-Some-2.most - c.args.least)) _ c.args.least c.args.next c.in_ok-more-in-Some-2.more
    (λ text. refl) c.in_ok-more-in-Some-2.ensures.ways c.turns.ensures.ways)

pub turns-loop-init : goal.turns-loop-init
turns-loop-init t c =
    (c.requires, omega arith, λ text. compiled_none text c.args.self.now.steps.items c.args.next c.requires)

pub turns-loop-preserved : goal.turns-loop-preserved
turns-loop-preserved t c = (
  c.in_ok-place.ensures.within,
  omega (arith, c.in_ok-place.ensures.longer, c.loop.invariant.1),
  λ text.
      let body = kept_ways text (pattern_of c.args.body.now.value) in
      let more : c.loop.counter + 1 ≡ suc c.loop.counter = omega arith in
      rw more
      (compiled_behind text c.args.self.now.steps.items c.loop.self.steps.items c.compile.new.self.steps.items body
      (turns_then body c.loop.counter stop) c.args.next c.loop.place c.in_ok-place.place
      (c.loop.invariant.2 text)
      (compiled_as text c.loop.self.steps.items c.compile.new.self.steps.items
      (kept_ways text (pattern_of c.deref.result.now)) body c.loop.place c.in_ok-place.place
      (ap (λ pat. kept_ways text (pattern_of pat)) c.deref.ensures) (c.in_ok-place.ensures.ways text))),
)

pub turns-returns-clause-ways : goal.turns-returns-clause-ways
turns-returns-clause-ways t c text =
    let all : c.loop.counter ≡ c.args.count = omega (arith, c.loop-test.false, c.loop.auto.counter-end) in
    rw (← all) (c.loop.invariant.2 text)

pub turns_up_to-loop-init : goal.turns_up_to-loop-init
turns_up_to-loop-init t c =
    (c.requires, omega arith, λ text. compiled_none text c.args.self.now.steps.items c.args.next c.requires)

pub turns_up_to-loop-preserved : goal.turns_up_to-loop-preserved
turns_up_to-loop-preserved t c =
    let old = c.args.self.now.steps.items in
    let mid = c.compile.new.self.steps.items in
    let here = c.in_ok-place.ensures in (
      rw (here.0, here.1) (omega (arith, length-append mid (c.turn_or_next.result ∷ []))),
      rw here.1
          (omega (
            arith,
            length-append mid (c.turn_or_next.result ∷ []),
            c.in_ok-turn.ensures.longer,
            c.loop.invariant.1,
          )),
      λ text.
          let body = kept_ways text (pattern_of c.args.body.now.value) in
          let turns = turns_up_to c.args.greedy body c.loop.counter in
          let more : c.loop.counter + 1 ≡ suc c.loop.counter = omega arith in
          rw (here.0, here.1, c.turn_or_next.ensures, more)
          (compiled_preferred text old mid c.args.greedy (behind body turns) c.args.next c.in_ok-turn.turn c.requires
          (compiled_behind text old c.loop.self.steps.items mid body turns c.args.next c.loop.place c.in_ok-turn.turn
          (c.loop.invariant.2 text)
          (compiled_as text c.loop.self.steps.items mid (kept_ways text (pattern_of c.deref.result.now)) body
          c.loop.place c.in_ok-turn.turn
          (ap (λ pat. kept_ways text (pattern_of pat)) c.deref.ensures) (c.in_ok-turn.ensures.ways text)))),
    )

pub turns_up_to-returns-clause-ways : goal.turns_up_to-returns-clause-ways
turns_up_to-returns-clause-ways t c text =
    let all : c.loop.counter ≡ c.args.most = omega (arith, c.loop-test.false, c.loop.auto.counter-end) in
    rw (← all) (c.loop.invariant.2 text)

pub endless-returns-then-least-eq0-clause-ways : goal.endless-returns-then-least-eq0-clause-ways
endless-returns-then-least-eq0-clause-ways t c text =
    let pattern = pattern_of c.deref-2.result.now in
    let head = c.in_ok-head.ensures in
    rw (c.turn_or_next.ensures, head.0, ← c.deref-2.ensures, c.if-least-eq0.true)
    (compiled_loop text c.args.self.now.steps.items c.compile.new.self.steps.items pattern c.args.greedy c.args.next
    c.in_ok-turn.turn c.requires
    (moves keeping_held text pattern
    (ap (λ pat. takes_a_byte (pattern_of pat)) (c.deref-2.ensures ∙ sym c.deref.ensures)
    ∙ sym c.takes_a_byte.ensures ∙ c.if-not-takes_a_byte.false))
    (rw (← head.0, ← head.1) (c.in_ok-turn.ensures.ways text)) (length c.args.self.now.steps.items) _ (omega arith)
    (λ meaning head turn. head))

pub endless-returns-clause-ways : goal.endless-returns-clause-ways
endless-returns-clause-ways t c =
    let pattern = pattern_of c.deref-2.result.now in
    let head = c.in_ok-head.ensures in
    let more : suc (c.args.least - 1) ≡ c.args.least = omega (arith, c.if-least-eq0.false) in
    let body : List ℕ → Ways Kept = λ text. kept_ways text (pattern_of c.args.body.now.value) in
    let turns : List ℕ → Ways Kept = λ text. any_turns c.args.greedy (body text) (length text) in
    ok_turns _ c.args.self.now.steps.items _ c.turns.new.self.steps.items body
    (λ text. behind (body text) (turns text)) _ (c.args.least - 1) c.args.next c.in_ok-turn.turn
    (λ text. turns_before (body text) (c.args.least - 1) (turns text)
    ∙ ap (λ least. turns_then (body text) least (turns text)) more)
    (λ text. rw (c.turn_or_next.ensures, head.0, ← c.deref-2.ensures)
    (compiled_loop text c.args.self.now.steps.items c.compile.new.self.steps.items pattern c.args.greedy c.args.next
    c.in_ok-turn.turn c.requires
    (moves keeping_held text pattern
    (ap (λ pat. takes_a_byte (pattern_of pat)) (c.deref-2.ensures ∙ sym c.deref.ensures)
    ∙ sym c.takes_a_byte.ensures ∙ c.if-not-takes_a_byte.false))
    (rw (← head.0, ← head.1) (c.in_ok-turn.ensures.ways text))
    c.in_ok-turn.turn _ (omega arith) (λ meaning head turn. turn ∙ ap (behind (kept_ways text pattern)) head
    ∙ sym (behind-behind (kept_ways text pattern) _ (meaning c.args.next)))))
    c.turns.ensures.ways
