use Rattle.std.proofs.Common.{◌≡◌, ◌∙◌, ◌+◌, ◌∷◌, [], Some, ap, arith, cond, drop, sym}
use Rattle.std.proofs.lemmas.List.{drop_all, drop_more}
use Rattle.hc_cells.specs.Cells.{Puts, set_at}
use Rattle.hc_cells.specs.Slots.{same_slot}
use Rattle.hc_plan.proofs.Stores.{put_in}
use Rattle.hc_plan.specs.Hands.{cell_of, set_in}
use Rattle.hc_abs_start.proofs.Puts.{each_more, same_set}
use Rattle.hc_abs_start.specs.Starting.{put_each}
use Rattle.hc_abs_start.proofs.starting.with_each.Goals as goal

pub loop-slot-preserved : goal.loop-slot-preserved
loop-slot-preserved c =
    let slots = c.args.slots.now in
    let at = c.loop-slot.slot-index in
    let slot = c.slot-item.result in
    let set = c.args.set.now in
    let cell = c.loop-slot.cell in
    let puts : Puts cell slot set c.put.new.self = λ other. c.in_ok-put.ensures other
    ∙ (λ i. cond (same_slot (c.in_ok-clone.ensures.cases i) other) (Some (c.in_ok-clone-2.ensures.cases i))
    (set_at cell other)) in
    ap (put_each (drop (at + 1) slots) (set_in set)) (put_in cell c.put.new.self slot set puts)
    ∙ each_more slot (drop (at + 1) slots) (set_in set) (cell_of cell)
    ∙ ap (λ slots. put_each slots (set_in set) (cell_of cell))
    (ap (λ slot. slot ∷ drop (at + 1) slots) c.slot-item.is ∙ sym (drop_more slots at slot c.loop-slot-test.true))
    ∙ c.loop-slot.invariant

pub returns : goal.returns
returns c own of =
    let slots = c.args.slots.now in
    let set = c.args.set.now in
    let none : drop c.loop-slot.slot-index slots ≡ [] = grind (arith, drop_all) in
    ap (λ slots. put_each slots (set_in set) (cell_of c.loop-slot.cell)) (sym none) ∙ c.loop-slot.invariant
    ∙ ap (λ own. put_each slots own (cell_of c.args.before.now)) (same_set set own of)
