use Rattle.std.proofs.Common.{◌∙◌, ◌+◌, ap, drop, option_map, subst, sym, take}
use Rattle.std.specs.Option.{option_or}
use Rattle.hc_cells.specs.Cells.{Puts}
use Rattle.hc_stated.specs.CellViews.{slot_set, slot_sets}
use Rattle.hc_stated.specs.Cells.{HasSets, bad_in_sets}
use Rattle.hc_stated.specs.Stated.{within}
use Rattle.hc_stated.specs.declared.field.Field.TheVariants.{Cells}
use Rattle.hc_stated.proofs.Putting.{left, put_more, taken}
use Rattle.hc_stated.proofs.named.cell_with.Goals as goal

pub loop-own-preserved : goal.loop-own-preserved
loop-own-preserved c =
    let sets = c.args.sets.now in
    let i = c.loop-own.own-index in
    let own = c.own-item.result in
    let made = c.put.new.self in
    record {
      is_read =
          sym (ap (λ bad. option_or (option_map (within Cells) bad) (bad_in_sets (slot_sets (drop (i + 1) sets))))
          c.in_ok-set.ensures.is_read)
          ∙ sym (ap bad_in_sets (left slot_set sets i own c.loop-own-test.true c.own-item.is))
          ∙ c.loop-own.invariant.is_read;
      has =
          subst (λ all. HasSets all made) (sym (taken slot_set sets i own c.loop-own-test.true c.own-item.is))
          (put_more (slot_sets (take i sets)) (slot_set own) c.loop-own.cell made c.in_ok-set.set
          c.loop-own.invariant.has c.in_ok-set.ensures
          (subst (λ slot. Puts c.loop-own.cell slot c.in_ok-set.set made) c.in_ok-clone.ensures.cases
          c.in_ok-put.ensures));
    }
