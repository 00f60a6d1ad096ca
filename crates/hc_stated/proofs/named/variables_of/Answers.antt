use Rattle.std.proofs.Common.{◌∙◌, ◌+◌, ◌++◌, ap, append_assoc, drop, sym}
use Rattle.hc_stated.specs.CellViews.{slot_set, slot_sets}
use Rattle.hc_stated.specs.Cells.{variable_in, variables_in}
use Rattle.hc_stated.proofs.Putting.{left}
use Rattle.hc_stated.proofs.named.variables_of.Goals as goal

pub loop-own-preserved : goal.loop-own-preserved
loop-own-preserved c =
    let sets = c.args.sets.now in
    let i = c.loop-own.own-index in
    let own = c.own-item.result in
    let names = c.loop-own.names in
    let rest = variables_in (slot_sets (drop (i + 1) sets)) in
    ap (λ names. names ++ rest) c.in_ok-add_variable.ensures
    ∙ append_assoc names (variable_in own.slot) rest
    ∙ sym (ap (λ sets. names ++ variables_in sets) (left slot_set sets i own c.loop-own-test.true c.own-item.is))
    ∙ c.loop-own.invariant
