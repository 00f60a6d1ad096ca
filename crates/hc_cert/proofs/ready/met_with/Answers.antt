use Rattle.std.proofs.Common.{◌∙◌, ap, sym}
use Rattle.std.proofs.lemmas.Result.{IfOk-weaker}
use Rattle.std.specs.Option.{option_copied}
use Rattle.hc_cells.specs.Cells.{Restricts}
use Rattle.hc_dfa.specs.Automata.{accepts}
use Rattle.hc_plan.specs.Hands.{cell_of}
use Rattle.hc_cert.proofs.Cells.{met_is, none_met, other_set}
use Rattle.hc_cert.proofs.ready.met_with.Goals as goal

pub returns-in-Some : goal.returns-in-Some
returns-in-Some c =
    let sets = c.args.cell.now in
    let set = c.in-Some.set.now in
    let there = sym c.set_of.ensures ∙ ap option_copied c.in-Some.is in
    IfOk-weaker c.restrict.result (Restricts sets c.args.slot.now (accepts set)) _
    (λ made is. met_is sets made c.args.slot.now set (cell_of sets c.args.other.now)
    (other_set sets c.args.other.now set there) is) c.restrict.ensures

pub returns-in_ok-copy-in-None : goal.returns-in_ok-copy-in-None
returns-in_ok-copy-in-None c =
    let sets = c.args.cell.now in
    ap cell_of c.in_ok-copy-in-None.ensures.cases
    ∙ none_met sets c.args.slot.now c.args.other.now (sym c.set_of.ensures ∙ ap option_copied c.in-None.is)
