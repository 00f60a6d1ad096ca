use Rattle.std.proofs.Common.{subst}
use Rattle.hc_cells.specs.Containing.{Contains}
use Rattle.hc_cert.proofs.Lying.{outside_is, within_from}
use Rattle.hc_cert.proofs.belonging.outside.Goals as goal

pub returns-in-No : goal.returns-in-No
returns-in-No c =
    let states = c.args.states.now in
    let own = c.args.own.now in
    outside_is states own.named.now own.tied c.requires.ready c.in-No.slot c.in-No.text
    (subst (Contains states own.tied.cell) c.in-No.is c.in_ok-text.ensures)

pub returns : goal.returns
returns c =
    let states = c.args.states.now in
    let own = c.args.own.now in
    absurd (c.requires.none (within_from states own.named.now own.tied c.requires.ready
    (subst (Contains states own.tied.cell) c.in-Yes.is c.in_ok-text.ensures)))
