use Rattle.hc_abs_restart.proofs.Common.{Slot, subst}
use Rattle.std.specs.Option.{option_map}
use Rattle.hc_cells.specs.Cells.{holds}
use Rattle.hc_dfa.specs.Members.{IsOnlyOf}
use Rattle.hc_abs_restart.proofs.Answering.{both_known, open_name, open_text}
use Rattle.hc_abs_restart.proofs.choosing.may_differ.Goals as goal

pub returns-in_default : goal.returns-in_default
returns-in_default c =
    open_text c.args.tied.now c.if-tied.false
    (subst (λ found. IsOnlyOf (holds c.args.tied.now.cell Slot.Text) (option_map (λ text. text.now) found))
    c.in_default.is c.only_of.ensures)

pub returns-in_default-only_of : goal.returns-in_default-only_of
returns-in_default-only_of c =
    open_name c.args.tied.now c.if-tied.false
    (subst (λ found. IsOnlyOf (holds c.args.tied.now.cell Slot.Name) (option_map (λ text. text.now) found))
    c.in_default-only_of.is c.only_of-2.ensures)

pub returns : goal.returns
returns c =
    both_known c.args.tied.now c.if-tied.false c.in-Some.text.now c.in-Some-only_of.name.now c.ne.result
    (subst (λ found. IsOnlyOf (holds c.args.tied.now.cell Slot.Text) (option_map (λ text. text.now) found))
    c.in-Some.is c.only_of.ensures)
    (subst (λ found. IsOnlyOf (holds c.args.tied.now.cell Slot.Name) (option_map (λ text. text.now) found))
    c.in-Some-only_of.is c.only_of-2.ensures)
    c.ne.ensures
