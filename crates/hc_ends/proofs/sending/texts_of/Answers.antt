use Rattle.std.proofs.Common.{◌∙◌, ap, not, sym}
use Rattle.std.proofs.lemmas.Result.{IfOk-weaker}
use Rattle.std.specs.Option.{option_copied}
use Rattle.hc_cells.specs.Cells.{holds, of_set}
use Rattle.hc_dfa.specs.Built.{Accepts, complement_of}
use Rattle.hc_ends.proofs.Having.{accepted}
use Rattle.hc_ends.proofs.sending.texts_of.Goals as goal

pub returns-in_ok-listed-in-None : goal.returns-in_ok-listed-in-None
returns-in_ok-listed-in-None c =
    let cell = c.args.cell.now in
    let slot = c.args.slot.now in
    let none = sym c.set_of.ensures ∙ ap option_copied c.in-None.is in
    IfOk-weaker c.complement-in-None.result (λ texts. Accepts texts (complement_of c.in_ok-listed-in-None.field-0)) _
    (λ texts are. accepted texts (holds cell slot) (λ text bytes. are text bytes
    ∙ ap not (c.in_ok-listed-in-None.ensures text bytes) ∙ sym (ap (λ set. of_set set text) none)))
    c.complement-in-None.ensures
