use Rattle.std.proofs.Common.{◌≡◌, ◌∙◌, ap}
use Rattle.std.proofs.lemmas.Result.{IfOk-weaker}
use Rattle.hc_dfa.specs.Built.{Accepts}
use Rattle.hc_dfa.specs.Texts.{TextSet}
use Rattle.hc_plan.specs.Hands.{cell_of}
use Rattle.hc_plan.specs.Slots.{Slot}
use Rattle.hc_abs_pass.specs.Walks.{is_empty}
use Rattle.hc_cert.specs.Coded.{met_at, text_met}
use Rattle.hc_cert.proofs.ready.before_pass.Goals as goal

pub returns : goal.returns
returns c =
    let nothing = c.requires.nothing in
    let text = c.in_ok-text.ensures ∙ ap text_met c.in_ok-path.ensures in
    let name = c.in_ok-name.ensures is_empty nothing ∙ ap (met_at Slot.Name is_empty) text in
    IfOk-weaker c.met-2.result
    (λ made. (own : TextSet) → Accepts c.args.always.now.nothing own
    → cell_of made ≡ met_at Slot.Info own (cell_of c.in_ok-name.name)) _
    (λ made is. is is_empty nothing ∙ ap (met_at Slot.Info is_empty) name) c.met-2.ensures
