use Rattle.std.proofs.Common.{◌∙◌, sym, ap, Some, nat_eq}
use Rattle.std.specs.Option.{option_eq}
use Rattle.hc_base.proofs.bytes.ends_with.Goals as goal
use Rattle.hc_base.proofs.Texts.{ends_with-last, option_eq-now}

pub returns : goal.returns
returns c =
    c.eq.ensures ∙ option_eq-now c.last.result _
    ∙ ap (λ o. option_eq nat_eq o (Some c.args.byte)) c.last.ensures.value
    ∙ sym (ends_with-last c.args.byte c.args.text.now)
