use Rattle.hc_pattern.proofs.Common.{true, not, ap, ◌∙◌, set_where, may_be, and-true}
use Rattle.hc_pattern.proofs.glob.any_byte.Goals as goal

pub returns : goal.returns
returns c =
    c.without_slash.ensures (λ b. true) (λ b within. c.complement.ensures b within ∙ ap not (c.empty.ensures b))
    ∙ ap set_where (λ i b. and-true (may_be c.args.keeps_slash b) i)
