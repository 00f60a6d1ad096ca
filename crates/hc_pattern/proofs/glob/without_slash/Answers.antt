use Rattle.hc_pattern.proofs.Common.{◌&&◌, has_byte, may_be}
use Rattle.hc_pattern.proofs.GlobLemmas.{kept_is}
use Rattle.hc_pattern.proofs.glob.without_slash.Goals as goal

pub returns : goal.returns
returns c test is =
    c.of_bits-2.ensures (λ b. may_be c.args.keeps_slash b && test b)
    (λ b within. kept_is c.args.keeps_slash b (has_byte c.args.set b) _ _ (has_byte c.complement-kept.result b)
    (test b) (cc) (is b within) (c.complement.ensures b within) (c.with.ensures b)
    (c.complement-kept.ensures b within))
