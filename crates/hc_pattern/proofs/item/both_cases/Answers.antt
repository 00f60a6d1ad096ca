use Rattle.std.specs.Char.{eq_ignore_ascii_case}
use Rattle.hc_pattern.proofs.Common.{◌==◌, ◌||◌, ◌∙◌, ap}
use Rattle.hc_pattern.proofs.ClassLemmas.{either_case}
use Rattle.hc_pattern.proofs.item.both_cases.Goals as goal

pub returns : goal.returns
returns c =
    c.of_bits.ensures (eq_ignore_ascii_case c.args.byte)
    (λ b within.
    c.with-set.ensures b
    ∙ ap (λ v. v || (b == c.to_ascii_uppercase.result))
    (c.with.ensures b ∙ ap (λ v. v || (b == c.to_ascii_lowercase.result)) (c.empty.ensures b))
    ∙ rw (c.to_ascii_lowercase.ensures.value, c.to_ascii_uppercase.ensures.value) (either_case c.args.byte b))
