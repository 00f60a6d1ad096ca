use Rattle.hc_pattern.proofs.Common.{true, false, ap, ◌∙◌, not, map, parts_of}
use Rattle.hc_pattern.specs.Classes.{class_test, folded}
use Rattle.hc_pattern.specs.ClassViews.{placed_view}
use Rattle.hc_pattern.proofs.class.class_set.Goals as goal

pub returns-then-complement : goal.returns-then-complement
returns-then-complement c =
    let parts = parts_of (map placed_view c.args.members.now) in
    rw c.if-complement.true
    (c.of_bits.ensures (class_test c.args.nocase true parts)
    (λ b within.
    c.complement-others.ensures b within
    ∙ ap not (c.with_cases-set.ensures b within ∙ ap (λ test. folded c.args.nocase test b)
    (λ i other. c.bytes_of.ensures other i))))

pub returns-else-complement : goal.returns-else-complement
returns-else-complement c =
    let parts = parts_of (map placed_view c.args.members.now) in
    rw c.if-complement.false
    (c.of_bits-else-complement.ensures (class_test c.args.nocase false parts)
    (λ b within. c.with_cases-set.ensures b within ∙ ap (λ test. folded c.args.nocase test b)
    (λ i other. c.bytes_of.ensures other i)))
