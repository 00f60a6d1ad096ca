use Rattle.std.proofs.Common.{sym, subst, ◌∙◌}
use Rattle.hc_rank.specs.Sets.{AreGroups}
use Rattle.hc_rank.proofs.Groups.{with_number}
use Rattle.hc_rank.proofs.plain.with_piece.Goals as goal

pub returns-then-not-has : goal.returns-then-not-has
returns-then-not-has c template are =
    rw c.in-Group.is
    (with_number c.in_ok-set.set c.with.result c.in-Group.number template
    (subst (λ groups. AreGroups groups template) c.in_ok-set.was are) c.if-number-gt0.true
    (sym c.has.ensures ∙ c.if-not-has.true) c.with.ensures)
