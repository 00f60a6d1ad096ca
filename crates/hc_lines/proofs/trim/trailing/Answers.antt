use Rattle.hc_lines.proofs.Common.{refl, sym, ◌∙◌, lit<, space, tab}
use Rattle.hc_lines.proofs.Ends.{ends_with-at}
use Rattle.hc_lines.proofs.Trims.{up_to_last-blank, up_to_last-join, up_to_last-tight}
use Rattle.hc_lines.proofs.trim.trailing.Goals as goal

pub returns-then-ends_with-clause-some : goal.returns-then-ends_with-clause-some
returns-then-ends_with-clause-some c =
    up_to_last-blank space c.args.bytes.now refl refl (sym c.ends_with.ensures ∙ c.if-ends_with.true)

pub returns-then-ends_with-clause-ascii : goal.returns-then-ends_with-clause-ascii
returns-then-ends_with-clause-ascii c =
    λ _. rw (ends_with-at space c.args.bytes.now (sym c.ends_with.ensures ∙ c.if-ends_with.true)) (lit< tt)

pub returns-then-ends_with-2-clause-some : goal.returns-then-ends_with-2-clause-some
returns-then-ends_with-2-clause-some c =
    up_to_last-blank tab c.args.bytes.now refl refl (sym c.ends_with-else-ends_with.ensures ∙ c.if-ends_with-2.true)

pub returns-then-ends_with-2-clause-ascii : goal.returns-then-ends_with-2-clause-ascii
returns-then-ends_with-2-clause-ascii c =
    λ _. rw (ends_with-at tab c.args.bytes.now (sym c.ends_with-else-ends_with.ensures ∙ c.if-ends_with-2.true))
    (lit< tt)

pub returns-then-joins-clause-some : goal.returns-then-joins-clause-some
returns-then-joins-clause-some c = up_to_last-join c.args.bytes.now (sym c.joins.ensures ∙ c.if-joins.true)

pub returns-else-joins-clause-none : goal.returns-else-joins-clause-none
returns-else-joins-clause-none c = λ _. up_to_last-tight c.args.bytes.now (record {
  no_space = sym c.ends_with.ensures ∙ c.if-ends_with.false;
  no_tab = sym c.ends_with-else-ends_with.ensures ∙ c.if-ends_with-2.false;
  no_join = sym c.joins.ensures ∙ c.if-joins.false;
})
