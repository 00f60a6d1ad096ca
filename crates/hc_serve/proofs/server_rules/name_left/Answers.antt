use Rattle.hc_serve.proofs.Common.{◌∙◌, ap, refl, ran_leaves, ran_off, ran_on}
use Rattle.hc_alias.specs.Mapping.{under_root}
use Rattle.hc_serve.specs.Passing.{name_left, named}
use Rattle.hc_serve.proofs.server_rules.name_left.Goals as goal

pub returns-in_err-name : goal.returns-in_err-name
unfolding name_left
returns-in_err-name c =
    rw c.if-there.false (ran_off _ _ _ _ _ _ _ _ c.from_residual-in_err-name.ensures.1 (c.in_err-name.ensures _)
    (ap (named c.args.pass) (c.in_ok-mapped.ensures ∙ ap (under_root _) c.as_bytes.ensures
    ∙ ap (λ root. under_root root c.args.text) c.root_of-root.ensures)))

pub returns : goal.returns
unfolding name_left
returns c =
    rw c.if-there.false (ran_on _ _ _ _ _ _ _ _ _ _ (c.in_ok-name.ensures _)
    (ap (named c.args.pass) (c.in_ok-mapped.ensures ∙ ap (under_root _) c.as_bytes.ensures
    ∙ ap (λ root. under_root root c.args.text) c.root_of-root.ensures))
    (ran_leaves _ _ _ _ _ refl) refl)
