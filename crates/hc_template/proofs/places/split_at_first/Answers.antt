use Rattle.std.proofs.Common.{◌+◌, drop, Some, ap, sym, ◌∙◌}
use Rattle.std.proofs.lemmas.List.{drop-drop}
use Rattle.hc_template.proofs.UpTo.{ended_by, endless}
use Rattle.hc_template.proofs.places.split_at_first.Goals as goal

pub returns-in_default-clause-before : goal.returns-in_default-clause-before
returns-in_default-clause-before c = sym (endless c.args.byte c.args.text.now (cc))

pub returns-clause-before : goal.returns-clause-before
returns-clause-before c =
    ap Some c.split_at.ensures.front
    ∙ sym (ended_by c.args.byte c.args.text.now c.in-Some.end (sym c.in-Some.ensures.value))

pub returns-clause-behind : goal.returns-clause-behind
returns-clause-behind c =
    c.split_at-2.ensures.back ∙ ap (drop 1) c.split_at.ensures.back ∙ drop-drop 1 c.in-Some.end c.args.text.now
    ∙ ap (λ n. drop (n + 1) c.args.text.now) (sym c.split_at.ensures.front_len)
