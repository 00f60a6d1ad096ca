use Rattle.std.proofs.Common.{subst}
use Rattle.hc_dfa.specs.Automata.{accepts}
use Rattle.hc_dfa.specs.Texts.{IsLeastOf}
use Rattle.hc_abs_view.proofs.Members.{no_other, some_other}
use Rattle.hc_abs_view.proofs.compare.has_other.Goals as goal

pub returns-in-Some : goal.returns-in-Some
returns-in-Some c =
    some_other c.args.set.now c.in_ok-own.own c.in_ok-others.others c.args.text.now c.in_ok-own.ensures
    c.in_ok-others.ensures c.in-Some._text
    (subst (IsLeastOf (accepts c.in_ok-others.others)) c.in-Some.is c.in_ok-_text.ensures)

pub returns : goal.returns
returns c =
    no_other c.args.set.now c.in_ok-own.own c.in_ok-others.others c.args.text.now c.in_ok-own.ensures
    c.in_ok-others.ensures
    (subst (IsLeastOf (accepts c.in_ok-others.others)) c.in-None.is c.in_ok-_text.ensures)
