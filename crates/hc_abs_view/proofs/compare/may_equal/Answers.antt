use Rattle.std.proofs.Common.{subst}
use Rattle.hc_dfa.specs.Automata.{accepts}
use Rattle.hc_dfa.specs.Texts.{IsLeastOf}
use Rattle.hc_abs_view.proofs.Members.{none_equal, some_equal}
use Rattle.hc_abs_view.proofs.compare.may_equal.Goals as goal

pub returns-in-Some : goal.returns-in-Some
returns-in-Some c =
    some_equal c.args.one.now c.args.other.now c.in_ok-both.both c.in_ok-both.ensures c.in-Some._text
    (subst (IsLeastOf (accepts c.in_ok-both.both)) c.in-Some.is c.in_ok-_text.ensures)

pub returns : goal.returns
returns c =
    none_equal c.args.one.now c.args.other.now c.in_ok-both.both c.in_ok-both.ensures
    (subst (IsLeastOf (accepts c.in_ok-both.both)) c.in-None.is c.in_ok-_text.ensures)
