use Rattle.hc_abs_restart.proofs.Common.{accepts, subst}
use Rattle.hc_dfa.specs.Texts.{IsLeastOf}
use Rattle.hc_abs_restart.proofs.Answering.{none_same, some_same}
use Rattle.hc_abs_restart.proofs.choosing.may_be_same.Goals as goal

pub returns-in-None : goal.returns-in-None
returns-in-None c =
    none_same c.args.tied.now c.in_ok-texts.texts c.in_ok-names.names c.in_ok-both.both c.in_ok-texts.ensures
    c.in_ok-names.ensures c.in_ok-both.ensures
    (subst (IsLeastOf (accepts c.in_ok-both.both)) c.in-None.is c.in_ok-found.ensures)

pub returns : goal.returns
returns c =
    some_same c.args.tied.now c.in_ok-texts.texts c.in_ok-names.names c.in_ok-both.both c.in_ok-texts.ensures
    c.in_ok-names.ensures c.in_ok-both.ensures c.in-Some._text
    (subst (IsLeastOf (accepts c.in_ok-both.both)) c.in-Some.is c.in_ok-found.ensures)
