use Rattle.std.proofs.Common.{◌∙◌, sym}
use Rattle.hc_abs_authz.proofs.MethodSets.{own_set, with_gets}
use Rattle.hc_abs_authz.proofs.methods.method_set.Goals as goal

pub returns-then-not-has_get : goal.returns-then-not-has_get
returns-then-not-has_get c = own_set c.args.names.now c.in_ok-own.own c.in_ok-own.ensures
    (sym c.has_get.ensures ∙ c.if-not-has_get.true)

pub returns : goal.returns
returns c =
    with_gets c.args.names.now c.in_ok-own.own c.in_ok-both.both c.in_ok-made.made c.in_ok-own.ensures
    c.in_ok-both.ensures c.in_ok-made.ensures (sym c.has_get.ensures ∙ c.if-not-has_get.false)
