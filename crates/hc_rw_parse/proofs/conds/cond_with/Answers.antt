use Rattle.std.proofs.Common.{Ok, Err}
use Rattle.hc_rw_parse.specs.Rules.{cond_at, is_negated, kind_behind, nocase_of, without_sign}
use Rattle.hc_rw_parse.proofs.Joining.{made_of_three, pair, read_alike}
use Rattle.hc_rw_parse.proofs.conds.cond_with.Goals as goal

pub returns-in-Ok : goal.returns-in-Ok
returns-in-Ok c =
    let first = kind_behind c.args.test.now (nocase_of c.args.flags) (without_sign c.args.text.now) in
    let second = c.args.flags in
    let make = cond_at c.args.spot (is_negated c.args.text.now) in
    let kind = rw c.nocase_of.ensures at c.kind_behind-kind.ensures in
    let parts =
    read_alike _ (pair first second)
    (c.both-parts.ensures (λ x y. (x, y)) first second kind c.refused.ensures) in
    let whole = c.in-Ok.ensures (λ p z. make p.0 p.1 z) (pair first second) _ parts c.template_of.ensures in
    rw c.is_negated.ensures
    (made_of_three make first second _ (Ok (make c.in-Ok.parts.0 c.in-Ok.parts.1 c.in-Ok.test)) whole)

pub returns-in-Err : goal.returns-in-Err
returns-in-Err c =
    let first = kind_behind c.args.test.now (nocase_of c.args.flags) (without_sign c.args.text.now) in
    let second = c.args.flags in
    let make = cond_at c.args.spot (is_negated c.args.text.now) in
    let kind = rw c.nocase_of.ensures at c.kind_behind-kind.ensures in
    let parts =
    read_alike _ (pair first second)
    (c.both-parts.ensures (λ x y. (x, y)) first second kind c.refused.ensures) in
    let whole = c.in-Err.ensures (λ p z. make p.0 p.1 z) (pair first second) _ parts c.template_of.ensures in
    made_of_three make first second _ (Err c.in-Err.fault) whole
