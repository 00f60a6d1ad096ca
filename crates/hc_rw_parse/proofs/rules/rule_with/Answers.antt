use Rattle.std.proofs.Common.{Ok, Err}
use Rattle.hc_pattern.specs.Reading.{parse_pattern}
use Rattle.hc_rw_parse.specs.Rules.{flags_of, is_negated, rule_at, without_sign}
use Rattle.hc_rw_parse.proofs.Joining.{made_of_three, pair, read_alike}
use Rattle.hc_rw_parse.proofs.rules.rule_with.Goals as goal

pub returns-in-Ok : goal.returns-in-Ok
returns-in-Ok c =
    let first = parse_pattern (without_sign c.args.pattern.now) c.args.flagged.nocase in
    let second = flags_of c.args.flagged in
    let make = rule_at c.args.spot (is_negated c.args.pattern.now) in
    let parts =
    read_alike _ (pair first second)
    (c.both-parts.ensures (λ x y. (x, y)) first second c.pattern_of-pattern_read.ensures c.flags_of.ensures) in
    let whole = c.in-Ok.ensures (λ p z. make p.0 p.1 z) (pair first second) _ parts c.substitution.ensures in
    rw (c.is_negated.ensures, c.new.ensures)
    (made_of_three make first second _ (Ok (make c.in-Ok.parts.0 c.in-Ok.parts.1 c.in-Ok.subst)) whole)

pub returns-in-Err : goal.returns-in-Err
returns-in-Err c =
    let first = parse_pattern (without_sign c.args.pattern.now) c.args.flagged.nocase in
    let second = flags_of c.args.flagged in
    let make = rule_at c.args.spot (is_negated c.args.pattern.now) in
    let parts =
    read_alike _ (pair first second)
    (c.both-parts.ensures (λ x y. (x, y)) first second c.pattern_of-pattern_read.ensures c.flags_of.ensures) in
    let whole = c.in-Err.ensures (λ p z. make p.0 p.1 z) (pair first second) _ parts c.substitution.ensures in
    made_of_three make first second _ (Err c.in-Err.fault) whole
