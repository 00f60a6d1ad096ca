use Rattle.std.proofs.Common.{refl}
use Rattle.hc_ends.specs.Lending.{site_of}
use Rattle.hc_ends.proofs.Closing.{at_limit, known_ends, too_many_ends}
use Rattle.hc_ends.proofs.deciding.bad_ends.Goals as goal

pub returns-in-Err-Refused-clause-bad : goal.returns-in-Err-Refused-clause-bad
returns-in-Err-Refused-clause-bad g c =
    too_many_ends (site_of c.args.chains) c.args.scope.now _ (record { decisions = refl; first = refl })
    (record { bad = c.new.result; left = c.args.limit }) c.add_chains.new.found c.in-Err-Refused.field-0
    c.in-Err-Refused.field-0-0 c.in-Err-Refused.field-0-is
    c.in-Err-Refused.ensures.found

pub returns-in-Ok-clause-bad : goal.returns-in-Ok-clause-bad
returns-in-Ok-clause-bad g c =
    at_limit (site_of c.args.chains) c.args.scope.now _ (record { decisions = refl; first = refl })
    (record { bad = c.new.result; left = c.args.limit }) c.add_chains.new.found c.in-Ok.field-0 c.in-Ok.ensures.found
    c.if-found-eq0.true

pub returns-clause-bad : goal.returns-clause-bad
returns-clause-bad g c =
    known_ends (site_of c.args.chains) c.args.scope.now _ (record { decisions = refl; first = refl })
    (record { bad = c.new.result; left = c.args.limit }) c.add_chains.new.found c.in-Ok.field-0 c.in-Ok.ensures.found
    c.if-found-eq0.false c.new.ensures.items
