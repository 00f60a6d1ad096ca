use Rattle.hc_abs_map.proofs.Common.{Some}
use Rattle.hc_abs_pass.specs.Mapping.{sent_away}
use Rattle.hc_abs_map.proofs.Along.{entry_goes}
use Rattle.hc_abs_map.specs.Mapped.{RedirectedFits}
use Rattle.hc_abs_map.proofs.redirects.past_redirect.Goals as goal

pub returns : goal.returns
returns c =
    entry_goes RedirectedFits (λ redirect. redirect.from) (sent_away Some) c.args.redirect.now c.args.before
    c.tied_on.result c.in-Some.tied c.in_ok-ways.ways c.args.found.now.items c.add_sent.new.found.items c.in-Some.is
    c.in_ok-ways.ensures c.in_ok-add_sent.ensures c.tied_on.ensures
