use Rattle.hc_abs_map.proofs.Common.{None, Some, done, subst}
use Rattle.hc_alias.specs.Mapping.{redirects_of}
use Rattle.hc_vhost.specs.Servers.{servers_of}
use Rattle.hc_abs_pass.specs.Mapping.{redirects_plan, sent_away}
use Rattle.hc_abs_map.proofs.Along.{entries_more}
use Rattle.hc_abs_map.proofs.Going.{goes_to_end}
use Rattle.hc_abs_map.specs.Along.{AreOn}
use Rattle.hc_abs_map.specs.Entries.{GoesRedirects}
use Rattle.hc_abs_map.specs.Mapped.{RedirectedFits}
use Rattle.hc_abs_map.proofs.map.redirected_by.Goals as goal

pub returns : goal.returns
returns c =
    let config = c.args.config.now in
    let redirects = redirects_of (servers_of config c.args.host) in
    goes_to_end (AreOn RedirectedFits (Some c.args.tied)) (AreOn RedirectedFits c.in_ok-rest.rest)
    (redirects_plan Some redirects) (done None) c.new-found.result.items c.past_redirects-2.new.found.items
    c.add_untaken.new.found.items c.new-found.ensures.items
    (entries_more RedirectedFits (λ redirect. redirect.from) (sent_away Some) c.host_redirects-own.result.now redirects
    config.main.redirects (Some c.args.tied) c.in_ok-mid.mid c.in_ok-rest.rest c.new-found.result.items
    c.past_redirects.new.found.items c.past_redirects-2.new.found.items c.host_redirects-own.ensures c.in_ok-mid.ensures
    (subst (λ more. GoesRedirects more c.in_ok-mid.mid c.in_ok-rest.rest c.past_redirects.new.found.items
    c.past_redirects-2.new.found.items) c.as_slice.ensures c.in_ok-rest.ensures))
    c.in_ok-add_untaken.ensures
