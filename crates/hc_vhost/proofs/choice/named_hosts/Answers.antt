use Rattle.std.proofs.Common.{arith, sym}
use Rattle.std.proofs.lemmas.List.{take_all}
use Rattle.hc_vhost.specs.declared.choice.TheConstants.{MOST_HOSTS}
use Rattle.hc_vhost.proofs.choice.named_hosts.Goals as goal

pub returns-else-hosts-gt-MOST_HOSTS-clause-value : goal.returns-else-hosts-gt-MOST_HOSTS-clause-value
returns-else-hosts-gt-MOST_HOSTS-clause-value c =
    sym (take_all MOST_HOSTS c.args.hosts.now (omega (arith, c.if-hosts-gt-MOST_HOSTS.false)))
