use Rattle.std.proofs.lemmas.Result.{IfOk-weaker}
use Rattle.hc_vhost.specs.Servers.{servers_of}
use Rattle.hc_abs_map.proofs.Behind.{mapped_fit}
use Rattle.hc_abs_map.proofs.map.mapped.Goals as goal

pub returns : goal.returns
returns c =
    IfOk-weaker c.all_behind.result _ _ (λ found.
    mapped_fit (servers_of c.args.config.now c.args.host) c.args.tied c.in_ok-redirected.redirected.items found.items
    c.in_ok-redirected.ensures) c.all_behind.ensures
