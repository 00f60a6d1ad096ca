-- That a host is one of the configuration's has at most one proof, so that a value may carry it.
use Rattle.std.proofs.Props.{props}
use Rattle.hc_model.specs.declared.config.Config.{Config}
use Rattle.hc_model.specs.declared.config.HostId.{HostId}
use Rattle.hc_model.specs.declared.config.HostId.TheVariants.{Main, Nth}
use Rattle.hc_vhost.specs.Servers.{IsHostOf}

pub host_is_once : (config : Config) (host : HostId) → IsProp (IsHostOf config host)
host_is_once config Main = Prim.hlevel props
host_is_once config (Nth place) = Prim.hlevel props
