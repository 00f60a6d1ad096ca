-- What code lends, as the definitions have it.
use Rattle.hc_ends.specs.Asking.{Site}
use Rattle.hc_ends.specs.declared.chains.Chains.{Chains}

abbrev pub site_of : Chains → Site
site_of chains =
    record { world = chains.world.now.files; config = chains.config.now; hosts = chains.hosts.now }
