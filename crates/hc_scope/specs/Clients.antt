-- The clients of a network.
use Rattle.std.specs.Prelude.{◌^◌, nat_lt, Bool, ◌&&◌}
use Rattle.hc_addr.specs.Networks.{holds_in}
use Rattle.hc_addr.specs.declared.addr.Addr.{Addr}
use Rattle.hc_addr.specs.declared.addr.Addr.TheVariants.{V4, V6}
use Rattle.hc_addr.specs.declared.net.Net.{Net}
use Rattle.hc_addr.specs.declared.sizes.TheConstants.{V4_BITS, V6_BITS}

-- The number of an address is one of its family's.
abbrev pub fits : Addr → Bool
fits (V4 own) = nat_lt own (2 ^ V4_BITS)
fits (V6 own) = nat_lt own (2 ^ V6_BITS)

abbrev pub clients_of : Net → Addr → Bool
clients_of net addr = fits addr && holds_in net addr
