-- The texts that are an address of a network.
use Rattle.std.specs.Prelude.{Bool, false, Option, Some, None}
use Rattle.hc_addr.specs.Addresses.{addr_of}
use Rattle.hc_addr.specs.Networks.{holds_in}
use Rattle.hc_addr.specs.declared.addr.Addr.{Addr}
use Rattle.hc_addr.specs.declared.net.Net.{Net}
use Rattle.hc_dfa.specs.Texts.{TextSet}

-- The address is one of the network.
abbrev pub is_in : Net → Option Addr → Bool
is_in net None = false
is_in net (Some addr) = holds_in net addr

-- The text is an address of the network.
abbrev pub in_network : Net → TextSet
in_network net text = is_in net (addr_of text)
