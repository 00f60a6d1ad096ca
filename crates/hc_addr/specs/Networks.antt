-- Networks in text, and the addresses that a network holds. Apache manual, mod_authz_host, "Require ip".
use Rattle.std.specs.Prelude.{ℕ, ◌==◌, ◌+◌, ◌-◌, ◌*◌, ◌^◌, List, take, drop, Bool, false, Option}
use Rattle.std.specs.Prelude.{Some, None, Result, option_map, ok_or, bit_and, position, if◌then◌else◌}
use Rattle.std.specs.Option.{option_or}
use Rattle.hc_base.specs.Paths.{is_slash}
use Rattle.hc_addr.specs.declared.addr.Addr.{Addr}
use Rattle.hc_addr.specs.declared.addr.Addr.TheVariants.{V4, V6}
use Rattle.hc_addr.specs.declared.net.Net.{Net}
use Rattle.hc_addr.specs.declared.net.BadAddress.{BadAddress}
use Rattle.hc_addr.specs.declared.numbers.NumberRow.{NumberRow}
use Rattle.hc_addr.specs.declared.sizes.TheConstants.{BYTES, BYTE_BITS, BYTE_VALUES, V4_BITS, V6_BITS}
use Rattle.hc_addr.specs.Numbers.{at_most, decimal_of, dotted_of}
use Rattle.hc_addr.specs.Addresses.{addr_of, has_colon, v4_of, v6_of}

-- So many ones at the front of the width, and zeros after them.
abbrev pub front_mask : ℕ → ℕ → ℕ
front_mask width ones = 2 ^ width - 2 ^ (width - ones)

-- The network of one IPv6 address.
abbrev pub single_of : ℕ → Net
single_of a = record { addr = V6 a; mask = front_mask V6_BITS V6_BITS }

-- The bytes of an IPv4 address, or only the first of them, each with eight bits of the mask.
abbrev pub leading_of : NumberRow → Net
leading_of row =
    record {
      addr = V4 (row.value * BYTE_VALUES ^ (BYTES - row.count));
      mask = front_mask V4_BITS (BYTE_BITS * row.count);
    }

-- A network with no slash: an address, or the first bytes of an IPv4 address.
abbrev pub unmasked_of : List ℕ → Option Net
unmasked_of text = if has_colon text then option_map single_of (v6_of text) else option_map leading_of (dotted_of text)

-- A mask by how many ones are at its front, as a decimal number.
abbrev pub ones_of : ℕ → List ℕ → Option ℕ
ones_of width text = option_map (front_mask width) (at_most width (decimal_of text))

-- The mask of an address of this family: an IPv4 address, or a number of ones.
abbrev pub mask_of : Addr → List ℕ → Option ℕ
mask_of (V4 a) text = option_or (v4_of text) (ones_of V4_BITS text)
mask_of (V6 a) text = ones_of V6_BITS text

abbrev pub net_with : Addr → ℕ → Net
net_with addr mask = record { addr = addr; mask = mask }

-- An address, and the text of its mask.
abbrev pub masked_of : Option Addr → List ℕ → Option Net
masked_of None text = None
masked_of (Some addr) text = option_map (net_with addr) (mask_of addr text)

abbrev pub net_at : List ℕ → Option ℕ → Option Net
net_at text None = unmasked_of text
net_at text (Some at) = masked_of (addr_of (take at text)) (drop (at + 1) text)

abbrev pub bad_address : BadAddress
bad_address = record {}

-- A network, with a mask after its first slash, if it has one.
abbrev pub net_of : List ℕ → Result Net BadAddress
net_of text = ok_or (net_at text (position is_slash text)) bad_address

-- Two numbers are the same in the bits of the mask.
abbrev pub same_under : ℕ → ℕ → ℕ → Bool
same_under mask a b = bit_and a mask == bit_and b mask

-- An address of the network's family that is the network's own in the bits of the mask.
abbrev pub holds_at : ℕ → Addr → Addr → Bool
holds_at mask (V4 own) (V4 a) = same_under mask a own
holds_at mask (V6 own) (V6 a) = same_under mask a own
holds_at mask own a = false

abbrev pub holds_in : Net → Addr → Bool
holds_in net addr = holds_at net.mask net.addr addr
