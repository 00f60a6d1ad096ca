-- Addresses as they are printed. Our own choice.
use Rattle.std.specs.Prelude.{◌≡◌, ℕ, zero, suc, ◌/◌, ◌%◌, ◌^◌, ◌<◌, List, [], ◌∷◌}
use Rattle.std.specs.Prelude.{◌++◌, map, false, Some}
use Rattle.std.specs.Fmt.{decimal, digits}
use Rattle.std.specs.List.{join_with_byte}
use Rattle.hc_base.specs.Bytes.{colon, dot}
use Rattle.hc_addr.specs.declared.addr.Addr.{Addr}
use Rattle.hc_addr.specs.declared.addr.Addr.TheVariants.{V4, V6}
use Rattle.hc_addr.specs.declared.sizes.TheConstants.{BYTES, BYTE_VALUES, GROUPS, GROUP_VALUES, HEXADECIMAL, V4_BITS}
use Rattle.hc_addr.specs.declared.sizes.TheConstants.{V6_BITS}
use Rattle.hc_addr.specs.Addresses.{addr_of}

-- The last digits of a number in a base, so many of them, the highest first.
abbrev pub last_digits : ℕ → ℕ → ℕ → List ℕ
last_digits base zero n = []
last_digits base (suc count) n = last_digits base count (n / base) ++ (n % base ∷ [])

-- A number in lower-case hexadecimal digits, without leading zeros.
abbrev pub hexadecimal : ℕ → List ℕ
hexadecimal n = digits HEXADECIMAL false n

-- IPv4 as four decimal numbers, and IPv6 as eight groups with no `::`.
abbrev pub printed : Addr → List ℕ
printed (V4 a) = join_with_byte dot (map decimal (last_digits BYTE_VALUES BYTES a))
printed (V6 a) = join_with_byte colon (map hexadecimal (last_digits GROUP_VALUES GROUPS a))

-- The address is a number of its family.
abbrev pub Fits : Addr → Type 0
Fits (V4 a) = a < 2 ^ V4_BITS
Fits (V6 a) = a < 2 ^ V6_BITS

-- An address as it is printed is read back.
abbrev pub IsReadBack : Addr → Type 0
IsReadBack addr = Fits addr → addr_of (printed addr) ≡ Some addr
