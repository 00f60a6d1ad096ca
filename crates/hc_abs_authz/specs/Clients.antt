-- What the clients of a network may answer to a test.
use Rattle.std.specs.Prelude.{◌≡◌, ℕ, ◌-◌, ◌%◌, ◌^◌, ◌<◌, ◌↔◌, Bool, true}
use Rattle.std.specs.Prelude.{false, ◌||◌, ◌⊎◌, not}
use Rattle.std.specs.Prelude.{bit_and, bit_or, bit_xor}
use Rattle.std.specs.Int.{bit_at}
use Rattle.hc_addr.specs.Networks.{holds_in}
use Rattle.hc_addr.specs.declared.addr.Addr.{Addr}
use Rattle.hc_addr.specs.declared.addr.Addr.TheVariants.{V4, V6}
use Rattle.hc_addr.specs.declared.net.Net.{Net}
use Rattle.hc_addr.specs.declared.sizes.TheConstants.{V4_BITS, V6_BITS}
use Rattle.hc_authz.specs.Values.{same_addr}
use Rattle.hc_abs_authz.specs.Admitting.{clients_of, fits}
use Rattle.hc_abs_authz.specs.declared.answers.Answers.{Answers}
use Rattle.hc_abs_authz.specs.declared.nets.TheConstants.{LOOPBACK_V4, LOOPBACK_V6}

-- Some client of the network makes a test say so.
abbrev pub ClientMay : Net → (Addr → Bool) → Bool → Type 0
ClientMay net test is = (client : Addr) × (clients_of net client ≡ true) × (test client ≡ is)

-- These are the answers that may be given.
pub record AreAnswers (May : Bool → Type 0) (found : Answers) : Type 0 where
  pub yes : (found.yes ≡ true) ↔ May true
  pub no : (found.no ≡ true) ↔ May false

-- ---- the clients that are looked at

-- The bits of the mask are the first number's, all others the second's.
abbrev pub mixed : ℕ → ℕ → ℕ → ℕ
mixed mask own rest = bit_or (bit_and own mask) (bit_and rest (2 ^ V6_BITS - 1 - mask))

abbrev pub client_by : ℕ → Addr → ℕ → Addr
client_by mask (V4 own) rest = V4 (mixed mask own rest % 2 ^ V4_BITS)
client_by mask (V6 own) rest = V6 (mixed mask own rest)

-- The client that has a number's bits where the network leaves them open.
abbrev pub client_with : Net → ℕ → Addr
client_with net rest = client_by net.mask net.addr rest

abbrev pub number_of : Addr → ℕ
number_of (V4 own) = own
number_of (V6 own) = own

-- Its number with each bit turned.
abbrev pub opposite_of : Addr → ℕ
opposite_of (V4 own) = 2 ^ V4_BITS - 1 - own
opposite_of (V6 own) = 2 ^ V6_BITS - 1 - own

-- The ranges of what a network is made of.
pub record IsNet (net : Net) : Type 0 where
  pub addr : fits net.addr ≡ true
  pub mask : net.mask < 2 ^ V6_BITS

-- ---- the machine itself

-- An address is of the machine itself where connections are made to this one.
abbrev pub is_local_to : Addr → Addr → Bool
is_local_to server client =
    holds_in LOOPBACK_V4 client || (holds_in LOOPBACK_V6 client || same_addr client server)

-- Its addresses of the same family.
abbrev pub loopback_of : Addr → Net
loopback_of (V4 own) = LOOPBACK_V4
loopback_of (V6 own) = LOOPBACK_V6

-- The lowest bit below the width that the mask leaves open, alone; no bit where it leaves none open.
abbrev pub IsLowestOpen : ℕ → ℕ → ℕ → Type 0
IsLowestOpen width mask bit =
    ((place : ℕ) × (place < width) × (bit_at mask place ≡ 0) × ((i : ℕ) → i < place → bit_at mask i ≡ 1)
    × (bit ≡ 2 ^ place))
    ⊎ (((i : ℕ) → i < width → bit_at mask i ≡ 1) × (bit ≡ 0))

abbrev pub width_of : Addr → ℕ
width_of (V4 own) = V4_BITS
width_of (V6 own) = V6_BITS

-- The address with these bits turned.
abbrev pub with_turned : Addr → ℕ → Addr
with_turned (V4 own) bits = V4 (bit_xor own bits % 2 ^ V4_BITS)
with_turned (V6 own) bits = V6 (bit_xor own bits)

-- The client that is the farthest from the machine's own addresses.
abbrev pub farthest_from_loopback : Net → Addr
farthest_from_loopback net = client_with net (opposite_of (loopback_of net.addr).addr)

-- Two clients, of which one isn't the machine itself if any isn't.
abbrev pub one_is_other : Addr → Addr → ℕ → Bool
one_is_other server far bits = not (is_local_to server far) || not (is_local_to server (with_turned far bits))

-- So answers code, which looks at two clients.
abbrev pub MayBeOther : Net → Addr → Bool → Type 0
MayBeOther net server found =
    (bits : ℕ) × IsLowestOpen (width_of net.addr) net.mask bits
    × (found ≡ one_is_other server (farthest_from_loopback net) bits)

-- Whether the network reaches one of the machine's own addresses.
abbrev pub reaches_local : Net → Addr → Bool
reaches_local net server =
    holds_in LOOPBACK_V4 (client_with net (number_of LOOPBACK_V4.addr))
    || (holds_in LOOPBACK_V6 (client_with net (number_of LOOPBACK_V6.addr)) || clients_of net server)
