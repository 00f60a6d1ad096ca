-- A set of bytes, by a bit for each byte.
use Rattle.std.specs.Prelude.{◌≡◌, ◌<◌, ℕ, zero, suc, ◌+◌, ◌-◌, ◌^◌, ◌==◌, Bool}
use Rattle.std.specs.Prelude.{if◌then◌else◌, nat_lt}
use Rattle.std.specs.Int.{bit_at}
use Rattle.hc_pattern.specs.declared.set.ByteSet.{ByteSet}

-- The bit of this place is set. The lowest has the place 0.
abbrev pub has_bit : ℕ → ℕ → Bool
has_bit bits place = bit_at bits place == 1

-- The byte is in the set. Bytes from 128 on have their bits in `high`.
abbrev pub has_byte : ByteSet → ℕ → Bool
has_byte set byte = if nat_lt byte 128 then has_bit set.low byte else has_bit set.high (byte - 128)

-- The bits of the places below one that meet a test.
unfoldable pub bits_where : (ℕ → Bool) → ℕ → ℕ
bits_where test zero = 0
bits_where test (suc place) = if test place then 2 ^ place + bits_where test place else bits_where test place

-- The bytes that meet a test.
abbrev pub set_where : (ℕ → Bool) → ByteSet
set_where test = record { low = bits_where test 128; high = bits_where (λ place. test (place + 128)) 128 }

-- The set has just the bytes that meet the test.
abbrev pub IsTested : ByteSet → (ℕ → Bool) → Type 0
IsTested set test = (byte : ℕ) → byte < 256 → has_byte set byte ≡ test byte

-- What a test of bytes answers is this.
abbrev pub IsTest : (ℕ → Bool → Type 0) → (ℕ → Bool) → Type 0
IsTest answers wanted = (byte : ℕ) (met : Bool) → byte < 256 → answers byte met → met ≡ wanted byte
