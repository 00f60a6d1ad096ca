-- A counter that rises twice.
use Rattle.hc_include.proofs.Common.{ℕ, Result, Ok, Err, arith, Fault, NoMemory, Refused, Reading, Stopped}
use Rattle.hc_include.specs.Counting.{Counts, Rose}

pub rose_then : (a b c x y z : ℕ) → Rose a b x y → Rose b c y z → Rose a c x z
rose_then a b c x y z one two =
    record { same = omega (arith, one.same, two.same); rise = omega (arith, one.rise, two.rise) }

pub counts_then : (r : Result Reading (Fault Stopped)) (a b x y : ℕ) → Rose a b x y → Counts r b b y
    → Counts r a b x
counts_then (Ok reading) a b x y one two = rose_then a b b x y reading.bytes one two
counts_then (Err (Refused stopped)) a b x y one two = rose_then a b b x y stopped.reading.bytes one two
counts_then (Err NoMemory) a b x y one two = one.rise
