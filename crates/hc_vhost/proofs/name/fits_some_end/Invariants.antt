use Rattle.std.proofs.Common.{◌≡◌, ◌+◌, length}
use Rattle.hc_vhost.specs.Names.{any_bytes, fits}
use Rattle.hc_vhost.proofs.name.fits_some_end.Given as goal

abbrev pub invariant-loop-behind : goal.invariant-loop-behind
invariant-loop-behind l = any_bytes (fits l.fn.alias) l.fn.name ≡ any_bytes (fits l.alias) l.name

abbrev pub decreases-loop-behind : goal.decreases-loop-behind
decreases-loop-behind l = length l.alias + length l.name
