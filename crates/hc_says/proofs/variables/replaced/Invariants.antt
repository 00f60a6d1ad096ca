use Rattle.std.proofs.Common.{◌≡◌, ◌++◌, length, string_bytes}
use denote.Text.{Utf8}
use denote.Shadow.{shadow}
use Rattle.hc_says.specs.Says.{value_of}
use Rattle.hc_says.specs.Variables.{replaced}
use Rattle.hc_says.proofs.variables.replaced.Given as goal

-- what was made so far, and the rest replaced
abbrev pub invariant-loop-chunk : goal.invariant-loop-chunk
invariant-loop-chunk l = shadow (Utf8 l.rest)
    × (replaced (value_of l.defines) l.text ≡ string_bytes l.made ++ replaced (value_of l.defines) l.rest)

abbrev pub decreases-loop-chunk : goal.decreases-loop-chunk
decreases-loop-chunk l = length l.rest
