use Rattle.std.proofs.Common.{◌≡◌, ◌++◌, length, string_bytes}
use denote.Shadow.{shadow}
use denote.Text.{Utf8}
use Rattle.hc_lines.specs.Logical.{unjoined}
use Rattle.hc_kept_lines.proofs.unjoin.without_joins.Given as goal

-- what was made, and what the rest gives
abbrev pub invariant-joins : goal.invariant-joins
invariant-joins l = shadow (Utf8 l.rest) × (string_bytes l.made ++ unjoined l.rest ≡ unjoined l.fn.text)

abbrev pub decreases-joins : goal.decreases-joins
decreases-joins l = length l.rest
