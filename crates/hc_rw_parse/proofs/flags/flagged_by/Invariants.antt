use Rattle.std.proofs.Common.{◌≡◌, map}
use Rattle.std.specs.List.{fold}
use Rattle.hc_rw_parse.specs.RuleFlags.{nothing_flagged, with_text}
use Rattle.hc_rw_parse.proofs.flags.flagged_by.Given as goal

abbrev pub invariant-loop-text : goal.invariant-loop-text
invariant-loop-text l = l.flagged ≡ fold with_text nothing_flagged (map (λ text. text.now) l.yielded)
