use Rattle.hc_abs_map.proofs.Common.{take}
use Rattle.hc_abs_map.specs.Aliases.{GoesAliases}
use Rattle.hc_abs_map.proofs.aliases.past_aliases.Given as goal

abbrev pub invariant-loop-alias : goal.invariant-loop-alias
invariant-loop-alias l =
    GoesAliases (take l.alias-index l.aliases) l.fn.before l.rest l.fn.found.items l.found.items
