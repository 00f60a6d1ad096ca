use Rattle.std.proofs.Common.{◌≡◌}
use Rattle.hc_rw_expand.specs.Variables.{renamed, renamed_onto}
use Rattle.hc_rw_expand.proofs.variables.renamed_in.Given as goal

-- what was set anew, and what is left to set
abbrev pub invariant-loop-name : goal.invariant-loop-name
invariant-loop-name l = renamed_onto l.front l.renamed l.name-iterator ≡ renamed l.front l.fn.by_name.entries
