use Rattle.std.proofs.Common.{rules}
use Rattle.hc_named.proofs.Finding.{are_names, rules_behind}
use Rattle.hc_named.proofs.names.names_in.Goals as goal

pub returns-clause-names : goal.returns-clause-names
returns-clause-names g c = are_names _ _ _ c.in_ok-names.ensures (search (rules, rules_behind))
