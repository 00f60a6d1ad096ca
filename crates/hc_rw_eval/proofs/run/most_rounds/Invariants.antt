use Rattle.hc_rw_eval.proofs.Common.{◌≡◌, drop}
use Rattle.std.proofs.Common.{max}
use Rattle.std.specs.List.{fold}
use Rattle.hc_rw_eval.proofs.run.most_rounds.Given as goal

abbrev pub invariant-loop-rule : goal.invariant-loop-rule
invariant-loop-rule l =
    fold (λ most rule. max most rule.flags.rounds) l.most (drop l.rule-index l.rules)
    ≡ fold (λ most rule. max most rule.flags.rounds) 1 l.rules
