use Rattle.hc_world.specs.Lines.{IsBehind}
use Rattle.hc_world.proofs.lines.after_lines.Given as goal

abbrev pub invariant-loop : goal.invariant-loop
invariant-loop l = IsBehind l.text l.counter l.at
