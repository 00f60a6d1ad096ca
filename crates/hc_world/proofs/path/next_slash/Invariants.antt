use Rattle.hc_world.specs.Slashes.{HasNoSlash}
use Rattle.hc_world.proofs.path.next_slash.Given as goal

abbrev pub invariant-loop-i : goal.invariant-loop-i
invariant-loop-i l = HasNoSlash l.path l.from l.i
