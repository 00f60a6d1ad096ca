use Rattle.std.proofs.Common.{◌≡◌, ◌++◌, drop, take}
use Rattle.hc_serve.specs.ServerRules.{component}
use Rattle.hc_serve.proofs.component.component.Given as goal

abbrev pub invariant-loop-place : goal.invariant-loop-place
invariant-loop-place l = take l.place l.text ++ component (drop l.place l.text) ≡ component l.text
