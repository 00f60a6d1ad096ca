use Rattle.hc_serve.proofs.Common.{◌≡◌}
use Rattle.std.proofs.Common.{take}
use Rattle.hc_model.specs.Joined.{required_by}
use Rattle.hc_serve.specs.Needs.{needs_of}
use Rattle.hc_serve.proofs.needs.places_of.Given as goal

abbrev pub invariant-loop-join : goal.invariant-loop-join
invariant-loop-join l = l.list ≡ needs_of (required_by (take l.join-index l.joins))
