use Rattle.std.proofs.Common.{◌≡◌, drop}
use Rattle.serde_json.specs.View.{items_view}
use Rattle.hc_json.specs.Claims.{all_methods}
use Rattle.hc_json.proofs.scope.all_methods.Given as goal

-- the values that are left decide
abbrev pub invariant-loop-value : goal.invariant-loop-value
invariant-loop-value l = all_methods (items_view (drop l.value-index l.values)) ≡ all_methods (items_view l.values)
