use Rattle.std.proofs.Common.{◌≡◌, ◌++◌, drop}
use Rattle.serde_json.specs.View.{items_view}
use Rattle.hc_json.specs.Claims.{methods_of}
use Rattle.hc_json.proofs.scope.texts_of.Given as goal

-- the texts that were made, and those of the values that are left, are all
abbrev pub invariant-loop-value : goal.invariant-loop-value
invariant-loop-value l = l.texts ++ methods_of (items_view (drop l.value-index l.values)) ≡ methods_of (items_view l.values)
