-- Items in an order, each once.
use Rattle.std.specs.Prelude.{List, []}
use Rattle.std.specs.BTreeSet.{insert_key}
use Rattle.std.specs.List.{fold}
use Rattle.std.specs.declared.cmp.Ordering.{Ordering}
use Rattle.hc_model.specs.Reads.{read_cmp}
use Rattle.hc_model.specs.declared.read.Read.{Read}

-- The items put one after another into an ordered set.
abbrev pub ordered : {X : Type 0} → (X → X → Ordering) → List X → List X
ordered order items = fold (insert_key order) [] items

-- What was looked at, each once, in order.
abbrev pub each_once : List Read → List Read
each_once looked = ordered read_cmp looked
