use Rattle.std.proofs.Common.{rules, ◌≡◌, ◌++◌, [], ◌∷◌}
use Rattle.hc_base.specs.Bytes.{slash}
use Rattle.hc_rw_sets.proofs.Joins.{made_alike}
use Rattle.hc_rw_sets.proofs.Placing.{root_off}
use Rattle.hc_rw_sets.proofs.paths.without_root.Goals as goal

pub returns : goal.returns
returns c =
    let front : c.deref.result.now ≡ c.in-Some.root.now ++ slash ∷ [] = search rules in
    rw c.in-Some.is (made_alike _ _ _ _ (root_off c.in-Some.root.now) (rw front at c.in_ok-made.ensures))
