use Rattle.std.proofs.Common.{◌∙◌}
use Rattle.std.specs.List.{AllZip}
use Rattle.hc_cache.proofs.Copies.{IsCopy, all_same, same_entry}
use Rattle.hc_cache.specs.Views.{in_order}
use Rattle.hc_cache.proofs.cache.Cache.copy.Goals as goal

pub returns : goal.returns
returns g c =
    let old = c.self.inside.ring.entries in
    let new = c.in_ok-clone.field-0.entries in
    let copied : AllZip (IsCopy g.K.Clone.is_clone g.V.Clone.is_clone) old new = c.in_ok-clone.ensures.cases in
    let same =
    all_same (IsCopy g.K.Clone.is_clone g.V.Clone.is_clone)
    (same_entry g.K.Clone.is_clone g.V.Clone.is_clone c.requires.keys c.requires.values) old new copied in
    (λ i. record { limit = c.self.inside.limit; entries = in_order c.self.inside.oldest (same i) }) ∙ c.self.view_is
