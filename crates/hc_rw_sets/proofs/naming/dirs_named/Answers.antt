use Rattle.hc_rw_sets.proofs.Common.{◌∙◌, ap}
use Rattle.hc_dfa.specs.Singles.{is_among}
use Rattle.hc_base.specs.Paths.{merge_slashes}
use Rattle.hc_rw_sets.proofs.Named.{dirs_are}
use Rattle.hc_rw_sets.proofs.naming.dirs_named.Goals as goal

pub returns : goal.returns
returns c text bytes =
    c.in_ok-made.ensures text bytes
    ∙ ap (λ paths. is_among paths (merge_slashes text)) (c.deref.ensures.value ∙ c.in_ok-both.ensures)
    ∙ dirs_are c.args.paths.now c.requires text
