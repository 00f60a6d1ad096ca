use Rattle.hc_abs_map.proofs.Common.{◌∙◌, subst}
use Rattle.hc_dfa.specs.Built.{Accepts}
use Rattle.hc_dfa.specs.Singles.{is_among}
use Rattle.hc_abs_map.proofs.Components.{stand_there}
use Rattle.hc_abs_map.proofs.first.paths_there.Goals as goal

pub returns : goal.returns
returns c =
    stand_there c.args.world.now.files c.in_ok-one.one c.in_ok-other.other c.in_ok-made.made
    (subst (λ paths. Accepts c.in_ok-one.one (is_among paths)) (c.as_slice.ensures ∙ c.in_ok-files.ensures.paths)
    c.in_ok-one.ensures)
    (subst (λ paths. Accepts c.in_ok-other.other (is_among paths)) (c.as_slice-2.ensures ∙ c.in_ok-dirs.ensures.paths)
    c.in_ok-other.ensures) c.in_ok-made.ensures
