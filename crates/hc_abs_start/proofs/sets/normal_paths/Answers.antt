use Rattle.std.specs.List.{list_all}
use Rattle.hc_base.specs.Paths.{is_clean}
use Rattle.hc_target.specs.Segments.{is_plain}
use Rattle.hc_abs_start.proofs.Products.{both_sets}
use Rattle.hc_abs_start.proofs.sets.normal_paths.Goals as goal

pub returns : goal.returns
returns c =
    both_sets c.in_ok-clean.clean c.in_ok-plain.plain c.in_ok-made.made is_clean (list_all is_plain)
    c.in_ok-clean.ensures c.in_ok-plain.ensures c.in_ok-made.ensures
