use Rattle.hc_abs_map.proofs.Common.{Some, done}
use Rattle.hc_abs_pass.specs.Mapping.{named as in_hand}
use Rattle.hc_abs_map.proofs.Going.{goes_to_end}
use Rattle.hc_abs_map.proofs.Names.{tidy_fits}
use Rattle.hc_abs_map.specs.Along.{AreNamed}
use Rattle.hc_abs_map.specs.Mapped.{MappedFits}
use Rattle.hc_abs_map.specs.Names.{undotted_plan}
use Rattle.hc_abs_map.proofs.tidied.tidied_branches.Goals as goal

pub returns-clause-branches : goal.returns-clause-branches
returns-clause-branches c =
    tidy_fits MappedFits c.args.named c.in_ok-tidy.tidy (undotted_plan (done (in_hand c.args.aliased)))
    c.add_named.new.found.items c.in_ok-tidy.ensures
    (goes_to_end (AreNamed MappedFits (Some c.in_ok-tidy.tidy)) (AreNamed MappedFits c.in_ok-rest.rest) undotted_plan
    (done (in_hand c.args.aliased)) c.new-found.result.items c.past_dots.new.found.items c.add_named.new.found.items
    c.new-found.ensures.items c.in_ok-rest.ensures c.in_ok-add_named.ensures)
