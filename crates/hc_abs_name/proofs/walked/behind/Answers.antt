use Rattle.hc_abs_name.proofs.Common.{◌∙◌, ap, subst}
use Rattle.hc_htaccess.specs.Reading.{reading_in}
use Rattle.hc_merge.specs.Overriding.{files_read, wanted_by}
use Rattle.hc_abs_left.specs.Grounds.{world_in}
use Rattle.hc_abs_name.proofs.Walking.{force_behind, refused_behind}
use Rattle.hc_abs_name.specs.Forced.{AreFromSections}
use Rattle.hc_abs_name.specs.Reading.{first_refused}
use Rattle.hc_abs_name.proofs.walked.behind.Goals as goal

pub returns-in-Some-clause-branches : goal.returns-in-Some-clause-branches
returns-in-Some-clause-branches g c =
    let ground = c.args.ground in
    refused_behind ground c.args.decisions.now c.args.one c.args.aliased c.in_ok-refused.refused
    (c.in_ok-refused.ensures.refusal
    ∙ ap (λ reading. first_refused reading
    (wanted_by ground.config.now ground.host c.walk_to-walk.result.dirs)) c.requires.over.0
    ∙ ap (λ dirs. first_refused (reading_in (world_in ground) ground.config.now)
    (wanted_by ground.config.now ground.host dirs)) c.walk_to-walk.ensures.dirs)
    c.in-Some.refusal c.in_ok-found-in-Some.found.items c.in-Some.is c.in_ok-found-in-Some.ensures

pub returns-clause-branches : goal.returns-clause-branches
returns-clause-branches g c =
    let ground = c.args.ground in
    let walk = c.walk_to-walk.result in
    force_behind ground c.args.decisions.now c.args.one c.args.aliased c.in_ok-refused.refused
    (c.in_ok-refused.ensures.refusal
    ∙ ap (λ reading. first_refused reading (wanted_by ground.config.now ground.host walk.dirs)) c.requires.over.0
    ∙ ap (λ dirs. first_refused (reading_in (world_in ground) ground.config.now)
    (wanted_by ground.config.now ground.host dirs)) c.walk_to-walk.ensures.dirs)
    walk c.in_ok-found-in-None.found.items c.in-None.is c.walk_to-walk.ensures.kind c.walk_to-walk.ensures.dirs
    (subst (λ reading. AreFromSections ground c.args.decisions.now c.args.aliased walk (files_read reading)
    c.args.one.tied c.in_ok-found-in-None.found.items)
    (ap g.O.Overrides.reading c.refused_at.ensures.over.0 ∙ c.requires.over.0) c.in_ok-found-in-None.ensures)
