use Rattle.hc_abs_cuts.proofs.Common.{map, subst}
use Rattle.hc_merge.specs.CandidateView.{candidate_of}
use Rattle.hc_merge.specs.Overriding.{files_read}
use Rattle.hc_abs_force.specs.Forcing.{AreForced}
use Rattle.hc_abs_cuts.proofs.Forcing.{scene_in, sections_fit}
use Rattle.hc_abs_cuts.specs.Coded.{AreInForce}
use Rattle.hc_abs_cuts.proofs.sections.sectioned.Goals as goal

pub returns : goal.returns
returns g c =
    let ground = c.args.ground in
    let walk = c.args.walk.now in
    sections_fit ground c.args.dir.now c.caller.result c.requires.ground c.caller.ensures
    (map candidate_of c.in_ok-candidates.candidates.items) c.in_ok-forced.forced.items c.args.tied walk
    (files_read (g.O.Overrides.reading (g.O.Overrides.fixed c.args.over.now))) c.in_ok-found.found.items
    c.in_ok-candidates.ensures
    (subst (λ items. AreForced (scene_in ground c.caller.result) (map candidate_of items) c.args.tied
    c.in_ok-forced.forced.items) c.deref.ensures.value c.in_ok-forced.ensures.branches)
    (subst (λ items. AreInForce ground c.args.dir.now walk.kind (map candidate_of items) c.in_ok-forced.forced.items
    c.in_ok-found.found.items) c.deref-2.ensures.value c.in_ok-found.ensures)
