use Rattle.hc_abs_cuts.proofs.Common.{◌∙◌, ap, map, refl, sym}
use Rattle.hc_merge.specs.CandidateView.{candidate_of}
use Rattle.hc_merge.specs.Settings.{merged}
use Rattle.hc_abs_force.specs.Forcing.{marked}
use Rattle.hc_abs_cuts.proofs.Forcing.{others_added, own_added}
use Rattle.hc_abs_cuts.proofs.sections.add_in_force.Goals as goal

pub returns-then-not-is_list_of : goal.returns-then-not-is_list_of
returns-then-not-is_list_of c =
    let ground = c.args.ground in
    let candidates = map candidate_of c.args.candidates.now in
    others_added ground c.args.dir.now c.args.kind candidates c.args.one c.in_ok-force.force
    (c.in_ok-force.ensures
    ∙ ap (merged ground.config.now ground.host)
    (ap (map candidate_of) c.deref-2.ensures.value ∙ c.in_ok-kept.ensures
    ∙ ap (λ marks. marked marks candidates) c.deref.ensures.value))
    c.args.found.now.items (sym c.is_list_of.ensures ∙ c.if-not-is_list_of.true)

pub returns : goal.returns
returns c =
    let ground = c.args.ground in
    let candidates = map candidate_of c.args.candidates.now in
    own_added ground c.args.dir.now c.args.kind candidates c.args.one c.in_ok-force.force
    (c.in_ok-force.ensures
    ∙ ap (merged ground.config.now ground.host)
    (ap (map candidate_of) c.deref-2.ensures.value ∙ c.in_ok-kept.ensures
    ∙ ap (λ marks. marked marks candidates) c.deref.ensures.value))
    c.args.found.now.items c.push.new.self.items
    (record { tied = c.args.one.tied; force = c.in_ok-force.force; kind = c.args.kind })
    (sym c.is_list_of.ensures ∙ c.if-not-is_list_of.false) refl refl refl c.in_ok-push.ensures.items
