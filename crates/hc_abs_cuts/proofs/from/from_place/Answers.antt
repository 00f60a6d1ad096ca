use Rattle.hc_abs_cuts.proofs.Common.{refl, ap, true}
use Rattle.hc_abs_left.specs.declared.ground.Settings.{Settings}
use Rattle.hc_model.specs.declared.section.Effective.{Effective}
use Rattle.hc_abs_cuts.proofs.Going.{place_fits}
use Rattle.hc_abs_cuts.proofs.from.from_place.Goals as goal

pub returns : goal.returns
returns c =
    place_fits c.args.ground c.args.dir.now c.args.place c.in_ok-other.other _ _ c.in_ok-found.found.items
    c.in_ok-more.more.items c.append.new.self.items c.in_ok-other.ensures refl
    (ap (λ (force : Effective). record { force = force; aliased = true; kind = c.args.place.kind })
    c.in_ok-clone.ensures.cases) c.in_ok-append.ensures.items c.in_ok-found.ensures c.in_ok-more.ensures
