use Rattle.hc_serve.proofs.Common.{◌≡◌, ◌+◌, ◌≤◌, passes, Leads, run}
use Rattle.hc_model.specs.Overrides.{Kept}
use Rattle.hc_serve.specs.Costs.{looked}
use Rattle.hc_serve.specs.Site.{site_of}
use Rattle.hc_steps.specs.Shown.{shown_by}
use Rattle.hc_serve.proofs.Costs.{left_to_look}
use Rattle.hc_serve.proofs.Passes.{left}
use Rattle.hc_serve.proofs.way.passes.Given as goal

abbrev pub invariant-loop-turn : goal.invariant-loop-turn
invariant-loop-turn g l =
    Leads l.fn.log (run (passes l.most (site_of l.asked) l.fn.first) (shown_by l.asked.world.now.files))
    l.log (left l.most l._turn (site_of l.asked) (shown_by l.asked.world.now.files) l.left)
    × (g.O.Overrides.fixed l.over ≡ g.O.Overrides.fixed l.initial.over)
    × Kept (g.O.Overrides.loaded l.initial.over) (g.O.Overrides.loaded l.over)
    × (g.O.Overrides.counted l.over + left_to_look l.asked.world.now.files (site_of l.asked) l.most l._turn l.left
    ≤ g.O.Overrides.counted l.initial.over + looked l.asked.world.now.files
    (passes l.most (site_of l.asked) l.fn.first))
