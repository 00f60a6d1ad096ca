-- Which pass a segment leads to, and that the last pass leads to none.
use Rattle.std.specs.Prelude.{◌≡◌, ◌+◌}
use Rattle.hc_model.specs.declared.config.Config.{Config}
use Rattle.hc_model.specs.declared.request.Request.{Request}
use Rattle.hc_serve.specs.Request.{way}
use Rattle.hc_serve.specs.Segments.{Cut, at_pass, dir_round, segment, server_round}
use Rattle.hc_serve.specs.Site.{Site}
use Rattle.hc_serve.specs.declared.stage.Pass.{Pass}
use Rattle.hc_serve.specs.declared.stage.Restarted.{Restarted}
use Rattle.hc_steps.specs.Run as steps
use Rattle.hc_steps.specs.Run.{goes_on}
use Rattle.hc_steps.specs.Step.{Shown}

-- The pass that the segment behind a cut is of.
abbrev pub pass_at : Cut → Pass
pass_at (at_pass left) = left.pass
pass_at (server_round pass round next) = pass
pass_at (dir_round here dir round next) = here.named.pass

-- The next pass, or a further round of the same one, which began with the same query.
abbrev pub Follows : Pass → Cut → Type 0
Follows pass (at_pass left) = left.pass.number ≡ pass.number + 1
Follows pass (server_round own round next) = own ≡ pass
Follows pass (dir_round here dir round next) =
    (here.named.pass.number ≡ pass.number) × (here.named.pass.first_query ≡ pass.first_query)

-- So passes are counted, and whether one is the last is known behind each segment.
abbrev pub SegmentsCount : Type 0
SegmentsCount = (site : Site) (cut next : Cut) (shown : Shown)
    → (steps.run (segment site cut) shown).way ≡ goes_on next → Follows (pass_at cut) next

-- No pass is left over behind as many as a request may have.
abbrev pub NoneIsLeft : Type 0
NoneIsLeft = (config : Config) (request : Request) (shown : Shown) (left : Restarted)
    → (steps.run (way config request) shown).way ≡ goes_on left → ⊥
