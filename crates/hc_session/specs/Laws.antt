-- What holds of all answers of a session. Our own choice.
use Rattle.std.specs.Prelude.{◌≡◌, Ok}
use Rattle.hc_kept.specs.Site.{configuration}
use Rattle.hc_model.specs.World.{World}
use Rattle.hc_model.specs.declared.config.Config.{Config}
use Rattle.hc_model.specs.declared.request.Request.{Request}
use Rattle.hc_session.specs.Session.{answer_of}
use Rattle.hc_steps.specs.Laws.{AgreeOn}
use Rattle.hc_steps.specs.Shown.{shown_by}
use Rattle.hc_steps.specs.Step.{Path}

-- A world that shows the same at each read of an answer has the same configuration, and gives the same answer.
abbrev pub AnswersRestOnTheirReads : Type 0
AnswersRestOnTheirReads =
    (one other : World) (main : Path) (config : Config) (request : Request) → configuration one main ≡ Ok config
    → AgreeOn (shown_by one) (shown_by other) (answer_of one config request).reads
    → (configuration other main ≡ Ok config) × (answer_of other config request ≡ answer_of one config request)
