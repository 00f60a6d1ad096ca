-- How many bytes of texts a step looks at.
use Rattle.std.specs.Prelude.{ℕ, ◌+◌, ◌≤◌, sum_by, Result}
use Rattle.hc_base.specs.declared.fault.Fault.{Fault}
use Rattle.hc_htaccess.specs.Reading.{text_size}
use Rattle.hc_model.specs.Overrides.{IfMemory}
use Rattle.hc_model.specs.World.{World}
use Rattle.hc_model.specs.declared.read.Read.{Read}
use Rattle.hc_model.specs.declared.read.Read.TheVariants.{KindOf, NamesOf, TextOf}
use Rattle.hc_steps.specs.Run.{run}
use Rattle.hc_steps.specs.Shown.{shown_by}
use Rattle.hc_steps.specs.Step.{Step}

abbrev pub read_size : World → Read → ℕ
read_size world (KindOf path) = 0
read_size world (TextOf path) = text_size world path
read_size world (NamesOf path) = 0

-- Those of each text, each time that it is looked at.
unfoldable pub looked : {E A : Type 0} → World → Step E A → ℕ
looked world step = sum_by (read_size world) (run step (shown_by world)).reads

-- A counter has risen by no more, unless memory was refused.
unfoldable pub Costs : {R F E A : Type 0} → Result R (Fault F) → World → Step E A → ℕ → ℕ → Type 0
Costs result world step before after = IfMemory result (after ≤ before + looked world step)
