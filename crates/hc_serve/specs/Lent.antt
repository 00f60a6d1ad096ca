-- What is lent to read the `.htaccess` files of a world by, and how it comes back.
use denote.Triple.Both.{Both}
use Rattle.std.specs.Prelude.{◌≡◌, ℕ, List, Result}
use Rattle.std.specs.Borrow.{MutBor}
use Rattle.hc_base.specs.declared.fault.Fault.{Fault}
use Rattle.hc_htaccess.specs.Reading.{reading_in, size_in}
use Rattle.hc_model.specs.Overrides.{Kept, Loaded, Reading}
use Rattle.hc_model.specs.World.{World}
use Rattle.hc_model.specs.declared.config.Config.{Config}
use Rattle.hc_serve.specs.Costs.{Costs}
use Rattle.hc_steps.specs.Step.{Step}

-- It reads what the files give under the configuration, and knows their sizes.
abbrev pub Lends : {F : Type 0} → (F → Reading) → (F → List ℕ → ℕ) → F → World → Config → Type 0
Lends reading size fixed files config = (reading fixed ≡ reading_in files config) × (size fixed ≡ size_in files)

-- It comes back as it was, with all that was loaded.
abbrev pub Returns : {O F : Type 0} → (O → F) → (O → List Loaded) → Both (MutBor O) (MutBor O) → Type 0
Returns fixed loaded over =
    (fixed over.exit.now ≡ fixed over.entry.now) × Kept (loaded over.entry.now) (loaded over.exit.now)

-- Its counter has risen by no more bytes than the step looks at, unless memory was refused.
abbrev pub Counts : {O R F E A : Type 0} → Result R (Fault F) → World → Step E A → (O → ℕ)
    → Both (MutBor O) (MutBor O)
    → Type 0
Counts result files step counted over = Costs result files step (counted over.entry.now) (counted over.exit.now)
