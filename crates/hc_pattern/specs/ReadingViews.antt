-- What the reading of `src/` is seen as.
use Rattle.std.specs.Prelude.{◌≡◌, ℕ, List, Option, Some}
use Rattle.hc_base.specs.declared.fault.AtByte.{AtByte}
use Rattle.hc_pattern.specs.Reading.{Before, nothing, something, quantifier}
use Rattle.hc_pattern.specs.declared.reading.Before.{Before as BeforeToken}
use Rattle.hc_pattern.specs.declared.reading.Before.TheVariants.{Nothing, Something, Quantifier}
use Rattle.hc_pattern.specs.declared.reading.AfterToken.{AfterToken}
use Rattle.hc_pattern.specs.declared.reading.AfterToken.TheVariants.{Refused, Behind}

abbrev pub before_view : BeforeToken → Before
before_view Nothing = nothing
before_view Something = something
before_view (Quantifier lazy) = quantifier lazy

-- The refusal that is wanted is this one, or the one that comes later, with these groups open.
abbrev pub NextIs : AfterToken → List ℕ → (List ℕ → Before → Option AtByte) → Option AtByte → Type 0
NextIs (Refused refusal) opened later wanted = wanted ≡ Some refusal
NextIs (Behind before) opened later wanted = wanted ≡ later opened (before_view before)
