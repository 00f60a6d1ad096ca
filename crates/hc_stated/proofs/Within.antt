-- Where sets may stand within each other, one less may within the outermost.
use Rattle.std.proofs.Common.{◌≡◌, ℕ, zero, suc, ◌-◌, ◌<◌, arith, refl}
use Rattle.std.specs.Prelude.{option_and_then}
use Rattle.serde_json.specs.Data.{Data}
use Rattle.serde_json.specs.Find.{as_object}
use Rattle.hc_stated.specs.Shapes.{set_with, set_within, sole}

pub within : (room : ℕ) → 0 < room → (d : Data)
    → set_within room d ≡ option_and_then (set_with (set_within (room - 1))) (option_and_then sole (as_object d))
within zero some d = absurd (omega (arith, some))
within (suc room) some d = let less : suc room - 1 ≡ room = omega arith in rw less refl
