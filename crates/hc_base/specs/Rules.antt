-- Rules that are broken, and where.
use Rattle.std.specs.Prelude.{ℕ, []}
use Rattle.hc_base.specs.declared.fault.AtByte.{AtByte}
use Rattle.hc_base.specs.declared.place.Place.{Place}
use Rattle.hc_base.specs.declared.place.Refusal.{Refusal}

-- A rule that no byte of a pattern breaks.
abbrev pub rule : ℕ → AtByte
rule code = record { code = code; at = 0 }

-- A rule that is broken at a place. It names no field.
abbrev pub refusal_at : Place → AtByte → Refusal
refusal_at place broken = record { place = place; code = broken.code; at = broken.at; field = [] }
