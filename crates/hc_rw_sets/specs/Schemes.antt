-- Reading what stands before `://`.
use Rattle.std.specs.Prelude.{ℕ, ◌==◌, Bool, true, false, if◌then◌else◌}
use Rattle.std.specs.Char.{is_ascii_alphabetic}
use Rattle.hc_base.specs.Bytes.{colon}
use Rattle.hc_base.specs.Paths.{is_slash}
use Rattle.hc_rw_eval.specs.Locations.{is_scheme_byte}
use Rattle.hc_rw_sets.specs.declared.locations.Part.{Part}
use Rattle.hc_rw_sets.specs.declared.locations.Part.TheVariants.{Begin, Scheme, Colon, Slash, Whole, Other}

-- A letter, then bytes of a scheme, then `://`.
abbrev pub next_part : Part → ℕ → Part
next_part Begin byte = if is_ascii_alphabetic byte then Scheme else Other
next_part Scheme byte = if byte == colon then Colon else if is_scheme_byte byte then Scheme else Other
next_part Colon byte = if is_slash byte then Slash else Other
next_part Slash byte = if is_slash byte then Whole else Other
next_part Whole byte = Whole
next_part Other byte = Other

abbrev pub is_whole : Part → Bool
is_whole Begin = false
is_whole Scheme = false
is_whole Colon = false
is_whole Slash = false
is_whole Whole = true
is_whole Other = false
