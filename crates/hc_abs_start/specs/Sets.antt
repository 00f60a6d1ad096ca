-- Texts that are read byte by byte.
use Rattle.std.specs.Prelude.{ℕ, ◌==◌, Bool, true, false, if◌then◌else◌}
use Rattle.hc_base.specs.Bytes.{dot}
use Rattle.hc_base.specs.Paths.{is_slash}
use Rattle.hc_forms.specs.Forms.{is_target_byte, is_value_byte}
use Rattle.hc_target.specs.Segments.{is_plain}
use Rattle.hc_abs_start.specs.declared.bytes.Bytes.{Bytes}
use Rattle.hc_abs_start.specs.declared.bytes.Bytes.TheVariants.{Plain, Target, Value}
use Rattle.hc_abs_start.specs.declared.clean.Spot.{Spot}
use Rattle.hc_abs_start.specs.declared.clean.Spot.TheVariants.{Start, Slash, Dot, Dots, Name, Other}

-- A byte of the kind.
abbrev pub is_of : Bytes → ℕ → Bool
is_of Plain = is_plain
is_of Target = is_target_byte
is_of Value = is_value_byte

-- Behind a slash and dots, by what one more dot makes.
abbrev pub behind_dots : Spot → ℕ → Spot
behind_dots more byte = if is_slash byte then Other else if byte == dot then more else Name

abbrev pub next_spot : Spot → ℕ → Spot
next_spot Start byte = if is_slash byte then Slash else Other
next_spot Slash byte = behind_dots Dot byte
next_spot Dot byte = behind_dots Dots byte
next_spot Dots byte = if is_slash byte then Other else Name
next_spot Name byte = if is_slash byte then Slash else Name
next_spot Other byte = Other

abbrev pub ends_clean : Spot → Bool
ends_clean Start = false
ends_clean Slash = true
ends_clean Dot = false
ends_clean Dots = false
ends_clean Name = true
ends_clean Other = false
