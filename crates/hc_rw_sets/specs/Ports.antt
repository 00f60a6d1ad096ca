-- Reading what stands behind a server's name: a colon and its port, or nothing.
use Rattle.std.specs.Prelude.{ℕ, ◌+◌, ◌*◌, ◌/◌, ◌≤◌, ◌==◌, zero, suc, List, [], ◌∷◌, Bool, false, if◌then◌else◌}
use Rattle.std.specs.Char.{digit_value, is_digit}
use Rattle.std.specs.List.{list_any}
use Rattle.hc_base.specs.Bytes.{colon}
use Rattle.hc_model.specs.declared.request.Scheme.{Scheme}
use Rattle.hc_rw_sets.specs.declared.ports.Mark.{Mark}
use Rattle.hc_rw_sets.specs.declared.ports.Mark.TheVariants.{Begin, Colon, Number, Other}
use Rattle.hc_template.specs.Variables.{default_port}

-- A number, and what is left of it without its last digits, up to so many.
abbrev pub fronts_of : ℕ → ℕ → List ℕ
fronts_of zero number = number ∷ []
fronts_of (suc more) number = number ∷ fronts_of more (number / 10)

-- More digits may make the port of the value. Zeros may stand in front of it.
abbrev pub leads_on : ℕ → ℕ → Bool
leads_on port value = list_any (λ front. front == value) (fronts_of 5 port)

abbrev pub number_mark : ℕ → ℕ → Mark
number_mark port value = if leads_on port value then Number value else Other

abbrev pub behind_digit : ℕ → ℕ → ℕ → Mark
behind_digit port value byte =
    if is_digit byte 10 then number_mark port (value * 10 + digit_value byte) else Other

abbrev pub next_mark : ℕ → Mark → ℕ → Mark
next_mark port Begin byte = if byte == colon then Colon else Other
next_mark port Colon byte = behind_digit port 0 byte
next_mark port (Number value) byte = behind_digit port value byte
next_mark port Other byte = Other

abbrev pub port_ends : Scheme → ℕ → Mark → Bool
port_ends scheme port Begin = port == default_port scheme
port_ends scheme port Colon = false
port_ends scheme port (Number value) = value == port
port_ends scheme port Other = false

-- The value is no larger than the port.
abbrev pub IsMark : ℕ → Mark → Type 0
IsMark port Begin = Unit {0}
IsMark port Colon = Unit {0}
IsMark port (Number value) = value ≤ port
IsMark port Other = Unit {0}
