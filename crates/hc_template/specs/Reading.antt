-- Texts with parts that are filled in where they are used.
-- Apache manual, mod_rewrite, "Test String", "Substitution" and RewriteMap; mod_alias, RedirectMatch; "Expressions in
-- Apache HTTP Server". What is kept of other signs is our own choice.
use Rattle.std.specs.Prelude.{ℕ, zero, suc, ◌+◌, ◌-◌, ◌==◌, ◌&&◌, ◌||◌, List, [], ◌∷◌}
use Rattle.std.specs.Prelude.{length, drop, if◌then◌else◌}
use Rattle.std.specs.Prelude.{Bool, Option, Some, None, option_map, Result, Ok, Err}
use Rattle.std.specs.Char.{is_ascii_digit}
use Rattle.hc_base.specs.Bytes.{backslash, bar, brace_close, brace_open, digit_zero, dollar, percent}
use Rattle.hc_base.specs.Rules.{rule}
use Rattle.hc_base.specs.declared.codes.TheConstants.{UNSUPPORTED_VARIABLE}
use Rattle.hc_base.specs.declared.fault.AtByte.{AtByte}
use Rattle.hc_model.specs.declared.template.Piece.{Piece}
use Rattle.hc_model.specs.declared.template.Piece.TheVariants.{CondGroup, Group, Lookup, Var}
use Rattle.hc_template.specs.MapNames.{map_name}
use Rattle.hc_template.specs.Pieces.{with_byte}
use Rattle.hc_template.specs.Variables.{named_by}
use Rattle.hc_template.specs.declared.signs.Names.{Names}
use Rattle.hc_template.specs.declared.signs.Names.TheVariants.{NoName}
use Rattle.hc_template.specs.declared.signs.Signs.{Signs}

-- ---- what stands at a place

pub data Part : Type 0 where
  piece : Piece → Part
  byte : ℕ → Part
  refused : AtByte → Part

-- A part, and how many bytes it is written in.
pub record Sign : Type 0 where
  pub part : Part
  pub length : ℕ

abbrev pub plain : ℕ → Sign
plain b = record { part = byte b; length = 1 }

-- A name or a look-up that may not stand here. Two bytes show it.
abbrev pub unsupported : Part
unsupported = refused (rule UNSUPPORTED_VARIABLE)

abbrev pub digit_of : ℕ → ℕ
digit_of c = c - digit_zero

-- The name up to the first `}`.
abbrev pub name_up_to : List ℕ → Option (List ℕ)
name_up_to [] = None
name_up_to (b ∷ bs) = if b == brace_close then Some [] else option_map (λ name. b ∷ name) (name_up_to bs)

-- A name that may not stand here is refused.
abbrev pub name_part : Names → List ℕ → Part
name_part names name = elim (named_by names name) [ None ↦ unsupported | Some var ↦ piece (Var var) ]

abbrev pub name_sign : Names → Option (List ℕ) → Sign
name_sign names None = plain percent
name_sign names (Some name) = record { part = name_part names name; length = length name + 3 }

abbrev pub braced_name : Names → List ℕ → Sign
braced_name NoName bs = plain percent
braced_name names bs = name_sign names (name_up_to bs)

-- Behind `%`: `%0` to `%9`, or `%{NAME}`.
abbrev pub percent_sign : Signs → List ℕ → Sign
percent_sign signs [] = plain percent
percent_sign signs (c ∷ bs) =
    if signs.conditions && is_ascii_digit c then record { part = piece (CondGroup (digit_of c)); length = 2 }
    else (if c == brace_open then braced_name signs.names bs else plain percent)

-- Behind a backslash: a plain byte. The last one is a byte itself.
abbrev pub escape_sign : List ℕ → Sign
escape_sign [] = plain backslash
escape_sign (c ∷ bs) = record { part = byte c; length = 2 }

-- Behind `$`: `$0` to `$9`, or what begins with `${`.
abbrev pub dollar_sign : (List ℕ → Sign) → Signs → List ℕ → Sign
dollar_sign braced signs [] = plain dollar
dollar_sign braced signs (c ∷ bs) =
    if signs.groups && is_ascii_digit c then record { part = piece (Group (digit_of c)); length = 2 }
    else (if signs.lookups && (c == brace_open) then braced bs else plain dollar)

abbrev pub sign_with : (List ℕ → Sign) → Signs → ℕ → List ℕ → Sign
sign_with braced signs b rest =
    if signs.escapes && (b == backslash) then escape_sign rest
    else (if b == dollar then dollar_sign braced signs rest
    else (if b == percent then percent_sign signs rest
    else plain b))

-- ---- look-ups: `${map:key}` and `${map:key|fallback}`

-- No look-up stands in the key or the fallback of another.
abbrev pub no_lookup : List ℕ → Sign
no_lookup bs = record { part = unsupported; length = 2 }

abbrev pub sign_inside : Signs → ℕ → List ℕ → Sign
sign_inside signs b rest = sign_with no_lookup signs b rest

-- The pieces of a key or a fallback, and what follows it.
pub record Inner : Type 0 where
  pub pieces : List Piece
  pub behind : List ℕ

abbrev pub with_inner : Part → Option Inner → Option Inner
with_inner (refused broken) more = None
with_inner (piece p) more = option_map {T = Inner} (λ inner. record inner { pieces = p ∷ inner.pieces }) more
with_inner (byte b) more = option_map {T = Inner} (λ inner. record inner { pieces = with_byte b inner.pieces }) more

-- It ends before the first of these bytes that is no part of a longer sign; there is none where a sign is refused or no
-- such byte
-- stands. The first so many bytes belong to a sign before.
abbrev pub inner_behind : (ℕ → Bool) → Signs → ℕ → List ℕ → Option Inner
inner_behind ends signs passed [] = None
inner_behind ends signs (suc passed) (b ∷ bs) = inner_behind ends signs passed bs
inner_behind ends signs zero (b ∷ bs) =
    if ends b then Some (record { pieces = []; behind = b ∷ bs })
    else with_inner (sign_inside signs b bs).part (inner_behind ends signs ((sign_inside signs b bs).length - 1) bs)

abbrev pub ends_fallback : ℕ → Bool
ends_fallback b = b == brace_close

abbrev pub ends_key : ℕ → Bool
ends_key b = (b == bar) || (b == brace_close)

-- The key and the fallback of a look-up, and what follows its `}`.
pub record Asked : Type 0 where
  pub key : List Piece
  pub fallback : List Piece
  pub behind : List ℕ

abbrev pub asked_with : List Piece → Inner → Asked
asked_with key inner = record { key = key; fallback = inner.pieces; behind = drop 1 inner.behind }

-- What follows a key: `}`, or `|` and a fallback.
abbrev pub fallback_behind : Signs → List Piece → List ℕ → Option Asked
fallback_behind signs key [] = None
fallback_behind signs key (b ∷ bs) =
    if b == bar then option_map (asked_with key) (inner_behind ends_fallback signs 0 bs)
    else Some (record { key = key; fallback = []; behind = bs })

abbrev pub asked_in : Signs → Option Inner → Option Asked
asked_in signs None = None
asked_in signs (Some key) = fallback_behind signs key.pieces key.behind

abbrev pub asked_by : Signs → List ℕ → Option Asked
asked_by signs text = asked_in signs (inner_behind ends_key signs 0 text)

abbrev pub lookup_piece : List ℕ → Asked → Piece
lookup_piece name asked = Lookup name asked.key asked.fallback

-- Behind `${` and before so many bytes.
abbrev pub lookup_of : List ℕ → List ℕ → Option Asked → Sign
lookup_of bs name None = no_lookup bs
lookup_of bs name (Some asked) =
    record { part = piece (lookup_piece name asked); length = (length bs - length asked.behind) + 2 }

abbrev pub named_lookup : Signs → List ℕ → Option (List ℕ) → Sign
named_lookup signs bs None = no_lookup bs
named_lookup signs bs (Some name) = lookup_of bs name (asked_by signs (drop (length name + 1) bs))

-- The name of a map stands before a colon.
abbrev pub lookup_sign : Signs → List ℕ → Sign
lookup_sign signs bs = named_lookup signs bs (map_name bs)

abbrev pub sign_at : Signs → ℕ → List ℕ → Sign
sign_at signs b rest = sign_with (lookup_sign signs) signs b rest

-- ---- the pieces, or the first refusal

abbrev pub with_part : Part → Result (List Piece) AtByte → Result (List Piece) AtByte
with_part (refused broken) more = Err broken
with_part (piece p) (Err broken) = Err broken
with_part (piece p) (Ok pieces) = Ok (p ∷ pieces)
with_part (byte b) (Err broken) = Err broken
with_part (byte b) (Ok pieces) = Ok (with_byte b pieces)

-- Where the first so many bytes belong to a part before.
abbrev pub read_behind : Signs → ℕ → List ℕ → Result (List Piece) AtByte
read_behind signs passed [] = Ok []
read_behind signs (suc passed) (b ∷ bs) = read_behind signs passed bs
read_behind signs zero (b ∷ bs) =
    with_part (sign_at signs b bs).part (read_behind signs ((sign_at signs b bs).length - 1) bs)

abbrev pub template : Signs → List ℕ → Result (List Piece) AtByte
template signs text = read_behind signs 0 text
