-- Questions to sets, and the tests of texts that are read byte by byte.
use Rattle.std.specs.Prelude.{◌≡◌, ℕ, ◌==◌, ◌&&◌, ◌||◌, not, IsTrue, List, Bool, true, false, if◌then◌else◌}
use Rattle.std.specs.Prelude.{Option, None, Some}
use Rattle.std.specs.List.{after_first, list_any}
use Rattle.hc_base.specs.Bytes.{dot, is_question, question}
use Rattle.hc_base.specs.Paths.{is_slash}
use Rattle.hc_dfa.specs.Texts.{IsText, TextSet}
use Rattle.hc_follow.specs.Next.{ends_authority, is_hash}
use Rattle.hc_forms.specs.Forms.{is_target_byte}
use Rattle.hc_target.specs.Segments.{is_plain}
use Rattle.hc_sent.specs.Ways.{is_filled, is_high}
use Rattle.hc_sent.specs.declared.bytes.Bytes.{Bytes}
use Rattle.hc_sent.specs.declared.bytes.Bytes.TheVariants.{Low, Plain, Target}
use Rattle.hc_sent.specs.declared.clean.Spot.{Spot}
use Rattle.hc_sent.specs.declared.clean.Spot.TheVariants as spot
use Rattle.hc_sent.specs.declared.rests.Kind.{Kind}
use Rattle.hc_sent.specs.declared.rests.Kind.TheVariants.{Any, Asked, Asking}
use Rattle.hc_sent.specs.declared.rests.Place.{Place}
use Rattle.hc_sent.specs.declared.rests.Place.TheVariants as place

-- ---- questions

-- The answer says whether it holds.
abbrev pub IsAnswer : Type 0 → Bool → Type 0
IsAnswer P true = P
IsAnswer P false = P → ⊥

abbrev pub HasText : TextSet → Type 0
HasText set = (text : List ℕ) × IsText text × IsTrue (set text)

abbrev pub HasOther : TextSet → TextSet → Type 0
HasOther set other = (text : List ℕ) × IsText text × IsTrue (set text) × (other text ≡ false)

-- The value, where this holds.
abbrev pub IsWhere : {A : Type 0} → Type 0 → A → Option A → Type 0
IsWhere P value None = P → ⊥
IsWhere P value (Some found) = P × (found ≡ value)

-- ---- bytes

abbrev pub is_of : Bytes → ℕ → Bool
is_of Plain b = is_plain b
is_of Target b = is_target_byte b
is_of Low b = not (is_high b)

-- ---- clean paths

-- Behind a slash and dots, by what one more dot makes.
abbrev pub behind_dots : Spot → ℕ → Spot
behind_dots more byte = if is_slash byte then spot.Other else if byte == dot then more else spot.Name

abbrev pub next_spot : Spot → ℕ → Spot
next_spot spot.Start byte = if is_slash byte then spot.Slash else spot.Other
next_spot spot.Slash byte = behind_dots spot.Dot byte
next_spot spot.Dot byte = behind_dots spot.Dots byte
next_spot spot.Dots byte = if is_slash byte then spot.Other else spot.Name
next_spot spot.Name byte = if is_slash byte then spot.Slash else spot.Name
next_spot spot.Other byte = spot.Other

abbrev pub ends_clean : Spot → Bool
ends_clean spot.Start = false
ends_clean spot.Slash = true
ends_clean spot.Dot = false
ends_clean spot.Dots = false
ends_clean spot.Name = true
ends_clean spot.Other = false

-- ---- what stands behind an origin

-- Anything, what has a `?`, or what has a byte behind that.
abbrev pub is_kind : Kind → List ℕ → Bool
is_kind Any rest = true
is_kind Asked rest = list_any is_question rest
is_kind Asking rest = is_filled (after_first is_question rest)

-- Such a text that an authority may end before.
abbrev pub is_rest : Kind → TextSet
is_rest kind rest = ends_authority rest && is_kind kind rest

abbrev pub next_place : Place → ℕ → Place
next_place place.Begin byte = if byte == question then place.Question
    else if is_slash byte || is_hash byte then place.Path else place.Other
next_place place.Path byte = if byte == question then place.Question else place.Path
next_place place.Question byte = place.Query
next_place place.Query byte = place.Query
next_place place.Other byte = place.Other

abbrev pub is_place : Kind → Place → Bool
is_place kind place.Query = true
is_place kind place.Other = false
is_place Any place = true
is_place Asked place.Question = true
is_place kind place = false
