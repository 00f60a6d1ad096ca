-- What is read of what stands behind an origin.
use Rattle.std.proofs.Common.{◌≡◌, ℕ, ◌<◌, List, [], ◌∷◌, Bool, true, false, ◌==◌, ◌&&◌, ◌||◌, refl, eqb-true}
use Rattle.std.proofs.Common.{if◌then◌else◌, add-one, one-add}
use Rattle.hc_base.specs.Bytes.{question}
use Rattle.hc_base.specs.Paths.{is_slash}
use Rattle.hc_dfa.specs.Readings.{reading_from}
use Rattle.hc_dfa.specs.Texts.{IsText, TextSet}
use Rattle.hc_follow.specs.Next.{ends_authority, is_hash}
use Rattle.hc_rw_sets.proofs.Readings.{read_as}
use Rattle.hc_sent.specs.Sets.{is_kind, is_place, is_rest, next_place}
use Rattle.hc_sent.specs.Ways.{is_filled}
use Rattle.hc_sent.specs.declared.rests.Kind.{Kind}
use Rattle.hc_sent.specs.declared.rests.Kind.TheVariants.{Any, Asked, Asking}
use Rattle.hc_sent.specs.declared.rests.Place.{Place}
use Rattle.hc_sent.specs.declared.rests.Place.TheVariants as place

-- Behind the first `?`.
abbrev is_behind : Kind → TextSet
is_behind Any text = true
is_behind Asked text = true
is_behind Asking text = is_filled text

abbrev meant : Kind → Place → TextSet
meant kind place.Begin text = is_rest kind text
meant kind place.Path text = is_kind kind text
meant kind place.Question text = is_behind kind text
meant kind place.Query text = true
meant kind place.Other text = false

place_ends : (kind : Kind) (place : Place) → is_place kind place ≡ meant kind place []
place_ends Any place.Begin = refl
place_ends Any place.Path = refl
place_ends Any place.Question = refl
place_ends Asked place.Begin = refl
place_ends Asked place.Path = refl
place_ends Asked place.Question = refl
place_ends Asking place.Begin = refl
place_ends Asking place.Path = refl
place_ends Asking place.Question = refl
place_ends kind place.Query = refl
place_ends kind place.Other = refl

at_question : (kind : Kind) (text : List ℕ) → is_behind kind text ≡ is_kind kind (question ∷ text)
at_question Any text = refl
at_question Asked text = refl
at_question Asking text = refl

at_other : (kind : Kind) (b : ℕ) (text : List ℕ) → (b == question) ≡ false
    → is_kind kind text ≡ is_kind kind (b ∷ text)
at_other Any b text isnt = refl
at_other Asked b text isnt = rw isnt refl
at_other Asking b text isnt = rw (isnt, one-add, add-one, add-one) refl

at_more : (kind : Kind) (b : ℕ) (text : List ℕ) → true ≡ is_behind kind (b ∷ text)
at_more Any b text = refl
at_more Asked b text = refl
at_more Asking b text = refl

begin_goes : (kind : Kind) (b : ℕ) (text : List ℕ)
    → meant kind (next_place place.Begin b) text ≡ meant kind place.Begin (b ∷ text)
begin_goes kind b text = by (b == question) (is_slash b || is_hash b) refl refl
  where
    by : (asked ends : Bool) → (b == question) ≡ asked → (is_slash b || is_hash b) ≡ ends
        → meant kind (if asked then place.Question else if ends then place.Path else place.Other) text
        ≡ (ends_authority (b ∷ text) && is_kind kind (b ∷ text))
    by true ends is other = rw (eqb-true b question is) (at_question kind text)
    by false true isnt is = rw (isnt, is) (at_other kind b text isnt)
    by false false isnt is = rw (isnt, is) refl

path_goes : (kind : Kind) (b : ℕ) (text : List ℕ)
    → meant kind (next_place place.Path b) text ≡ meant kind place.Path (b ∷ text)
path_goes kind b text = by (b == question) refl
  where
    by : (asked : Bool) → (b == question) ≡ asked
        → meant kind (if asked then place.Question else place.Path) text ≡ is_kind kind (b ∷ text)
    by true is = rw (eqb-true b question is) (at_question kind text)
    by false isnt = at_other kind b text isnt

place_goes : (kind : Kind) (at : Place) (b : ℕ) (text : List ℕ) → b < 256
    → meant kind (next_place at b) text ≡ meant kind at (b ∷ text)
place_goes kind place.Begin b text below = begin_goes kind b text
place_goes kind place.Path b text below = path_goes kind b text
place_goes kind place.Question b text below = at_more kind b text
place_goes kind place.Query b text below = refl
place_goes kind place.Other b text below = refl

pub rest_read : (kind : Kind) (text : List ℕ) → IsText text
    → reading_from next_place (is_place kind) place.Begin text ≡ is_rest kind text
rest_read kind text bytes =
    read_as next_place (is_place kind) (meant kind) (place_ends kind) (place_goes kind) place.Begin text bytes
