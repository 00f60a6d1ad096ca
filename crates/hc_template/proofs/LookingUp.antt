-- A look-up, and what follows it.
use Rattle.std.proofs.Common.{◌≡◌, ℕ, zero, suc, ◌+◌, ◌-◌, ◌==◌, List, [], ◌∷◌, drop, length}
use Rattle.std.proofs.Common.{length-drop, Bool, true, false, Option, Some, None, cond, refl, subst, ap, ◌∙◌}
use Rattle.std.proofs.Common.{arith}
use Rattle.std.proofs.lemmas.List.{drop-drop}
use Rattle.std.specs.Option.{option_map}
use Rattle.hc_base.specs.Bytes.{bar, brace_open}
use Rattle.hc_model.specs.declared.template.Piece.{Piece}
use Rattle.hc_template.specs.Fronts.{cut}
use Rattle.hc_template.specs.MapNames.{map_name}
use Rattle.hc_template.specs.Reading.{Asked, Inner, Part, asked_by, asked_in, asked_with, byte, ends_fallback, ends_key}
use Rattle.hc_template.specs.Reading.{fallback_behind, inner_behind, lookup_piece, lookup_sign, piece, refused}
use Rattle.hc_template.specs.Reading.{sign_inside, with_inner}
use Rattle.hc_template.specs.declared.signs.Signs.{Signs}

-- ---- what follows is the end of the text

abbrev EndsWith : List ℕ → List ℕ → Type 0
EndsWith text rest = (count : ℕ) × (rest ≡ drop count text)

nothing_left : (text : List ℕ) → EndsWith text []
nothing_left [] = (0, refl)
nothing_left (b ∷ bs) = let ends = nothing_left bs in (suc ends.0, ends.1)

further : (count : ℕ) (text rest : List ℕ) → EndsWith (drop count text) rest → EndsWith text rest
further count text rest ends = (count + ends.0, ends.1 ∙ drop-drop ends.0 count text)

abbrev behind_of : Option Inner → List ℕ
behind_of None = []
behind_of (Some inner) = inner.behind

inner_left : (text : List ℕ) (part : Part) (more : Option Inner) → EndsWith text (behind_of more)
    → EndsWith text (behind_of (with_inner part more))
inner_left text (refused broken) more ends = nothing_left text
inner_left text (byte b) None ends = ends
inner_left text (byte b) (Some inner) ends = ends
inner_left text (piece p) None ends = ends
inner_left text (piece p) (Some inner) ends = ends

first_left : (b : ℕ) (bs : List ℕ) (more : Option Inner) (t : Bool) → EndsWith bs (behind_of more)
    → EndsWith (b ∷ bs) (behind_of (cond t (Some (record { pieces = []; behind = b ∷ bs })) more))
first_left b bs more true ends = (0, refl)
first_left b bs more false ends = (suc ends.0, ends.1)

inner_ends : (at : ℕ → Bool) (signs : Signs) (passed : ℕ) (text : List ℕ)
    → EndsWith text (behind_of (inner_behind at signs passed text))
inner_ends at signs passed [] = (0, refl)
inner_ends at signs (suc passed) (b ∷ bs) = let ends = inner_ends at signs passed bs in (suc ends.0, ends.1)
inner_ends at signs zero (b ∷ bs) =
    let sign = sign_inside signs b bs in
    first_left b bs _ (at b) (inner_left bs sign.part _ (inner_ends at signs (sign.length - 1) bs))

abbrev left_by : Option Asked → List ℕ
left_by None = []
left_by (Some asked) = asked.behind

fallback_left : (b : ℕ) (bs : List ℕ) (key : List Piece) (fallback : Option Inner) (t : Bool)
    → EndsWith bs (behind_of fallback)
    → EndsWith (b ∷ bs)
    (left_by (cond t (option_map (asked_with key) fallback)
    (Some (record { key = key; fallback = []; behind = bs }))))
fallback_left b bs key fallback false ends = (1, refl)
fallback_left b bs key None true ends = nothing_left (b ∷ bs)
fallback_left b bs key (Some fallback) true ends = (suc (ends.0 + 1), ap (drop 1) ends.1 ∙ drop-drop 1 ends.0 bs)

fallback_ends : (signs : Signs) (key : List Piece) (text : List ℕ)
    → EndsWith text (left_by (fallback_behind signs key text))
fallback_ends signs key [] = (0, refl)
fallback_ends signs key (b ∷ bs) = fallback_left b bs key _ (b == bar) (inner_ends ends_fallback signs 0 bs)

asked_ends : (signs : Signs) (text : List ℕ) (key : Option Inner) → EndsWith text (behind_of key)
    → EndsWith text (left_by (asked_in signs key))
asked_ends signs text None ends = nothing_left text
asked_ends signs text (Some key) ends =
    let rest = left_by (fallback_behind signs key.pieces key.behind) in
    further ends.0 text rest (subst (λ text. EndsWith text rest) ends.1 (fallback_ends signs key.pieces key.behind))

back : (count : ℕ) (text : List ℕ) → drop (length text - length (drop count text)) text ≡ drop count text
back zero text = let none : length text - length text ≡ 0 = omega arith in rw none refl
back (suc count) [] = refl
back (suc count) (b ∷ bs) =
    let some : length (b ∷ bs) - length (drop count bs) ≡ suc (length bs - length (drop count bs)) =
    omega (arith, length-drop count bs) in
    ap (λ n. drop n (b ∷ bs)) some ∙ back count bs

left_whole : (text rest : List ℕ) → EndsWith text rest
    → drop (((length text - length rest) + 2) - 1) (brace_open ∷ text) ≡ rest
left_whole text rest ends =
    let count : ((length text - length rest) + 2) - 1 ≡ suc (length text - length rest) = omega arith in
    rw (count, ends.1) (back ends.0 text)

-- ---- the sign

pub looked_up : (signs : Signs) (text name : List ℕ) (asked : Asked) → map_name text ≡ Some name
    → asked_by signs (drop (length name + 1) text) ≡ Some asked
    → cut (lookup_sign signs text) (brace_open ∷ text)
    ≡ record { part = piece (lookup_piece name asked); behind = asked.behind }
looked_up signs text name asked named found =
    let rest = drop (length name + 1) text in
    let ends = asked_ends signs rest (inner_behind ends_key signs 0 rest) (inner_ends ends_key signs 0 rest) in
    let ends : EndsWith rest asked.behind = rw found at ends in
    rw (named, found) (ap (λ behind. record { part = piece (lookup_piece name asked); behind = behind })
    (left_whole text asked.behind (further (length name + 1) text asked.behind ends)))
