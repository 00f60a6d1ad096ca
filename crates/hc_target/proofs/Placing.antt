-- Each path that is found is normal.
use Rattle.hc_target.proofs.Common.{◌≡◌, ℕ, zero, suc, ◌<◌, Bool, true, false, cond, List, [], ◌∷◌}
use Rattle.hc_target.proofs.Common.{◌++◌, length, take, Option, Some, None, IfSome, sym, refl, ap, ◌∙◌, subst}
use Rattle.hc_target.proofs.Common.{arith, length-append, AllByRecursion, flat_map, list_all, list_any, onto_first}
use Rattle.hc_target.proofs.Common.{slice_split, and_parts, cond_both, slash, has_double_slash, is_dots, is_slash}
use Rattle.hc_target.proofs.Common.{escapes_slash, has_bad_escape, Reached, above, below, is_normal, is_parent}
use Rattle.hc_target.proofs.Common.{is_plain, is_still, normal_path, path_to, root, step, led_by}
use Rattle.std.specs.Option.{option_map}
use Rattle.std.proofs.lemmas.List.Folds.{list_all-append}
use Rattle.percent_encoding.specs.Percent.{percent_decode}
use Rattle.hc_target.specs.declared.target.TargetRead.{TargetRead}
use Rattle.hc_target.specs.declared.target.TargetRead.TheVariants.{Bad400, Miss404, PathByte}
use Rattle.hc_target.specs.Targets.{HasNormalPath, found, read_decoded, read_sent}
use Rattle.hc_target.proofs.Normal.{gap_split, has_gap, is_empty}

-- A piece between slashes.
record IsPiece (piece : List ℕ) : Type 0 where
  pub lacks : AllByRecursion (λ b. is_slash b ≡ false) piece
  pub plain : list_all is_plain piece ≡ true

empty_piece : IsPiece []
empty_piece = record { lacks = tt; plain = refl }

piece_on : (b : ℕ) → is_plain b ≡ true → (v : Bool) → is_slash b ≡ v → (pieces : List (List ℕ))
    → AllByRecursion IsPiece pieces → AllByRecursion IsPiece (cond v ([] ∷ pieces) (onto_first b pieces))
piece_on b p true e pieces h = (empty_piece, h)
piece_on b p false e [] h = (record { lacks = (e, tt); plain = rw p refl }, tt)
piece_on b p false e (s ∷ ss) h = (record { lacks = (e, h.0.lacks); plain = rw p h.0.plain }, h.1)

pieces_of : (path : List ℕ) → list_all is_plain path ≡ true → AllByRecursion IsPiece (slice_split is_slash path)
pieces_of [] h = (empty_piece, tt)
pieces_of (b ∷ bs) h =
    let parts = and_parts (is_plain b) (list_all is_plain bs) h in
    piece_on b parts.0 (is_slash b) refl (slice_split is_slash bs) (pieces_of bs parts.1)

-- A piece that names something.
record IsName (name : List ℕ) : Type 0 where
  pub piece : IsPiece name
  pub some : is_empty name ≡ false
  pub no_dots : is_dots name ≡ false

is_name : (s : List ℕ) → IsPiece s → is_still s ≡ false → is_parent s ≡ false → IsName s
is_name [] h still parent = cc
is_name (b ∷ []) h still parent = record { piece = h; some = refl; no_dots = still }
is_name (b ∷ c ∷ []) h still parent = record { piece = h; some = refl; no_dots = parent }
is_name (b ∷ c ∷ d ∷ bs) h still parent = record { piece = h; some = refl; no_dots = refl }

abbrev segments : Reached → List (List ℕ)
segments at = at.names ++ cond at.open_end ([] ∷ []) []

record IsPlace (at : Reached) : Type 0 where
  pub names_are : AllByRecursion IsName at.names
  pub some : 0 < length (segments at)

names_push : (names : List (List ℕ)) (name : List ℕ) → AllByRecursion IsName names → IsName name
    → AllByRecursion IsName (names ++ name ∷ [])
names_push [] name h n = (n, tt)
names_push (x ∷ xs) name h n = (h.0, names_push xs name h.1 n)

names_take : (count : ℕ) (names : List (List ℕ)) → AllByRecursion IsName names
    → AllByRecursion IsName (take count names)
names_take zero names h = tt
names_take (suc count) [] h = tt
names_take (suc count) (x ∷ xs) h = (h.0, names_take count xs h.1)

open_place : (names : List (List ℕ)) → AllByRecursion IsName names
    → IsPlace (record { names = names; open_end = true })
open_place names h = record { names_are = h; some = omega (arith, length-append names ([] ∷ [])) }

above_place : (names : List (List ℕ)) → AllByRecursion IsName names → IfSome (above names) IsPlace
above_place [] h = tt
above_place (x ∷ xs) h = open_place (take (length xs) (x ∷ xs)) (names_take (length xs) (x ∷ xs) h)

name_place : (names : List (List ℕ)) (name : List ℕ) → AllByRecursion IsName names → IsName name
    → IsPlace (record { names = names ++ name ∷ []; open_end = false })
name_place names name h n =
    record {
      names_are = names_push names name h n;
      some = omega (arith, length-append (names ++ name ∷ []) [], length-append names (name ∷ []));
    }

step_place : (at : Reached) (s : List ℕ) → IsPlace at → IsPiece s → IfSome (step at s) IsPlace
step_place at s h p =
    cond_both (is_still s) _ _ (λ r. IfSome r IsPlace) (λ still. open_place at.names h.names_are)
    (λ still. cond_both (is_parent s) _ _ (λ r. IfSome r IsPlace) (λ parent. above_place at.names h.names_are)
    (λ parent. name_place at.names s h.names_are (is_name s p still parent)))

led_place : (from : Option Reached) (pieces : List (List ℕ)) → IfSome from IsPlace → AllByRecursion IsPiece pieces
    → IfSome (led_by from pieces) IsPlace
led_place None pieces h p = tt
led_place (Some at) [] h p = h
led_place (Some at) (s ∷ ss) h p = led_place (step at s) ss (step_place at s h p.0) p.1

-- The segments of a normal path.
record IsRow (segments : List (List ℕ)) : Type 0 where
  pub pieces : AllByRecursion IsPiece segments
  pub no_gap : has_gap false segments ≡ false
  pub no_dots : list_any is_dots segments ≡ false

no_gap_before : (s : List ℕ) (ss : List (List ℕ)) → is_empty s ≡ false → has_gap false ss ≡ false
    → has_gap false (s ∷ ss) ≡ false
no_gap_before s [] e h = refl
no_gap_before s (t ∷ ss) e h = rw e h

row_of : (names : List (List ℕ)) (open_end : Bool) → AllByRecursion IsName names
    → IsRow (names ++ cond open_end ([] ∷ []) [])
row_of [] true h = record { pieces = (empty_piece, tt); no_gap = refl; no_dots = refl }
row_of [] false h = record { pieces = tt; no_gap = refl; no_dots = refl }
row_of (x ∷ xs) open_end h =
    let rest = row_of xs open_end h.1 in
    record {
      pieces = (h.0.piece, rest.pieces);
      no_gap = no_gap_before x _ h.0.some rest.no_gap;
      no_dots = rw h.0.no_dots rest.no_dots;
    }

split_front : (s rest : List ℕ) (ss : List (List ℕ)) → AllByRecursion (λ b. is_slash b ≡ false) s
    → slice_split is_slash rest ≡ [] ∷ ss → slice_split is_slash (s ++ rest) ≡ s ∷ ss
split_front [] rest ss h e = e
split_front (b ∷ bs) rest ss h e = rw h.0 (ap (onto_first b) (split_front bs rest ss h.1 e))

split_row : (s : List ℕ) (ss : List (List ℕ)) → AllByRecursion IsPiece (s ∷ ss)
    → slice_split is_slash (s ++ flat_map below ss) ≡ s ∷ ss
split_row s [] h = split_front s [] [] h.0.lacks refl
split_row s (t ∷ ss) h =
    split_front s (flat_map below (t ∷ ss)) (t ∷ ss) h.0.lacks (ap (λ ts. [] ∷ ts) (split_row t ss h.1))

plain_row : (segments : List (List ℕ)) → AllByRecursion IsPiece segments
    → list_all is_plain (flat_map below segments) ≡ true
plain_row [] h = refl
plain_row (s ∷ ss) h = list_all-append is_plain s (flat_map below ss) ∙ (rw (h.0.plain, plain_row ss h.1) refl)

row_normal : (segments : List (List ℕ)) → 0 < length segments → IsRow segments
    → is_normal (flat_map below segments) ≡ true
row_normal [] some h = absurd (omega arith)
row_normal (s ∷ ss) some h =
    let path = s ++ flat_map below ss in
    let split = split_row s ss h.pieces in
    let double : has_double_slash (slash ∷ path) ≡ false = gap_split path ∙ ap (has_gap false) split
    ∙ h.no_gap in
    let dots : list_any is_dots (slice_split is_slash path) ≡ false = ap (list_any is_dots) split ∙ h.no_dots in
    rw (double, dots, plain_row (s ∷ ss) h.pieces) refl

found_normal : (place : Option Reached) (query : List ℕ) → IfSome place IsPlace
    → HasNormalPath (found (option_map path_to place) query)
found_normal None query h = tt
found_normal (Some at) query h = row_normal (segments at) h.some (row_of at.names at.open_end h.names_are)

decoded_normal : (path query : List ℕ) → HasNormalPath (read_decoded path query)
decoded_normal path query =
    cond_both (list_all is_plain path) (found (normal_path path) query) PathByte HasNormalPath
    (λ plain. found_normal (led_by (Some root) (slice_split is_slash path)) query
    (led_place (Some root) (slice_split is_slash path) (open_place [] tt) (pieces_of path plain))) (λ _. tt)

sent_normal : (path query : List ℕ) → HasNormalPath (read_sent path query)
sent_normal path query =
    cond_both (has_bad_escape path) Bad400 _ HasNormalPath (λ _. tt)
    (λ _. cond_both (escapes_slash path) Miss404 _ HasNormalPath (λ _. tt)
    (λ _. decoded_normal (percent_decode path) query))

pub answer_normal : (path query : List ℕ) (answer : TargetRead) → answer ≡ read_sent path query
    → HasNormalPath answer
answer_normal path query answer e = subst HasNormalPath (sym e) (sent_normal path query)
