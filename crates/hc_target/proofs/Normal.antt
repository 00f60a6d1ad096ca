-- Normal paths, by their segments.
use Rattle.hc_target.proofs.Common.{◌≡◌, ℕ, ◌<◌, Bool, true, false, eqb, not, ◌&&◌, ◌||◌, cond}
use Rattle.hc_target.proofs.Common.{List, [], ◌∷◌, ◌++◌, length, Some, sym, refl, ap, ◌∙◌, subst}
use Rattle.hc_target.proofs.Common.{append-nil, append_assoc, arith, flat_map, join_with_byte, onto_first, list_any}
use Rattle.hc_target.proofs.Common.{slice_split, and_parts, both_ways, eqb-true, not-true, or_parts, slash}
use Rattle.hc_target.proofs.Common.{has_double_slash, is_clean, is_dots, is_slash, Reached, below, normal_path, path_to}
use Rattle.hc_target.proofs.Common.{root, step, led_by}
use Rattle.std.specs.Option.{option_map}
use Rattle.std.proofs.lemmas.List.Splits.{join_with_byte-slice_split, length-slice_split}

abbrev pub is_empty : List ℕ → Bool
is_empty [] = true
is_empty (b ∷ bs) = false

-- Some segment but the last is empty; the first isn't where a byte of it stands before the list.
abbrev pub has_gap : Bool → List (List ℕ) → Bool
has_gap inside [] = false
has_gap inside (s ∷ []) = false
has_gap inside (s ∷ t ∷ ss) = (not inside && is_empty s) || has_gap false (t ∷ ss)

gap_step : (v w : Bool) (b : ℕ) (segments : List (List ℕ)) → 0 < length segments
    → ((v && w) || has_gap (not w) segments) ≡ has_gap (not v) (cond w ([] ∷ segments) (onto_first b segments))
gap_step v w b [] some = absurd (omega arith)
gap_step true true b (s ∷ ss) some = refl
gap_step false true b (s ∷ ss) some = refl
gap_step true false b (s ∷ []) some = refl
gap_step false false b (s ∷ []) some = refl
gap_step true false b (s ∷ t ∷ ss) some = refl
gap_step false false b (s ∷ t ∷ ss) some = refl

gap_behind : (b : ℕ) (bs : List ℕ) → has_double_slash (b ∷ bs) ≡ has_gap (not (is_slash b))
    (slice_split is_slash bs)
gap_behind b [] = refl
gap_behind b (c ∷ bs) =
    ap (λ t. (is_slash b && is_slash c) || t) (gap_behind c bs)
    ∙ gap_step (is_slash b) (is_slash c) c (slice_split is_slash bs) (omega (arith, length-slice_split is_slash bs))

-- Two slashes are an empty segment.
pub gap_split : (path : List ℕ) → has_double_slash (slash ∷ path) ≡ has_gap false (slice_split is_slash path)
gap_split path = gap_behind slash path

joined_below : (segments : List (List ℕ)) → flat_map below segments ≡ join_with_byte slash ([] ∷ segments)
joined_below [] = refl
joined_below (s ∷ []) = ap (λ t. slash ∷ t) (append-nil s)
joined_below (s ∷ t ∷ ss) = ap (λ rest. slash ∷ (s ++ rest)) (joined_below (t ∷ ss))

split_below : (path : List ℕ) → flat_map below (slice_split is_slash path) ≡ slash ∷ path
split_below path = joined_below (slice_split is_slash path) ∙ join_with_byte-slice_split slash (slash ∷ path)

step_name : (at : Reached) (b : ℕ) (bs : List ℕ) → is_dots (b ∷ bs) ≡ false
    → step at (b ∷ bs) ≡ Some (record { names = at.names ++ (b ∷ bs) ∷ []; open_end = false })
step_name at b [] e = rw e refl
step_name at b (c ∷ []) e = rw e refl
step_name at b (c ∷ d ∷ bs) e = refl

-- Segments without gaps and dots are kept.
led_kept : (at : Reached) (segments : List (List ℕ)) → 0 < length segments → has_gap false segments ≡ false
    → list_any is_dots segments ≡ false
    → option_map path_to (led_by (Some at) segments) ≡ Some (flat_map below (at.names ++ segments))
led_kept at [] some gap dots = absurd (omega arith)
led_kept at ([] ∷ []) some gap dots = refl
led_kept at ((b ∷ bs) ∷ []) some gap dots =
    ap (λ r. option_map path_to (led_by r [])) (step_name at b bs (or_parts (is_dots (b ∷ bs)) false dots).0)
    ∙ ap (λ names. Some (flat_map below names)) (append-nil (at.names ++ (b ∷ bs) ∷ []))
led_kept at ([] ∷ t ∷ ss) some gap dots = absurd (both_ways true gap refl)
led_kept at ((b ∷ bs) ∷ t ∷ ss) some gap dots =
    let parts = or_parts (is_dots (b ∷ bs)) (list_any is_dots (t ∷ ss)) dots in
    ap (λ r. option_map path_to (led_by r (t ∷ ss))) (step_name at b bs parts.0)
    ∙ led_kept (record { names = at.names ++ (b ∷ bs) ∷ []; open_end = false }) (t ∷ ss) (omega arith) gap
    parts.1
    ∙ ap (λ names. Some (flat_map below names)) (append_assoc at.names ((b ∷ bs) ∷ []) (t ∷ ss))

kept_below : (path : List ℕ) → has_double_slash (slash ∷ path) ≡ false
    → list_any is_dots (slice_split is_slash (slash ∷ path)) ≡ false → normal_path (slash ∷ path)
    ≡ Some (slash ∷ path)
kept_below path gap dots =
    led_kept root (slice_split is_slash path) (omega (arith, length-slice_split is_slash path))
    (sym (gap_split path) ∙ gap) dots ∙ ap Some (split_below path)

-- A clean path is its own normal path.
pub normal_kept : (path : List ℕ) → is_clean path ≡ true → normal_path path ≡ Some path
normal_kept [] clean = cc
normal_kept (b ∷ bs) clean =
    let double = not (has_double_slash (b ∷ bs)) in
    let outer = and_parts (eqb b slash && double) (not (list_any is_dots (slice_split is_slash (b ∷ bs)))) clean in
    let inner = and_parts (eqb b slash) double outer.0 in
    subst (λ c. has_double_slash (c ∷ bs) ≡ false → list_any is_dots (slice_split is_slash (c ∷ bs)) ≡ false
    → normal_path (c ∷ bs) ≡ Some (c ∷ bs))
    (sym (eqb-true b slash inner.0)) (kept_below bs) (not-true _ inner.1) (not-true _ outer.1)
