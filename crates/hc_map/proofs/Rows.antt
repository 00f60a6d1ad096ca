-- The rows of a map's text, line by line.
use Rattle.std.proofs.Common.{◌≡◌, ℕ, ◌+◌, ◌<◌, List, ◌∷◌, length, drop, get_or, find, Bool, true}
use Rattle.std.proofs.Common.{false, cond, Option, Some, None, refl, sym, ap, ◌∙◌, arith}
use Rattle.std.specs.List.{cons_option, filter_map}
use Rattle.std.specs.Option.{option_map, option_or}
use Rattle.std.specs.Str.{bytes_eq}
use Rattle.std.proofs.lemmas.List.{drop_all, drop_more}
use Rattle.hc_map.specs.Maps.{Row, row_in}
use Rattle.hc_map.specs.Searching.{value_by_row}

-- The value of a key in lines.
abbrev pub value_among : List ℕ → List (List ℕ) → Option (List ℕ)
value_among key lines = option_map (λ row. row.1) (find (λ row. bytes_eq row.0 key) (filter_map row_in lines))

by_test : (v : Bool) (row : Row) (more : Option Row) → option_map (λ row. row.1) (cond v (Some row) more)
    ≡ option_or (cond v (Some row.1) None) (option_map (λ row. row.1) more)
by_test true row more = refl
by_test false row more = refl

by_row : (key : List ℕ) (row : Option Row) (lines : List (List ℕ))
    → option_map (λ row. row.1) (find (λ row. bytes_eq row.0 key) (cons_option row (filter_map row_in lines)))
    ≡ option_or (value_by_row key row) (value_among key lines)
by_row key None lines = refl
by_row key (Some row) lines =
    by_test (bytes_eq row.0 key) row (find (λ row. bytes_eq row.0 key) (filter_map row_in lines))

one_more : (key : List ℕ) (lines : List (List ℕ)) (i : ℕ) (line : List ℕ) → (i < length lines)
    × (line ≡ get_or lines i line)
    → value_among key (drop i lines) ≡ option_or (value_by_row key (row_in line))
    (value_among key (drop (i + 1) lines))
one_more key lines i line at =
    ap (value_among key) (drop_more lines i line at.0 ∙ ap (λ first. first ∷ drop (i + 1) lines) (sym at.1))
    ∙ by_row key (row_in line) (drop (i + 1) lines)

-- The next line has the key, or has it not; or there is none.
pub found_at : (key : List ℕ) (lines : List (List ℕ)) (i : ℕ) (line value : List ℕ) → (i < length lines)
    × (line ≡ get_or lines i line)
    → Some value ≡ value_by_row key (row_in line) → Some value ≡ value_among key (drop i lines)
found_at key lines i line value at is = ap (λ row. option_or row (value_among key (drop (i + 1) lines))) is
    ∙ sym (one_more key lines i line at)

pub none_at : (key : List ℕ) (lines : List (List ℕ)) (i : ℕ) (line : List ℕ) → (i < length lines)
    × (line ≡ get_or lines i line)
    → None ≡ value_by_row key (row_in line) → value_among key (drop (i + 1) lines)
    ≡ value_among key (drop i lines)
none_at key lines i line at is = ap (λ row. option_or row (value_among key (drop (i + 1) lines))) is
    ∙ sym (one_more key lines i line at)

pub none_left : (key : List ℕ) (lines : List (List ℕ)) (i : ℕ) → length lines ≡ i
    → None ≡ value_among key (drop i lines)
none_left key lines i all = ap (value_among key) (sym (drop_all i lines (omega arith)))

-- The same behind what other lines gave before.
or_assoc : {T : Type 0} (x y z : Option T) → option_or (option_or x y) z ≡ option_or x (option_or y z)
or_assoc None y z = refl
or_assoc (Some x) y z = refl

pub row_at : (key : List ℕ) (lines : List (List ℕ)) (i : ℕ) (line : List ℕ) (row : Row)
    (before : Option (List ℕ)) → (i < length lines) × (line ≡ get_or lines i line) → Some row ≡ row_in line
    → option_or (option_or before (value_by_row key (Some row))) (value_among key (drop (i + 1) lines))
    ≡ option_or before (value_among key (drop i lines))
row_at key lines i line row before at is =
    or_assoc before (value_by_row key (Some row)) (value_among key (drop (i + 1) lines))
    ∙ ap (option_or before)
    (ap (λ r. option_or (value_by_row key r) (value_among key (drop (i + 1) lines))) is
    ∙ sym (one_more key lines i line at))
