-- What maps give for keys of bytes is of bytes.
use Rattle.std.proofs.Common.{◌≡◌, ℕ, zero, suc, ◌-◌, ◌<◌, Bool, true, false, cond, List, [], ◌∷◌}
use Rattle.std.proofs.Common.{length, take, map, Option, Some, None, option_map, option_and_then, subst, refl, arith}
use Rattle.std.proofs.Common.{find, filter, filter_map, IfSome, bytes_eq}
use Rattle.std.proofs.lemmas.Bool.{ltb-true}
use Rattle.std.proofs.lemmas.List.Elements.{All-from_recursion}
use Rattle.std.specs.Char.{to_ascii_lowercase, to_ascii_uppercase}
use Rattle.std.specs.List.{AllByRecursion, cons_option, onto_first, slice_split}
use Rattle.hc_abs_rw.specs.Around.{GivesBytes, texts_in}
use Rattle.hc_base.specs.Bytes.{begins_with, cr, ends_with, hash}
use Rattle.hc_base.specs.Lines.{between_blanks, is_blank, is_lf}
use Rattle.hc_dfa.specs.Texts.{IsText}
use Rattle.hc_map.specs.Maps.{Row, map_named, row_in, row_of, rows_of, text_behind, value_among, value_by, value_in}
use Rattle.hc_map.specs.Maps.{without_cr, file_of_kind}
use Rattle.hc_model.specs.World.{World}
use Rattle.hc_model.specs.declared.mapping.Map.{Map}
use Rattle.hc_model.specs.declared.mapping.MapKind.{MapKind}
use Rattle.hc_model.specs.declared.mapping.MapKind.TheVariants.{File, Lower, Upper}
use Rattle.hc_world.proofs.Listed.{utf8_bytes}
use Rattle.hc_world.specs.Places.{HasUtf8}

-- ---- the text of a map

abbrev AreTexts : List (List ℕ) → Type 0
AreTexts = AllByRecursion IsText

onto_parts : (b : ℕ) (parts : List (List ℕ)) → b < 256 → AreTexts parts → AreTexts (onto_first b parts)
onto_parts b [] small all = ((small, tt), tt)
onto_parts b (part ∷ parts) small all = ((small, all.0), all.1)

parts_bytes : (p : ℕ → Bool) (text : List ℕ) → IsText text → AreTexts (slice_split p text)
parts_bytes p [] all = (tt, tt)
parts_bytes p (b ∷ text) all = by (p b) (parts_bytes p text all.1)
  where
    by : (cut : Bool) → AreTexts (slice_split p text)
        → AreTexts (cond cut ([] ∷ slice_split p text) (onto_first b (slice_split p text)))
    by true parts = (tt, parts)
    by false parts = onto_parts b (slice_split p text) all.0 parts

taken : (n : ℕ) (text : List ℕ) → IsText text → IsText (take n text)
taken zero text all = tt
taken (suc n) [] all = tt
taken (suc n) (b ∷ text) all = (all.0, taken n text all.1)

kept : (p : List ℕ → Bool) (words : List (List ℕ)) → AreTexts words → AreTexts (filter p words)
kept p [] all = tt
kept p (word ∷ words) all = by (p word) (kept p words all.1)
  where
    by : (keeps : Bool) → AreTexts (filter p words)
        → AreTexts (cond keeps (word ∷ filter p words) (filter p words))
    by true rest = (all.0, rest)
    by false rest = rest

abbrev HasText : Row → Type 0
HasText row = IsText row.1

row_bytes : (line : List ℕ) → IsText line → IfSome (row_in line) HasText
row_bytes line all =
    of (between_blanks (without_cr line)) (kept _ _ (parts_bytes is_blank _ (whole (ends_with cr line))))
  where
    whole : (ended : Bool) → IsText (cond ended (take (length line - 1) line) line)
    whole true = taken (length line - 1) line all
    whole false = all

    second : (words : List (List ℕ)) → AreTexts words → IsText (value_among words)
    second [] all = tt
    second (word ∷ words) all = all.0

    of : (words : List (List ℕ)) → AreTexts words → IfSome (row_of words) HasText
    of [] all = tt
    of (key ∷ words) all = by (begins_with hash key)
      where
        by : (comment : Bool) → IfSome (cond comment None (Some (key, value_among words))) HasText
        by true = tt
        by false = second words all.1

rows_bytes : (lines : List (List ℕ)) → AreTexts lines → AllByRecursion HasText (filter_map row_in lines)
rows_bytes [] all = tt
rows_bytes (line ∷ lines) all = by (row_in line) (row_bytes line all.0) (rows_bytes lines all.1)
  where
    by : (row : Option Row) → IfSome row HasText → AllByRecursion HasText (filter_map row_in lines)
        → AllByRecursion HasText (cons_option row (filter_map row_in lines))
    by None has rest = rest
    by (Some row) has rest = (has, rest)

module _ (key value : List ℕ) where
  abbrev Gives : Option Row → Type 0
  Gives row = option_map (λ (row : Row). row.1) row ≡ Some value

  found_bytes : (rows : List Row) → AllByRecursion HasText rows → Gives (find (λ row. bytes_eq row.0 key) rows)
      → IsText value
  found_bytes [] all is = absurd (cc)
  found_bytes (row ∷ rows) all is = by (bytes_eq row.0 key) (found_bytes rows all.1) is
    where
      by : (same : Bool) → (Gives (find (λ row. bytes_eq row.0 key) rows) → IsText value)
          → Gives (cond same (Some row) (find (λ row. bytes_eq row.0 key) rows)) → IsText value
      by true rest is = let own : row.1 ≡ value = cc in subst IsText own all.0
      by false rest is = rest is

  value_bytes : (text : List ℕ) → IsText text → value_in key text ≡ Some value → IsText value
  value_bytes text all is = found_bytes (rows_of text) (rows_bytes _ (parts_bytes is_lf text all)) is

-- ---- internal functions

changed_bytes : (change : ℕ → ℕ) → ((b : ℕ) → b < 256 → change b < 256) → (text : List ℕ)
    → IsText text → IsText (map change text)
changed_bytes change small [] all = tt
changed_bytes change small (b ∷ text) all = (small b all.0, changed_bytes change small text all.1)

upper_byte : (b : ℕ) → b < 256 → to_ascii_uppercase b < 256
upper_byte b small = grind arith

lower_byte : (b : ℕ) → b < 256 → to_ascii_lowercase b < 256
lower_byte b small = grind (arith, ltb-true)

-- ---- maps

pub gives_bytes : (maps : List Map) (world : World) → HasUtf8 world → GivesBytes maps world
gives_bytes maps world utf8 name key value all is = All-from_recursion _ value (by (map_named maps name) is)
  where
    from : (path : List ℕ) (text : Option (List ℕ)) → texts_in world path ≡ text
        → option_and_then (value_in key) text ≡ Some value → IsText value
    from path None at is = absurd (cc)
    from path (Some text) at is = value_bytes key value text (utf8_bytes text (utf8 path text at)) is

    of : (kind : MapKind) → value_by kind key (text_behind (texts_in world) (file_of_kind kind)) ≡ Some value
        → IsText value
    of (File path) is = from path (texts_in world path) refl is
    of Upper is =
        let own : map to_ascii_uppercase key ≡ value = cc in
        subst IsText own (changed_bytes to_ascii_uppercase upper_byte key all)
    of Lower is =
        let own : map to_ascii_lowercase key ≡ value = cc in
        subst IsText own (changed_bytes to_ascii_lowercase lower_byte key all)

    by : (found : Option Map) → option_and_then (λ (each : Map). value_by each.kind key (text_behind (texts_in world)
        (option_and_then (λ (each : Map). file_of_kind each.kind) found))) found ≡ Some value → IsText value
    by None is = absurd (cc)
    by (Some each) is = of each.kind is
