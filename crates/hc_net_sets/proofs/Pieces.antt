-- What is read of a text, byte by byte, and its pieces.
use Rattle.hc_net_sets.proofs.Common.{◌≡◌, ℕ, zero, suc, ◌+◌, ◌==◌, ◌&&◌, Bool, true, false, refl}
use Rattle.hc_net_sets.proofs.Common.{sym, ◌∙◌, ap, ap₂}
use Rattle.hc_net_sets.proofs.Common.{List, [], ◌∷◌, take, drop, Some, None, if◌then◌else◌, arith}
use Rattle.hc_net_sets.proofs.Numbers.{no_last, number_read}
use Rattle.std.specs.List.{onto_first}
use Rattle.std.specs.Option.{option_map}
use Rattle.std.proofs.Common.{add-one}
use Rattle.hc_addr.specs.Addresses.{begins_with_gap, gap_of}
use Rattle.hc_addr.specs.Numbers.{is_colon}
use Rattle.hc_base.specs.Bytes.{colon}
use Rattle.hc_dfa.specs.Readings.{reading_from}
use Rattle.hc_dfa.specs.Texts.{TextSet}
use Rattle.hc_net_sets.specs.Digits.{begin_digits, ends, next_digits}
use Rattle.hc_net_sets.specs.Marks.{back_mark, behind_gap, behind_number, front_number, mark_ends}
use Rattle.hc_net_sets.specs.Marks.{next_mark}
use Rattle.hc_net_sets.specs.Rows.{back_fits, back_from, front_fits, gapped, gapped_texts, is_none, is_nothing}
use Rattle.hc_net_sets.specs.Rows.{number_fits}
use Rattle.hc_net_sets.specs.Rows.{number_in, parted, passes, pieces_of, row_fits}
use Rattle.hc_net_sets.specs.Sought.{fits_at, separator_of, zeros_fit}
use Rattle.hc_net_sets.specs.declared.digits.Digits.{Digits}
use Rattle.hc_net_sets.specs.declared.marks.Mark.{Mark}
use Rattle.hc_net_sets.specs.declared.marks.Mark.TheVariants.{Start, Colon, Front, After, Back, End, Other}
use Rattle.hc_net_sets.specs.declared.sought.Family.{Family}
use Rattle.hc_net_sets.specs.declared.sought.Family.TheVariants.{Four, Six}
use Rattle.hc_net_sets.specs.declared.sought.Sought.{Sought}

-- ---- the first `::`

parted_more : (front back : TextSet) (c : ℕ) (text : List ℕ) (found : _)
    → parted front back (c ∷ text) (option_map (λ at. at + 1) found)
    ≡ parted (λ f. front (c ∷ f)) back text found
parted_more front back c text None = refl
parted_more front back c text (Some at) =
    ap₂ (λ j k. front (take j (c ∷ text)) && back (drop k (c ∷ text))) (add-one at)
    (let e : at + 1 + 2 ≡ suc (at + 2) = omega arith in e)

-- One byte before the first `::`, or the begin of it.
pub gapped_more : (front back : TextSet) (c : ℕ) (text : List ℕ)
    → gapped front back (c ∷ text)
    ≡ (if begins_with_gap (c ∷ text) then front [] && back (drop 1 text)
    else gapped (λ f. front (c ∷ f)) back text)
gapped_more front back c text = by (begins_with_gap (c ∷ text))
  where
    by : (v : Bool) → parted front back (c ∷ text) (if v then Some 0 else option_map (λ at. at + 1) (gap_of text))
        ≡ (if v then front [] && back (drop 1 text) else gapped (λ f. front (c ∷ f)) back text)
    by true = refl
    by false = parted_more front back c text (gap_of text)

-- Where no text may stand before it.
pub gapped_none : (back : TextSet) (text : List ℕ) → gapped (λ f. false) back text ≡ false
gapped_none back text = by (gap_of text)
  where
    by : (found : _) → parted (λ f. false) back text found ≡ false
    by None = refl
    by (Some at) = refl

pub gapped_with : (first : Bool) (front back : TextSet) (text : List ℕ)
    → gapped (λ f. first && front f) back text ≡ (first && gapped front back text)
gapped_with true front back text = refl
gapped_with false front back text = gapped_none back text

pub no_gap : (c : ℕ) (text : List ℕ) → (c == colon) ≡ false → begins_with_gap (c ∷ text) ≡ false
no_gap c [] e = refl
no_gap c (d ∷ text) e = ap (λ v. v && is_colon d) e

module _ (sought : Sought) where
  -- ---- pieces

  -- Digits of a number that were read, and the pieces of the rest.
  abbrev pub in_row : (ℕ → Bool) → ℕ → Digits → List (List ℕ) → Bool
  in_row end place digits [] = ends sought place digits && end place
  in_row end place digits (piece ∷ pieces) =
      reading_from (next_digits sought place) (ends sought place) digits piece && row_fits sought end place pieces

  onto : (end : ℕ → Bool) (place : ℕ) (digits : Digits) (b : ℕ) (pieces : List (List ℕ))
      → in_row end place digits (onto_first b pieces) ≡ in_row end place (next_digits sought place digits b) pieces
  onto end place digits b [] = refl
  onto end place digits b (piece ∷ pieces) = refl

  pub row_more : (end : ℕ → Bool) (place : ℕ) (digits : Digits) (b : ℕ) (text : List ℕ)
      → in_row end place digits (pieces_of sought (b ∷ text))
      ≡ (if b == separator_of sought.family
      then ends sought place digits && row_fits sought end place (pieces_of sought text)
      else in_row end place (next_digits sought place digits b) (pieces_of sought text))
  row_more end place digits b text = by (b == separator_of sought.family)
    where
      by : (v : Bool)
          → in_row end place digits (if v then [] ∷ pieces_of sought text else onto_first b (pieces_of sought text))
          ≡ (if v then ends sought place digits && row_fits sought end place (pieces_of sought text)
          else in_row end place (next_digits sought place digits b) (pieces_of sought text))
      by true = refl
      by false = onto end place digits b (pieces_of sought text)

  begins : (end : ℕ → Bool) (place : ℕ) (piece : List ℕ) (pieces : List (List ℕ))
      → row_fits sought end (suc place) (piece ∷ pieces)
      ≡ in_row end place (begin_digits sought place) (piece ∷ pieces)
  begins end place piece pieces =
      ap (λ v. v && row_fits sought end place pieces) (sym (number_read sought place piece))

  -- The first number of a row begins.
  pub row_begins : (end : ℕ → Bool) (place : ℕ) (text : List ℕ)
      → row_fits sought end (suc place) (pieces_of sought text)
      ≡ in_row end place (begin_digits sought place) (pieces_of sought text)
  row_begins end place [] = begins end place [] []
  row_begins end place (b ∷ text) = by (b == separator_of sought.family) (pieces_of sought text)
    where
      by : (v : Bool) (pieces : List (List ℕ))
          → row_fits sought end (suc place) (if v then [] ∷ pieces else onto_first b pieces)
          ≡ in_row end place (begin_digits sought place) (if v then [] ∷ pieces else onto_first b pieces)
      by true pieces = begins end place [] pieces
      by false [] = begins end place (b ∷ []) []
      by false (piece ∷ pieces) = begins end place (b ∷ piece) pieces

  -- There is always a piece, and no place for it.
  pub row_full : (end : ℕ → Bool) (text : List ℕ) → row_fits sought end zero (pieces_of sought text) ≡ false
  row_full end [] = refl
  row_full end (b ∷ text) = by (b == separator_of sought.family) (pieces_of sought text)
    where
      by : (v : Bool) (pieces : List (List ℕ))
          → row_fits sought end zero (if v then [] ∷ pieces else onto_first b pieces) ≡ false
      by true pieces = refl
      by false [] = refl
      by false (piece ∷ pieces) = refl

  -- ---- what is read from a mark on

  abbrev pub reads_from : Mark → TextSet
  reads_from mark text = reading_from (next_mark sought) (mark_ends sought) mark text

  other_read : (text : List ℕ) → reads_from Other text ≡ false
  other_read [] = refl
  other_read (b ∷ text) = other_read text

  back_read : (text : List ℕ) (place : ℕ) (digits : Digits)
      → reads_from (Back place digits) text ≡ in_row is_none place digits (pieces_of sought text)
  back_read [] place digits = refl
  back_read (b ∷ text) place digits =
      by (b == separator_of sought.family) (back_read text) ∙ sym (row_more is_none place digits b text)
    where
      behind : (left : ℕ)
          → ((place : ℕ) (digits : Digits)
          → reads_from (Back place digits) text ≡ in_row is_none place digits (pieces_of sought text))
          → reads_from (behind_number sought left) text ≡ row_fits sought is_none left (pieces_of sought text)
      behind zero more = other_read text ∙ sym (row_full is_none text)
      behind (suc left) more = more left (begin_digits sought left) ∙ sym (row_begins is_none left text)

      ended : (v : Bool)
          → ((place : ℕ) (digits : Digits)
          → reads_from (Back place digits) text ≡ in_row is_none place digits (pieces_of sought text))
          → reads_from (if v then behind_number sought place else Other) text
          ≡ (v && row_fits sought is_none place (pieces_of sought text))
      ended true more = behind place more
      ended false more = other_read text

      by : (v : Bool)
          → ((place : ℕ) (digits : Digits)
          → reads_from (Back place digits) text ≡ in_row is_none place digits (pieces_of sought text))
          → reads_from (if v then (if ends sought place digits then behind_number sought place else Other)
          else Back place (next_digits sought place digits b)) text
          ≡ (if v then ends sought place digits && row_fits sought is_none place (pieces_of sought text)
          else in_row is_none place (next_digits sought place digits b) (pieces_of sought text))
      by true more = ended (ends sought place digits) more
      by false more = more place (next_digits sought place digits b)

  pub whole_read : (left : ℕ) (text : List ℕ)
      → reads_from (behind_number sought left) text ≡ row_fits sought is_none left (pieces_of sought text)
  whole_read zero text = other_read text ∙ sym (row_full is_none text)
  whole_read (suc left) text = back_read text left (begin_digits sought left) ∙ sym (row_begins is_none left text)

  end_read : (text : List ℕ) → reads_from End text ≡ is_nothing text
  end_read [] = refl
  end_read (b ∷ text) = other_read text

  back_begins : (behind : ℕ) (text : List ℕ) → reads_from (back_mark sought behind) text
      ≡ back_from sought behind text
  back_begins zero text = end_read text
  back_begins (suc place) text = whole_read (suc place) text

  gap_read : (left : ℕ) (text : List ℕ)
      → reads_from (behind_gap sought left) text ≡ (zeros_fit sought left && back_fits sought text)
  gap_read left text = by (zeros_fit sought left)
    where
      by : (v : Bool) → reads_from (if v then back_mark sought sought.behind else Other) text
          ≡ (v && back_fits sought text)
      by true = back_begins sought.behind text
      by false = other_read text

  module _ (colons : separator_of sought.family ≡ colon) where
    -- What the digits of a number and the rest before the first `::` are.
    abbrev front_on : ℕ → Digits → TextSet
    front_on place digits text =
        gapped (λ front. in_row (zeros_fit sought) place digits (pieces_of sought front)) (back_fits sought) text

    -- The front goes on, or has ended with its last colon.
    abbrev front_after : ℕ → TextSet
    front_after left text =
        gapped (λ front. row_fits sought (zeros_fit sought) left (pieces_of sought front)) (back_fits sought) text

    abbrev after_on : ℕ → TextSet
    after_on left [] = false
    after_on left (c ∷ text) =
        if c == colon then zeros_fit sought left && back_fits sought text else front_after left (c ∷ text)

    row_plain : (place : ℕ) (digits : Digits) (c : ℕ) (text : List ℕ) → (c == colon) ≡ false
        → in_row (zeros_fit sought) place digits (pieces_of sought (c ∷ text))
        ≡ in_row (zeros_fit sought) place (next_digits sought place digits c) (pieces_of sought text)
    row_plain place digits c text e =
        row_more (zeros_fit sought) place digits c text
        ∙ ap (λ v. if v then ends sought place digits
        && row_fits sought (zeros_fit sought) place (pieces_of sought text)
        else in_row (zeros_fit sought) place (next_digits sought place digits c) (pieces_of sought text))
        (ap (λ s. c == s) colons ∙ e)

    row_colon : (place : ℕ) (digits : Digits) (c : ℕ) (text : List ℕ) → (c == colon) ≡ true
        → in_row (zeros_fit sought) place digits (pieces_of sought (c ∷ text))
        ≡ (ends sought place digits && row_fits sought (zeros_fit sought) place (pieces_of sought text))
    row_colon place digits c text e =
        row_more (zeros_fit sought) place digits c text
        ∙ ap (λ v. if v then ends sought place digits
        && row_fits sought (zeros_fit sought) place (pieces_of sought text)
        else in_row (zeros_fit sought) place (next_digits sought place digits c) (pieces_of sought text))
        (ap (λ s. c == s) colons ∙ e)

    -- A byte that is no colon stands before the first `::`.
    plain_more : (front : TextSet) (c : ℕ) (text : List ℕ) → (c == colon) ≡ false
        → gapped front (back_fits sought) (c ∷ text) ≡ gapped (λ f. front (c ∷ f)) (back_fits sought) text
    plain_more front c text e =
        gapped_more front (back_fits sought) c text
        ∙ ap (λ v. if v then front [] && back_fits sought (drop 1 text)
        else gapped (λ f. front (c ∷ f)) (back_fits sought) text) (no_gap c text e)

    front_plain : (place : ℕ) (digits : Digits) (c : ℕ) (text : List ℕ) → (c == colon) ≡ false
        → front_on place digits (c ∷ text) ≡ front_on place (next_digits sought place digits c) text
    front_plain place digits c text e =
        plain_more (λ front. in_row (zeros_fit sought) place digits (pieces_of sought front)) c text e
        ∙ ap (λ front. gapped front (back_fits sought) text) (λ i front. row_plain place digits c front e i)

    -- Behind a colon.
    colon_more : (first : Bool) (left c d : ℕ) (text : List ℕ) (front : TextSet) → (c == colon) ≡ true
        → front [] ≡ (first && zeros_fit sought left)
        → ((rest : List ℕ) → front (c ∷ rest)
        ≡ (first && row_fits sought (zeros_fit sought) left (pieces_of sought rest)))
        → gapped front (back_fits sought) (c ∷ d ∷ text) ≡ (first && after_on left (d ∷ text))
    colon_more first left c d text front e none more =
        gapped_more front (back_fits sought) c (d ∷ text)
        ∙ ap (λ v. if v && is_colon d then front [] && back_fits sought text
        else gapped (λ f. front (c ∷ f)) (back_fits sought) (d ∷ text)) e
        ∙ ap (λ v. if is_colon d then v && back_fits sought text
        else gapped (λ f. front (c ∷ f)) (back_fits sought) (d ∷ text)) none
        ∙ ap (λ v. if is_colon d then (first && zeros_fit sought left) && back_fits sought text else v)
        (ap (λ f. gapped f (back_fits sought) (d ∷ text)) (λ i rest. more rest i)
        ∙ gapped_with first (λ rest. row_fits sought (zeros_fit sought) left (pieces_of sought rest))
        (back_fits sought)
        (d ∷ text))
        ∙ by first (d == colon) (front_after left (d ∷ text))
      where
        by : (v w g : Bool)
            → (if w then (v && zeros_fit sought left) && back_fits sought text else v && g)
            ≡ (v && (if w then zeros_fit sought left && back_fits sought text else g))
        by true w g = refl
        by false true g = refl
        by false false g = refl

    -- ---- what is read of a text with `::`

    -- What stands before `::`, from the digits of a number on, or behind a colon.
    abbrev AreRead : List ℕ → Type 0
    AreRead text = ((place : ℕ) (digits : Digits) → reads_from (Front place digits) text
        ≡ front_on place digits text)
        × ((left : ℕ) → reads_from (After left) text ≡ after_on left text)

    ended_after : (v : Bool) (place : ℕ) (text : List ℕ) → reads_from (After place) text ≡ after_on place text
        → reads_from (if v then After place else Other) text ≡ (v && after_on place text)
    ended_after true place text more = more
    ended_after false place text more = other_read text

    front_colon : (place : ℕ) (digits : Digits) (b : ℕ) (text : List ℕ) → (b == colon) ≡ true → AreRead text
        → reads_from (if ends sought place digits then After place else Other) text
        ≡ front_on place digits (b ∷ text)
    front_colon place digits b [] e more =
        ended_after (ends sought place digits) place [] refl ∙ no_last (ends sought place digits)
    front_colon place digits b (d ∷ text) e more =
        ended_after (ends sought place digits) place (d ∷ text) (more.1 place)
        ∙ sym (colon_more (ends sought place digits) place b d text
        (λ front. in_row (zeros_fit sought) place digits (pieces_of sought front)) e refl
        (λ rest. row_colon place digits b rest e))

    front_step : (b : ℕ) (text : List ℕ) → AreRead text → (place : ℕ) (digits : Digits)
        → reads_from (Front place digits) (b ∷ text) ≡ front_on place digits (b ∷ text)
    front_step b text more place digits = by (b == colon) refl
      where
        by : (v : Bool) → (b == colon) ≡ v
            → reads_from (if v then (if ends sought place digits then After place else Other)
            else Front place (next_digits sought place digits b)) text ≡ front_on place digits (b ∷ text)
        by true e = front_colon place digits b text e more
        by false e = more.0 place (next_digits sought place digits b) ∙ sym (front_plain place digits b text e)

    front_from : (left c : ℕ) (text : List ℕ) → (c == colon) ≡ false → AreRead text
        → reads_from (front_number sought left c) text ≡ front_after left (c ∷ text)
    front_from zero c text e more =
        other_read text
        ∙ sym (ap (λ f. gapped f (back_fits sought) (c ∷ text)) (λ i front. row_full (zeros_fit sought) front i)
        ∙ gapped_none (back_fits sought) (c ∷ text))
    front_from (suc place) c text e more =
        more.0 place (next_digits sought place (begin_digits sought place) c)
        ∙ sym (front_plain place (begin_digits sought place) c text e)
        ∙ sym (ap (λ f. gapped f (back_fits sought) (c ∷ text))
        (λ i front. row_begins (zeros_fit sought) place front i))

    after_step : (c : ℕ) (text : List ℕ) → AreRead text → (left : ℕ)
        → reads_from (After left) (c ∷ text) ≡ after_on left (c ∷ text)
    after_step c text more left = by (c == colon) refl
      where
        by : (v : Bool) → (c == colon) ≡ v
            → reads_from (if v then behind_gap sought left else front_number sought left c) text
            ≡ (if v then zeros_fit sought left && back_fits sought text else front_after left (c ∷ text))
        by true e = gap_read left text
        by false e = front_from left c text e more

    fronts_read : (text : List ℕ) → AreRead text
    fronts_read [] = (λ place digits. refl, λ left. refl)
    fronts_read (b ∷ text) = (front_step b text (fronts_read text), after_step b text (fronts_read text))

    nothing : (place : ℕ) → number_fits sought place [] ≡ false
    nothing place = by sought.family
      where
        by : (family : Family) → passes (fits_at sought place) (number_in family []) ≡ false
        by Four = refl
        by Six = refl

    -- A front begins with a number.
    start_plain : (c : ℕ) (rest : List ℕ) → (c == colon) ≡ false
        → front_fits sought (c ∷ rest)
        ≡ in_row (zeros_fit sought) 7 (next_digits sought 7 (begin_digits sought 7) c) (pieces_of sought rest)
    start_plain c rest e =
        row_begins (zeros_fit sought) 7 (c ∷ rest) ∙ row_plain 7 (begin_digits sought 7) c rest e

    start_colon : (c : ℕ) (rest : List ℕ) → (c == colon) ≡ true → front_fits sought (c ∷ rest) ≡ false
    start_colon c rest e =
        row_begins (zeros_fit sought) 7 (c ∷ rest) ∙ row_colon 7 (begin_digits sought 7) c rest e
        ∙ ap (λ v. v && row_fits sought (zeros_fit sought) 7 (pieces_of sought rest))
        (number_read sought 7 [] ∙ nothing 7)

    second_colon : (c : ℕ) (text : List ℕ) → (c == colon) ≡ true
        → reads_from Colon text ≡ gapped_texts sought (c ∷ text)
    second_colon c [] e = refl
    second_colon c (d ∷ text) e =
        by (d == colon)
        ∙ sym (gapped_more (front_fits sought) (back_fits sought) c (d ∷ text)
        ∙ ap (λ v. if v && is_colon d then zeros_fit sought 8 && back_fits sought text
        else gapped (λ f. front_fits sought (c ∷ f)) (back_fits sought) (d ∷ text)) e
        ∙ ap (λ v. if is_colon d then zeros_fit sought 8 && back_fits sought text else v)
        (ap (λ f. gapped f (back_fits sought) (d ∷ text)) (λ i rest. start_colon c rest e i)
        ∙ gapped_none (back_fits sought) (d ∷ text)))
      where
        by : (v : Bool) → reads_from (if v then behind_gap sought 8 else Other) text
            ≡ (if v then zeros_fit sought 8 && back_fits sought text else false)
        by true = gap_read 8 text
        by false = other_read text

    pub gapped_read : (text : List ℕ) → reads_from Start text ≡ gapped_texts sought text
    gapped_read [] = refl
    gapped_read (c ∷ text) = by (c == colon) refl
      where
        by : (v : Bool) → (c == colon) ≡ v
            → reads_from (if v then Colon else front_number sought 8 c) text ≡ gapped_texts sought (c ∷ text)
        by true e = second_colon c text e
        by false e =
            (fronts_read text).0 7 (next_digits sought 7 (begin_digits sought 7) c)
            ∙ sym (plain_more (front_fits sought) c text e
            ∙ ap (λ f. gapped f (back_fits sought) text) (λ i rest. start_plain c rest e i))
