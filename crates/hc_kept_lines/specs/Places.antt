-- The physical lines of a text, as places between its bytes.
use Rattle.std.specs.Prelude.{◌≡◌, ℕ, ◌+◌, ◌≤◌, List, [], ◌∷◌, ◌++◌, length, take, drop}
use Rattle.std.specs.Prelude.{if◌then◌else◌, true}
use Rattle.std.specs.Str.{IsUtf8}
use Rattle.hc_base.specs.Lines.{is_lf, pieces}
use Rattle.hc_kept_lines.specs.Edit.{is_ended, open_line, touched, up_to}
use Rattle.hc_kept_lines.specs.Runs.{Parts}

-- How many bytes the first physical line has, with its LF.
abbrev pub piece_len : List ℕ → ℕ
piece_len [] = 0
piece_len (b ∷ bs) = if is_lf b then 1 else piece_len bs + 1

-- So many physical lines end at a place.
pub record IsBehind (text : List ℕ) (lines at : ℕ) : Type 0 where
  pub within : at ≤ length text
  pub before : take at text ≡ up_to lines text
  pub rest : drop lines (pieces text) ≡ pieces (drop at text)
  pub count : lines ≤ length (pieces text)
  pub whole : IsUtf8 (drop at text)

-- The old text between two places is replaced by a new one: what this touches is the old text from a first place to a
-- last one, which becomes this text, whose logical lines are made by the edit.
pub record IsPart (old : List ℕ) (start end : ℕ) (new : List ℕ) (first last : ℕ) (text : List ℕ) : Type 0 where
  pub before : first ≤ length old
  pub within : last ≤ length old
  pub ended : is_ended (take first old) ≡ true
  pub parts_old : Parts (take last old) (drop last old)
  pub parts_new : Parts text (drop last old)
  pub whole : take first old ++ (text ++ drop last old) ≡ take start old ++ new ++ drop end old
  pub made : length text ≡ length (open_line (take start old)) + length new
      + length (touched (take end old) (take start old ++ new) (drop end old))
