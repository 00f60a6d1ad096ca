-- The physical lines of a run, passed one after another.
use Rattle.hc_lines.proofs.Common.{◌≡◌, ℕ, ◌+◌, ◌-◌, ◌<◌, ◌≤◌, List, ◌∷◌, length, drop}
use Rattle.hc_lines.proofs.Common.{slice_index, concat, lf, pieces, after_run, first_run}

-- What was passed, and the first run of the rest, is the first run of the whole.
pub record Passed (text : List ℕ) (end count : ℕ) : Type 0 where
  pub bytes : length (concat (first_run (pieces text))) ≡ end + length (concat (first_run (pieces (drop end text))))
  pub pieces_count : length (first_run (pieces text)) ≡ count + length (first_run (pieces (drop end text)))
  pub behind : after_run (pieces text) ≡ after_run (pieces (drop end text))
  pub within : count ≤ end
  pub inside : end ≤ length text
  pub last : 0 < end → end < length text → slice_index text (end - 1) ≡ lf
  pub some : 0 < end → 0 < count

-- The next physical line of the rest.
pub record IsNext (text : List ℕ) (end : ℕ) (piece : List ℕ) : Type 0 where
  pub cut : pieces (drop end text) ≡ piece ∷ pieces (drop (length piece) (drop end text))
  pub filled : 0 < length piece
  pub fits : length piece ≤ length (drop end text)
  pub ended : length piece < length (drop end text) → slice_index (drop end text) (length piece - 1) ≡ lf

pub record IsRunEnd (text : List ℕ) (end count : ℕ) : Type 0 where
  pub bytes : length (concat (first_run (pieces text))) ≡ end
  pub pieces_count : length (first_run (pieces text)) ≡ count
  pub behind : after_run (pieces text) ≡ pieces (drop end text)
