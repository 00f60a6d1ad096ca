-- A text is cut into logical lines from its front on.
use Rattle.std.proofs.Common.{◌≡◌, ℕ, ◌+◌, ◌<◌, ◌≤◌, List, [], ◌∷◌, ◌++◌, length, take}
use Rattle.std.proofs.Common.{drop}
use Rattle.std.proofs.Common.{Bool, true, false, ◌||◌, refl, sym, ◌∙◌, ap, arith, append_assoc, length-append}
use Rattle.std.proofs.Math.Bool.{or-true}
use Rattle.std.proofs.Math.Seq.{drop-length, take-length}
use Rattle.std.proofs.lemmas.List.{drop-take, length-take-le, take-append-drop, take-take, take_all}
use Rattle.std.proofs.lemmas.List.{drop_all}
use Rattle.hc_base.specs.Lines.{pieces}
use Rattle.hc_lines.specs.Logical.{size}
use Rattle.hc_kept_lines.specs.Edit.{is_ended}
use Rattle.hc_kept_lines.specs.Runs.{AreKept, IsKeptRun, IsLineLen, IsReadAs, IsUncut, Parts}
use Rattle.hc_kept_lines.specs.declared.runs.KeptRun.{KeptRun}
use Rattle.hc_kept_lines.specs.declared.runs.Reading.{Reading}
use Rattle.hc_kept_lines.proofs.Ending.{ended-behind, runs-single}
use Rattle.hc_kept_lines.proofs.Keeping.{Parts-ended, Parts-front, together}

-- ---- the first logical line

pub line_len-found : (text : List ℕ) (n : ℕ) → 0 < n → n < length text
    → ((k : ℕ) → 0 < k → k < n → is_ended (take k text) ≡ false) → is_ended (take n text) ≡ true
    → IsLineLen text n
line_len-found text n some inside none is = record {
  some = some;
  inside = omega arith;
  uncut = record { cut = λ k more less. uncut k more (rw (length-take-le n text (omega arith)) at less) };
  parts = Parts-ended (take n text) (drop n text) is;
}
  where
    uncut : (k : ℕ) → 0 < k → k < n → is_ended (take k (take n text)) ≡ false
    uncut k more less = ap is_ended (take-take k n text (omega arith)) ∙ none k more less

pub line_len-all : (text : List ℕ) → 0 < length text
    → ((k : ℕ) → 0 < k → k < length text → is_ended (take k text) ≡ false) → IsLineLen text (length text)
line_len-all text some none = record {
  some = some;
  inside = omega arith;
  uncut = rw take-length (record { cut = none });
  parts = rw drop-length (or-true (is_ended (take (length text) text)));
}

-- ---- one after another

pub take_sum : (m n : ℕ) (text : List ℕ) → take (m + n) text ≡ take m text ++ take n (drop m text)
take_sum m n text =
    sym (take-append-drop m (take (m + n) text)) ∙ ap (λ front. front ++ drop m (take (m + n) text))
    (take-take m (m + n) text (omega arith)) ∙ ap (λ rest. take m text ++ rest) (drop-take m n text)

-- behind a logical line of the second part
pub Parts-next : (front mid back : List ℕ) → 0 < length mid → Parts front (mid ++ back) → Parts mid back
    → Parts (front ++ mid) back
Parts-next front mid [] some first second = or-true (is_ended (front ++ mid))
Parts-next front [] (b ∷ back) some first second = absurd (omega arith)
Parts-next front (m ∷ mid) (b ∷ back) some first second =
    ap (λ v. v || false) (ended-behind front m mid (ended _ first)) ∙ second
  where
    ended : (v : Bool) → (v || false) ≡ true → v ≡ true
    ended true h = refl
    ended false h = h

pub kept_alone : (line : List ℕ) (run : KeptRun) → IsKeptRun line [] run
    → AreKept line (run ∷ [])
kept_alone line run kept =
    let all : length line ≤ run.bytes = omega (arith, kept.bytes) in
    rw (take_all run.bytes line all, drop_all run.bytes line all) (kept, refl)

-- a logical line that is read
pub one_kept : (line : List ℕ) (count size_of : ℕ) (read : Reading) → 0 < length line → IsUncut line
    → count ≡ length (pieces line) → size_of ≡ size count line
    → IsReadAs line (size (length (pieces line)) line) read
    → IsKeptRun line [] (record { bytes = length line; count = count; size = size_of; read = read })
one_kept line count size_of read some uncut counts sizes is = record {
  bytes = refl;
  some = some;
  single = runs-single line some uncut;
  count = counts;
  ended = or-true (is_ended line);
  read = rw (sizes, counts) is;
}

-- ---- the lines so far

-- The logical lines of a text up to a place are read, and so many bytes were counted.
pub record ReadTo (text rest : List ℕ) (made : List KeptRun) (first now : ℕ) : Type 0 where
  pub front : List ℕ
  pub whole : front ++ rest ≡ text
  pub parts : Parts front rest
  pub kept : AreKept front made
  pub counted : now ≡ first + length front

pub ReadTo-more : (text rest behind : List ℕ) (made more : List KeptRun) (run : KeptRun) (n first now now' : ℕ)
    → ReadTo text rest made first now → IsLineLen rest n → IsKeptRun (take n rest) [] run
    → more ≡ made ++ run ∷ [] → now' ≡ now + length (take n rest) → behind ≡ drop n rest
    → ReadTo text behind more first now'
ReadTo-more text rest behind made more run n first now now' to is kept e counts later =
    let line = take n rest in
    let size : length line ≡ n = length-take-le n rest is.inside in
    let parts : Parts to.front (line ++ drop n rest) = rw (take-append-drop n rest) to.parts in
    rw (e, later) (record {
      front = to.front ++ line;
      whole = append_assoc to.front line (drop n rest) ∙ ap (λ l. to.front ++ l) (take-append-drop n rest)
          ∙ to.whole;
      parts = Parts-next to.front line (drop n rest) (omega (arith, size, is.some)) parts is.parts;
      kept = together to.front line made (run ∷ []) (Parts-front to.front line (drop n rest) parts) to.kept
          (kept_alone line run kept);
      counted = omega (arith, counts, to.counted, length-append to.front line);
    })
