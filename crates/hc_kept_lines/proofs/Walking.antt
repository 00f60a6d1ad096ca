-- Logical lines that are read by themselves, and those of a text that are told one after another.
use Rattle.std.proofs.Common.{◌≡◌, ℕ, ◌+◌, ◌-◌, ◌<◌, ◌≤◌, List, [], ◌∷◌}
use Rattle.std.proofs.Common.{◌++◌, length, take, drop, get_or, nat_lt, if◌then◌else◌}
use Rattle.std.proofs.Common.{Bool, true, false, ◌||◌, refl, sym, ◌∙◌, ap, arith, subst}
use Rattle.std.proofs.Common.{append_assoc, append-nil, ltb-true, ltb-false}
use Rattle.std.proofs.Common.{Option, Some, None, Result, Ok, Err, length-drop}
use Rattle.std.specs.List.{cons_option, list_any}
use Rattle.std.specs.Str.{IsUtf8}
use Rattle.std.proofs.lemmas.List.{drop_more, get_or-take, length-take, length-take-le, take-append-drop}
use Rattle.hc_base.specs.Gives.{Gives, GivesList}
use Rattle.hc_base.specs.Lines.{pieces}
use Rattle.hc_base.specs.declared.codes.TheConstants.{CONTROL_BYTE, LINE_TOO_LONG}
use Rattle.hc_base.specs.declared.fault.AtLine.{AtLine}
use Rattle.hc_base.specs.declared.fault.Fault.{Fault}
use Rattle.hc_base.specs.declared.fault.Fault.TheVariants.{NoMemory, Refused}
use Rattle.hc_lines.specs.Logical.{before, broken_by, indent, is_forbidden, line_at, line_of, lines_from}
use Rattle.hc_lines.specs.Logical.{longest, read_as, runs, says_something, size, source, then_lines, without_end}
unfoldable use Rattle.hc_lines.specs.Logical.{lines_of}
use Rattle.hc_lines.specs.declared.line.FileKind.{FileKind}
use Rattle.hc_lines.specs.declared.line.FileKind.TheVariants.{Config, Htaccess}
use Rattle.hc_lines.specs.declared.line.Line.{Line}
use Rattle.hc_lines.specs.declared.logical.TheConstants.{LONGEST_LINE}
use Rattle.hc_kept_lines.specs.Edit.{is_ended}
use Rattle.hc_kept_lines.specs.Runs.{AreKept, IsKeptRun, IsReadAs, IsSpan, Parts, reading_of, told, told_in}
use Rattle.hc_kept_lines.specs.declared.runs.KeptRun.{KeptRun}
use Rattle.hc_kept_lines.specs.declared.runs.Reading.{Reading}
use Rattle.hc_kept_lines.specs.declared.runs.Reading.TheVariants.{Forbidden, Nothing, Said}
use Rattle.hc_kept_lines.proofs.Ending.{concat-pieces, ended-lf, few_pieces}
use Rattle.hc_kept_lines.proofs.Keeping.{runs-parts}
use Rattle.hc_kept_lines.proofs.Trimming.{is_source}

-- ---- a logical line by itself

-- before a place at which a line ends stands a byte of ASCII
pub parts_ascii : (text : List ℕ) (n : ℕ) → 0 < n → n < length text → Parts (take n text) (drop n text)
    → get_or text (n - 1) 0 < 128
parts_ascii text n some inside parts = by (drop n text) (length-drop n text) parts
  where
    ended : (v : Bool) → (v || false) ≡ true → v ≡ true
    ended true h = refl
    ended false h = h

    here : is_ended (take n text) ≡ true → get_or text (n - 1) 0 < 128
    here is =
        let size = length-take-le n text (omega arith) in
        let byte = ended-lf (take n text) is (omega (arith, size)) in
        let same : get_or (take n text) (n - 1) 0 ≡ get_or text (n - 1) 0 = get_or-take n text (n - 1) 0
        (omega arith) in
        omega (arith, rw size at byte, same)

    by : (back : List ℕ) → length back ≡ length text - n → Parts (take n text) back
        → get_or text (n - 1) 0 < 128
    by [] size parts = absurd (omega arith)
    by (b ∷ back) size parts = here (ended _ parts)

lines_of-single : (file : FileKind) (line : List ℕ) → runs (pieces line) ≡ pieces line ∷ []
    → lines_of file line ≡ then_lines (line_at file 1 0 (length (pieces line)) line) (Ok [])
unfolding lines_of
lines_of-single file line single = rw (single, concat-pieces line) refl

-- the size of a line, and the rule that it breaks where it isn't too long
abbrev pub size_of : List ℕ → ℕ
size_of line = size (length (pieces line)) line

abbrev forbidden_in : List ℕ → Option ℕ
forbidden_in line = if list_any is_forbidden (without_end line) then Some CONTROL_BYTE else None

-- What is kept of a line that isn't too long for a configuration.
record IsTold (line : List ℕ) (read : Reading) : Type 0 where
  is : (number place : ℕ) → read_as (forbidden_in line) (says_something line) (line_of number place line)
      ≡ told read line number place

-- A line that is short enough for an `.htaccess` file is so for a configuration.
longer : (kind : FileKind) (n : ℕ) → nat_lt (longest kind) n ≡ false → nat_lt LONGEST_LINE n ≡ false
longer Config n e = e
longer Htaccess n e = by _ refl
  where
    by : (v : Bool) → nat_lt LONGEST_LINE n ≡ v → nat_lt LONGEST_LINE n ≡ false
    by true f = absurd (omega (arith, ltb-true _ _ f, ltb-false _ _ e))
    by false f = f

read_so : (line : List ℕ) (read : Reading) → (nat_lt LONGEST_LINE (size_of line) ≡ false → IsTold line read)
    → IsSpan read line → IsReadAs line (size_of line) read
read_so line read short span = record { reads = reads; span = span }
  where
    by : (kind : FileKind) (number place : ℕ) (v : Bool) → nat_lt (longest kind) (size_of line) ≡ v
        → line_at kind number place (length (pieces line)) line ≡ told_in kind (size_of line) read line number place
    by kind number place true e = rw e refl
    by kind number place false e = rw e ((short (longer kind (size_of line) e)).is number place)

    reads : (kind : FileKind) (number place : ℕ)
        → line_at kind number place (length (pieces line)) line ≡ told_in kind (size_of line) read line number place
    reads kind number place = by kind number place _ refl

-- of a line that a configuration may have, nothing is forbidden
sound_by : (line : List ℕ) → broken_by Config (length (pieces line)) line ≡ None → forbidden_in line ≡ None
sound_by line = by _ refl
  where
    none_isnt : (broken : Option ℕ) → broken ≡ Some LINE_TOO_LONG → broken ≡ None → ⊥
    none_isnt broken e f = cc

    by : (v : Bool) → nat_lt LONGEST_LINE (size_of line) ≡ v → broken_by Config (length (pieces line)) line ≡ None
        → forbidden_in line ≡ None
    by true e f = absurd (none_isnt _ (rw e refl) f)
    by false e f = rw e at f

said_by : (line : List ℕ) → IsUtf8 line → forbidden_in line ≡ None → says_something line ≡ true
    → IsReadAs line (size_of line) (Said (0 + indent line) (0 + indent line + length (source line)))
said_by line whole sound says =
    let zero_at : 0 + indent line ≡ indent line = omega arith in
    let cut = is_source line whole in
    rw zero_at (read_so line (Said (indent line) (indent line + length (source line)))
    (λ _. record { is = λ number place. rw (sound, says, cut.is, sums number place) refl })
    (omega arith, cut.first, cut.last))
  where
    sums : (number place : ℕ) → place + indent line + length (source line) ≡ place + (indent line + length
        (source line))
    sums number place = omega arith

-- What it is read as, by the lines that it has by itself.
pub read-said : (line : List ℕ) (lines : List Line) → IsUtf8 line
    → runs (pieces line) ≡ pieces line ∷ [] → lines_of Config line ≡ Ok lines
    → IsReadAs line (size_of line) (reading_of lines)
read-said line lines whole single e =
    by (broken_by Config (length (pieces line)) line) (says_something line) refl refl (sym
    (lines_of-single Config line single) ∙ e)
  where
    by : (b : Option ℕ) (v : Bool) → broken_by Config (length (pieces line)) line ≡ b → says_something line ≡ v
        → then_lines (read_as b v (line_of 1 0 line)) (Ok []) ≡ Ok lines
        → IsReadAs line (size_of line) (reading_of lines)
    by (Some code) v f g h = cc
    by None false f g h =
        let none : [] ≡ lines = cc in
        subst (λ lines. IsReadAs line (size_of line) (reading_of lines)) none
        (read_so line Nothing (λ _. record { is = λ number place. rw (sound_by line f, g) refl }) tt)
    by None true f g h =
        let one : line_of 1 0 line ∷ [] ≡ lines = cc in
        subst (λ lines. IsReadAs line (size_of line) (reading_of lines)) one (said_by line whole (sound_by line f) g)

-- A configuration that refuses it has it too long for either kind, or forbidden.
pub read-refused : (line : List ℕ) (refusal : AtLine) → runs (pieces line) ≡ pieces line ∷ []
    → lines_of Config line ≡ Err refusal → IsReadAs line (size_of line) Forbidden
read-refused line refusal single e = read_so line Forbidden
    (λ short. by _ _ refl refl short (sym (lines_of-single Config line single) ∙ e)) tt
  where
    ok_isnt : (xs : List Line) → Ok xs ≡ Err refusal → ⊥
    ok_isnt xs e = cc

    by : (v w : Bool) → list_any is_forbidden (without_end line) ≡ v → says_something line ≡ w
        → nat_lt LONGEST_LINE (size_of line) ≡ false
        → then_lines (line_at Config 1 0 (length (pieces line)) line) (Ok []) ≡ Err refusal → IsTold line Forbidden
    by true w f g short h = record { is = λ number place. rw f refl }
    by false true f g short h = absurd (ok_isnt _ (rw (short, f, g) at h))
    by false false f g short h = absurd (ok_isnt _ (rw (short, f, g) at h))

-- ---- the walk

before-nil : (r : Result (List Line) AtLine) → before [] r ≡ r
before-nil (Ok lines) = refl
before-nil (Err e) = refl

before-before : (first second : List Line) (r : Result (List Line) AtLine) → before first (before second r)
    ≡ before (first ++ second) r
before-before first second (Ok lines) = ap Ok (sym (append_assoc first second lines))
before-before first second (Err e) = refl

next_of : (lines : List Line) (line : Option Line) (more : Result (List Line) AtLine)
    → before (lines ++ cons_option line []) more ≡ before lines (then_lines (Ok line) more)
next_of lines None more = rw append-nil refl
next_of lines (Some line) more = sym (before-before lines (line ∷ []) more)

-- Behind so many logical lines a text goes on so, under this number at this place, and these lines are told before.
pub record ToldTo (kind : FileKind) (text : List ℕ) (kept : List KeptRun) (index number place : ℕ)
    (rest : List ℕ) (lines : List Line) : Type 0 where
  pub size : place + length rest ≡ length text
  pub back : AreKept rest (drop index kept)
  pub few : number ≤ place + 1
  pub so_far : before lines (lines_from kind number place (runs (pieces rest))) ≡ lines_of kind text

pub ToldTo-start : (kind : FileKind) (text : List ℕ) (kept : List KeptRun) → AreKept text kept
    → ToldTo kind text kept 0 1 0 text []
unfolding lines_of
ToldTo-start kind text kept is = record {
  size = omega arith;
  back = is;
  few = omega arith;
  so_far = before-nil (lines_of kind text);
}

abbrev pub run_at : List KeptRun → ℕ → KeptRun
run_at kept index = get_or kept index (record { bytes = 0; count = 0; size = 0; read = Nothing })

-- The logical line that a text goes on with is kept so.
pub record IsNext (rest : List ℕ) (kept : List KeptRun) (index : ℕ) (run : KeptRun) : Type 0 where
  pub here : IsKeptRun (take run.bytes rest) (drop run.bytes rest) run
  pub later : AreKept (drop run.bytes rest) (drop (index + 1) kept)
  pub fits : run.bytes ≤ length rest

pub next_run : (rest : List ℕ) (kept : List KeptRun) (index : ℕ) → AreKept rest (drop index kept)
    → index < length kept → IsNext rest kept index (run_at kept index)
next_run rest kept index back within =
    let run = run_at kept index in
    let e : drop index kept ≡ run ∷ drop (index + 1) kept =
    drop_more kept index (record { bytes = 0; count = 0; size = 0; read = Nothing }) within in
    let both = rw e at back in
    record {
      here = both.0;
      later = both.1;
      fits = omega (arith, both.0.bytes, length-take run.bytes rest);
    }

-- what is read there
lines_here : (kind : FileKind) (number place : ℕ) (rest : List ℕ) (kept : List KeptRun) (index : ℕ) (run : KeptRun)
    → IsNext rest kept index run
    → lines_from kind number place (runs (pieces rest))
    ≡ then_lines (told_in kind run.size run.read (take run.bytes rest) number place)
    (lines_from kind (number + run.count) (place + run.bytes) (runs (pieces (drop run.bytes rest))))
lines_here kind number place rest kept index run next =
    let line = take run.bytes rest in
    let behind = drop run.bytes rest in
    let cut : runs (pieces rest) ≡ pieces line ∷ runs (pieces behind) =
    ap (λ t. runs (pieces t)) (sym (take-append-drop run.bytes rest))
    ∙ runs-parts line behind next.here.ended ∙ ap (λ rs. rs ++ runs (pieces behind)) next.here.single in
    rw (cut, concat-pieces line, next.here.read.reads kind number place, next.here.bytes, ← next.here.count) refl

pub ToldTo-next : (kind : FileKind) (text : List ℕ) (kept : List KeptRun) (index number place : ℕ) (rest : List ℕ)
    (lines more : List Line) (line : Option Line) (behind : List ℕ)
    → ToldTo kind text kept index number place rest lines → index < length kept
    → told_in kind (run_at kept index).size (run_at kept index).read (take (run_at kept index).bytes rest) number place
    ≡ Ok line
    → more ≡ lines ++ cons_option line [] → behind ≡ drop (run_at kept index).bytes rest
    → ToldTo kind text kept (index + 1) (number + (run_at kept index).count) (place +
    (run_at kept index).bytes) behind more
ToldTo-next kind text kept index number place rest lines more line behind to within is added e =
    let run = run_at kept index in
    let next = next_run rest kept index to.back within in
    let later = lines_from kind (number + run.count) (place + run.bytes) (runs (pieces (drop run.bytes rest))) in
    rw (added, e) (record {
      size = omega (arith, to.size, next.fits, length-drop run.bytes rest);
      back = next.later;
      few = omega (arith, to.few, next.here.count, next.here.bytes, few_pieces (take run.bytes rest));
      so_far = next_of lines line later
          ∙ ap (before lines) (sym (lines_here kind number place rest kept index run next
          ∙ ap (λ r. then_lines r later) is))
          ∙ to.so_far;
    })

-- ---- where it ends

pub refused_by : (kind : FileKind) (text : List ℕ) (kept : List KeptRun) (index number place : ℕ) (rest : List ℕ)
    (lines : List Line) (fault : Fault AtLine) → ToldTo kind text kept index number place rest lines
    → index < length kept
    → Gives {A = Option Line} (Err fault) (told_in kind (run_at kept index).size (run_at kept index).read
    (take (run_at kept index).bytes rest) number place)
    → GivesList {A = Line} (Err fault) (lines_of kind text)
refused_by kind text kept index number place rest lines NoMemory to within is = tt
refused_by kind text kept index number place rest lines (Refused refusal) to within is =
    let run = run_at kept index in
    sym to.so_far ∙ ap (before lines) (lines_here kind number place rest kept index run
    (next_run rest kept index to.back within)
    ∙ ap (λ r. then_lines r (lines_from kind (number + run.count) (place + run.bytes) (runs (pieces (drop run.bytes
    rest))))) is)
