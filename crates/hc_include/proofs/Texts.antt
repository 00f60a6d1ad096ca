-- What a file, its text and its lines are read as.
use Rattle.hc_include.proofs.Common.{◌≡◌, ℕ, zero, suc, ◌-◌, ◌<◌, List, [], ◌∷◌, Option, Some}
use Rattle.hc_include.proofs.Common.{None, Result, Ok, Err, refl, ap, ◌∙◌, subst, arith, AtByte, Fault, NoMemory}
use Rattle.hc_include.proofs.Common.{Refused, Logged, Ran, run, Path, Shown, Step, leaves, ends, in_order, ◌>>=◌}
use Rattle.hc_include.proofs.Common.{Reader, behind_change, file_read, having_read, line_read, lines_read, missing}
use Rattle.hc_include.proofs.Common.{reader_in, stopped_at, text_read, within, Reading, Stopped}
use Rattle.hc_base.specs.Gives.{Gives}
use Rattle.hc_base.specs.Rules.{rule}
use Rattle.hc_base.specs.declared.fault.AtLine.{AtLine}
use Rattle.hc_lines.specs.declared.line.Line.{Line}
use Rattle.hc_model.specs.declared.walk.Kind.{Kind}
use Rattle.hc_include.specs.Include.{given}
use Rattle.hc_include.specs.Lines.{ruled_lines}
use Rattle.hc_include.specs.declared.around.Around.{Around}
use Rattle.hc_include.specs.declared.change.Change.{Change}

module _ (around : Around) (reader : Reader) (reading : Reading) where
  pub no_text : (kind : Kind) (broken : AtByte) (text : Option (List ℕ)) → None ≡ text → broken ≡ missing kind
      → ends (stopped_at around.file 0 reading broken) ≡ text_read around reader reading kind text
  unfolding text_read
  no_text kind broken text none is = rw (← none, is) refl

  pub some_text : (kind : Kind) (bytes : List ℕ) (text : Option (List ℕ)) → Some bytes ≡ text
      → lines_read around reader (having_read bytes reading) (ruled_lines reading.setting.kind bytes)
      ≡ text_read around reader reading kind text
  unfolding text_read
  some_text kind bytes text some = rw (← some) refl

  pub refused_text : (found : Result (List Line) AtLine) (broken : AtLine) (at : AtByte) (later : Reading)
      → found ≡ Err broken
      → at ≡ rule broken.code → later ≡ reading → ends (stopped_at around.file broken.line later at)
      ≡ lines_read around reader reading found
  unfolding lines_read
  refused_text found broken at later refused code is = rw (refused, code, is) refl

  pub text_lines : (found : Result (List Line) AtLine) (lines : List Line) (later : Reading) → found ≡ Ok lines
      → later ≡ reading
      → in_order (line_read around reader) later lines ≡ lines_read around reader reading found
  unfolding lines_read
  text_lines found lines later read is = rw (read, is) refl

  pub refused_line : (line : Line) (found : Result Change AtByte) (broken : AtByte) → found ≡ Err broken
      → ends (stopped_at around.file line.number reading broken) ≡ behind_change around reader reading line found
  unfolding behind_change
  refused_line line found broken refused = rw refused refl

-- No file stands within one without room.
pub no_files : (chain : List Path) (reading : Reading) (files : List Path)
    → in_order (reader_in 0 chain) reading files ≡ leaves reading
unfolding reader_in ◌>>=◌
no_files chain reading [] = refl
no_files chain reading (file ∷ files) = no_files chain reading files

pub file_within : (room : ℕ) (chain : List Path) (reading : Reading) (file : Path) (inner : Around) → 0 < room
    → inner ≡ within (room - 1) chain file
    → file_read inner (reader_in inner.room inner.chain) reading ≡ reader_in room chain reading file
unfolding reader_in
file_within zero chain reading file inner some is = absurd (omega (arith, some))
file_within (suc room) chain reading file inner some is =
    let less : suc room - 1 ≡ room = omega arith in
    ap (λ inner. file_read inner (reader_in inner.room inner.chain) reading)
    (is ∙ ap (λ room. within room chain file) less)

pub as_read : (step same : Step Stopped Reading) (w : Shown) (r : Result Reading (Fault Stopped)) (l m : Logged)
    → step ≡ same → Ran r l m (run step w) → Ran r l m (run same w)
as_read step same w r l m is = subst (λ step. Ran r l m (run step w)) is

pub ran_given : {A : Type 0} (r : Result A (Fault AtByte)) (wanted : Result A AtByte) (l : Logged) (w : Shown)
    → Gives r wanted → Ran r l l (run (given wanted) w)
unfolding Ran run
ran_given (Ok value) wanted l w is = rw is (refl, refl)
ran_given (Err (Refused broken)) wanted l w is = rw is (refl, refl)
ran_given (Err NoMemory) wanted l w is = tt
