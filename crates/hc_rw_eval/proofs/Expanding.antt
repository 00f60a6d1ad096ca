-- What expanding a template tells, and what it comes to.
use Rattle.std.proofs.Common.{◌≡◌, ℕ, List, [], ◌∷◌, ◌++◌, Option, Some, None, Ok, refl, sym, ap}
use Rattle.std.proofs.Common.{◌∙◌, append-nil, unwrap_or}
use Rattle.hc_model.specs.declared.read.Read.{Read}
use Rattle.hc_model.specs.declared.template.Piece.{Piece, out-Piece}
use Rattle.hc_model.specs.declared.template.Piece.TheOpen.{Piece-F, Lookup}
use Rattle.hc_steps.specs.Ran.{Logged, Ran, grown, with_reads}
use Rattle.hc_steps.specs.Run.{Run, goes_on, run, run_then}
use Rattle.hc_steps.specs.Step.{Shown, Step, leaves, ◌>>=◌}
use Rattle.hc_steps.proofs.Running.{in_turn}
use Rattle.hc_template.specs.Filled.{Filling, filled}
use Rattle.hc_rw_eval.specs.Frames.{looks_in}
use Rattle.hc_rw_expand.specs.LookReads.{file_reads, open_reads, piece_reads, reads_in}
use Rattle.hc_rw_expand.specs.Lookups.{Looks, Values, expanded, filled_with, open_expanded, open_with, text_of_map}
use Rattle.hc_rw_expand.specs.Lookups.{text_shown, valued}

-- A run that goes on with a value behind these reads.
abbrev gone : {E A : Type 0} → List Read → A → Run E A
gone reads value = record { events = []; reads = reads; way = goes_on value }

then_gone : {E A B : Type 0} (s : Step E A) (f : A → Step E B) (shown : Shown) (first later : List Read) (a : A)
    (b : B)
    → run s shown ≡ gone first a → run (f a) shown ≡ gone later b
    → run (s >>= f) shown ≡ gone (first ++ later) b
then_gone s f shown first later a b one other =
    in_turn s f shown ∙ ap (λ r. run_then r (λ a. run (f a) shown)) one
    ∙ ap (λ r. run_then (gone first a) (λ x. r)) other

left : {E A : Type 0} (a : A) (shown : Shown) → run {E = E} (leaves a) shown ≡ gone [] a
unfolding run
left a shown = refl

-- One step, and then a value.
then_left : {E A B : Type 0} (s : Step E A) (f : A → B) (shown : Shown) (reads : List Read) (a : A)
    → run s shown ≡ gone reads a → run (s >>= λ a. leaves (f a)) shown ≡ gone reads (f a)
then_left s f shown reads a one =
    then_gone s (λ a. leaves (f a)) shown reads [] a (f a) one (left (f a) shown)
    ∙ ap (λ reads. gone reads (f a)) (append-nil reads)

text_looked : {E : Type 0} (path : Option (List ℕ)) (shown : Shown) → run {E = E} (text_of_map path) shown
    ≡ gone (file_reads path) (text_shown shown path)
unfolding run ◌>>=◌ text_of_map
text_looked None shown = refl
text_looked (Some path) shown = refl

value_looked : {E : Type 0} (looks : Looks) (name key : List ℕ) (shown : Shown)
    → run {E = E} (valued looks name key) shown ≡ gone (file_reads (looks.file name))
    (looks.value name key (text_shown shown (looks.file name)))
unfolding valued
value_looked looks name key shown =
    then_left (text_of_map (looks.file name)) (looks.value name key) shown (file_reads (looks.file name))
    (text_shown shown (looks.file name)) (text_looked (looks.file name) shown)

-- What the maps give is what stands in the world.
abbrev values_by : Looks → Shown → Values
values_by looks shown name key = looks.value name key (text_shown shown (looks.file name))

piece_looked : {E : Type 0} (looks : Looks) (filling : Filling) (shown : Shown) (piece : Piece) (layer : Piece-F Piece)
    → run {E = E} (open_expanded looks filling piece layer) shown ≡ gone (open_reads looks.file layer)
    (open_with (values_by looks shown) filling piece layer)
piece_looked looks filling shown piece (Lookup name key fallback) =
    then_left (valued looks name (filled filling key)) (λ value. unwrap_or value (filled filling fallback)) shown
    (file_reads (looks.file name)) (values_by looks shown name (filled filling key))
    (value_looked looks name (filled filling key) shown)
piece_looked looks filling shown piece other = left (open_with (values_by looks shown) filling piece other) shown

all_looked : {E : Type 0} (looks : Looks) (filling : Filling) (shown : Shown) (pieces : List Piece)
    → run {E = E} (expanded looks filling pieces) shown ≡ gone (reads_in looks.file pieces)
    (filled_with (values_by looks shown) filling pieces)
unfolding expanded
all_looked looks filling shown [] = left [] shown
all_looked {E} looks filling shown (piece ∷ pieces) =
    let front = open_with (values_by looks shown) filling piece (out-Piece piece) in
    then_gone (open_expanded looks filling piece (out-Piece piece))
    (λ front. expanded looks filling pieces >>= λ rest. leaves (front ++ rest)) shown
    (piece_reads looks.file piece) (reads_in looks.file pieces) front
    (front ++ filled_with (values_by looks shown) filling pieces)
    (piece_looked {E = E} looks filling shown piece (out-Piece piece))
    (then_left (expanded looks filling pieces) (λ rest. front ++ rest) shown (reads_in looks.file pieces)
    (filled_with (values_by looks shown) filling pieces) (all_looked {E = E} looks filling shown pieces))

-- What the code expands a template to, where the looks were told.
pub expanded_so : (E : Type 0) (files : List ℕ → Option (List ℕ)) (values : Values) (shown : Shown)
    (filling : Filling) (pieces : List Piece) (old new : Logged)
    (text : List ℕ) → new ≡ with_reads old (reads_in files pieces) → text ≡ filled_with values filling pieces
    → Ran (Ok text) old new (run {E = E} (expanded (looks_in files values) filling pieces) shown)
unfolding Ran
expanded_so E files values shown filling pieces old new text told filled =
    let e = all_looked {E = E} (looks_in files values) filling shown pieces in
    (ap (λ r. r.way) e ∙ ap goes_on (sym filled), told ∙ ap (grown old) (sym e))
