-- What was read of a template, and one part more.
use Rattle.std.proofs.Common.{◌≡◌, ℕ, List, [], ◌∷◌, ◌++◌, ◌<◌, length, arith, refl, ap, sym}
use Rattle.std.proofs.Common.{◌∙◌, append_assoc}
use Rattle.hc_model.specs.declared.template.Piece.{Piece}
use Rattle.hc_model.specs.declared.template.Piece.TheVariants.{Bytes}
use Rattle.hc_template.specs.Fronts.{Added, with_run}
use Rattle.hc_template.specs.Pieces.{with_byte}
use Rattle.hc_template.specs.Reading.{byte, piece}
use Rattle.hc_template.specs.declared.pieces.Pieces.{Pieces}

-- The piece is no bytes, so bytes before it are a piece of their own.
abbrev pub StandsAlone : Piece → Type 0
StandsAlone p = (b : ℕ) (pieces : List Piece) → with_byte b (p ∷ pieces) ≡ Bytes (b ∷ []) ∷ p ∷ pieces

run_alone : (b : ℕ) (bs : List ℕ) → with_run (b ∷ bs) [] ≡ Bytes (b ∷ bs) ∷ []
run_alone b [] = refl
run_alone b (c ∷ bs) = ap (with_byte b) (run_alone c bs)

run_before : (b : ℕ) (bs : List ℕ) (p : Piece) (pieces : List Piece) → StandsAlone p
    → with_run (b ∷ bs) (p ∷ pieces) ≡ Bytes (b ∷ bs) ∷ p ∷ pieces
run_before b [] p pieces alone = alone b pieces
run_before b (c ∷ bs) p pieces alone = ap (with_byte b) (run_before c bs p pieces alone)

pub one_piece : (run : List ℕ) → 0 < length run → with_run run [] ≡ Bytes run ∷ []
one_piece [] some = absurd (omega arith)
one_piece (b ∷ bs) some = run_alone b bs

before_piece : (run : List ℕ) (p : Piece) (pieces : List Piece) → StandsAlone p → with_run run (p ∷ pieces)
    ≡ with_run run [] ++ p ∷ pieces
before_piece [] p pieces alone = refl
before_piece (b ∷ bs) p pieces alone = run_before b bs p pieces alone
    ∙ sym (ap (λ front. front ++ p ∷ pieces) (run_alone b bs))

longer : (run : List ℕ) (b : ℕ) (pieces : List Piece) → with_run (run ++ b ∷ []) pieces
    ≡ with_run run (with_byte b pieces)
longer [] b pieces = refl
longer (c ∷ run) b pieces = ap (with_byte c) (longer run b pieces)

pub byte_added : (old new : Pieces) (b : ℕ) → new.done ≡ old.done → new.run.items ≡ old.run.items ++ b ∷ []
    → Added old new (byte b)
byte_added old new b done run pieces = rw (done, run) (ap (λ rest. old.done ++ rest) (longer old.run.items b pieces))

pub piece_added : (old new : Pieces) (p : Piece) → StandsAlone p
    → new.done ≡ (old.done ++ with_run old.run.items []) ++ p ∷ [] → new.run.items ≡ []
    → Added old new (piece p)
piece_added old new p alone done run pieces =
    let cut = with_run old.run.items [] in
    rw (run, done)
    (append_assoc (old.done ++ cut) (p ∷ []) pieces ∙ append_assoc old.done cut (p ∷ pieces)
    ∙ ap (λ rest. old.done ++ rest) (sym (before_piece old.run.items p pieces alone)))
