-- The graph that keeps a part of each text.
use Rattle.hc_rw_sets.proofs.Common.{◌≡◌, ℕ, List, [], ◌∷◌, Bool, true, false, ◌||◌, ◌==◌, if◌then◌else◌}
use Rattle.hc_rw_sets.proofs.Common.{Some, None, refl, ◌∙◌, ap, subst}
use Rattle.hc_rw_sets.proofs.Common.{Automaton, accepts, accepts_from, AcceptsOnly, IsText, MadeOf}
use Rattle.std.proofs.Common.{add-one, one-add}
use Rattle.std.specs.List.{position_or_len}
use Rattle.hc_dfa.specs.Automata.{next_state}
use Rattle.hc_dfa.specs.Graphs.{AcceptsWays, IsChoice, Way}
use Rattle.hc_dfa.specs.Graphs.Way.{ends}
use Rattle.hc_dfa.specs.declared.graphs.Choice.{Choice}
use Rattle.hc_dfa.specs.declared.graphs.Choice.TheVariants.{Byte, One, Other}
use Rattle.hc_pat_lang.proofs.Moving.{Keeps, each_way, led, read_before}
use Rattle.hc_rw_sets.specs.Cuts.{cut_graph, cut_moves, keeps, part_at}
use Rattle.hc_rw_sets.specs.declared.cuts.Cut.{Cut}
use Rattle.hc_rw_sets.specs.declared.cuts.Part.{Part}
use Rattle.hc_rw_sets.specs.declared.cuts.Part.TheVariants.{Before, Behind, From}

-- What is kept of the rest of a text; whether the mark was read.
abbrev kept_of : ℕ → Bool → Part → List ℕ → List ℕ
kept_of mark false part rest = part_at mark part rest
kept_of mark true Before rest = []
kept_of mark true Behind rest = rest
kept_of mark true From rest = rest

kept_end : (mark : ℕ) (was : Bool) (part : Part) → [] ≡ kept_of mark was part []
kept_end mark true Before = refl
kept_end mark false Before = refl
kept_end mark was part = refl

-- A byte in front is kept, or is passed over.
past : (mark : ℕ) (was : Bool) (part : Part) (byte : ℕ) (rest : List ℕ)
    → read_before (if keeps part was (was || byte == mark) then Some byte else None)
    (kept_of mark (was || byte == mark) part rest)
    ≡ kept_of mark was part (byte ∷ rest)
past mark true Before byte rest = refl
past mark true part byte rest = refl
past mark false part byte rest = by (byte == mark) part refl
  where
    by : (is : Bool) (part : Part) → (byte == mark) ≡ is
        → read_before (if keeps part false is then Some byte else None) (kept_of mark is part rest)
        ≡ kept_of mark false part (byte ∷ rest)
    by true Before e = rw e refl
    by true part e = rw e refl
    by false Before e = rw (e, one-add) refl
    by false Behind e = rw (e, one-add, add-one, add-one) refl
    by false From e = rw (e, one-add (position_or_len (λ b. b == mark) rest)) refl

module _ (a : Automaton) (mark : ℕ) (part : Part) where
  abbrev CutAt : Cut → List ℕ → Type 0
  CutAt cut = MadeOf (kept_of mark cut.found part) (accepts_from a cut.state)

  cut_keeps : (cut : Cut) (choice : Choice) → IsChoice choice → Keeps CutAt cut (cut_moves a mark part cut choice)
  cut_keeps cut (Byte byte) small = λ text later. (
    byte ∷ later.0,
    (small, later.1),
    later.2,
    ap (read_before _) later.3 ∙ past mark cut.found part byte later.0,
  )
  cut_keeps cut One is = tt
  cut_keeps cut Other is = tt

  cut_way : (text : List ℕ) (cut : Cut) → IsText text → accepts_from a cut.state text ≡ true
      → Way (cut_graph a mark part) cut (kept_of mark cut.found part text)
  cut_way [] cut bytes member = subst (Way _ cut) (kept_end mark cut.found part) (ends member)
  cut_way (byte ∷ text) cut bytes member =
      let to : Cut = record { state = next_state a cut.state byte; found = cut.found || byte == mark } in
      subst (Way _ cut) (past mark cut.found part byte text)
      (led _ _ (record { choice = Byte byte; is = bytes.0; move = refl }) (cut_way text to bytes.1 member))

  pub parts_accept : (made : Automaton)
      → AcceptsWays (cut_graph a mark part) (record { state = 0; found = false }) made
      → AcceptsOnly (MadeOf (part_at mark part) (accepts a)) made
  unfolding accepts
  parts_accept made same text bytes = (
    (λ accepted.
        each_way (cut_graph a mark part) CutAt (λ cut final. ([], tt, final, kept_end mark cut.found part)) cut_keeps
        ((same text bytes).0 accepted)),
    (λ is. (same text bytes).1 (rw is.3 (cut_way is.0 (record { state = 0; found = false }) is.1 is.2))),
  )
