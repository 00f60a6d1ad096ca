-- Parts of a text by the first mark in it, and the graph that keeps such a part of an automaton's texts.
use Rattle.std.specs.Prelude.{ℕ, ◌||◌, ◌==◌, not, List, drop, Bool, Option, None, Some}
use Rattle.std.specs.Prelude.{if◌then◌else◌}
use Rattle.std.specs.List.{after_first, before_first, position_or_len}
use Rattle.hc_dfa.specs.Automata.{Automaton, next_state, is_final}
use Rattle.hc_dfa.specs.Graphs.{GraphOf}
use Rattle.hc_dfa.specs.declared.graphs.Choice.{Choice}
use Rattle.hc_dfa.specs.declared.graphs.Choice.TheVariants.{Byte, One, Other}
use Rattle.hc_dfa.specs.declared.graphs.Move.{Move}
use Rattle.hc_rw_sets.specs.declared.cuts.Cut.{Cut}
use Rattle.hc_rw_sets.specs.declared.cuts.Part.{Part}
use Rattle.hc_rw_sets.specs.declared.cuts.Part.TheVariants.{Before, Behind, From}

-- What stands before the first mark, behind it, or from it on. Where there is none, all stands before it.
abbrev pub part_at : ℕ → Part → List ℕ → List ℕ
part_at mark Before text = before_first (λ b. b == mark) text
part_at mark Behind text = after_first (λ b. b == mark) text
part_at mark From text = drop (position_or_len (λ b. b == mark) text) text

-- A byte is one of the part: by whether the mark was read before it, and whether it was read with it.
abbrev pub keeps : Part → Bool → Bool → Bool
keeps Before was found = not found
keeps Behind was found = was
keeps From was found = found

-- Each byte of the part is read, and the others are passed.
abbrev pub cut_moves : Automaton → ℕ → Part → Cut → Choice → Option (Move Cut)
cut_moves a mark part cut (Byte byte) =
    let found = cut.found || byte == mark in
    Some (record {
      byte = if keeps part cut.found found then Some byte else None;
      to = record { state = next_state a cut.state byte; found = found };
    })
cut_moves a mark part cut One = None
cut_moves a mark part cut Other = None

abbrev pub cut_graph : Automaton → ℕ → Part → GraphOf Cut
cut_graph a mark part = record { moves = cut_moves a mark part; is_final = λ cut. is_final a cut.state }
