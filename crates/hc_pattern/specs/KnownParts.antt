-- What is kept of a tree.
use Rattle.std.specs.Prelude.{ℕ, Bool, true, false, List, [], ◌∷◌, Option, Some, None}
use Rattle.hc_pattern.specs.Building.{Known, capped, kept}
use Rattle.hc_pattern.specs.Syntax.{Syntax, nothing, can_be_empty, empty_loops, nodes, syntax_pattern}

abbrev pub is_nothing : Syntax → Bool
is_nothing nothing = true
is_nothing _ = false

abbrev pub first_place : List ℕ → Option ℕ
first_place [] = None
first_place (at ∷ places) = Some at

abbrev pub known : Syntax → Known
known syntax =
    record {
      pattern = kept (capped (nodes syntax)) (syntax_pattern syntax);
      nodes = capped (nodes syntax);
      can_be_empty = can_be_empty syntax;
      looping = first_place (empty_loops syntax);
      is_nothing = is_nothing syntax;
    }
