-- What is kept of a part of a pattern while its tree is built, instead of the tree.
use Rattle.std.specs.Prelude.{ℕ, ◌+◌, ◌*◌, ◌==◌, Bool, true, false, ◌&&◌, ◌||◌, List, []}
use Rattle.std.specs.Prelude.{◌∷◌, min, Option, Some, None, if◌then◌else◌, nat_lt}
use Rattle.std.specs.Option.{option_or}
use Rattle.hc_pattern.specs.Pattern.{Pattern, empty, cat, alt, group, repeat}
use Rattle.hc_pattern.specs.Refusals.{most_nodes}
use Rattle.hc_pattern.specs.Syntax.{is_loop, is_place, times}
use Rattle.hc_pattern.specs.Tokens.{Count, Placed, Token, item, opens, closes, bars, counts, unclosed, broken}

-- Its pattern, unless it has too many nodes; its nodes, of which one too many are as many as any more; whether it can
-- match the
-- empty text; the first quantifier whose turns may be many and empty; and whether it is nothing.
pub record Known : Type 0 where
  pub pattern : Pattern
  pub nodes : ℕ
  pub can_be_empty : Bool
  pub looping : Option ℕ
  pub is_nothing : Bool

abbrev pub capped : ℕ → ℕ
capped nodes = min nodes (most_nodes + 1)

-- Of what has too many nodes the pattern isn't kept, so no pattern is nested too deep.
abbrev pub kept : ℕ → Pattern → Pattern
kept nodes pattern = if nat_lt most_nodes nodes then empty else pattern

abbrev pub nothing_known : Known
nothing_known = record { pattern = empty; nodes = 0; can_be_empty = true; looping = None; is_nothing = true }

abbrev pub leaf_known : Pattern → Known
leaf_known pattern =
    record { pattern = pattern; nodes = 1; can_be_empty = is_place pattern; looping = None; is_nothing = false }

abbrev pub both_known : Known → Known → Known
both_known a b =
    record {
      pattern = kept (capped (a.nodes + b.nodes)) (cat a.pattern b.pattern);
      nodes = capped (a.nodes + b.nodes);
      can_be_empty = a.can_be_empty && b.can_be_empty;
      looping = option_or a.looping b.looping;
      is_nothing = false;
    }

abbrev pub either_known : Known → Known → Known
either_known a b =
    record {
      pattern = kept (capped (1 + a.nodes + b.nodes)) (alt a.pattern b.pattern);
      nodes = capped (1 + a.nodes + b.nodes);
      can_be_empty = a.can_be_empty || b.can_be_empty;
      looping = option_or a.looping b.looping;
      is_nothing = false;
    }

abbrev pub group_pattern : Option ℕ → Pattern → Pattern
group_pattern None body = body
group_pattern (Some number) body = group number body

abbrev pub group_known : Option ℕ → Known → Known
group_known number a =
    record {
      pattern = kept (capped (1 + a.nodes)) (group_pattern number a.pattern);
      nodes = capped (1 + a.nodes);
      can_be_empty = a.can_be_empty;
      looping = a.looping;
      is_nothing = false;
    }

abbrev pub turns_nodes : Count → ℕ → ℕ
turns_nodes count nodes = capped (if count.is_sign then 1 + nodes else times count * nodes)

abbrev pub turns_known : ℕ → Count → Known → Known
turns_known at count a = record {
  pattern = kept (turns_nodes count a.nodes) (repeat a.pattern count.least count.most count.greedy);
  nodes = turns_nodes count a.nodes;
  can_be_empty = (count.least == 0) || a.can_be_empty;
  looping = option_or a.looping (if is_loop count && a.can_be_empty then Some at else None);
  is_nothing = false;
}

abbrev pub before_known : Known → Known → Known
before_known a b = if b.is_nothing then a else both_known a b

pub record KnownLevel : Type 0 where
  pub sequence : Known
  pub others : Option Known
  pub count : Option (ℕ × Count)

abbrev pub new_known : KnownLevel
new_known = record { sequence = nothing_known; others = None; count = None }

abbrev pub whole_known : KnownLevel → Known
whole_known level = elim level.others [ None ↦ level.sequence | Some others ↦ either_known level.sequence others ]

abbrev pub counted_known : Option (ℕ × Count) → Known → Known
counted_known None body = body
counted_known (Some count) body = turns_known count.0 count.1 body

abbrev pub body_known : Known → KnownLevel → KnownLevel
body_known body level =
    record {
      sequence = before_known (counted_known level.count body) level.sequence;
      others = level.others;
      count = None;
    }

abbrev pub KnownLevels : Type 0
KnownLevels = KnownLevel × List KnownLevel

abbrev pub outer_known : List KnownLevel → KnownLevels
outer_known [] = (new_known, [])
outer_known (level ∷ levels) = (level, levels)

abbrev pub token_known : ℕ → Token → KnownLevels → KnownLevels
token_known at (item pattern) levels = (body_known (leaf_known pattern) levels.0, levels.1)
token_known at (opens number) levels =
    (body_known (group_known number (whole_known levels.0)) (outer_known levels.1).0, (outer_known levels.1).1)
token_known at closes levels = (new_known, levels.0 ∷ levels.1)
token_known at bars levels =
    (record { sequence = nothing_known; others = Some (whole_known levels.0); count = None }, levels.1)
token_known at (counts count) levels = (record levels.0 { count = Some (at, count) }, levels.1)
token_known at unclosed levels = levels
token_known at (broken refusal) levels = levels

-- The levels of tokens, with those of what follows them.
abbrev pub levels_known : List Placed → KnownLevels → KnownLevels
levels_known [] levels = levels
levels_known (placed ∷ tokens) levels = token_known placed.at placed.token (levels_known tokens levels)
