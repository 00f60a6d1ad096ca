-- What the parts of `src/` are seen as.
use Rattle.std.specs.Prelude.{ℕ, map, reverse, option_map}
use Rattle.hc_pattern.specs.Building.{Known, KnownLevel, KnownLevels}
use Rattle.hc_pattern.specs.Pattern.{pattern_of}
use Rattle.hc_pattern.specs.TokenViews.{count_view}
use Rattle.hc_pattern.specs.Tokens.{Count}
use Rattle.hc_pattern.specs.declared.build.Level.{Level}
use Rattle.hc_pattern.specs.declared.build.Levels.{Levels}
use Rattle.hc_pattern.specs.declared.part.TreePart.{TreePart}
use Rattle.hc_pattern.specs.declared.count.Count.{Count as CountOfBytes}

abbrev pub part_view : TreePart → Known
part_view part =
    record {
      pattern = pattern_of part.pat;
      nodes = part.nodes;
      can_be_empty = part.can_be_empty;
      looping = part.looping;
      is_nothing = part.is_nothing;
    }

abbrev pub place_view : ℕ × CountOfBytes → ℕ × Count
place_view place = (place.0, count_view place.1)

abbrev pub level_view : Level → KnownLevel
level_view level =
    record {
      sequence = part_view level.sequence;
      others = option_map part_view level.others;
      count = option_map place_view level.count;
    }

abbrev pub levels_view : Levels → KnownLevels
levels_view levels = (level_view levels.inner, map level_view (reverse levels.outer.items))
