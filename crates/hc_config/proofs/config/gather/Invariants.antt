use Rattle.std.proofs.Common.{◌≡◌, ◌+◌, [], length, take, drop}
use Rattle.hc_flat.specs.Lent.{left}
use Rattle.hc_config.specs.Configuration.{gathered_from}
use Rattle.hc_config.specs.LevelViews.{standing_of}
use Rattle.hc_config.specs.Levels.{nothing_standing}
use Rattle.hc_config.proofs.config.gather.Given as goal

-- what the entries behind give, over what was gathered of those before
abbrev pub invariant-loop-place : goal.invariant-loop-place
invariant-loop-place l =
    (gathered_from l.fn.source nothing_standing [] l.fn.entries ≡ gathered_from l.fn.source (standing_of l.standing)
    (take l.place l.fn.entries) (left l.entry-iterator))
    × (drop l.place l.fn.entries ≡ left l.entry-iterator)
    × (l.place + length (left l.entry-iterator) ≡ length l.fn.entries)
