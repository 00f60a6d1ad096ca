-- What holds of flat lists.
use Rattle.std.specs.Prelude.{◌≡◌}
use Rattle.hc_model.specs.World.{World}
use Rattle.hc_steps.specs.Laws.{AgreeOn}
use Rattle.hc_steps.specs.Shown.{shown_by}
use Rattle.hc_steps.specs.Step.{Path}
use Rattle.hc_include.specs.Flat.{flat_of}

-- Worlds that show the same for each read of a main file's flat list in the first give the same flat
-- list, the same refusal and the same reads.
abbrev pub FlatListsAgree : Type 0
FlatListsAgree =
    (main : Path) (one other : World) → AgreeOn (shown_by one) (shown_by other) (flat_of one main).reads
    → flat_of one main ≡ flat_of other main
