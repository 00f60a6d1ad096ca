use Rattle.std.proofs.Common.{◌∙◌, [], ◌∷◌, ap}
use Rattle.hc_plan.specs.Slots.{Slot}
use Rattle.hc_plan.specs.Texts.{of_bytes}
use Rattle.hc_abs_start.specs.Starting.{put_each}
use Rattle.hc_abs_start.specs.Starts.{is_path, is_query}
use Rattle.hc_abs_start.proofs.starting.with_targets.Goals as goal

pub returns : goal.returns
returns c =
    let scope = c.args.scope.now in
    c.in_ok-made.ensures (is_query scope) c.in_ok-queries.ensures
    ∙ ap (put_each (Slot.Query ∷ Slot.FirstQuery ∷ []) (of_bytes (is_query scope)))
    (c.in_ok-found.ensures (is_path scope) c.in_ok-paths.ensures)
