use Rattle.std.proofs.Common.{true, false}
use Rattle.hc_abs_rw.specs.Looks.{May}
use Rattle.hc_abs_view.specs.Seen.{cell_if}
use Rattle.std.proofs.Common.{◌∙◌, ap}
use Rattle.hc_abs_view.proofs.Members.{agree_by}
use Rattle.hc_abs_view.proofs.compare.apart_sides.Goals as goal

pub returns : goal.returns
returns c =
    let cell = c.args.tied.now.cell in
    let one = May cell c.args.one.now in
    let other = May cell c.args.other.now in
    let first = c.in_ok-first.first in
    let second = c.in_ok-second.second in (
      c.in_ok-equal.equal,
      c.in_ok-differ.differ,
      agree_by first second one other true c.in_ok-equal.equal c.in_ok-first.ensures c.in_ok-second.ensures
          c.in_ok-equal.ensures,
      agree_by first second one other false c.in_ok-differ.differ c.in_ok-first.ensures c.in_ok-second.ensures
          c.in_ok-differ.ensures,
      c.in_ok-held.ensures ∙ ap (λ is. cell_if is cell) c.picked.ensures,
      c.in_ok-failed.ensures ∙ ap (λ is. cell_if is cell) c.picked-2.ensures,
    )
