use Rattle.std.proofs.Common.{◌∙◌, refl, Some, None}
use Rattle.hc_dfa.specs.Automata.{accepts}
use Rattle.hc_plan.proofs.Narrowed.{sole_left}
use Rattle.hc_plan.specs.Ways.{met, on}
use Rattle.hc_plan.proofs.ways.sole_way.Goals as goal

pub returns-in-None : goal.returns-in-None
returns-in-None c = (
  c.bytes_of.ensures.bytes,
  c.bytes_of-2.ensures.bytes,
  sole_left c.args.cell.now c.args.ties c.args.sole.now c.in_ok-side.side
      (met c.args.hand.off c.args.hand.side.now (on c.args.test.held (accepts c.args.test.set.now)))
      (accepts c.in_ok-members.members) _ _ _ _ None c.bytes_of.ensures.value c.bytes_of-2.ensures.value
      c.bytes_of.ensures.bytes c.bytes_of-2.ensures.bytes c.in_ok-side.ensures c.in_ok-members.ensures
      (c.as_slice.ensures ∙ c.in_ok-tied.ensures) c.in-None.is c.in_ok-found.ensures,
)

pub returns-in-Some : goal.returns-in-Some
returns-in-Some c = (
  c.bytes_of.ensures.bytes,
  c.bytes_of-2.ensures.bytes,
  (
    sole_left c.args.cell.now c.args.ties c.args.sole.now c.in_ok-side.side _ (accepts c.in_ok-members.members) _ _ _ _
        (Some c.in-Some.cell) c.bytes_of.ensures.value c.bytes_of-2.ensures.value c.bytes_of.ensures.bytes
        c.bytes_of-2.ensures.bytes c.in_ok-side.ensures c.in_ok-members.ensures
        (c.as_slice.ensures ∙ c.in_ok-tied.ensures) c.in-Some.is c.in_ok-found.ensures,
    (c.in_ok-side.side, refl, c.in_ok-side.ensures),
  ),
)
