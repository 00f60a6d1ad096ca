-- Between rules a pass may end.
use Rattle.hc_abs_run.proofs.Common.{Addr, AbsState, Tied, EndsAt, Rests, Option}

pub rests_end : (client : Option Addr) (tied : Tied) (state : AbsState) → Rests client tied state
    → EndsAt client tied state
rests_end client tied state rests =
    record { cell = rests.cell; ties = rests.ties; given = rests.given; printed = rests.printed }
