use Rattle.std.proofs.Common.{Bool, IfOk, subst, sym}
use Rattle.std.specs.Prelude.{Result}
use Rattle.std.specs.declared.alloc.AllocError.{AllocError as NoMemory}
use Rattle.hc_cells.specs.Containing.{Contains}
use Rattle.hc_plan.specs.Hands.{cell_of}
use Rattle.hc_abs_view.specs.Seen.{IsAnswer}
use Rattle.hc_cert.proofs.Lying.{not_within, within_from}
use Rattle.hc_cert.specs.Cells.{IsWithin}
use Rattle.hc_cert.proofs.belonging.is_within.Goals as goal
use Rattle.hc_cert.proofs.belonging.is_within.Goals.{in-No, in-Yes}

pub returns : goal.returns
returns c =
    let states = c.args.states.now in
    let own = c.args.own.now.named.now in
    let tied = c.args.own.now.tied in
    let contains = Contains states tied.cell in
    let told = λ (result : Result Bool NoMemory). IfOk result (IsAnswer (IsWithin (cell_of states) own)) in
    elim c.match-branch-2.branch [
      | in-Yes w ↦ subst told (sym w.result-is)
          (within_from states own tied c.requires (subst contains w.in-Yes.is c.in_ok-within.ensures))
      | in-No w ↦ subst told (sym w.result-is)
          (not_within states own tied c.requires w.in-No.slot w.in-No.text
          (subst contains w.in-No.is c.in_ok-within.ensures))
    ]
