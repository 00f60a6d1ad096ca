use Rattle.hc_regset.proofs.Common.{drop, map, form_of, joined, keep_of}
use Rattle.hc_regset.proofs.Setting.{IsSoFar}
use Rattle.hc_regset.proofs.compile.+compile.Given as goal

abbrev pub invariant-members-loop-form : goal.invariant-members-loop-form
invariant-members-loop-form l =
    IsSoFar (keep_of l.joining) l.set (map form_of (drop l.form-index l.form-items))
    (joined l.joining (map form_of l.forms))
