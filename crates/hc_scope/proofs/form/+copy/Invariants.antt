use Rattle.std.proofs.Common.{◌≡◌, take}
use Rattle.hc_scope.proofs.form.+copy.Given as goal

-- the forms so far are copied
abbrev pub invariant-copy_forms-loop-form : goal.invariant-copy_forms-loop-form
invariant-copy_forms-loop-form l = l.copy ≡ take l.form-index l.forms
