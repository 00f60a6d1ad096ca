use Rattle.std.proofs.Common.{not, refl}
use Rattle.hc_forms.specs.Forms.{is_target_byte}
use Rattle.hc_sent.proofs.Joining.{has_byte}
use Rattle.hc_sent.proofs.Texts.{answer_as}
use Rattle.hc_sent.proofs.joints.strays.Goals as goal

pub returns : goal.returns
returns c =
    answer_as _
    (has_byte c.args.part.now _ is_target_byte (λ b. not (is_target_byte b)) (λ b. refl) c.in_ok-targets.ensures)
    c.in_ok-has.ensures
