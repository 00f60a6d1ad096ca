use Rattle.std.proofs.Common.{◌≡◌, Bool, true, false, not, refl}
use Rattle.hc_sent.proofs.Joining.{has_byte}
use Rattle.hc_sent.proofs.Texts.{answer_as}
use Rattle.hc_sent.specs.Ways.{is_high}
use Rattle.hc_sent.proofs.joints.rises.Goals as goal

twice : (v : Bool) → v ≡ not (not v)
twice true = refl
twice false = refl

pub returns : goal.returns
returns c =
    answer_as _
    (has_byte c.args.part.now _ (λ b. not (is_high b)) is_high (λ b. twice (is_high b)) c.in_ok-low.ensures)
    c.in_ok-has.ensures
