-- What a `verify` is answered, and a `decide` of the claim that chains end, and the state that it leaves.
use Rattle.hc_session.proofs.Common.{◌≡◌, State, subst}
use Rattle.std.specs.Prelude.{Err, IfOk, Ok, Result}
use Rattle.std.specs.declared.alloc.AllocError.{AllocError as NoMemory}
use Rattle.hc_base.specs.declared.place.Refusal.{Refusal}
use Rattle.hc_claim_lines.specs.declared.lines.ClaimLines.{ClaimLines}
use Rattle.hc_model.specs.declared.config.Config.{Config}
use Rattle.hc_stated.specs.CellViews.{cells_view}
use Rattle.hc_session.specs.Deciding.{present_lines}
use Rattle.hc_session.specs.Ending.{EndsUnder}
use Rattle.hc_session.specs.Session.{Gave}
use Rattle.hc_session.specs.State.{present}
use Rattle.hc_session.specs.Stating.{EndsWith, Replies, VerifiesWith, chained_in, posed_in, sets_of_ending}
use Rattle.hc_session.specs.Stating.{sets_of_stating}
use Rattle.hc_session.specs.Verifying.{VerifiesUnder}
use Rattle.hc_session.specs.declared.ends.Ending.{Ending}
use Rattle.hc_session.specs.declared.stepped.Stepped.{Stepped}
use Rattle.hc_session.specs.declared.verifying.Verifying.{Verifying}

module _ (old new : State) (verifying : Verifying) (lines : ClaimLines) (built : Result Config Refusal) where
  pub verify_given : (result : Result Stepped NoMemory) → new ≡ old → built ≡ present old → lines ≡ present_lines old
      → IfOk result (Replies (VerifiesUnder (posed_in new.world.files lines new.limit verifying.stating)
      (sets_of_stating verifying.stating) (cells_view verifying.cells.now) built))
      → Gave result (VerifiesWith old verifying) old new
  verify_given (Ok stepped) same is_built are_lines (said, verifies, says) = (
    said,
    says,
    (
      subst (λ (at : State × ClaimLines × Result Config Refusal).
          VerifiesUnder (posed_in at.0.world.files at.1 at.0.limit verifying.stating)
          (sets_of_stating verifying.stating) (cells_view verifying.cells.now) at.2 said)
          (λ i. (same i, are_lines i, is_built i)) verifies,
      same,
    ),
  )
  verify_given (Err none) same is_built are_lines verifies = same

module _ (old new : State) (ending : Ending) (built : Result Config Refusal) where
  pub ends_given : (result : Result Stepped NoMemory) → new ≡ old → built ≡ present old
      → IfOk result (Replies (EndsUnder (chained_in new.world.files new.limit ending) (sets_of_ending ending) built))
      → Gave result (EndsWith old ending) old new
  ends_given (Ok stepped) same is_built (said, ends, says) = (
    said,
    says,
    (
      subst (λ (at : State × Result Config Refusal).
          EndsUnder (chained_in at.0.world.files at.0.limit ending) (sets_of_ending ending) at.1 said)
          (λ i. (same i, is_built i)) ends,
      same,
    ),
  )
  ends_given (Err none) same is_built ends = same
