-- A pass from its start.
use Rattle.hc_abs_run.proofs.Common.{◌≡◌, List, [], Bool, true, false, sym, subst, Tied, LentGround, Segment}
use Rattle.hc_serve.specs.ServerRules.{engine_of}
use Rattle.hc_abs_pass.specs.Passing.{begun_with, placed_from, server_round_plan}
unfoldable use Rattle.hc_abs_pass.specs.Passing.{pass_plan}
use Rattle.hc_abs_pass.specs.declared.list.SoFar.{SoFar}
use Rattle.hc_abs_run.specs.Running.{AreOf, ArePass, AreServerRound}

module _ (ground : LentGround) (tied : Tied) (found : List Segment) where
  pass_by : (on : Bool) → engine_of ground.config.now ground.host ≡ on
      → AreOf ground (λ own. elim on [
        | true ↦ server_round_plan own (begun_with [] false)
        | false ↦ placed_from own [] false false
      ]) tied found
      → ArePass ground tied found
  unfolding pass_plan
  pass_by on is are = subst (λ on. AreOf ground (λ own. elim on [
    | true ↦ server_round_plan own (begun_with [] false)
    | false ↦ placed_from own [] false false
  ]) tied found) (sym is) are

  pub pass_off : engine_of ground.config.now ground.host ≡ false
      → AreOf ground (λ own. placed_from own [] false false) tied found → ArePass ground tied found
  pass_off off are = pass_by false off are

  pub pass_on : engine_of ground.config.now ground.host ≡ true → (so_far : SoFar)
      → so_far ≡ record { decisions = []; substituted = false; replaced = false }
      → AreServerRound ground so_far tied found → ArePass ground tied found
  pass_on on so_far begun are =
      pass_by true on (subst (λ so_far. AreServerRound ground so_far tied found) begun are)
