-- What follows what is in force.
use Rattle.hc_abs_dir.proofs.Common.{◌≡◌, List, [], ◌∷◌, ◌++◌, Bool, Option, None, Some, refl, sym}
use Rattle.hc_abs_dir.proofs.Common.{subst, AreBranches, Decision, Plan, done, Tied, ground_in, Are}
use Rattle.hc_abs_dir.proofs.Common.{SegmentFits, LentGround, LentSettings, Segment}
use Rattle.hc_model.specs.declared.authorization.ReqTree.{ReqTree}
use Rattle.hc_model.specs.declared.request.Caller.{Caller}
use Rattle.hc_plan.proofs.Coded.{end_fits, joined_fits, next_added}
unfoldable use Rattle.hc_plan.specs.Plan.{and_then}
use Rattle.hc_abs_authz.specs.Admitting.{AdmittedFits, AreAdmitted}
use Rattle.hc_abs_authz.specs.declared.admitting.Admitted.{Admitted}
unfoldable use Rattle.hc_abs_pass.specs.Authorizing.{admitted_plan}
use Rattle.hc_abs_pass.specs.Ends.{status}
use Rattle.hc_abs_pass.specs.Passing.{ends_so}
use Rattle.hc_abs_dir.specs.Behind.{AreBehind, AreBy, IsBehind, answered_plan, refused_in, refused_plan}
use Rattle.hc_abs_dir.specs.Forced.{AreForced}

-- The question alone, and then what follows it.
admitted_alone : {A : Type 0} (caller : Caller) (require : Option ReqTree) (plan : Bool → Plan A)
    → and_then (admitted_plan caller require (λ is. done is)) plan ≡ admitted_plan caller require plan
unfolding and_then admitted_plan
admitted_alone caller None plan = refl
admitted_alone caller (Some tree) plan = refl

module _ (ground : LentGround) (lent : LentSettings) (decisions : List Decision) where
  pub behind_more : (answers : List Admitted) (answer : Admitted) (found more after : List Segment)
      → AreBehind ground lent decisions answers found → after ≡ found ++ more
      → IsBehind ground lent decisions answer more
      → AreBehind ground lent decisions (answers ++ answer ∷ []) after
  behind_more answers answer found more after are same is levels merges settings fit =
      let own = ground_in levels merges ground in
      next_added (AdmittedFits ground.client) (SegmentFits ground.client ground.tests.now)
      (answered_plan decisions own settings) answers answer found after (are levels merges settings fit) (
        more,
        same,
        (λ branch fits.
            subst (λ is. Are ground (answered_plan decisions own settings is) branch.0 more) (sym fits.1)
            (is levels merges settings fit branch.0 fits.0)),
      )

  pub forced_fits : (tied : Tied) (answers : List Admitted) (found : List Segment)
      → AreAdmitted ground.tests.now ground.net.now lent.force.require tied answers
      → AreBehind ground lent decisions answers found → AreForced ground lent decisions tied found
  forced_fits tied answers found admitted are levels merges settings state fit clients ends =
      let own = ground_in levels merges ground in
      subst (λ plan. Are ground plan state found)
      (admitted_alone ground.tests.now settings.force.require (answered_plan decisions own settings))
      (joined_fits (AdmittedFits ground.client) (SegmentFits ground.client ground.tests.now)
      (answered_plan decisions own settings) (admitted_plan ground.tests.now settings.force.require (λ is. done is))
      state answers found
      (subst (λ force. AreBranches (AdmittedFits ground.client)
      (admitted_plan ground.tests.now force.require (λ is. done is)) state answers) (sym fit.force)
      (admitted ground.client state ends clients)) (are levels merges settings fit))

  pub refused_fits : (tied : Tied) (found : List Segment) → found ≡ refused_in lent decisions tied ∷ []
      → AreBy ground lent (refused_plan decisions) (Some tied) found
  refused_fits tied found same levels merges settings fit state ends =
      subst (AreBranches (SegmentFits ground.client ground.tests.now) (done
      (ends_so settings.force.require decisions (status 403))) state) (sym same)
      (end_fits (SegmentFits ground.client ground.tests.now) state
      (ends_so settings.force.require decisions (status 403)) (refused_in lent decisions tied) (record {
        at = ends;
        texts = tt;
        decided = refl;
        require = λ i. (fit.force i).require;
        finish = refl;
      }))
