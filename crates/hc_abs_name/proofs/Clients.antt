-- What is known of the clients behind the branches of a plan.
use Rattle.hc_abs_name.proofs.Common.{◌≡◌, List, [], ◌∷◌, refl, sym, subst, inl, inr, Plan}
use Rattle.hc_plan.specs.Branches.{Branch}
use Rattle.hc_plan.specs.Coded.{AllFit, AreBranches}
use Rattle.hc_plan.specs.Cover.{Among}
use Rattle.hc_plan.specs.States.{AbsState}
use Rattle.hc_abs_authz.proofs.Keeping.{keeps_clients}

module _ {A B : Type 0} (First Fit : B → Branch A → Type 0) where
  each_more : (found : List B) (branches : List (Branch A)) → AllFit First found branches
      → ((one : B) (branch : Branch A) → Among branch branches → First one branch → Fit one branch)
      → AllFit Fit found branches
  each_more [] branches none more = none
  each_more (one ∷ found) branches fit more = (
    fit.0,
    fit.1,
    fit.2,
    more one fit.0 (subst (Among fit.0) (sym fit.2) (inl refl)) fit.3,
    each_more found fit.1 fit.4 (λ one branch among. more one branch (subst (Among branch) (sym fit.2) (inr among))),
  )

  -- Each branch has the clients of the state before, whatever else is known of it.
  pub with_clients : (plan : Plan A) (state : AbsState) (found : List B) → AreBranches First plan state found
      → ((one : B) (branch : Branch A) → First one branch → branch.0.clients ≡ state.clients → Fit one branch)
      → AreBranches Fit plan state found
  with_clients plan state found are more = (
    are.0,
    are.1,
    each_more found are.0 are.2
        (λ one branch among first. more one branch first (keeps_clients plan state are.0 branch are.1 among)),
  )
