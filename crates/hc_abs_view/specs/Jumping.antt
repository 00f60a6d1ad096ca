-- The plan of a list of forks.
use Rattle.std.specs.Prelude.{ℕ, zero, suc, List, [], ◌∷◌, Bool, true, false}
use Rattle.hc_addr.specs.Addresses.{addr_of}
use Rattle.hc_expr.specs.Values.{is_in}
use Rattle.hc_plan.specs.Branches.{finds}
use Rattle.hc_plan.specs.Plan.{Plan, done, put_down}
use Rattle.hc_rw_eval.specs.Conditions.{counted}
use Rattle.hc_abs_pass.specs.Views.{Scene, Ways, compared, tested}
use Rattle.hc_abs_view.specs.Trees.{Asked, Fork, always, same, search, within}
use Rattle.hc_abs_view.specs.declared.jump.Lead.{Lead}
use Rattle.hc_abs_view.specs.declared.jump.Target.{Target}
use Rattle.hc_abs_view.specs.declared.jump.Target.TheVariants.{Behind, Over}

abbrev pub asked_ways : {A : Type 0} → Scene → Asked → Ways A
asked_ways scene (always is) negated plan = put_down (plan (counted negated is))
asked_ways scene (same left right) negated plan = compared scene left right negated plan
asked_ways scene (search text pattern) negated plan = tested scene text (finds pattern) negated plan
asked_ways scene (within text net) negated plan = tested scene text (λ x. is_in net (addr_of x)) negated plan

abbrev pub target_of : Lead → Bool → Target
target_of lead true = lead.yes
target_of lead false = lead.no

-- What follows behind a fork.
abbrev pub leads_on : (ℕ → Plan Bool) → Target → Plan Bool
leads_on further (Over is) = done is
leads_on further (Behind count) = further count

-- The forks behind so many that are left out.
abbrev pub forks_plan : Scene → List Fork → ℕ → Plan Bool
forks_plan scene [] count = put_down (done false)
forks_plan scene (fork ∷ forks) zero =
    asked_ways scene fork.asked fork.lead.negated (λ is. leads_on (forks_plan scene forks) (target_of fork.lead is))
forks_plan scene (fork ∷ forks) (suc count) = forks_plan scene forks count

abbrev pub rest_plan : Scene → List Fork → Target → Plan Bool
rest_plan scene forks target = leads_on (forks_plan scene forks) target

-- The first fork of what is left.
abbrev pub fork_plan : Scene → Fork → Target → Plan Target
fork_plan scene fork (Over is) = done (Over is)
fork_plan scene fork (Behind zero) = asked_ways scene fork.asked fork.lead.negated (λ is. done (target_of fork.lead is))
fork_plan scene fork (Behind (suc count)) = done (Behind count)
