-- What is found along a plan: code goes from the states of a set of requests to those that are left on one way, and
-- adds what ends on the others.
use Rattle.std.specs.Prelude.{◌≡◌, List, [], ◌++◌, Option, None, Some}
use Rattle.hc_addr.specs.declared.addr.Addr.{Addr}
use Rattle.hc_plan.specs.Branches.{Branch}
use Rattle.hc_plan.specs.Coded.{AreBranches}
use Rattle.hc_plan.specs.Plan.{Plan}
use Rattle.hc_plan.specs.States.{AbsState}
use Rattle.hc_plan.specs.declared.storing.Tied.{Tied}
use Rattle.hc_abs_pass.specs.Ends.{EndsAt}
use Rattle.hc_abs_pass.specs.Walking.{HasName}
use Rattle.hc_abs_pass.specs.declared.walk.Named.{Named}

-- What is found is added.
abbrev pub Adds : {B : Type 0} → (List B → Type 0) → List B → List B → Type 0
Adds {B} On earlier later = (added : List B) × (later ≡ earlier ++ added) × On added

-- What is found on the ways that end is added, and what follows is so by what is left.
pub record Goes {A B : Type 0} (Before Rest : Plan A → List B → Type 0) (plans : Plan A → Plan A)
    (earlier later : List B) :
    Type 0 where
  pub added : List B
  pub more : later ≡ earlier ++ added
  pub leads : (plan : Plan A) (tail : List B) → Rest plan tail → Before (plans plan) (added ++ tail)

module _ {A B : Type 0} (Fit : Option Addr → B → Branch A → Type 0) where
  -- The branches of a plan over these states, if there are any.
  abbrev pub AreOn : Option Tied → Plan A → List B → Type 0
  AreOn None plan found = found ≡ []
  AreOn (Some tied) plan found = (client : Option Addr) (state : AbsState) → EndsAt client tied state
      → AreBranches (Fit client) plan state found

  -- Those over states with a text in hand.
  abbrev pub AreNamed : Option Named → Plan A → List B → Type 0
  AreNamed None plan found = found ≡ []
  AreNamed (Some named) plan found = (client : Option Addr) (state : AbsState) → HasName named client state
      → AreBranches (Fit client) plan state found
