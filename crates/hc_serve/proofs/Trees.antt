-- A pass that ends, with the tree that was in force.
use Rattle.hc_serve.proofs.Common.{Option, Ok, Err, Result, Logged, Ran, run, ran_no_further, ran_then}
use Rattle.hc_base.specs.declared.fault.Fault.{Fault}
use Rattle.hc_base.specs.declared.fault.Fault.TheVariants.{NoMemory, Refused}
use Rattle.hc_include.specs.Ending.{ending}
use Rattle.hc_include.proofs.Ending.{ending_off, ending_on}
use Rattle.hc_model.specs.declared.authorization.ReqTree.{ReqTree}
use Rattle.hc_model.specs.declared.outcome.Outcome.{Outcome}
use Rattle.hc_serve.specs.Passing.{stopped, with_tree}
use Rattle.hc_serve.specs.declared.stage.Ended.{Ended}
use Rattle.hc_steps.specs.Step.{Shown, Step, ◌>>=◌}

ending_fault : {A : Type 0} (require : Option ReqTree) (s : Step Outcome A) (w : Shown) (fault : Fault Outcome)
    (l m : Logged)
    → Ran {A = A} (Err fault) l m (run s w)
    → Ran {A = A} (Err (stopped require fault)) l m (run (ending (with_tree require) s) w)
unfolding Ran
ending_fault require s w (Refused outcome) l m h = ending_off (with_tree require) s w outcome l m h
ending_fault require s w NoMemory l m h = tt

pub treed_off : {A B : Type 0} (require : Option ReqTree) (s : Step Outcome A) (next : A → Step Ended B) (w : Shown)
    (fault : Fault Outcome) (l m : Logged)
    → Ran {A = A} (Err fault) l m (run s w)
    → Ran {A = B} (Err (stopped require fault)) l m (run (ending (with_tree require) s >>= next) w)
treed_off require s next w fault l m h =
    ran_no_further (ending (with_tree require) s) next w (stopped require fault) l m
    (ending_fault require s w fault l m h)

pub treed_on : {A B : Type 0} (require : Option ReqTree) (s : Step Outcome A) (next : A → Step Ended B) (w : Shown)
    (a : A) (r : Result B (Fault Ended)) (l m n : Logged)
    → Ran (Ok a) l m (run s w) → Ran r m n (run (next a) w)
    → Ran r l n (run (ending (with_tree require) s >>= next) w)
treed_on require s next w a r l m n h k =
    ran_then (ending (with_tree require) s) next w a r l m n (ending_on (with_tree require) s w a l m h) k

pub ruleset treed = (treed_off, treed_on)
