-- Loops whose rest is a step and what follows it.
use Rattle.hc_rw_eval.proofs.Common.{Result, Ok, Err, Fault, Logged, Leads, Ran, Run, run, Shown, Step, ◌>>=◌}
use Rattle.hc_rw_eval.proofs.Common.{handed_on, ran_leaves, ran_no_further, ran_no_memory, ran_said, ran_then, say}
use Rattle.hc_rw_eval.proofs.Common.{◌≡◌}
use Rattle.std.specs.Result.{IsErrAnd}
use Rattle.hc_model.specs.declared.event.Event.{Event}
use Rattle.hc_steps.specs.Ran.{with_event}

-- The step goes on, or ends the way.
pub leads_then : {E A B : Type 0} (s : Step E A) (f : A → Step E B) (w : Shown) (a : A) (l m n : Logged)
    (whole : Run E B)
    → Leads l whole m (run (s >>= f) w) → Ran (Ok a) m n (run s w) → Leads l whole n (run (f a) w)
leads_then s f w a l m n whole h k =
    record { leads = λ answer new r. h.leads answer new (ran_then s f w a answer m n new k r) }

pub leads_off : {E A B : Type 0} (s : Step E A) (f : A → Step E B) (w : Shown) (fault : Fault E)
    (r : Result B (Fault E)) (l m n : Logged) (whole : Run E B)
    → Leads l whole m (run (s >>= f) w) → Ran {A = A} (Err fault) m n (run s w) → IsErrAnd r (λ y. y ≡ fault)
    → Ran r l n whole
leads_off s f w fault r l m n whole h k is =
    handed_on whole r fault l n is (h.leads (Err fault) n (ran_no_further s f w fault m n k))

pub leads_said : {E A : Type 0} (event : Event) (s : Step E A) (w : Shown) (l m n : Logged) (whole : Run E A)
    → Leads l whole m (run (say event s) w) → n ≡ with_event m event → Leads l whole n (run s w)
leads_said event s w l m n whole h is =
    record { leads = λ answer new r. h.leads answer new (ran_said event s w answer m n new is r) }

-- One step after another, a value, and want of memory between them.
pub ruleset stepping = (ran_then, ran_no_further, ran_leaves, ran_no_memory)
