-- A walk from one component to the next. In a loop `whole` is what the walk comes to from its start.
use Rattle.hc_world.proofs.Common.{◌≡◌, ℕ, ◌+◌, Bool, true, false, not, cond, List, [], ◌∷◌, ◌++◌}
use Rattle.hc_world.proofs.Common.{length, take, drop, map, take_while, Option, Some, None, Ok, Err, refl, sym, ap}
use Rattle.hc_world.proofs.Common.{◌∙◌, subst, arith, append_assoc, append-nil, get, take_all, drop_all}
use Rattle.hc_world.proofs.Common.{ends_with_slash, Node, dir, file, text, kind_of, is_dir, World, root, Absent, Dir}
use Rattle.hc_world.proofs.Common.{File, ended, follow, onward, walk, HasNoSlash, IsNextSlash, steps_from}
use Rattle.std.specs.List.{find}
use Rattle.std.proofs.lemmas.List.Sums.{take_while-cons}
use Rattle.hc_base.specs.declared.fault.Fault.{Fault}
use Rattle.hc_model.specs.Walking.{is_step_dir, end_of, steps_of, walk as walk_in}
use Rattle.hc_model.specs.declared.outcome.Outcome.{Outcome}
use Rattle.hc_model.specs.declared.walk.Kind.{Kind}
use Rattle.hc_model.specs.declared.walk.Walk.{Walk}
use Rattle.hc_steps.specs.Ran.{Leads, Logged, Ran}
use Rattle.hc_steps.specs.Run.{Run, Way, goes_on, run}
use Rattle.hc_steps.specs.Shown.{shown_by}
use Rattle.hc_steps.specs.Step.{Path, Shown, Step, kind_at, leaves, ◌>>=◌}
use Rattle.hc_steps.proofs.Going.{leads_all, ran_leaves, ran_no_further, ran_then}
use Rattle.hc_world.specs.Walks.{with_last}
use Rattle.hc_world.proofs.Slashes.{steps_from-none, steps_from-some}

-- ---- what the steps of a walk come to

-- The walk of a name over the components that are left, after these directories.
abbrev pub walk_on : World → List ℕ → List (List ℕ) → List (List ℕ × List ℕ) → Walk
walk_on world name dirs steps = end_of world name (find (λ s. not (is_step_dir world s)) steps)
    (dirs ++ map (λ s. s.0) (take_while (is_step_dir world) steps))

walk_on-end : (world : World) (name : List ℕ) (dirs : List (List ℕ)) → walk_on world name dirs []
    ≡ record { name = name; info = []; kind = Dir; dirs = dirs }
walk_on-end world name dirs = ap (λ ds. end_of world name None ds) (append-nil dirs)

walk_on-dir : (world : World) (name : List ℕ) (dirs : List (List ℕ)) (step : List ℕ × List ℕ)
    (steps : List (List ℕ × List ℕ)) → is_step_dir world step ≡ true
    → walk_on world name dirs (step ∷ steps) ≡ walk_on world name (dirs ++ step.0 ∷ []) steps
walk_on-dir world name dirs step steps h =
    ap (λ o. end_of world name o (dirs ++ map (λ s. s.0) (take_while (is_step_dir world) (step ∷ steps))))
    (ap (λ b. cond (not b) (Some step) (find (λ s. not (is_step_dir world s)) steps)) h)
    ∙ ap (λ ss. end_of world name (find (λ s. not (is_step_dir world s)) steps) (dirs ++ map (λ s. s.0) ss))
    (take_while-cons (is_step_dir world) step steps
    ∙ ap (λ b. cond b (step ∷ take_while (is_step_dir world) steps) []) h)
    ∙ ap (λ ds. end_of world name (find (λ s. not (is_step_dir world s)) steps) ds)
    (sym (append_assoc dirs (step.0 ∷ []) (map (λ s. s.0) (take_while (is_step_dir world) steps))))

walk_on-stop : (world : World) (name : List ℕ) (dirs : List (List ℕ)) (step : List ℕ × List ℕ)
    (steps : List (List ℕ × List ℕ)) → is_step_dir world step ≡ false
    → walk_on world name dirs (step ∷ steps)
    ≡ record { name = step.0; info = step.1; kind = kind_of (get world step.0); dirs = dirs }
walk_on-stop world name dirs step steps h =
    ap (λ o. end_of world name o (dirs ++ map (λ s. s.0) (take_while (is_step_dir world) (step ∷ steps))))
    (ap (λ b. cond (not b) (Some step) (find (λ s. not (is_step_dir world s)) steps)) h)
    ∙ ap (λ ss. end_of world name (Some step) (dirs ++ map (λ s. s.0) ss))
    (take_while-cons (is_step_dir world) step steps
    ∙ ap (λ b. cond b (step ∷ take_while (is_step_dir world) steps) []) h)
    ∙ ap (λ ds. end_of world name (Some step) ds) (append-nil dirs)

-- By what stands at the next component.
next_way : (world : World) (name : List ℕ) (part : List ℕ × List ℕ) (rest : List (List ℕ × List ℕ))
    (dirs : List Path) (node : Option Node) → get world part.0 ≡ node
    → (run {E = Outcome} (follow name rest (dirs ++ part.0 ∷ [])) (shown_by world)).way
    ≡ goes_on (walk_on world name (dirs ++ part.0 ∷ []) rest)
    → (run {E = Outcome} (onward part dirs (follow name rest (dirs ++ part.0 ∷ [])) (kind_of node))
    (shown_by world)).way ≡ goes_on (walk_on world name dirs (part ∷ rest))
unfolding run
next_way world name part rest dirs None e later =
    ap goes_on
    (sym (walk_on-stop world name dirs part rest (ap is_dir e) ∙ ap (λ o. ended part.0 part.1 (kind_of o) dirs) e))
next_way world name part rest dirs (Some dir) e later =
    later ∙ ap goes_on (sym (walk_on-dir world name dirs part rest (ap is_dir e)))
next_way world name part rest dirs (Some file) e later =
    ap goes_on
    (sym (walk_on-stop world name dirs part rest (ap is_dir e) ∙ ap (λ o. ended part.0 part.1 (kind_of o) dirs) e))
next_way world name part rest dirs (Some (text bytes)) e later =
    ap goes_on
    (sym (walk_on-stop world name dirs part rest (ap is_dir e) ∙ ap (λ o. ended part.0 part.1 (kind_of o) dirs) e))

follow_way : (world : World) (name : List ℕ) (parts : List (List ℕ × List ℕ)) (dirs : List Path)
    → (run {E = Outcome} (follow name parts dirs) (shown_by world)).way ≡ goes_on (walk_on world name dirs parts)
unfolding run ◌>>=◌
follow_way world name [] dirs = ap goes_on (sym (walk_on-end world name dirs))
follow_way world name (part ∷ rest) dirs =
    next_way world name part rest dirs (get world part.0) refl (follow_way world name rest (dirs ++ part.0 ∷ []))

same_value : {E A : Type 0} (way : Way E A) (a b : A) → way ≡ goes_on a → way ≡ goes_on b → a ≡ b
same_value way a b e f = let g : goes_on a ≡ goes_on b = sym e ∙ f in cc

-- What a walk by steps answers is the walk.
pub walk_is : (world : World) (name : List ℕ) (found : Walk) (old new : Logged)
    → Ran {E = Outcome} (Ok found) old new (run (walk name) (shown_by world)) → found ≡ walk_in world name
unfolding Ran walk
walk_is world name found old new h =
    same_value (run {E = Outcome} (follow name (steps_of name) (root ∷ [])) (shown_by world)).way found
    (walk_in world name) h.0 (follow_way world name (steps_of name) (root ∷ []))

-- ---- the loop over the slashes of a name

-- What a walk still has to do from a place of the name.
abbrev pub left : Shown → List ℕ → ℕ → List Path → Run Outcome Walk
left w name from dirs = run (follow name (steps_from name from) dirs) w

-- A look at a component, and what follows it.
abbrev at_part : List ℕ → List ℕ × List ℕ → List (List ℕ × List ℕ) → List Path → Step Outcome Walk
at_part name part rest dirs = kind_at part.0 >>= onward part dirs (follow name rest (dirs ++ part.0 ∷ []))

left_some : (w : Shown) (name : List ℕ) (from slash : ℕ) (dirs : List Path) → IsNextSlash name from slash
    → left w name from dirs
    ≡ run (at_part name (take slash name, drop slash name) (steps_from name (slash + 1)) dirs) w
left_some w name from slash dirs is = ap (λ ps. run (follow name ps dirs) w) (steps_from-some name from slash is)

left_none : (w : Shown) (name : List ℕ) (from : ℕ) (dirs : List Path) (b : Bool)
    → HasNoSlash name from (length name) → b ≡ ends_with_slash name
    → left w name from dirs ≡ run (follow name (cond b [] ((name, []) ∷ [])) dirs) w
left_none w name from dirs b free e =
    ap (λ ps. run (follow name ps dirs) w)
    (steps_from-none name from free ∙ ap (λ b. cond b [] ((name, []) ∷ [])) (sym e))

stopped : (part : List ℕ × List ℕ) (dirs : List Path) (rest : Step Outcome Walk) (kind : Kind)
    → (kind ≡ Dir → ⊥) → onward part dirs rest kind ≡ leaves (ended part.0 part.1 kind dirs)
stopped part dirs rest Dir h = absurd (h refl)
stopped part dirs rest Absent h = refl
stopped part dirs rest File h = refl

stops : (w : Shown) (name : List ℕ) (l m : Logged) (part : List ℕ × List ℕ) (rest : List (List ℕ × List ℕ))
    (dirs : List Path) (kind : Kind) (walk : Walk) → Ran {E = Outcome} (Ok kind) l m (run (kind_at part.0) w)
    → (kind ≡ Dir → ⊥) → walk ≡ ended part.0 part.1 kind dirs
    → Ran (Ok walk) l m (run (at_part name part rest dirs) w)
stops w name l m part rest dirs kind walk k ne e =
    ran_then (kind_at part.0) (onward part dirs (follow name rest (dirs ++ part.0 ∷ []))) w kind (Ok walk) l m m k
    (subst (λ s. Ran (Ok walk) m m (run s w))
    (sym (stopped part dirs (follow name rest (dirs ++ part.0 ∷ [])) kind ne))
    (ran_leaves Outcome walk (ended part.0 part.1 kind dirs) m w e))

faults : (w : Shown) (name : List ℕ) (l m : Logged) (part : List ℕ × List ℕ) (rest : List (List ℕ × List ℕ))
    (dirs : List Path) (fault : Fault Outcome) → Ran (Err fault) l m (run {A = Kind} (kind_at part.0) w)
    → Ran (Err fault) l m (run (at_part name part rest dirs) w)
faults w name l m part rest dirs fault k =
    ran_no_further (kind_at part.0) (onward part dirs (follow name rest (dirs ++ part.0 ∷ []))) w fault l m k

whole_name : (name : List ℕ) (kind : Kind) (dirs : List Path)
    → ended (take (length name) name) (drop (length name) name) kind dirs ≡ ended name [] kind dirs
whole_name name kind dirs =
    ap (λ n. ended n (drop (length name) name) kind dirs) (take_all (length name) name (omega arith))
    ∙ ap (λ i. ended name i kind dirs) (drop_all (length name) name (omega arith))

-- ---- the loop

pub walk_begins : (w : Shown) (name : List ℕ) (l : Logged) (dirs : List Path) → dirs ≡ (47 ∷ []) ∷ []
    → Leads l (run (walk name) w) l (left w name 1 dirs)
unfolding walk
walk_begins w name l dirs e = subst (λ dirs. Leads l (run (walk name) w) l (left w name 1 dirs)) (sym e)
    (leads_all l (run (walk name) w))

pub walk_goes : (w : Shown) (name : List ℕ) (old now next : Logged) (whole : Run Outcome Walk) (from slash : ℕ)
    (dirs more : List Path) (kind : Kind) → Leads old whole now (left w name from dirs)
    → IsNextSlash name from slash → Ran {E = Outcome} (Ok kind) now next (run (kind_at (take slash name)) w)
    → kind ≡ Dir → more ≡ dirs ++ take slash name ∷ [] → Leads old whole next (left w name (slash + 1) more)
walk_goes w name old now next whole from slash dirs more kind h is k at_dir e =
    let part : List ℕ × List ℕ = (take slash name, drop slash name) in
    let rest = steps_from name (slash + 1) in
    let k' = subst (λ kind. Ran {E = Outcome} (Ok kind) now next (run (kind_at (take slash name)) w)) at_dir k in
    subst (λ more. Leads old whole next (left w name (slash + 1) more)) (sym e)
    (record {
      leads = λ answer new r. h.leads answer new
          (subst (Ran answer now new) (sym (left_some w name from slash dirs is))
          (ran_then (kind_at part.0) (onward part dirs (follow name rest (dirs ++ part.0 ∷ []))) w Dir answer now next
          new k' r));
    })

pub walk_stops : (w : Shown) (name : List ℕ) (old now next : Logged) (whole : Run Outcome Walk) (from slash : ℕ)
    (dirs : List Path) (kind : Kind) (walk : Walk) → Leads old whole now (left w name from dirs)
    → IsNextSlash name from slash → Ran {E = Outcome} (Ok kind) now next (run (kind_at (take slash name)) w)
    → (kind ≡ Dir → ⊥) → walk ≡ ended (take slash name) (drop slash name) kind dirs
    → Ran (Ok walk) old next whole
walk_stops w name old now next whole from slash dirs kind walk h is k ne e =
    h.leads (Ok walk) next
    (subst (Ran (Ok walk) now next) (sym (left_some w name from slash dirs is))
    (stops w name now next (take slash name, drop slash name) (steps_from name (slash + 1)) dirs kind walk k ne e))

pub walk_faults : (w : Shown) (name : List ℕ) (old now next : Logged) (whole : Run Outcome Walk) (from slash : ℕ)
    (dirs : List Path) (fault : Fault Outcome) → Leads old whole now (left w name from dirs)
    → IsNextSlash name from slash → Ran (Err fault) now next (run {A = Kind} (kind_at (take slash name)) w)
    → Ran (Err fault) old next whole
walk_faults w name old now next whole from slash dirs fault h is k =
    h.leads (Err fault) next
    (subst (Ran (Err fault) now next) (sym (left_some w name from slash dirs is))
    (faults w name now next (take slash name, drop slash name) (steps_from name (slash + 1)) dirs fault k))

pub slash_ends : (w : Shown) (name : List ℕ) (old now : Logged) (whole : Run Outcome Walk) (from : ℕ)
    (dirs : List Path) (walk : Walk) → Leads old whole now (left w name from dirs)
    → HasNoSlash name from (length name) → true ≡ ends_with_slash name
    → walk ≡ ended (take (length name) name) (drop (length name) name) Dir dirs → Ran (Ok walk) old now whole
slash_ends w name old now whole from dirs walk h free b e =
    h.leads (Ok walk) now
    (subst (Ran (Ok walk) now now) (sym (left_none w name from dirs true free b))
    (ran_leaves Outcome walk (ended name [] Dir dirs) now w (e ∙ whole_name name Dir dirs)))

last_part : (w : Shown) (name : List ℕ) (l m : Logged) (dirs : List Path) (kind : Kind) (walk : Walk)
    → Ran {E = Outcome} (Ok kind) l m (run (kind_at name) w)
    → walk ≡ ended name [] kind (with_last kind name dirs)
    → Ran (Ok walk) l m (run (at_part name (name, []) [] dirs) w)
last_part w name l m dirs Dir walk k e =
    ran_then (kind_at name) (onward (name, []) dirs (follow name [] (dirs ++ name ∷ []))) w Dir (Ok walk) l m m k
    (ran_leaves Outcome walk (ended name [] Dir (dirs ++ name ∷ [])) m w e)
last_part w name l m dirs Absent walk k e =
    ran_then (kind_at name) (onward (name, []) dirs (follow name [] (dirs ++ name ∷ []))) w Absent (Ok walk) l m m k
    (ran_leaves Outcome walk (ended name [] Absent dirs) m w e)
last_part w name l m dirs File walk k e =
    ran_then (kind_at name) (onward (name, []) dirs (follow name [] (dirs ++ name ∷ []))) w File (Ok walk) l m m k
    (ran_leaves Outcome walk (ended name [] File dirs) m w e)

pub name_ends : (w : Shown) (name : List ℕ) (old now next : Logged) (whole : Run Outcome Walk) (from : ℕ)
    (dirs : List Path) (kind : Kind) (walk : Walk) → Leads old whole now (left w name from dirs)
    → HasNoSlash name from (length name) → false ≡ ends_with_slash name
    → Ran {E = Outcome} (Ok kind) now next (run (kind_at name) w)
    → walk ≡ ended (take (length name) name) (drop (length name) name) kind (with_last kind name dirs)
    → Ran (Ok walk) old next whole
name_ends w name old now next whole from dirs kind walk h free b k e =
    h.leads (Ok walk) next
    (subst (Ran (Ok walk) now next) (sym (left_none w name from dirs false free b))
    (last_part w name now next dirs kind walk k (e ∙ whole_name name kind (with_last kind name dirs))))

pub name_faults : (w : Shown) (name : List ℕ) (old now next : Logged) (whole : Run Outcome Walk) (from : ℕ)
    (dirs : List Path) (fault : Fault Outcome) → Leads old whole now (left w name from dirs)
    → HasNoSlash name from (length name) → false ≡ ends_with_slash name
    → Ran (Err fault) now next (run {A = Kind} (kind_at name) w) → Ran (Err fault) old next whole
name_faults w name old now next whole from dirs fault h free b k =
    h.leads (Err fault) next
    (subst (Ran (Err fault) now next) (sym (left_none w name from dirs false free b))
    (faults w name now next (name, []) [] dirs fault k))

pub ruleset walk_steps = (walk_begins, walk_faults, slash_ends, name_faults)
