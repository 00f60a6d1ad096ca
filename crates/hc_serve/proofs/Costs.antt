-- What steps cost, one after another.
use Rattle.hc_serve.proofs.Common.{◌≡◌, ◌∙◌, ℕ, suc, ◌+◌, ◌-◌, ◌<◌, ◌≤◌, List, Option}
use Rattle.hc_serve.proofs.Common.{Result, Ok, Err, refl, sym, ap, subst, arith, Logged, Ran, Run, passed, passes}
use Rattle.std.specs.Prelude.{◌∷◌, sum_by}
use Rattle.std.specs.Result.{IsErrAnd}
use Rattle.std.proofs.lemmas.List.Sums.{sum_by-append}
use Rattle.hc_base.specs.declared.fault.Fault.{Fault}
use Rattle.hc_base.specs.declared.fault.Fault.TheVariants.{NoMemory, Refused}
use Rattle.hc_base.specs.declared.place.Refusal.{Refusal}
use Rattle.hc_htaccess.proofs.Memory.{whatever}
use Rattle.hc_htaccess.specs.Reading.{found_there, size_in, text_size}
use Rattle.hc_include.specs.Ending.{ending}
use Rattle.hc_include.proofs.Ending.{ending_on, run_ending}
use Rattle.hc_merge.specs.Overriding.{Files_at, htaccess_of}
use Rattle.hc_model.specs.Overrides.{IfMemory, Loaded}
use Rattle.hc_model.specs.World.{World}
use Rattle.hc_model.specs.declared.authorization.ReqTree.{ReqTree}
use Rattle.hc_model.specs.declared.config.Config.{Config}
use Rattle.hc_model.specs.declared.outcome.Outcome.{Outcome}
use Rattle.hc_serve.specs.Costs.{Costs, looked, read_size}
use Rattle.hc_serve.specs.Files.{stopping}
use Rattle.hc_serve.specs.Passing.{file_looked, left_by, stopped, with_tree}
use Rattle.hc_serve.specs.Site.{Site}
use Rattle.hc_serve.specs.declared.stage.Ended.{Ended}
use Rattle.hc_serve.specs.declared.stage.Restarted.{Restarted}
use Rattle.hc_steps.specs.Run.{Way, goes_on, is_over, on_way, run}
use Rattle.hc_steps.specs.Shown.{shown_by}
use Rattle.hc_steps.specs.Step.{Path, Step, ◌>>=◌, in_order, text_at}
use Rattle.hc_steps.proofs.Running.{in_turn}

-- ---- numbers

module _ {E A B : Type 0} (world : World) (s : Step E A) (f : A → Step E B) where
  total : {F C : Type 0} → Run F C → ℕ
  total r = sum_by (read_size world) r.reads

  at_way : (way : Way E A) → (run s (shown_by world)).way ≡ way
      → total (run (s >>= f) (shown_by world))
      ≡ total (on_way (run s (shown_by world)) way (λ a. run (f a) (shown_by world)))
  at_way way is =
      ap total (in_turn s f (shown_by world)
      ∙ ap (λ way. on_way (run s (shown_by world)) way (λ a. run (f a) (shown_by world))) is)

  by_way : (way : Way E A) → (run s (shown_by world)).way ≡ way → looked world s ≤ looked world (s >>= f)
  unfolding looked total
  by_way (goes_on a) is =
      omega (
        arith,
        at_way (goes_on a) is,
        sum_by-append (read_size world) (run s (shown_by world)).reads
            (run (f a) (shown_by world)).reads,
      )
  by_way (is_over e) is = omega (arith, at_way (is_over e) is)

  pub looked_first : looked world s ≤ looked world (s >>= f)
  looked_first = by_way (run s (shown_by world)).way refl

  pub looked_both : (a : A) → (run s (shown_by world)).way ≡ goes_on a
      → looked world (s >>= f) ≡ looked world s + looked world (f a)
  unfolding looked total
  looked_both a is =
      at_way (goes_on a) is
      ∙ sum_by-append (read_size world) (run s (shown_by world)).reads (run (f a) (shown_by world)).reads

looked_ending : {E F A : Type 0} (world : World) (f : E → F) (s : Step E A) → looked world (ending f s)
    ≡ looked world s
unfolding looked
looked_ending world f s = ap (λ r. sum_by (read_size world) r.reads) (run_ending f s (shown_by world))

ran_on_way : {E A : Type 0} (world : World) (s : Step E A) (a : A) (l m : Logged)
    → Ran (Ok a) l m (run s (shown_by world)) → (run s (shown_by world)).way ≡ goes_on a
unfolding Ran
ran_on_way world s a l m h = h.0

-- ---- clauses

-- A counter that stayed.
pub costs_nothing : {R F E A : Type 0} (result : Result R (Fault F)) (world : World) (s : Step E A) (n : ℕ)
    → Costs result world s n n
unfolding Costs
costs_nothing result world s n = whatever result (omega arith)

weaken : {R F : Type 0} (result : Result R (Fault F)) (n m : ℕ) → IfMemory result (n ≤ m) → (k : ℕ)
    → m ≤ k → IfMemory result (n ≤ k)
weaken (Ok a) n m h k le = omega (arith, h, le)
weaken (Err (Refused e)) n m h k le = omega (arith, h, le)
weaken (Err NoMemory) n m h k le = tt

-- A `?` hands on the fault.
pub costs_off : (R : Type 0) {S F E A : Type 0} (result : Result S (Fault F)) (fault : Fault F) (world : World)
    (s : Step E A) (n m : ℕ)
    → IsErrAnd result (λ other. other ≡ fault) → Costs {R = R} (Err fault) world s n m
    → Costs result world s n m
unfolding Costs
costs_off R (Ok a) fault world s n m is costs = absurd is
costs_off R (Err other) fault world s n m is costs =
    subst (λ other. Costs {R = R} (Err other) world s n m) (sym is) costs

module _ {E A B : Type 0} (world : World) (s : Step E A) (f : A → Step E B) where
  -- The counter rose in the first step: it ended there, or another one follows.
  pub costs_there : (R : Type 0) {F : Type 0} (fault : Fault F) (n m : ℕ) → Costs {R = R} (Err fault) world s n m
      → Costs {R = R} (Err fault) world (s >>= f) n m
  unfolding Costs
  costs_there R fault n m costs = weaken {R = R} (Err fault) m _ costs _ (omega (arith, looked_first world s f))

  pub costs_before : (G : Type 0) {R S F : Type 0} (value : S) (result : Result R (Fault F)) (n m : ℕ)
      → Costs {F = G} (Ok value) world s n m → Costs result world (s >>= f) n m
  unfolding Costs
  costs_before G value result n m costs = whatever result (omega (arith, costs, looked_first world s f))

  -- It rose in the second one, or in both.
  pub costs_both : (G : Type 0) {R S F : Type 0} (a : A) (value : S) (result : Result R (Fault F)) (l l' : Logged)
      (n m k : ℕ) → Ran (Ok a) l l' (run s (shown_by world))
      → Costs {F = G} (Ok value) world s n m → Costs result world (f a) m k → Costs result world (s >>= f) n k
  unfolding Costs
  costs_both G a value result l l' n m k ran first next =
      weaken result k _ next _ (omega (arith, first, looked_both world s f a (ran_on_way world s a l l' ran)))

  pub costs_behind : {R F : Type 0} (a : A) (result : Result R (Fault F)) (l l' : Logged) (n m : ℕ)
      → Ran (Ok a) l l' (run s (shown_by world))
      → Costs result world (f a) n m → Costs result world (s >>= f) n m
  unfolding Costs
  costs_behind a result l l' n m ran next =
      weaken result m _ next _ (omega (arith, looked_both world s f a (ran_on_way world s a l l' ran)))

-- ---- one file, and one after another

file_size : (world : World) (path : Path) → looked {E = Outcome} world (text_at path) ≡ text_size world path
unfolding looked run
file_size world path = omega arith

module _ (config : Config) (world : World) where
  pub file_costs : {A : Type 0} (files : Files_at) (each : Loaded) (size : Path → ℕ)
      (read : Result A (Fault Refusal)) (result : Result A (Fault Outcome)) (n m : ℕ)
      → size ≡ size_in world → IfMemory read (m ≤ n + size each.dir) → result ≡ stopping read
      → Costs result world (file_looked config files each) n m
  unfolding Costs file_looked
  file_costs {A} files each size read result n m same costs is =
      rw is (by read (subst (λ size. IfMemory read (m ≤ n + size each.dir)) same costs)) where
        path : Path
        path = htaccess_of each.dir

        most : text_size world path ≤ looked world (file_looked config files each)
        most = omega (
          arith,
          file_size world path,
          looked_first world (text_at path)
              (λ found. left_by files each (found_there config each.dir each.allowed found)),
        )

        by : (read : Result A (Fault Refusal)) → IfMemory read (m ≤ n + text_size world path)
            → Costs (stopping read) world (file_looked config files each) n m
        by (Ok _) costs = omega (arith, costs, most)
        by (Err (Refused _)) costs = omega (arith, costs, most)
        by (Err NoMemory) costs = tt

  module _ (files : Files_at) (each : Loaded) (all more : List Loaded) (is : all ≡ each ∷ more) where
    pub first_costs : {A : Type 0} (fault : Fault Outcome) (result : Result A (Fault Outcome)) (n m : ℕ)
        → IsErrAnd result (λ other. other ≡ fault)
        → Costs {R = A} (Err fault) world (file_looked config files each) n m
        → Costs result world (in_order (file_looked config) files all) n m
    first_costs {A} fault result n m off costs =
        subst (λ all. Costs result world (in_order (file_looked config) files all) n m) (sym is)
        (costs_off A result fault world _ n m off
        (costs_there world (file_looked config files each) (λ files. in_order (file_looked config) files more) A
        fault n m costs))

    pub more_costs : {A B : Type 0} (left : Files_at) (value : B) (result : Result A (Fault Outcome)) (l l' : Logged)
        (n m k : ℕ)
        → Ran (Ok left) l l' (run (file_looked config files each) (shown_by world))
        → Costs {F = Outcome} (Ok value) world (file_looked config files each) n m
        → ((files : Files_at) → Costs result world (in_order (file_looked config) files more) m k)
        → Costs result world (in_order (file_looked config) files all) n k
    more_costs left value result l l' n m k ran first rest =
        subst (λ all. Costs result world (in_order (file_looked config) files all) n k) (sym is)
        (costs_both world (file_looked config files each) (λ files. in_order (file_looked config) files more) Outcome
        left value result l l' n m k ran first (rest left))

-- ---- passes

module _ {A B : Type 0} (world : World) (require : Option ReqTree) (s : Step Outcome A)
    (next : A → Step Ended B) where
  abbrev ended : Step Ended A
  ended = ending (with_tree require) s

  same : looked world ended ≡ looked world s
  same = looked_ending world (with_tree require) s

  -- The counter rose in the step that may end so, or behind it.
  pub costs_stopped : (fault : Fault Outcome) (n m : ℕ) → Costs {R = A} (Err fault) world s n m
      → Costs {R = B} (Err (stopped require fault)) world (ended >>= next) n m
  unfolding Costs
  costs_stopped (Refused outcome) n m costs = omega (arith, costs, same, looked_first world ended next)
  costs_stopped NoMemory n m costs = tt

  pub costs_treed : (a : A) (result : Result B (Fault Ended)) (n m : ℕ) → Costs {F = Outcome} (Ok a) world s n m
      → Costs result world (ended >>= next) n m
  unfolding Costs
  costs_treed a result n m costs = whatever result (omega (arith, costs, same, looked_first world ended next))

  pub costs_behind_tree : (a : A) (result : Result B (Fault Ended)) (l l' : Logged) (n m : ℕ)
      → Ran (Ok a) l l' (run s (shown_by world))
      → Costs result world (next a) n m → Costs result world (ended >>= next) n m
  costs_behind_tree a result l l' n m ran costs =
      costs_behind world ended next a result l l' n m (ending_on (with_tree require) s (shown_by world) a l l' ran)
      costs

module _ (world : World) (site : Site) (most turn : ℕ) where
  -- What is left behind so many passes.
  abbrev pub left_to_look : Restarted → ℕ
  left_to_look pass = looked world (passes (most - turn) site pass)

  one_more : turn < most → most - turn ≡ suc (most - (turn + 1))
  one_more lt = omega arith

  next_pass : (pass : Restarted) → turn < most
      → left_to_look pass ≡ looked world (passed site pass.pass >>= passes (most - (turn + 1)) site)
  unfolding passes
  next_pass pass lt = ap (λ n. looked world (passes n site pass)) (one_more lt)

  pub pass_costs : (pass more : Restarted) (l l' : Logged) (m k whole : ℕ) → turn < most
      → m + left_to_look pass ≤ whole
      → Ran (Ok more) l l' (run (passed site pass.pass) (shown_by world))
      → Costs {F = Ended} (Ok more) world (passed site pass.pass) m k
      → k + looked world (passes (most - (turn + 1)) site more) ≤ whole
  unfolding Costs
  pass_costs pass more l l' m k whole lt so_far ran costs =
      omega (
        arith,
        so_far,
        costs,
        next_pass pass lt,
        looked_both world (passed site pass.pass) (passes (most - (turn + 1)) site) more
            (ran_on_way world (passed site pass.pass) more l l' ran),
      )

  pub last_costs : (pass first : Restarted) (fault : Fault Ended) (result : Result Restarted (Fault Ended))
      (n m k : ℕ) → turn < most
      → m + left_to_look pass ≤ n + looked world (passes most site first)
      → IsErrAnd result (λ other. other ≡ fault)
      → Costs {R = Restarted} (Err fault) world (passed site pass.pass) m k
      → Costs result world (passes most site first) n k
  unfolding Costs
  last_costs pass first fault result n m k lt so_far off costs =
      costs_off Restarted result fault world (passes most site first) n k off (by fault costs) where
        by : (fault : Fault Ended) → Costs {R = Restarted} (Err fault) world (passed site pass.pass) m k
            → Costs {R = Restarted} (Err fault) world (passes most site first) n k
        by (Refused end) costs =
            omega (
              arith,
              so_far,
              costs,
              next_pass pass lt,
              looked_first world (passed site pass.pass) (passes (most - (turn + 1)) site),
            )
        by NoMemory costs = tt

pub passes_cost_begin : (world : World) (site : Site) (most n : ℕ) (pass : Restarted)
    → n + left_to_look world site most 0 pass ≤ n + looked world (passes most site pass)
passes_cost_begin world site most n pass =
    let all : most - 0 ≡ most = omega arith in
    omega (arith, ap (λ k. looked world (passes k site pass)) all)

pub passes_cost_end : (world : World) (site : Site) (most turn n m : ℕ) (pass first : Restarted)
    → m + left_to_look world site most turn pass ≤ n + looked world (passes most site first)
    → Costs {F = Ended} (Ok pass) world (passes most site first) n m
unfolding Costs
passes_cost_end world site most turn n m pass first so_far = omega (arith, so_far)

-- ---- the end of the way

pub cost_left : {E A : Type 0} (world : World) (s : Step E A) (a : A) (n m : ℕ) → Costs {F = E} (Ok a) world s n m
    → m ≤ n + looked world s
unfolding Costs
cost_left world s a n m costs = costs

pub cost_ended : {E A : Type 0} (world : World) (s : Step E A) (e : E) (n m : ℕ)
    → Costs {R = A} (Err (Refused e)) world s n m → m ≤ n + looked world s
unfolding Costs
cost_ended world s e n m costs = costs
