-- A step that ends in another way.
use Rattle.hc_include.proofs.Common.{◌≡◌, refl, ap, subst, Result, Ok, Err, Fault, NoMemory, Refused, Logged, Ran}
use Rattle.hc_include.proofs.Common.{Run, Way, goes_on, is_over, looking, run, saying, Shown, Step, leaves, ends, say}
use Rattle.hc_include.proofs.Common.{look, ◌>>=◌, ran_no_further}
use Rattle.hc_include.specs.Ending.{ending}

abbrev pub end_way : {E F A : Type 0} → (E → F) → Way E A → Way F A
end_way f (goes_on left) = goes_on left
end_way f (is_over end) = is_over (f end)

abbrev pub end_run : {E F A : Type 0} → (E → F) → Run E A → Run F A
end_run f run = record { events = run.events; reads = run.reads; way = end_way f run.way }

pub run_ending : {E F A : Type 0} (f : E → F) (s : Step E A) (w : Shown)
    → run (ending f s) w ≡ end_run f (run s w)
unfolding run ending
run_ending f (leaves left) w = refl
run_ending f (ends end) w = refl
run_ending f (say event rest) w = ap (saying event) (run_ending f rest w)
run_ending f (look read rest) w = ap (looking read) (run_ending f (rest (w read)) w)

pub ending_on : {E F A : Type 0} (f : E → F) (s : Step E A) (w : Shown) (a : A) (l m : Logged)
    → Ran (Ok a) l m (run s w) → Ran {E = F} (Ok a) l m (run (ending f s) w)
unfolding Ran
ending_on f s w a l m h = rw (run_ending f s w) (ap (end_way f) h.0, h.1)

pub ending_off : {E F A : Type 0} (f : E → F) (s : Step E A) (w : Shown) (end : E) (l m : Logged)
    → Ran {A = A} (Err (Refused end)) l m (run s w) → Ran {A = A} (Err (Refused (f end))) l m (run (ending f s) w)
unfolding Ran
ending_off f s w end l m h = rw (run_ending f s w) (ap (end_way f) h.0, h.1)

abbrev over_end : {E A : Type 0} → Way E A → E → E
over_end (goes_on left) end = end
over_end (is_over end) other = end

-- What ends so, and what is answered there.
pub stopped_behind : {E F A B : Type 0} (f : E → F) (s : Step E A) (next : A → Step F B) (w : Shown) (end : E)
    (r : Result B (Fault F)) (l m : Logged)
    → Ran {A = A} (Err (Refused end)) l m (run s w) → Ran r m m (run (ends (f end)) w)
    → Ran r l m (run (ending f s >>= next) w)
unfolding Ran run
stopped_behind f s next w end (Ok b) l m h k = absurd (cc k.0)
stopped_behind {A = A} {B = B} f s next w end (Err (Refused other)) l m h k =
    subst (λ end. Ran {A = B} (Err (Refused end)) l m (run (ending f s >>= next) w))
    (ap (λ way. over_end way other) k.0)
    (ran_no_further (ending f s) next w (Refused (f end)) l m (ending_off f s w end l m h))
stopped_behind f s next w end (Err NoMemory) l m h k = tt
