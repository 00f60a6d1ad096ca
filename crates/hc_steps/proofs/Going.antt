-- Steps in code, one after another.
use Rattle.hc_steps.proofs.Common.{◌≡◌, ℕ, ◌+◌, ◌<◌, ◌≤◌, length, drop, get_or, subst, List, []}
use Rattle.hc_steps.proofs.Common.{◌∷◌, ◌++◌, refl, sym, ap, ◌∙◌, Result, Ok, Err, Event, Read, Run}
use Rattle.hc_steps.proofs.Common.{run, on_way, Way, goes_on, is_over, behind, looking}
use Rattle.std.specs.Result.{IsErrAnd}
use Rattle.std.proofs.lemmas.Result.{err_from_is_err_and}
use Rattle.std.proofs.lemmas.List.{drop_more, drop_all}
use Rattle.std.proofs.lemmas.List.Sums.{fold-append}
use Rattle.hc_base.specs.declared.fault.Fault.{Fault}
use Rattle.hc_base.specs.declared.fault.Fault.TheVariants.{NoMemory, Refused}
use Rattle.hc_steps.specs.Step.{Shown, Shows, Step, leaves, ends, say, look, ◌>>=◌, in_order}
use Rattle.hc_steps.specs.Ran.{Logged, Ran, Leads, grown, with_event, with_events, with_read, with_reads}
use Rattle.hc_steps.proofs.Running.{in_turn}

-- ---- logs

-- An event and reads go into different fields.
event_then_reads : (log : Logged) (rs : List Read) (e : Event) → with_event (with_reads log rs) e
    ≡ with_reads (with_event log e) rs
event_then_reads log [] e = refl
event_then_reads log (r ∷ rs) e = event_then_reads (with_read log r) rs e

pub events_then_reads : (log : Logged) (rs : List Read) (es : List Event) → with_events (with_reads log rs) es
    ≡ with_reads (with_events log es) rs
events_then_reads log rs [] = refl
events_then_reads log rs (e ∷ es) = ap (λ l. with_events l es) (event_then_reads log rs e)
    ∙ events_then_reads (with_event log e) rs es

pub grown_in_turn : {E A B : Type 0} (log : Logged) (r : Run E A) (t : Run E B)
    → grown (grown log r) t ≡ grown log (behind r t)
grown_in_turn log r t =
    ap (λ l. with_reads l t.reads) (events_then_reads (with_events log r.events) r.reads t.events
    ∙ ap (λ l. with_reads l r.reads) (sym (fold-append with_event log r.events t.events)))
    ∙ sym (fold-append with_read (with_events log (r.events ++ t.events)) r.reads t.reads)

-- ---- answers

pub ran_leaves : (E : Type 0) {A : Type 0} (a b : A) (l : Logged) (w : Shown) → a ≡ b
    → Ran {E = E} (Ok a) l l (run {E = E} (leaves b) w)
unfolding run Ran
ran_leaves E a b l w e = (ap goes_on (sym e), refl)

pub ran_ends : (A : Type 0) {E : Type 0} (e f : E) (l : Logged) (w : Shown) → e ≡ f
    → Ran {A = A} (Err (Refused e)) l l (run {A = A} (ends f) w)
unfolding run Ran
ran_ends A e f l w h = (ap is_over (sym h), refl)

pub ran_no_memory : {E A : Type 0} (s : Step E A) (l m : Logged) (w : Shown)
    → Ran {A = A} (Err NoMemory) l m (run s w)
unfolding Ran
ran_no_memory s l m w = tt

-- What comes behind an event, and behind a look.
pub ran_said : {E A : Type 0} (event : Event) (s : Step E A) (w : Shown) (r : Result A (Fault E)) (l m n : Logged)
    → m ≡ with_event l event → Ran r m n (run s w) → Ran r l n (run (say event s) w)
unfolding run Ran
ran_said event s w (Ok a) l m n e h = (h.0, h.1 ∙ ap (λ m. grown m (run s w)) e)
ran_said event s w (Err (Refused o)) l m n e h = (h.0, h.1 ∙ ap (λ m. grown m (run s w)) e)
ran_said event s w (Err NoMemory) l m n e h = tt

looked_then : {E A : Type 0} (read : Read) (r : Run E A) (l : Logged) → grown (with_read l read) r
    ≡ grown l (looking read r)
looked_then read r l = ap (λ l. with_reads l r.reads) (events_then_reads l (read ∷ []) r.events)

pub ran_looked : {E A : Type 0} (read : Read) (s : Shows read → Step E A) (w : Shown) (r : Result A (Fault E))
    (l m n : Logged) → m ≡ with_read l read → Ran r m n (run (s (w read)) w) → Ran r l n (run (look read s) w)
unfolding run Ran
ran_looked read s w (Ok a) l m n e h =
    (h.0, h.1 ∙ ap (λ m. grown m (run (s (w read)) w)) e ∙ looked_then read (run (s (w read)) w) l)
ran_looked read s w (Err (Refused o)) l m n e h =
    (h.0, h.1 ∙ ap (λ m. grown m (run (s (w read)) w)) e ∙ looked_then read (run (s (w read)) w) l)
ran_looked read s w (Err NoMemory) l m n e h = tt

-- A look by itself.
pub ran_shown : (E : Type 0) (read : Read) (x : Shows read) (w : Shown) (l m : Logged) → m ≡ with_read l read
    → x ≡ w read → Ran {E = E} (Ok x) l m (run {E = E} (look read leaves) w)
ran_shown E read x w l m e h = ran_looked read leaves w (Ok x) l m m e (ran_leaves E x (w read) m w h)

at_value : {E A B : Type 0} (s : Step E A) (f : A → Step E B) (w : Shown) (way : Way E A) → (run s w).way ≡ way
    → run (s >>= f) w ≡ on_way (run s w) way (λ a. run (f a) w)
at_value s f w way e = in_turn s f w ∙ ap (λ way. on_way (run s w) way (λ a. run (f a) w)) e

grown_then : {E A B : Type 0} (s : Step E A) (t : Run E B) (w : Shown) (whole : Run E B) (l m n : Logged)
    → whole ≡ behind (run s w) t → m ≡ grown l (run s w) → n ≡ grown m t → n ≡ grown l whole
grown_then s t w whole l m n e h k = k ∙ ap (λ m. grown m t) h ∙ grown_in_turn l (run s w) t
    ∙ ap (grown l) (sym e)

-- A step that went on, and what the next one came to.
pub ran_then : {E A B : Type 0} (s : Step E A) (f : A → Step E B) (w : Shown) (a : A) (r : Result B (Fault E))
    (l m n : Logged) → Ran (Ok a) l m (run s w) → Ran r m n (run (f a) w) → Ran r l n (run (s >>= f) w)
unfolding Ran
ran_then s f w a (Ok b) l m n h k = let e = at_value s f w (goes_on a) h.0 in
    (ap (λ r. r.way) e ∙ k.0, grown_then s (run (f a) w) w (run (s >>= f) w) l m n e h.1 k.1)
ran_then s f w a (Err (Refused o)) l m n h k = let e = at_value s f w (goes_on a) h.0 in
    (ap (λ r. r.way) e ∙ k.0, grown_then s (run (f a) w) w (run (s >>= f) w) l m n e h.1 k.1)
ran_then s f w a (Err NoMemory) l m n h k = tt

-- A step that did not go on.
pub ran_no_further : {E A B : Type 0} (s : Step E A) (f : A → Step E B) (w : Shown) (fault : Fault E) (l m : Logged)
    → Ran {A = A} (Err fault) l m (run s w) → Ran {A = B} (Err fault) l m (run (s >>= f) w)
unfolding Ran
ran_no_further s f w (Refused e) l m h = let g = at_value s f w (is_over e) h.0 in
    (ap (λ r. r.way) g, h.1 ∙ ap (λ r. grown l r) (sym g))
ran_no_further s f w NoMemory l m h = tt

-- The same where the code's arguments equal the definition's.
pub ran_on : {E A B : Type 0} (s : Step E A) (f : A → Step E B) (w : Shown) (t : Step E A) (u : Step E B) (a : A)
    (r : Result B (Fault E)) (l m n : Logged) → Ran (Ok a) l m (run t w) → t ≡ s → Ran r m n (run u w)
    → u ≡ f a → Ran r l n (run (s >>= f) w)
ran_on s f w t u a r l m n h e k d = ran_then s f w a r l m n (subst (λ s. Ran (Ok a) l m (run s w)) e h)
    (subst (λ u. Ran r m n (run u w)) d k)

-- A `?` behind a step: what it hands on is the fault.
pub handed_on : {E A : Type 0} (x : Run E A) (r : Result A (Fault E)) (fault : Fault E) (l m : Logged)
    → IsErrAnd r (λ y. y ≡ fault) → Ran (Err fault) l m x → Ran r l m x
handed_on x r fault l m i h = let p = err_from_is_err_and r i in subst (λ r. Ran r l m x) (sym (p.1 ∙ ap Err p.2)) h

pub ran_off : {E A B : Type 0} (s : Step E A) (f : A → Step E B) (w : Shown) (t : Step E A) (fault : Fault E)
    (r : Result B (Fault E)) (l m : Logged) → IsErrAnd r (λ y. y ≡ fault) → Ran {A = A} (Err fault) l m (run t w)
    → t ≡ s → Ran r l m (run (s >>= f) w)
ran_off s f w t fault r l m i h e =
    handed_on (run (s >>= f) w) r fault l m i
    (ran_no_further s f w fault l m (subst (λ s. Ran (Err fault) l m (run s w)) e h))

-- ---- loops: what is left leads to the whole

pub leads_all : {E A : Type 0} (l : Logged) (r : Run E A) → Leads l r l r
leads_all l r = record { leads = λ answer new h. h }

pub leads_end : {E A : Type 0} (l m : Logged) (whole : Run E A) (a b : A) (w : Shown)
    → Leads l whole m (run {E = E} (leaves b) w) → a ≡ b → Ran (Ok a) l m whole
leads_end {E} l m whole a b w h e = h.leads (Ok a) m (ran_leaves E a b m w e)

next_item : {A : Type 0} (items : List A) (i : ℕ) (a : A) → i < length items → a ≡ get_or items i a
    → drop i items ≡ a ∷ drop (i + 1) items
next_item items i a lt e = drop_more items i a lt ∙ ap (λ x. x ∷ drop (i + 1) items) (sym e)

-- A loop over items: one item more, the end, and an item that ends the way.
pub item_more : {E A B : Type 0} (f : B → A → Step E B) (b c : B) (a : A) (items : List A) (i : ℕ) (w : Shown)
    (t : Step E B) (l m n : Logged) (whole : Run E B) → Leads l whole m (run (in_order f b (drop i items)) w)
    → i < length items → a ≡ get_or items i a → Ran (Ok c) m n (run t w) → t ≡ f b a
    → Leads l whole n (run (in_order f c (drop (i + 1) items)) w)
item_more f b c a items i w t l m n whole h lt e k d =
    record {
      leads = λ answer new r. h.leads answer new
          (subst (λ xs. Ran answer m new (run (in_order f b xs) w)) (sym (next_item items i a lt e))
          (ran_then (f b a) (λ c. in_order f c (drop (i + 1) items)) w c answer m n new
          (subst (λ t. Ran (Ok c) m n (run t w)) d k) r));
    }

pub item_faults : {E A B : Type 0} (f : B → A → Step E B) (b : B) (a : A) (items : List A) (i : ℕ) (w : Shown)
    (t : Step E B) (fault : Fault E) (r : Result B (Fault E)) (l m n : Logged) (whole : Run E B)
    → Leads l whole m (run (in_order f b (drop i items)) w) → i < length items → a ≡ get_or items i a
    → Ran {A = B} (Err fault) m n (run t w) → t ≡ f b a → IsErrAnd r (λ y. y ≡ fault) → Ran r l n whole
item_faults f b a items i w t fault r l m n whole h lt e k d is =
    handed_on whole r fault l n is
    (h.leads (Err fault) n
    (subst (λ xs. Ran (Err fault) m n (run (in_order f b xs) w)) (sym (next_item items i a lt e))
    (ran_no_further (f b a) (λ c. in_order f c (drop (i + 1) items)) w fault m n
    (subst (λ t. Ran {A = _} (Err fault) m n (run t w)) d k))))

pub items_end : {E A B : Type 0} (f : B → A → Step E B) (b : B) (items : List A) (i : ℕ) (w : Shown)
    (l m : Logged) (whole : Run E B) → Leads l whole m (run (in_order f b (drop i items)) w) → length items ≤ i
    → Ran (Ok b) l m whole
items_end {E} f b items i w l m whole h le =
    h.leads (Ok b) m
    (subst (λ xs. Ran (Ok b) m m (run (in_order f b xs) w)) (sym (drop_all i items le)) (ran_leaves E b b m w refl))

pub items_begin : {E A B : Type 0} (f : B → A → Step E B) (b c : B) (items : List A) (l : Logged) (w : Shown)
    → b ≡ c → Leads l (run (in_order f c items) w) l (run (in_order f b (drop 0 items)) w)
items_begin f b c items l w e =
    subst (λ b. Leads l (run (in_order f c items) w) l (run (in_order f b (drop 0 items)) w)) (sym e)
    (leads_all l (run (in_order f c items) w))

-- ---- these under one name

-- An event, a value, an end, and want of memory.
pub ruleset telling = (ran_said, ran_leaves, ran_ends, ran_no_memory)

-- One step after another, and a value.
pub ruleset going = (ran_then, ran_no_further, ran_leaves)

-- A loop over items.
pub ruleset items = (items_begin, items_end)
