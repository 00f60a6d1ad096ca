-- What a log keeps of the events that it is told.
use Rattle.hc_steps.proofs.Common.{◌≡◌, ℕ, ◌+◌, ◌≤◌, nat_lt, Bool, true, false, List, [], ◌∷◌}
use Rattle.hc_steps.proofs.Common.{◌++◌, length, take, cond, Option, Some, None, refl, sym, ap, ◌∙◌, arith}
use Rattle.hc_steps.proofs.Common.{append_assoc, append-nil, length-append, fold, insert_key, Event, Read, read_cmp}
use Rattle.hc_steps.proofs.Common.{Run}
use mathlib.Core.Logic.{⊎_elim}
use Rattle.std.proofs.lemmas.Bool.{cases_lt, le-ltb, lt-ltb}
use Rattle.std.proofs.lemmas.List.{take_all, take-append-le}
use Rattle.hc_steps.specs.Laws.{Keeps, empty_log}
use Rattle.hc_steps.specs.Ran.{Logged, first_of, grown, with_event, with_events, with_read, with_reads}

counts : (log : Logged) (events : List Event) → (with_events log events).count ≡ log.count + length events
counts log [] = omega arith
counts log (e ∷ es) = counts (with_event log e) es ∙ omega arith

reads_stay : (log : Logged) (events : List Event) → (with_events log events).reads ≡ log.reads
reads_stay log [] = refl
reads_stay log (e ∷ es) = reads_stay (with_event log e) es

keeps_all : (kept : List Event) (count : ℕ) (reads : List Read) (events : List Event)
    → (with_events (record { cap = None; kept = kept; count = count; reads = reads }) events).kept ≡ kept ++ events
keeps_all kept count reads [] = sym (append-nil kept)
keeps_all kept count reads (e ∷ es) = keeps_all (kept ++ e ∷ []) (count + 1) reads es
    ∙ append_assoc kept (e ∷ []) es

-- What is kept after an event, where there is room and where there is none.
after_event : (most : ℕ) (kept : List Event) (count : ℕ) (reads : List Read) (e : Event) (es : List Event)
    (b : Bool) → nat_lt (length kept) most ≡ b
    → (with_events (record { cap = Some most; kept = kept; count = count; reads = reads }) (e ∷ es)).kept
    ≡ (with_events
    (record { cap = Some most; kept = cond b (kept ++ e ∷ []) kept; count = count + 1; reads = reads }) es).kept
after_event most kept count reads e es b h =
    ap (λ b. (with_events
    (record { cap = Some most; kept = cond b (kept ++ e ∷ []) kept; count = count + 1; reads = reads }) es).kept) h

keeps_full : (most : ℕ) (kept : List Event) (count : ℕ) (reads : List Read) (events : List Event)
    → most ≤ length kept
    → (with_events (record { cap = Some most; kept = kept; count = count; reads = reads }) events).kept ≡ kept
keeps_full most kept count reads [] le = refl
keeps_full most kept count reads (e ∷ es) le =
    after_event most kept count reads e es false (le-ltb (length kept) most le)
    ∙ keeps_full most kept (count + 1) reads es le

keeps_first : (most : ℕ) (kept : List Event) (count : ℕ) (reads : List Read) (events : List Event)
    → length kept ≤ most
    → (with_events (record { cap = Some most; kept = kept; count = count; reads = reads }) events).kept
    ≡ take most (kept ++ events)
keeps_first most kept count reads [] le = sym (take_all most kept le) ∙ ap (take most) (sym (append-nil kept))
keeps_first most kept count reads (e ∷ es) le = ⊎_elim
    (λ lt. after_event most kept count reads e es true (lt-ltb (length kept) most lt)
    ∙ keeps_first most (kept ++ e ∷ []) (count + 1) reads es (omega (arith, length-append kept (e ∷ [])))
    ∙ ap (take most) (append_assoc kept (e ∷ []) es))
    (λ ge. keeps_full most kept count reads (e ∷ es) ge ∙ sym (take_all most kept le)
    ∙ sym (take-append-le most kept (e ∷ es) ge))
    (cases_lt (length kept) most)

-- What reads leave of the rest, and what of the reads.
count_stays : (log : Logged) (reads : List Read) → (with_reads log reads).count ≡ log.count
count_stays log [] = refl
count_stays log (r ∷ rs) = count_stays (with_read log r) rs

kept_stays : (log : Logged) (reads : List Read) → (with_reads log reads).kept ≡ log.kept
kept_stays log [] = refl
kept_stays log (r ∷ rs) = kept_stays (with_read log r) rs

reads_added : (log : Logged) (reads : List Read) → (with_reads log reads).reads
    ≡ fold (insert_key read_cmp) log.reads reads
reads_added log [] = refl
reads_added log (r ∷ rs) = reads_added (with_read log r) rs

kept_all : (cap : Option ℕ) (events : List Event) → (with_events (empty_log cap) events).kept
    ≡ first_of cap events
kept_all None events = keeps_all [] 0 [] events
kept_all (Some most) events = keeps_first most [] 0 [] events (omega arith)

pub run_is_kept : {E A : Type 0} (cap : Option ℕ) (r : Run E A)
    → Keeps cap (grown (empty_log cap) r) r.events r.reads
run_is_kept cap r = let log = with_events (empty_log cap) r.events in record {
  kept = kept_stays log r.reads ∙ kept_all cap r.events;
  count = count_stays log r.reads ∙ counts (empty_log cap) r.events ∙ omega arith;
  reads = reads_added log r.reads ∙ ap (λ reads. fold (insert_key read_cmp) reads r.reads)
      (reads_stay (empty_log cap) r.events);
}
