-- Physical lines are cut into maximal runs in one way.
use Rattle.hc_lines.proofs.Common.{◌≡◌, ℕ, List, [], ◌∷◌, ◌++◌, Bool, true, false, refl, sym}
use Rattle.hc_lines.proofs.Common.{◌∙◌, ap, true≢false, AllByRecursion, pieces, AreMaximal, AreRunsOf}
use Rattle.hc_lines.proofs.Common.{IsCutIntoRuns, IsRun, all_of, joins, onto_run, runs}
use Rattle.hc_lines.proofs.Pieces.{concat-pieces}

-- ---- `runs` is such a cut

all_of-onto : (p : List ℕ) (rs : List (List (List ℕ))) → all_of (onto_run p rs) ≡ p ∷ all_of rs
all_of-onto p [] = refl
all_of-onto p (r ∷ rs) = refl

each-onto : (p : List ℕ) (rs : List (List (List ℕ))) → joins p ≡ true → AllByRecursion IsRun rs
    → AllByRecursion IsRun (onto_run p rs)
each-onto p [] join each = (tt, tt)
each-onto p ([] ∷ rs) join each = absurd each.0
each-onto p ((q ∷ r) ∷ rs) join each = ((join, each.0), each.1)

maximal-onto : (p : List ℕ) (rs : List (List (List ℕ))) → AllByRecursion IsRun rs → AreMaximal rs
    → AreMaximal (onto_run p rs)
maximal-onto p [] each maximal = tt
maximal-onto p ([] ∷ rs) each maximal = absurd each.0
maximal-onto p ((q ∷ r) ∷ []) each maximal = tt
maximal-onto p ((q ∷ r) ∷ next ∷ rs) each maximal = maximal

maximal-alone : (p : List ℕ) (rs : List (List (List ℕ))) → joins p ≡ false → AreMaximal rs
    → AreMaximal ((p ∷ []) ∷ rs)
maximal-alone p [] apart maximal = tt
maximal-alone p (next ∷ rs) apart maximal = (apart, maximal)

cut_step : (p : List ℕ) (ps : List (List ℕ)) (v : Bool) → joins p ≡ v → IsCutIntoRuns ps (runs ps)
    → IsCutIntoRuns (p ∷ ps) (runs (p ∷ ps))
cut_step p ps true e cut =
    rw e (record {
      whole = all_of-onto p (runs ps) ∙ ap (λ l. p ∷ l) cut.whole;
      each = each-onto p (runs ps) e cut.each;
      maximal = maximal-onto p (runs ps) cut.each cut.maximal;
    })
cut_step p ps false e cut =
    rw e (record {
      whole = ap (λ l. p ∷ l) cut.whole;
      each = (tt, cut.each);
      maximal = maximal-alone p (runs ps) e cut.maximal;
    })

pub runs-cut : (ps : List (List ℕ)) → IsCutIntoRuns ps (runs ps)
runs-cut [] = record { whole = refl; each = tt; maximal = tt }
runs-cut (p ∷ ps) = cut_step p ps _ refl (runs-cut ps)

-- ---- and the only one

alone_step : (p : List ℕ) (rs : List (List (List ℕ))) (v : Bool) → joins p ≡ v
    → AreMaximal ((p ∷ []) ∷ rs) → runs (all_of rs) ≡ rs → runs (p ∷ all_of rs) ≡ (p ∷ []) ∷ rs
alone_step p rs false e maximal later = rw e (ap (λ l. (p ∷ []) ∷ l) later)
alone_step p [] true e maximal later = rw e refl
alone_step p (next ∷ rs) true e maximal later = absurd (true≢false (sym e ∙ maximal.0))

shorter : (p q : List ℕ) (r : List (List ℕ)) (rs : List (List (List ℕ))) → AreMaximal ((p ∷ q ∷ r) ∷ rs)
    → AreMaximal ((q ∷ r) ∷ rs)
shorter p q r [] maximal = tt
shorter p q r (next ∷ rs) maximal = maximal

only_run : (run : List (List ℕ)) (rs : List (List (List ℕ))) → IsRun run → AreMaximal (run ∷ rs)
    → runs (all_of rs) ≡ rs → runs (run ++ all_of rs) ≡ run ∷ rs
only_run [] rs is maximal later = absurd is
only_run (p ∷ []) rs is maximal later = alone_step p rs _ refl maximal later
only_run (p ∷ q ∷ r) rs is maximal later =
    rw is.0 (ap (onto_run p) (only_run (q ∷ r) rs is.1 (shorter p q r rs maximal) later))

behind : (run : List (List ℕ)) (rs : List (List (List ℕ))) → AreMaximal (run ∷ rs) → AreMaximal rs
behind run [] maximal = tt
behind run (next ∷ rs) maximal = maximal.1

only : (rs : List (List (List ℕ))) → AllByRecursion IsRun rs → AreMaximal rs → runs (all_of rs) ≡ rs
only [] each maximal = refl
only (run ∷ rs) each maximal = only_run run rs each.0 maximal (only rs each.1 (behind run rs maximal))

pub are_runs_of : (text : List ℕ) → AreRunsOf text
are_runs_of text = record {
  text_whole = concat-pieces text;
  cut = runs-cut (pieces text);
  only = λ other c. sym (only other c.each c.maximal) ∙ ap runs c.whole;
}
