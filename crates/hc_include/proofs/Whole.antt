-- The whole reading of a main file.
use Rattle.hc_include.proofs.Common.{◌≡◌, [], Some, None, Ok, Err, refl, ap, sym, ◌∙◌, Refused, Logged, Ran}
use Rattle.hc_include.proofs.Common.{Run, Path, begun, deepest, file_read, flat_at, flat_by, main_read, main_setting}
use Rattle.hc_include.proofs.Common.{read_on, reader_in, stop_of, within, Reading, Stopped}
use Rattle.hc_steps.specs.Laws.{empty_log}
use Rattle.hc_steps.specs.Order.{each_once}
use Rattle.hc_steps.proofs.Keeping.{run_is_kept}
use Rattle.hc_says.specs.Says.{built_in}
use Rattle.hc_include.specs.declared.around.Around.{Around}

pub main_is : (main : Path) (around : Around) (reading : Reading) → around ≡ within deepest [] main
    → reading ≡ begun main_setting [] built_in
    → file_read around (reader_in around.room around.chain) reading ≡ main_read main
unfolding main_read
main_is main around reading is begins = rw (is, begins) refl

module _ (main : Path) (r : Run Stopped Reading) (log : Logged) where
  pub flat_on : (reading : Reading) → Ran (Ok reading) (empty_log None) log r
      → (flat_at main log.reads None reading ≡ flat_by main r) × (reading.bytes ≡ (read_on r.way).bytes)
  unfolding Ran
  flat_on reading h =
      let kept = ap (λ l. l.reads) h.1 ∙ (run_is_kept None r).reads in (
        ap (λ reads. flat_at main reads None reading) kept
            ∙ ap (λ way. flat_at main (each_once r.reads) (stop_of way) (read_on way)) (sym h.0),
        ap (λ way. (read_on way).bytes) (sym h.0),
      )

  pub flat_stopped : (stopped : Stopped) → Ran (Err (Refused stopped)) (empty_log None) log r
      → (flat_at main log.reads (Some stopped.refusal) stopped.reading ≡ flat_by main r)
      × (stopped.reading.bytes ≡ (read_on r.way).bytes)
  unfolding Ran
  flat_stopped stopped h =
      let kept = ap (λ l. l.reads) h.1 ∙ (run_is_kept None r).reads in (
        ap (λ reads. flat_at main reads (Some stopped.refusal) stopped.reading) kept
            ∙ ap (λ way. flat_at main (each_once r.reads) (stop_of way) (read_on way)) (sym h.0),
        ap (λ way. (read_on way).bytes) (sym h.0),
      )
