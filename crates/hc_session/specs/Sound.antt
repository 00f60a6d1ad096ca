-- What holds of the parts of a session.
use Rattle.std.specs.Prelude.{◌≡◌, ◌≤◌, ◌+◌, ℕ, List, true, false, Option, Some, None, IfSome, Result, Ok, Err}
use Rattle.std.specs.List.{AllByRecursion}
use Rattle.std.specs.declared.alloc.AllocError.{AllocError as NoMemory}
use Rattle.hc_base.specs.declared.place.Refusal.{Refusal}
use Rattle.hc_cache.specs.Entries.{is_valid}
use Rattle.hc_kept.specs.Site.{IsSiteOf, configuration}
use Rattle.hc_kept.specs.declared.site.Site.{Site}
use Rattle.hc_model.specs.World.{World}
use Rattle.hc_model.specs.declared.config.Config.{Config}
use Rattle.hc_model.specs.declared.request.Request.{Request}
use Rattle.hc_serve.specs.declared.answer.Answer.{Answer}
use Rattle.hc_steps.specs.Step.{Path}
use Rattle.hc_world.specs.Edits.{Edited}
use Rattle.hc_session.specs.Asking.{answer_of, is_kept}
use Rattle.hc_session.specs.State.{Kept, State}
use Rattle.hc_session.specs.declared.limits.TheConstants.{KEPT_ANSWERS}

-- What a request receives of the present files.
abbrev pub IsAnswerOf : Edited → Path → Request → Answer → Type 0
IsAnswerOf world main request answer =
    (config : Config) × (configuration world.files main ≡ Ok config)
    × (answer ≡ answer_of world.files config request)

-- While nothing that it rests on has changed, an answer that is kept is that of the present files.
pub record IsPresent (world : Edited) (main : Path) (kept : Kept) : Type 0 where
  pub age : kept.at ≤ world.edits
  pub reads : kept.reads ≡ kept.value.reads
  pub answer : is_valid world kept ≡ true → IsAnswerOf world main kept.key kept.value

-- The answer to a request that is kept and still valid; there is a configuration then.
abbrev pub IsKeptAnswer : State → Request → Option Answer → Type 0
IsKeptAnswer state request None = is_kept state request ≡ false
IsKeptAnswer state request (Some answer) =
    (is_kept state request ≡ true) × IsAnswerOf (state.world) (state.main) request answer

-- All but what is kept and counted is as before.
abbrev pub IsAskedIn : State → State → Type 0
IsAskedIn old new =
    new ≡ record old { kept = new.kept; asks = new.asks; evaluations = new.evaluations }

-- What was read of the main file stands for it.
pub record IsSite (world : Edited) (main : Path) (site : Site) : Type 0 where
  pub main_file : site.main ≡ main
  pub stands : IsSiteOf world site

-- The answers that are kept, what was read of the main file, and how many answers there may be.
pub record IsSound (world : Edited) (main : Path) (kept : List Kept) (read : Option Site) (most : ℕ) : Type 0 where
  pub limit : most ≡ KEPT_ANSWERS
  pub answers : AllByRecursion (IsPresent world main) kept
  pub site : IfSome read (IsSite world main)

-- ---- an answer that is looked for

-- What a request receives under a configuration, or the configuration's refusal.
abbrev pub IsFound : World → Result Config Refusal → Request → Result Answer Refusal → Type 0
IsFound world built request (Ok answer) =
    (config : Config) × (built ≡ Ok config) × (answer ≡ answer_of world config request)
IsFound world built request (Err refusal) = built ≡ Err refusal

abbrev pub evaluations_in : Result Answer Refusal → ℕ
evaluations_in (Ok answer) = 1
evaluations_in (Err refusal) = 0

-- One evaluation where there is a configuration; at most one where no memory was found.
abbrev pub Evaluates : Result (Result Answer Refusal) NoMemory → ℕ → ℕ → Type 0
Evaluates (Ok found) before after = after ≡ before + evaluations_in found
Evaluates (Err _) before after = (before ≤ after) × (after ≤ before + 1)
