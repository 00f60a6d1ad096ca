-- What an answer says of the requests of a scope.
use Rattle.std.specs.Prelude.{◌≡◌, ℕ, true, false}
use Rattle.hc_absolute.specs.Absolute.{AreAbsolute}
use Rattle.hc_broken.specs.Breaking.{is_broken}
use Rattle.hc_members.specs.Requests.{is_of_scope}
use Rattle.hc_model.specs.declared.request.Request.{Request}
use Rattle.hc_serve.specs.Request.{IsWholeRun}
use Rattle.hc_steps.specs.Shown.{shown_by}
use Rattle.hc_abs_pass.specs.Walks.{IsListed}
use Rattle.hc_claim.specs.Asking.{Asked}
use Rattle.hc_claim.specs.Deciding.{IsDecided}
use Rattle.hc_claim.specs.declared.decided.Decided.{Decided}
use Rattle.hc_claim.specs.declared.decided.Decided.TheVariants.{Proved, Refuted}

-- Proved: no request of the scope breaks the claim, whatever its headers. Refuted: this one does, by this run.
abbrev pub Holds : Asked → Decided → Type 0
Holds asked Proved = (request : Request) → is_of_scope asked.scope request ≡ true
    → is_broken asked.world asked.config asked.claim request ≡ false
Holds asked (Refuted request whole) =
    (is_of_scope asked.scope request ≡ true) × (is_broken asked.world asked.config asked.claim request ≡ true)
    × IsWholeRun asked.world asked.config request whole
Holds asked other = Unit {0}

-- So it is under each configuration whose file paths begin with a slash.
abbrev pub AnswersHold : Type 0
AnswersHold = (asked : Asked) (limit levels spent : ℕ) (decided : Decided) → AreAbsolute asked.config
    → IsListed levels (shown_by asked.world) → IsDecided asked limit levels spent decided → Holds asked decided
