-- What an accepted invariant says of the requests of its scope.
use Rattle.std.specs.Prelude.{◌≡◌, ℕ, List, true, false}
use Rattle.hc_absolute.specs.Absolute.{AreAbsolute}
use Rattle.hc_broken.specs.Breaking.{is_broken}
use Rattle.hc_invariant.specs.declared.named.NamedCell.{NamedCell}
use Rattle.hc_members.specs.Requests.{is_of_scope}
use Rattle.hc_model.specs.declared.request.Request.{Request}
use Rattle.hc_steps.specs.Shown.{shown_by}
use Rattle.hc_abs_pass.specs.Walks.{IsListed}
use Rattle.hc_claim.specs.Asking.{Asked}
use Rattle.hc_cert.specs.Checking.{IsVerdict}
use Rattle.hc_cert.specs.declared.verdict.Verdict.{Verdict}
use Rattle.hc_cert.specs.declared.verdict.Verdict.TheVariants.{Accepted, Rejected}

-- No request of the scope breaks the claim.
abbrev pub Holds : Asked → Verdict → Type 0
Holds asked Accepted = (request : Request) → is_of_scope asked.scope request ≡ true
    → is_broken asked.world asked.config asked.claim request ≡ false
Holds asked (Rejected rejection) = Unit {0}

-- So it is under each configuration whose file paths begin with a slash.
abbrev pub VerdictsHold : Type 0
VerdictsHold = (asked : Asked) (cells : List NamedCell) (levels : ℕ) (verdict : Verdict) → AreAbsolute asked.config
    → IsListed levels (shown_by asked.world) → IsVerdict asked cells levels verdict
    → Holds asked verdict
