-- What code has of a claim that it decides, of an invariant that it checks, and of the claim that chains end.
use Rattle.std.specs.Prelude.{◌≡◌, ℕ, ◌+◌, Bool, true, Result, Ok}
use Rattle.hc_base.specs.declared.place.Refusal.{Refusal}
use Rattle.hc_held.specs.Claims.{Asked}
use Rattle.hc_claim_lines.specs.declared.lines.ClaimLines.{ClaimLines}
use Rattle.hc_claim_lines.specs.declared.subject.Subject.TheVariants as subject
use Rattle.hc_json.specs.Claims.{ClaimForm, ScopeForm}
use Rattle.hc_json.specs.CommandView.{claim_view, scope_view}
use Rattle.hc_json.specs.Reply.{Reply}
use Rattle.hc_kept.specs.Site.{configuration}
use Rattle.hc_model.specs.World.{World}
use Rattle.hc_model.specs.declared.config.Config.{Config}
use Rattle.hc_scope.specs.declared.claim.Claim.{Claim}
use Rattle.hc_scope.specs.declared.claim.Claim.TheVariants as claim
use Rattle.hc_stated.specs.CellViews.{cells_view}
use Rattle.hc_stated.specs.Stated.{Sets, sets_of}
use Rattle.hc_stated.specs.Views.{sets_in}
use Rattle.hc_stated.specs.declared.stated.Stated.{Stated}
use Rattle.hc_steps.specs.Step.{Path}
use Rattle.hc_session.specs.Deciding.{Posed, Tries, is_there, posed}
use Rattle.hc_session.specs.Ending.{Chained, EndsUnder, sets_within}
use Rattle.hc_session.specs.Session.{Says as SaysIn}
use Rattle.hc_session.specs.declared.deciding.Scene.{Scene}
use Rattle.hc_session.specs.declared.deciding.Stating.{Stating}
use Rattle.hc_session.specs.declared.ends.Ending.{Ending}
use Rattle.hc_session.specs.declared.stepped.Stepped.{Stepped}
use Rattle.hc_session.specs.declared.verifying.Verifying.{Verifying}
use Rattle.hc_session.specs.State.{State, present}
use Rattle.hc_session.specs.Verifying.{VerifiesUnder}

abbrev pub claim_in : Stating → ClaimForm
claim_in stating = claim_view stating.claim

abbrev pub scope_in : Stating → ScopeForm
scope_in stating = scope_view stating.scope

abbrev pub sets_of_stating : Stating → Sets
sets_of_stating stating = sets_in stating.sets.now

-- Its sets are those of the claim and the scope.
abbrev pub IsRead : Stating → Type 0
IsRead stating = sets_of (claim_in stating) (scope_in stating) ≡ Ok (sets_of_stating stating)

abbrev pub posed_in : World → ClaimLines → ℕ → Stating → Posed
posed_in world lines limit stating =
    record { claim = claim_in stating; scope = scope_in stating; world = world; lines = lines; limit = limit }

abbrev pub posed_at : Scene → Stating → Posed
posed_at scene stating = posed_in scene.world.now.files scene.lines.now scene.limit stating

-- Some files give this configuration, or its refusal.
abbrev pub IsConfiguration : Result Config Refusal → Type 0
IsConfiguration built = (world : World) × (main : Path) × (built ≡ configuration world main)

-- The line that a claim speaks of.
abbrev pub has_line_in : World → ClaimLines → Claim → Bool
has_line_in world lines claim.Stops = true
has_line_in world lines (claim.Shadowed place) = is_there world lines subject.Rule place
has_line_in world lines (claim.Guarded target by) = is_there world lines subject.Require by

abbrev pub asked_at : Scene → Stated → Asked
asked_at scene stated = record {
  world = scene.world.now.files;
  config = scene.config.now;
  scope = stated.scope;
  claim = stated.claim;
}

-- The line of a reply that may be said.
abbrev pub Replies : (Reply → Type 0) → Stepped → Type 0
Replies Says stepped = (said : Reply) × Says said × SaysIn said stepped

-- The counter of runs has risen by so many candidates at most.
abbrev pub CountsTries : Posed → Result Config Refusal → ℕ → ℕ → Type 0
CountsTries posed built before after = (spent : ℕ) × (after ≡ before + spent) × Tries posed built spent

-- What a `verify` is answered, with its sets as they are written.
abbrev pub VerifiesWith : State → Verifying → Reply → State → Type 0
VerifiesWith state verifying said new =
    VerifiesUnder (posed state (claim_in verifying.stating) (scope_in verifying.stating))
    (sets_of_stating verifying.stating) (cells_view verifying.cells.now) (present state) said
    × (new ≡ state)

-- ---- the claim that chains end

abbrev pub sets_of_ending : Ending → Sets
sets_of_ending ending = sets_in ending.sets.now

-- Its sets are those of its scope.
abbrev pub HasSets : Ending → Type 0
HasSets ending = sets_within (scope_view ending.scope) ≡ Ok (sets_of_ending ending)

abbrev pub chained_in : World → ℕ → Ending → Chained
chained_in world limit ending =
    record { hosts = ending.hosts.now; scope = scope_view ending.scope; world = world; limit = limit }

abbrev pub chained_at : Scene → Ending → Chained
chained_at scene ending = chained_in scene.world.now.files scene.limit ending

-- What the claim is answered, with its sets as they are written.
abbrev pub EndsWith : State → Ending → Reply → State → Type 0
EndsWith state ending said new =
    EndsUnder (chained_in state.world.files state.limit ending) (sets_of_ending ending) (present state) said
    × (new ≡ state)
