-- A claim and a scope as a `decide` states them: their sets are read, and then made. Our own choice.
use Rattle.std.specs.Prelude.{◌≡◌, ℕ, List, Option, Some, None, Result, Ok, Err, codes, option_map}
use Rattle.std.specs.Option.{option_or}
use Rattle.serde_json.specs.Data.{Data}
use Rattle.hc_base.specs.declared.fault.AtByte.{AtByte}
use Rattle.hc_json.specs.Claims.{ClaimForm, ScopeForm, guarded, shadowed, stops}
use Rattle.hc_regset.specs.Forms.{Form, every}
use Rattle.hc_regset.specs.Sets.{IsSetOf, refusal}
use Rattle.hc_scope.specs.declared.claim.Claim.{Claim}
use Rattle.hc_scope.specs.declared.claim.Claim.TheVariants as claim
use Rattle.hc_scope.specs.declared.claim.Scope.{Scope}
use Rattle.hc_stated.specs.Shapes.{set_of}
use Rattle.hc_stated.specs.declared.field.Field.{Field}
use Rattle.hc_stated.specs.declared.field.Field.TheVariants as field
use Rattle.hc_stated.specs.declared.stated.BadPattern.{BadPattern}

abbrev pub field_name : Field → List ℕ
field_name field.Claim = codes "claim"
field_name field.Scope = codes "scope"
field_name field.Cells = codes "cells"

-- ---- the sets

-- The file names that a claim speaks of, and the paths and queries of its scope.
pub record Sets : Type 0 where
  pub target : Form
  pub path : Form
  pub query : Form

-- A claim that speaks of no file names speaks of all.
abbrev pub target_of : ClaimForm → Option Form
target_of stops = Some every
target_of (shadowed place) = Some every
target_of (guarded target by) = set_of target

-- A set that isn't there has all texts.
abbrev pub set_or_all : Option Data → Option Form
set_or_all None = Some every
set_or_all (Some d) = set_of d

-- Those of the scope, behind the claim's.
abbrev pub scope_sets : Form → Option Form → Option Form → Result Sets Field
scope_sets target (Some path) (Some query) = Ok (record { target = target; path = path; query = query })
scope_sets target path query = Err field.Scope

abbrev pub sets_with : ScopeForm → Option Form → Result Sets Field
sets_with scope None = Err field.Claim
sets_with scope (Some target) = scope_sets target (set_or_all scope.path) (set_or_all scope.query)

-- The sets, or the field of the first one that is none: the claim comes before the scope.
abbrev pub sets_of : ClaimForm → ScopeForm → Result Sets Field
sets_of claim scope = sets_with scope (target_of claim)

-- ---- their patterns

abbrev pub within : Field → AtByte → BadPattern
within of why = record { field = of; why = why }

-- The first one that isn't read, with the field that it stands in: the claim's come before those of the paths, and these before those of the queries.
abbrev pub bad_pattern : Sets → Option BadPattern
bad_pattern sets =
    option_or (option_map (within field.Claim) (refusal sets.target))
    (option_map (within field.Scope) (option_or (refusal sets.path) (refusal sets.query)))

-- ---- what is stated

abbrev pub IsClaim : ClaimForm → Form → Claim → Type 0
IsClaim stops target claim.Stops = Unit {0}
IsClaim (shadowed place) target (claim.Shadowed own) = own ≡ place
IsClaim (guarded written by) target (claim.Guarded set own) = IsSetOf target set × (own ≡ by)
IsClaim form target other = ⊥

-- The requests of which it is claimed.
pub record IsScope (form : ScopeForm) (sets : Sets) (scope : Scope) : Type 0 where
  pub scheme : scope.scheme ≡ form.scheme
  pub server : scope.server ≡ form.server
  pub port : scope.port ≡ form.port
  pub host : scope.host ≡ form.host
  pub client : scope.client ≡ form.client
  pub methods : scope.methods ≡ form.methods
  pub path : IsSetOf sets.path scope.path
  pub query : IsSetOf sets.query scope.query
