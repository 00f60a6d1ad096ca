-- What code has of a claim and its scope.
use Rattle.std.specs.Prelude.{◌≡◌, ℕ, List, map, Option, Some, None, Result, Ok, Err, Vec, option_map}
use Rattle.std.specs.declared.alloc.Global.{Global}
use Rattle.serde_json.specs.Data.{Data}
use Rattle.serde_json.specs.View.{view}
use Rattle.hc_base.specs.declared.fault.Fault.{Fault}
use Rattle.hc_base.specs.declared.fault.Fault.TheVariants.{NoMemory, Refused}
use Rattle.hc_json.specs.CommandView.{claim_view, scope_view}
use Rattle.hc_json.specs.declared.claim.ClaimForm.{ClaimForm}
use Rattle.hc_json.specs.declared.scope.ScopeForm.{ScopeForm}
use Rattle.hc_dfa.specs.Automata.{Automaton}
use Rattle.hc_regset.specs.Forms.{Form, form_of}
use Rattle.hc_regset.specs.Sets.{IsSetOf, refusal}
use Rattle.hc_scope.specs.declared.form.SetForm.{SetForm}
use Rattle.hc_stated.specs.Stated.{IsClaim, IsScope, Sets, bad_pattern, within}
use Rattle.hc_stated.specs.declared.field.Field.{Field}
use Rattle.hc_stated.specs.declared.sets.SetForms.{SetForms}
use Rattle.hc_stated.specs.declared.shape.Keyed.{Keyed}
use Rattle.hc_stated.specs.declared.stated.BadPattern.{BadPattern}
use Rattle.hc_stated.specs.declared.stated.Stated.{Stated}

-- Sets that were read one after another, or none.
abbrev pub forms_in : Option (Vec SetForm Global) → Option (List Form)
forms_in sets = option_map (λ made. map form_of made.items) sets

-- The only member of an object.
abbrev pub keyed_view : Keyed → List ℕ × Data
keyed_view keyed = (keyed.key.now, view keyed.inner.now)

abbrev pub sets_in : SetForms → Sets
sets_in sets = record { target = form_of sets.target; path = form_of sets.path; query = form_of sets.query }

abbrev pub read_view : Result SetForms Field → Result Sets Field
read_view (Ok sets) = Ok (sets_in sets)
read_view (Err field) = Err field

-- The automaton of a set, or the first pattern in it that isn't read, as one of a field.
abbrev pub GivesIn : Field → Result Automaton (Fault BadPattern) → SetForm → Type 0
GivesIn field (Ok made) set = IsSetOf (form_of set) made
GivesIn field (Err (Refused bad)) set = option_map (within field) (refusal (form_of set)) ≡ Some bad
GivesIn field (Err NoMemory) set = Unit {0}

-- What is stated, where each pattern is read.
pub record IsStated (claim : ClaimForm) (scope : ScopeForm) (sets : Sets) (stated : Stated) : Type 0 where
  pub is_read : bad_pattern sets ≡ None
  pub claimed : IsClaim (claim_view claim) sets.target stated.claim
  pub asked : IsScope (scope_view scope) sets stated.scope

abbrev pub States : Result Stated (Fault BadPattern) → ClaimForm → ScopeForm → Sets → Type 0
States (Ok stated) claim scope sets = IsStated claim scope sets stated
States (Err (Refused bad)) claim scope sets = bad_pattern sets ≡ Some bad
States (Err NoMemory) claim scope sets = Unit {0}
