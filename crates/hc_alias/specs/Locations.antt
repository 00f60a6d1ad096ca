-- Where a redirect sends a request.
-- Apache manual, mod_alias, Redirect; what it leaves open is our own choice.
use Rattle.std.specs.Prelude.{ℕ, ◌==◌, List, [], ◌∷◌, ◌++◌, length, ◌||◌, if◌then◌else◌}
use Rattle.std.specs.List.{list_any}
use Rattle.hc_base.specs.Bytes.{is_question, question}
use Rattle.hc_base.specs.Paths.{begins_with_slash}
use Rattle.hc_target.specs.Escapes.{escaped}
use Rattle.hc_target.specs.Urls.{is_redirection}
use Rattle.hc_model.specs.declared.mapping.Redirect.{Redirect}
use Rattle.hc_model.specs.declared.outcome.Outcome.{Outcome}
use Rattle.hc_model.specs.declared.outcome.Outcome.TheVariants as outcome
use Rattle.hc_model.specs.declared.request.Caller.{Caller}
use Rattle.hc_template.specs.Filled.{filled}
use Rattle.hc_template.specs.Variables.{origin}
use Rattle.hc_alias.specs.Filling.{filling_with}
use Rattle.hc_alias.specs.Tests.{Found}

-- ---- the location

-- A target that begins with a slash is one of the server's own.
abbrev pub absolute : Caller → List ℕ → List ℕ
absolute caller target = if begins_with_slash target then origin caller ++ target else target

-- The query is left out where it is empty, and where the target has one.
abbrev pub query_part : List ℕ → List ℕ → List ℕ
query_part target query = if (length query == 0) || list_any is_question target then [] else question ∷ query

abbrev pub location_to : Caller → List ℕ → List ℕ → List ℕ → List ℕ
location_to caller target rest query = absolute caller target ++ escaped rest ++ query_part target query

-- The target with its groups, what follows the prefix, escaped, and the query.
abbrev pub location : Caller → Redirect → Found → List ℕ → List ℕ
location caller redirect found query =
    location_to caller (filled (filling_with found.groups) redirect.to) found.rest query

-- ---- the answer

-- Another status is answered as it is.
abbrev pub sent_to : ℕ → List ℕ → Outcome
sent_to status location = if is_redirection status then outcome.Redirect status location else outcome.Status status

abbrev pub sent_by : Caller → Redirect → Found → List ℕ → Outcome
sent_by caller redirect found query = sent_to redirect.status (location caller redirect found query)
