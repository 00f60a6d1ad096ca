-- Where a section applies: each is a test of one text, but for a condition, which may look at all of the request.
-- Apache manual, core: DirectoryMatch, Files, FilesMatch, If, Location, LocationMatch.
use Rattle.std.specs.Prelude.{ℕ, List, [], ◌∷◌, ◌++◌, Bool, true, false, not, ◌&&◌, is_some, option_map}
use Rattle.std.specs.Prelude.{Option, Some, None, slice_get, unwrap_or, if◌then◌else◌}
use Rattle.hc_alias.specs.Tests.{is_below}
use Rattle.hc_base.specs.Paths.{begins_with_slash, ends_with_slash, is_slash}
use Rattle.hc_expr.specs.Values.{holds}
use Rattle.hc_model.specs.declared.expression.Expr.{Expr}
use Rattle.hc_model.specs.declared.expression.Expr.TheVariants.{And, Not}
use Rattle.hc_model.specs.declared.request.View.{View}
use Rattle.hc_model.specs.declared.section.Reach.{Reach}
use Rattle.hc_model.specs.declared.section.Reach.TheVariants.{Dir, DirSearch, Files, Location, LocationGlob}
use Rattle.hc_model.specs.declared.section.Reach.TheVariants.{LocationSearch, Otherwise, When}
use Rattle.hc_pattern.specs.Pattern.{Pattern}
use Rattle.hc_ways.specs.Kept.{first_match}
use Rattle.hc_merge.specs.Candidates.{Candidate}

abbrev pub is_found : Pattern → List ℕ → Bool
is_found pattern text = is_some (first_match text pattern)

-- What follows the last slash: each slash begins it anew.
abbrev pub behind_slashes : List ℕ → List ℕ → List ℕ
behind_slashes last [] = last
behind_slashes last (b ∷ bs) = if is_slash b then behind_slashes bs bs else behind_slashes last bs

abbrev pub last_component : List ℕ → List ℕ
last_component name = behind_slashes name name

-- None where the name ends with a slash.
abbrev pub is_component_found : Pattern → List ℕ → Bool
is_component_found pattern name = not (ends_with_slash name) && is_found pattern (last_component name)

-- A location that does not begin with a slash is that of no path.
abbrev pub is_at : List ℕ → List ℕ → Bool
is_at location path = begins_with_slash location && is_below location path

-- The file name is that without path information; the URL path is that of the pass.
abbrev pub reaches : View → Reach → Bool
reaches view (Dir pattern) = false
reaches view (DirSearch pattern) = is_found pattern view.name
reaches view (Files pattern) = is_component_found pattern view.name
reaches view (Location path) = is_at path view.path
reaches view (LocationGlob pattern) = is_found pattern view.path
reaches view (LocationSearch pattern) = is_found pattern view.path
reaches view (When test) = holds view test
reaches view (Otherwise test) = holds view test

-- Those of the first group apply where they stand.
abbrev pub applies : View → Option Reach → Bool
applies view None = true
applies view (Some reach) = reaches view reach

-- ---- chains of conditions

-- The expressions of the chain right before a section.
abbrev pub Chain : Type 0
Chain = List Expr

-- None of those before holds, and this one does. For `b` and `c` before `e` it is `!b && !c && e`.
abbrev pub behind_each : Expr → Chain → Expr → Expr
behind_each none [] expr = And none expr
behind_each none (before ∷ chain) expr = behind_each (And none (Not before)) chain expr

abbrev pub chained : Chain → Expr → Expr
chained [] expr = expr
chained (first ∷ chain) expr = behind_each (Not first) chain expr

-- An ElseIf or an Else also says that what stands before it in its chain does not hold.
abbrev pub resolved : Chain → Reach → Reach
resolved before (Otherwise test) = When (chained before test)
resolved before (Dir pattern) = Dir pattern
resolved before (DirSearch pattern) = DirSearch pattern
resolved before (Files pattern) = Files pattern
resolved before (Location path) = Location path
resolved before (LocationGlob pattern) = LocationGlob pattern
resolved before (LocationSearch pattern) = LocationSearch pattern
resolved before (When test) = When test

-- The chain right before what follows a section.
abbrev pub chain_of : Chain → Reach → Chain
chain_of before (When test) = test ∷ []
chain_of before (Otherwise test) = before ++ test ∷ []
chain_of before (Dir pattern) = []
chain_of before (DirSearch pattern) = []
chain_of before (Files pattern) = []
chain_of before (Location path) = []
chain_of before (LocationGlob pattern) = []
chain_of before (LocationSearch pattern) = []

abbrev pub chain_behind : Chain → Option Reach → Chain
chain_behind before None = []
chain_behind before (Some reach) = chain_of before reach

-- ---- the sections that are kept

abbrev pub holds_at : List Bool → Option ℕ → Bool
holds_at marks None = true
holds_at marks (Some parent) = unwrap_or (slice_get marks parent) false

-- It applies by its own test, and only where the section around it does.
abbrev pub is_kept : View → List Bool → Chain → Candidate → Bool
is_kept view marks before candidate =
    holds_at marks candidate.parent && applies view (option_map (resolved before) candidate.reach)

-- Those that apply, where `marks` says it of those before.
abbrev pub kept_behind : View → List Bool → Chain → List Candidate → List Candidate
kept_behind view marks before [] = []
kept_behind view marks before (candidate ∷ candidates) =
    (if is_kept view marks before candidate then candidate ∷ [] else [])
    ++ kept_behind view (marks ++ is_kept view marks before candidate ∷ []) (chain_behind before candidate.reach)
    candidates

abbrev pub kept_by : View → List Candidate → List Candidate
kept_by view candidates = kept_behind view [] [] candidates
