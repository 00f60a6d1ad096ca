-- What a rule that matches does: its variables, its status and its substitution.
-- Apache manual, mod_rewrite: RewriteRule; RewriteBase; "RewriteRule Flags". The order of variables and substitution,
-- the longest text, and what is outside, are our own choice.
use Rattle.std.specs.Prelude.{ℕ, ◌==◌, List, [], ◌++◌, length, Bool, true, false, not, ◌&&◌, ◌||◌}
use Rattle.std.specs.Prelude.{nat_lt, if◌then◌else◌}
use Rattle.std.specs.Prelude.{Option, Some, None, is_some, Result, Ok, Err}
use Rattle.hc_base.specs.Paths.{begins_with_slash}
use Rattle.hc_model.specs.declared.event.Event.TheVariants as event
use Rattle.hc_model.specs.declared.outcome.Outcome.{Outcome}
use Rattle.hc_model.specs.declared.outcome.Outcome.TheVariants as outcome
use Rattle.hc_model.specs.declared.outcome.Reason.{Reason}
use Rattle.hc_model.specs.declared.outcome.Reason.TheVariants.{LongText, RelativeRedirect, RelativeUnderAlias, Scheme}
use Rattle.hc_model.specs.declared.rewrite.EnvSet.{EnvSet}
use Rattle.hc_model.specs.declared.rewrite.Flags.{Flags}
use Rattle.hc_model.specs.declared.rewrite.Rule.{Rule}
use Rattle.hc_model.specs.declared.template.Piece.{Piece}
use Rattle.hc_rw_eval.specs.Directories.{url_path, with_slash}
use Rattle.hc_rw_eval.specs.Locations.{has_scheme, location, own_path}
use Rattle.hc_rw_eval.specs.declared.attempt.Rewritten.{Rewritten}
use Rattle.hc_rw_eval.specs.declared.substitution.TheConstants.{FORBIDDEN, FOUND, GONE, LONGEST_TEXT}
use Rattle.hc_rw_expand.specs.Contexts.{Context, Engine}
use Rattle.hc_rw_expand.specs.Lookups.{Looks, expanded}
use Rattle.hc_rw_expand.specs.Queries.{split}
use Rattle.hc_rw_expand.specs.Values.{filling_in}
use Rattle.hc_rw_expand.specs.Variables.{with_value}
use Rattle.hc_rw_expand.specs.declared.query.Split.{Split}
use Rattle.hc_rw_expand.specs.declared.state.RwState.{RwState}
use Rattle.hc_steps.specs.Step.{Step, ends, in_order, leaves, told, ◌>>=◌}
use Rattle.hc_target.specs.Urls.{is_redirection, is_url}
use Rattle.hc_template.specs.Variables.{origin}

-- ---- variables

abbrev pub is_long : List ℕ → Bool
is_long text = nat_lt LONGEST_TEXT (length text)

abbrev pub with_variable : List ℕ → List ℕ → RwState → RwState
with_variable name value state = record state { vars = with_value state.vars name value }

-- An empty value stands for a variable that is unset: no template can tell it from one that is not there.
abbrev pub without_variable : List ℕ → RwState → RwState
without_variable name state = with_variable name [] state

unfoldable pub set_to : RwState → List ℕ → List ℕ → Step Outcome RwState
set_to state name value =
    if is_long value then ends (outcome.Outside LongText) else leaves (with_variable name value state)

unfoldable pub set_by : Context → Looks → RwState → List ℕ → Option (List Piece) → Step Outcome RwState
set_by context looks state name None = leaves (without_variable name state)
set_by context looks state name (Some value) = expanded looks (filling_in context state) value >>= set_to state name

unfoldable pub with_set : Context → Looks → RwState → EnvSet → Step Outcome RwState
with_set context looks state set = set_by context looks state set.name set.value

-- One after another, each from the state that the ones before it leave.
unfoldable pub variables_set : Context → Looks → RwState → List EnvSet → Step Outcome RwState
variables_set context looks state sets = in_order (with_set context looks) state sets

-- ---- statuses

-- R outside 300 to 399 answers as it is; 0 is no R.
abbrev pub redirect_status : ℕ → Option ℕ
redirect_status status = if (status == 0) || is_redirection status then None else Some status

abbrev pub status_of : Flags → Option ℕ
status_of flags =
    if flags.forbid then Some FORBIDDEN
    else (if flags.gone then Some GONE else redirect_status flags.redirect)

-- ---- the substitution

-- R.
abbrev pub redirects : Flags → Bool
redirects flags = not (flags.redirect == 0)

abbrev pub status_sent : Flags → ℕ
status_sent flags = if redirects flags then flags.redirect else FOUND

abbrev pub stops : Flags → Bool
stops flags = flags.last || flags.end

-- The request is sent to a location. A rule that does so ends the list, or no rule follows it.
unfoldable pub sent : Flags → Bool → List ℕ → Step Outcome Rewritten
sent flags followed location =
    if followed && not (stops flags) then ends (outcome.Outside Scheme)
    else ends (outcome.Redirect (status_sent flags) location)

abbrev pub location_of : Context → Flags → List ℕ → RwState → List ℕ
location_of context flags front state = location flags.noescape front state.text context.first_query state.query

abbrev pub substituted_by : RwState → Rewritten
substituted_by state = record { state = state; substituted = true }

unfoldable pub told_text : RwState → Step Outcome Rewritten
told_text state = told (event.Text state.text state.query) (substituted_by state)

-- A URL of the server's own loses its scheme and name, unless R is there.
unfoldable pub url_placed : Context → Flags → Bool → RwState → Option (List ℕ) → Step Outcome Rewritten
url_placed context flags followed state None = sent flags followed (location_of context flags [] state)
url_placed context flags followed state (Some path) = told_text (record state { text = path })

abbrev pub own_unless : Bool → Option (List ℕ) → Option (List ℕ)
own_unless true path = None
own_unless false path = path

-- A redirect is put behind RewriteBase; without one it is outside.
abbrev pub base_front : Option (List ℕ) → Result (List ℕ) Reason
base_front None = Err RelativeRedirect
base_front (Some base) = Ok (with_slash base)

-- Without RewriteBase a text in a directory that does not come from the document root is outside.
abbrev pub dir_front : Engine → Result (List ℕ) Reason
dir_front engine =
    if engine.aliased && not (is_some engine.base) then Err RelativeUnderAlias else Ok (with_slash engine.dir)

-- What a relative text is put behind, by whether R is there. In a server it stays, and a redirect is outside.
abbrev pub front_of : Option Engine → Bool → Result (List ℕ) Reason
front_of None true = Err RelativeRedirect
front_of None false = Ok []
front_of (Some engine) true = base_front engine.base
front_of (Some engine) false = dir_front engine

abbrev pub front_before : Option Engine → Bool → List ℕ → Result (List ℕ) Reason
front_before engine redirected text = if begins_with_slash text then Ok [] else front_of engine redirected

abbrev pub with_front : List ℕ → RwState → RwState
with_front front state = record state { text = front ++ state.text }

-- In a directory the text is a file name.
abbrev pub path_of : Context → Option Engine → List ℕ → List ℕ
path_of context None text = text
path_of context (Some engine) text = url_path context.root engine text

abbrev pub with_path : Context → RwState → RwState
with_path context state = record state { text = path_of context context.engine state.text }

-- With R the server's own name is put before the path.
abbrev pub path_location : Context → Flags → RwState → List ℕ
path_location context flags state = location_of context flags (origin context.caller) (with_path context state)

unfoldable pub path_placed : Context → Flags → Bool → RwState → Step Outcome Rewritten
path_placed context flags followed state =
    if redirects flags then sent flags followed (path_location context flags state) else told_text state

unfoldable pub front_placed : Context → Flags → Bool → RwState → Result (List ℕ) Reason
    → Step Outcome Rewritten
front_placed context flags followed state (Err reason) = ends (outcome.Outside reason)
front_placed context flags followed state (Ok front) = path_placed context flags followed (with_front front state)

unfoldable pub text_placed : Context → Flags → Bool → RwState → Step Outcome Rewritten
text_placed context flags followed state =
    if is_url state.text
    then url_placed context flags followed state (own_unless (redirects flags) (own_path context.caller state.text))
    else (if has_scheme state.text then ends (outcome.Outside Scheme)
    else front_placed context flags followed state (front_before context.engine (redirects flags) state.text))

unfoldable pub unless_long : Context → Flags → Bool → RwState → Step Outcome Rewritten
unless_long context flags followed state =
    if is_long state.text || is_long state.query then ends (outcome.Outside LongText)
    else text_placed context flags followed state

-- DPI drops the path information.
abbrev pub info_left : Bool → List ℕ → List ℕ
info_left true info = []
info_left false info = info

abbrev pub with_split : Flags → RwState → Split → RwState
with_split flags state split =
    record state { text = split.text; query = split.query; info = info_left flags.discard state.info }

abbrev pub with_text : Flags → RwState → List ℕ → RwState
with_text flags state text = with_split flags state (split text state.query flags.qsa flags.qsd)

unfoldable pub text_made : Context → Flags → Bool → RwState → List ℕ → Step Outcome Rewritten
text_made context flags followed state text = unless_long context flags followed (with_text flags state text)

-- With `-` the text, the query and the path information stay.
unfoldable pub substituted : Context → Looks → Flags → Bool → Rewritten → Option (List Piece)
    → Step Outcome Rewritten
substituted context looks flags followed before None = leaves before
substituted context looks flags followed before (Some template) =
    expanded looks (filling_in context before.state) template >>= text_made context flags followed before.state

unfoldable pub unless_answered : Context → Looks → Rule → Bool → Rewritten → Option ℕ
    → Step Outcome Rewritten
unless_answered context looks rule followed before (Some status) = ends (outcome.Status status)
unless_answered context looks rule followed before None =
    substituted context looks rule.flags followed before rule.subst

-- ---- a rule that matches

abbrev pub with_state : Rewritten → RwState → Rewritten
with_state before state = record before { state = state }

unfoldable pub applied : Context → Looks → Rule → Bool → Rewritten → Step Outcome Rewritten
applied context looks rule followed before =
    variables_set context looks before.state rule.flags.sets >>= λ state.
    unless_answered context looks rule followed (with_state before state) (status_of rule.flags)
