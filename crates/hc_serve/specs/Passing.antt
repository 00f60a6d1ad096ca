-- The steps of a pass, in their order.
-- Apache manual: "Mapping URLs to Filesystem Locations"; core, DocumentRoot, AcceptPathInfo, Options
-- (FollowSymLinks), LimitInternalRecursion; mod_alias; mod_rewrite: RewriteEngine, RewriteRule ("Per-directory
-- Rewrites"). That a text which names something that exists is a file name, which rules of a directory run, and what
-- is outside, is our own choice.
use Rattle.std.specs.Prelude.{ℕ, List, [], ◌∷◌, Bool, true, false, if◌then◌else◌, Option, Some, None}
use Rattle.std.specs.Option.{option_map}
use Rattle.std.specs.Str.{bytes_eq}
use Rattle.hc_alias.specs.Mapping.{away, map_url, root_of, under_root}
use Rattle.hc_alias.specs.declared.mapping.Away.{Away}
use Rattle.hc_alias.specs.declared.mapping.Mapped.TheVariants as mapped
use Rattle.hc_alias.specs.declared.mapping.Mapped.{Mapped}
use Rattle.hc_authz.specs.Values.{value}
use Rattle.hc_authz.specs.declared.tree.Tri.TheVariants as tri
use Rattle.hc_authz.specs.declared.tree.Tri.{Tri}
use Rattle.hc_base.specs.Paths.{has_dots, merge_slashes, begins_with_slash}
use Rattle.hc_base.specs.declared.fault.Fault.TheVariants.{NoMemory, Refused}
use Rattle.hc_base.specs.declared.fault.Fault.{Fault}
use Rattle.hc_htaccess.specs.Pairs.{is_for}
use Rattle.hc_htaccess.specs.Reading.{found_there}
use Rattle.hc_include.specs.Ending.{ending}
use Rattle.hc_merge.specs.Candidates.{Candidate}
use Rattle.hc_merge.specs.Order.{ordered_sections}
use Rattle.hc_merge.specs.Overriding.{Files_at, htaccess_of, no_files, wanted_by}
use Rattle.hc_merge.specs.Reaching.{kept_by}
use Rattle.hc_merge.specs.Settings.{merged as merged_sections}
use Rattle.hc_model.specs.Overrides.{Loaded, Override, file, none, refused}
use Rattle.hc_model.specs.declared.authorization.ReqTree.{ReqTree}
use Rattle.hc_model.specs.declared.config.Config.{Config}
use Rattle.hc_model.specs.declared.event.Authorized.TheVariants.{Denied, Granted, Neutral, Unasked}
use Rattle.hc_model.specs.declared.event.Authorized.{Authorized}
use Rattle.hc_model.specs.declared.event.Event.TheVariants as event
use Rattle.hc_model.specs.declared.event.Event.{Event}
use Rattle.hc_model.specs.declared.outcome.LimitKind.TheVariants.{Redirects}
use Rattle.hc_model.specs.declared.outcome.Outcome.TheVariants.{Directory, File, HtRefused, NotFound, Outside, Status}
use Rattle.hc_model.specs.declared.outcome.Outcome.TheVariants.{Limit}
use Rattle.hc_model.specs.declared.outcome.Outcome.{Outcome}
use Rattle.hc_model.specs.declared.outcome.Reason.TheVariants.{DotSegment, NoRoot}
use Rattle.hc_model.specs.declared.request.Caller.{Caller}
use Rattle.hc_model.specs.declared.request.View.{View}
use Rattle.hc_model.specs.declared.section.Effective.{Effective}
use Rattle.hc_model.specs.declared.section.HtFile.{HtFile}
use Rattle.hc_model.specs.declared.walk.Kind.TheVariants as kind
use Rattle.hc_model.specs.declared.walk.Kind.{Kind}
use Rattle.hc_model.specs.declared.walk.Walk.{Walk}
use Rattle.hc_rw_eval.specs.Lists.{run_rules}
use Rattle.hc_rw_eval.specs.declared.run.Finished.{Finished}
use Rattle.hc_rw_expand.specs.declared.state.RwState.{RwState}
use Rattle.hc_serve.specs.DirectoryRules.{context_in, is_last, next_pass, path_for, query_left, ruling_dir, state_in}
use Rattle.hc_serve.specs.ServerRules.{context_at, engine_at, first_component, is_there, looks_of, maps_at, own_name}
use Rattle.hc_serve.specs.ServerRules.{pass_with, rules_at, state_at}
use Rattle.hc_serve.specs.Site.{Site}
use Rattle.hc_serve.specs.declared.admission.TheConstants.{FORBIDDEN}
use Rattle.hc_serve.specs.declared.stage.Ended.{Ended}
use Rattle.hc_serve.specs.declared.stage.Here.{Here}
use Rattle.hc_serve.specs.declared.stage.Named.{Named}
use Rattle.hc_serve.specs.declared.stage.Pass.{Pass}
use Rattle.hc_serve.specs.declared.stage.Placed.TheVariants as placed
use Rattle.hc_serve.specs.declared.stage.Placed.{Placed}
use Rattle.hc_serve.specs.declared.stage.Restarted.{Restarted}
use Rattle.hc_serve.specs.declared.stage.Walked.{Walked}
use Rattle.hc_serve.specs.declared.way.TheConstants.{BAD_REQUEST}
use Rattle.hc_steps.specs.Step.{Step, leaves, ends, in_order, say, text_at, told, ◌>>=◌, kind_at}
use Rattle.hc_steps.specs.Walking.{walk}
use Rattle.hc_vhost.specs.Servers.{servers_of}

unfoldable pub told_pass : Pass → Step Outcome Pass
told_pass pass = told (event.Pass pass.number pass.path pass.query) pass

-- ---- 1. the rules of the server that answers

unfoldable pub named : Pass → Mapped → Step Outcome Named
named pass (mapped.Name name from) = leaves (record { pass = pass; name = name; from = from; own = false })
named pass (mapped.Away away) = say (event.Redirect away.from) (ends away.outcome)
named pass mapped.NoRoot = ends (Outside NoRoot)

unfoldable pub exists : Option (List ℕ) → Step Outcome Bool
exists None = leaves false
exists (Some path) = kind_at path >>= λ kind. leaves (is_there kind)

unfoldable pub name_left : Site → Pass → List ℕ → Bool → Step Outcome Placed
name_left site pass text true = leaves (own_name pass text)
name_left site pass text false =
    named pass (under_root (root_of (servers_of site.config site.host)) text) >>= λ name. leaves (placed.Named name)

-- PT: the text is a URL path, whose repeated slashes are merged. A segment of dots is outside.
unfoldable pub path_without_dots : Pass → List ℕ → Step Outcome Placed
path_without_dots pass path =
    if has_dots path then ends (Outside DotSegment) else leaves (placed.Unnamed (record pass { path = path }))

unfoldable pub path_left : Pass → List ℕ → Step Outcome Placed
path_left pass text = path_without_dots pass (merge_slashes text)

unfoldable pub absolute_left : Site → Bool → Pass → List ℕ → Step Outcome Placed
absolute_left site passed pass text =
    if passed then path_left pass text else exists (first_component text) >>= name_left site pass text

unfoldable pub text_left : Site → Bool → Pass → List ℕ → Step Outcome Placed
text_left site passed pass text =
    if begins_with_slash text then absolute_left site passed pass text else ends (Status BAD_REQUEST)

unfoldable pub finished : Site → Pass → Finished → Step Outcome Placed
finished site pass run =
    if run.left.substituted then text_left site run.passed (pass_with pass run.left.state) run.left.state.text
    else leaves (placed.Unnamed (pass_with pass run.left.state))

unfoldable pub rules_run : Site → Pass → Step Outcome Placed
rules_run site pass =
    run_rules (context_at site pass) (looks_of (maps_at site)) (rules_at site) (state_at pass) >>= finished site pass

-- Where the engine of the server is on.
unfoldable pub rewritten : Site → Pass → Step Outcome Placed
rewritten site pass = if engine_at site then rules_run site pass else leaves (placed.Unnamed pass)

-- ---- 2. the file name, where they left none

unfoldable pub mapped_at : Site → Pass → Step Outcome Named
mapped_at site pass = named pass (map_url site.config site.host pass.path pass.query site.caller)

unfoldable pub name_of : Site → Placed → Step Outcome Named
name_of site (placed.Unnamed pass) = mapped_at site pass
name_of site (placed.Named named) = leaves named

-- ---- 3. repeated slashes of the name are merged; a segment of dots is outside

unfoldable pub without_dots : Named → Step Outcome Named
without_dots named =
    if has_dots named.name then ends (Outside DotSegment) else told (event.Map named.from named.name) named

unfoldable pub merged : Named → Step Outcome Named
merged named = without_dots (record named { name = merge_slashes named.name })

-- ---- 4. where the name leads

unfoldable pub seen_there : Named → Walk → Step Outcome Walked
seen_there named walk = told (event.Walk walk.name walk.info walk.kind) (record { named = named; walk = walk })

unfoldable pub walked : Named → Step Outcome Walked
walked named = walk named.name >>= seen_there named

-- ---- 5. the `.htaccess` files of the walk, from `/` down, of which the first that is refused ends the request; the
-- sections in force; and who may pass

abbrev pub with_file : Loaded → Option HtFile → Files_at → Files_at
with_file each found files dir allowed = if is_for each dir allowed then found else files dir allowed

unfoldable pub left_by : Files_at → Loaded → Override → Step Outcome Files_at
left_by files each (refused refusal) = ends (HtRefused refusal)
left_by files each none = leaves (with_file each None files)
left_by files each (file found) = leaves (with_file each (Some found) files)

unfoldable pub file_looked : Config → Files_at → Loaded → Step Outcome Files_at
file_looked config files each =
    text_at (htaccess_of each.dir) >>= λ found. left_by files each (found_there config each.dir each.allowed found)

unfoldable pub files_looked : Config → List Loaded → Step Outcome Files_at
files_looked config wanted = in_order (file_looked config) no_files wanted

abbrev pub view_at : Site → Walked → View
view_at site there = record {
  caller = site.caller;
  path = there.named.pass.path;
  query = there.named.pass.query;
  name = there.walk.name;
}

abbrev pub told_each : {A : Type 0} → List Event → A → Step Outcome A
told_each [] left = leaves left
told_each (event ∷ events) left = say event (told_each events left)

unfoldable pub sections_told : Here → Step Outcome Here
sections_told here = told_each here.force.sections here

abbrev pub with_force : Walked → Effective → Here
with_force there force = record { named = there.named; walk = there.walk; force = force }

-- The sections that may be in force, in the order in which they are merged.
abbrev pub ordered_at : Site → Walked → Files_at → List Candidate
ordered_at site there files = ordered_sections site.config site.host files there.walk.dirs

abbrev pub ordered : Site → Walked → Files_at → Step Outcome (List Candidate)
ordered site there files = leaves (ordered_at site there files)

abbrev pub force_of : Site → Walked → List Candidate → Effective
force_of site there candidates = merged_sections site.config site.host (kept_by (view_at site there) candidates)

abbrev pub force_at : Site → Walked → Files_at → Effective
force_at site there files = force_of site there (ordered_at site there files)

unfoldable pub in_force : Site → Walked → Step Outcome Here
in_force site there = do
  files ← files_looked site.config (wanted_by site.config site.host there.walk.dirs)
  candidates ← ordered site there files
  sections_told (with_force there (force_of site there candidates))

abbrev pub said : Option Tri → Authorized
said None = Unasked
said (Some tri.Granted) = Granted
said (Some tri.Denied) = Denied
said (Some tri.Neutral) = Neutral

abbrev pub authorized : Caller → Option ReqTree → Authorized
authorized caller require = said (option_map (value caller) require)

-- No tree lets everyone in; one that says nothing lets nobody in.
abbrev pub lets_in : Authorized → Bool
lets_in Granted = true
lets_in Denied = false
lets_in Neutral = false
lets_in Unasked = true

unfoldable pub admitted_by : Authorized → Step Outcome (Unit {0})
admitted_by value = say (event.Auth value) (if lets_in value then leaves tt else ends (Status FORBIDDEN))

unfoldable pub admitted : Site → Here → Step Outcome (Unit {0})
admitted site here = admitted_by (authorized site.caller here.force.require)

-- ---- 6. the rules of the directory

abbrev pub state_left : Finished → Step Outcome (Option RwState)
state_left run = leaves (Some run.left.state)

unfoldable pub rules_left : Site → Here → List ℕ → Step Outcome (Option RwState)
rules_left site here dir =
    run_rules (context_in site here dir) (looks_of (maps_at site)) here.force.rules (state_in here) >>= state_left

-- Rules need one of the options that let links be followed.
unfoldable pub rules_run_in : Site → Here → List ℕ → Step Outcome (Option RwState)
rules_run_in site here dir = if here.force.follow then rules_left site here dir else ends (Status FORBIDDEN)

unfoldable pub ruled : Site → Here → Option (List ℕ) → Step Outcome (Option RwState)
ruled site here None = leaves None
ruled site here (Some dir) = rules_run_in site here dir

unfoldable pub rewritten_there : Site → Here → Step Outcome (Option RwState)
rewritten_there site here = ruled site here (ruling_dir here)

-- ---- 7. the redirects of the sections, on the URL path, with the query that the rules of the directory leave

unfoldable pub sent_by : Option Away → Step Outcome (Unit {0})
sent_by None = leaves tt
sent_by (Some away) = say (event.Redirect away.from) (ends away.outcome)

unfoldable pub sent_there : Site → Here → Option RwState → Step Outcome (Unit {0})
sent_there site here left = sent_by (away here.force.redirects here.named.pass.path (query_left here left) site.caller)

-- ---- 8. what stands there, or the restart to another pass

-- A segment of dots is outside. A restart that the limit does not allow is not told.
unfoldable pub restarted_at : Site → Here → RwState → List ℕ → Step Outcome Pass
restarted_at site here state path =
    if has_dots path then ends (Outside DotSegment)
    else (if is_last site here then ends (Limit Redirects) else told (event.Restart path) (next_pass here state path))

unfoldable pub redirected : Site → Here → RwState → List ℕ → Step Outcome Pass
redirected site here state path = restarted_at site here state (merge_slashes path)

unfoldable pub restarted : Site → Here → RwState → Step Outcome Pass
restarted site here state = redirected site here state (path_for site here here.force.dir state.text)

abbrev pub outcome_at : Kind → List ℕ → List ℕ → Outcome
outcome_at kind.Absent name info = NotFound
outcome_at kind.Dir name info = Directory name
outcome_at kind.File name info = File name info

unfoldable pub answered_by : Site → Here → RwState → Step Outcome Pass
answered_by site here state =
    if bytes_eq state.text here.walk.name then ends (outcome_at here.walk.kind here.walk.name state.info)
    else restarted site here state

unfoldable pub answered : Site → Here → Option RwState → Step Outcome Pass
answered site here None = ends (outcome_at here.walk.kind here.walk.name here.walk.info)
answered site here (Some state) = answered_by site here state

-- ---- the whole

-- Behind the rules of the server, up to what is in force.
unfoldable pub reached_from : Site → Placed → Step Outcome Here
reached_from site placed = do
  named ← name_of site placed
  named ← merged named
  there ← walked named
  in_force site there

-- Up to what is in force.
unfoldable pub reached : Site → Pass → Step Outcome Here
reached site pass = do
  pass ← told_pass pass
  placed ← rewritten site pass
  reached_from site placed

-- Behind the rules of the directory.
unfoldable pub finished_there : Site → Here → Option RwState → Step Outcome Pass
finished_there site here left = sent_there site here left >>= λ _. answered site here left

-- The steps behind what is in force.
unfoldable pub passed_there : Site → Here → Step Outcome Pass
passed_there site here = admitted site here >>= λ _. rewritten_there site here >>= finished_there site here

-- A pass ends the request, or leaves the pass that follows it; with it stays the tree of Require lines that was in
-- force.
abbrev pub with_tree : Option ReqTree → Outcome → Ended
with_tree require outcome = record { outcome = outcome; require = require }

abbrev pub stopped : Option ReqTree → Fault Outcome → Fault Ended
stopped require (Refused outcome) = Refused (with_tree require outcome)
stopped require NoMemory = NoMemory

abbrev pub followed_by : Option ReqTree → Pass → Restarted
followed_by require pass = record { pass = pass; require = require }

unfoldable pub passed_from : Site → Here → Step Ended Restarted
passed_from site here =
    ending (with_tree here.force.require) (passed_there site here) >>= λ pass. leaves
    (followed_by here.force.require pass)

unfoldable pub passed : Site → Pass → Step Ended Restarted
passed site pass = ending (with_tree None) (reached site pass) >>= passed_from site
