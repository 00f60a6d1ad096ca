-- What is open around an entry, and what the servers and sections have so far, while the entries of a
-- list are taken one after another.
-- Apache manual, "Configuration Sections"; core, DocumentRoot, ServerName, Options, AllowOverride.
use Rattle.std.specs.Prelude.{ℕ, ◌-◌, Bool, List, [], ◌∷◌, ◌++◌, length, take, slice_get, false, Option}
use Rattle.std.specs.Prelude.{Some, None, option_map, Result, Ok, Err}
use Rattle.hc_base.specs.declared.place.Place.{Place}
use Rattle.hc_base.specs.Rules.{refusal_at, rule}
use Rattle.hc_base.specs.declared.place.Refusal.{Refusal}
use Rattle.hc_model.specs.declared.authorization.Merging.TheVariants.{Off}
use Rattle.hc_model.specs.declared.authorization.ReqTree.{ReqTree}
use Rattle.hc_model.specs.declared.config.HostAddr.{HostAddr}
use Rattle.hc_model.specs.declared.config.Server.{Server}
use Rattle.hc_model.specs.declared.section.Body.{Body, roll-Body}
use Rattle.hc_model.specs.declared.section.OptStep.{OptStep}
use Rattle.hc_model.specs.declared.section.Reach.{Reach}
use Rattle.hc_model.specs.declared.section.Reach.TheVariants.{Dir, DirSearch, Files, Location, LocationGlob}
use Rattle.hc_model.specs.declared.section.Reach.TheVariants.{LocationSearch, Otherwise, When}
use Rattle.hc_model.specs.declared.section.Section.{Section, roll-Section}
use Rattle.hc_model.specs.declared.spot.Spot.{Spot}
use Rattle.hc_table.specs.declared.context.Context.{Context}
use Rattle.hc_table.specs.declared.context.Context.TheVariants as context
use Rattle.hc_config.specs.declared.gathered.Gathered.{Gathered}
use Rattle.hc_config.specs.declared.gathered.Given.{Given}
use Rattle.hc_config.specs.declared.gathered.Given.TheVariants as given
use Rattle.hc_config.specs.declared.gathered.Opened.{Opened}
use Rattle.hc_config.specs.declared.gathered.Opened.TheVariants.{Host, Reached}
use Rattle.hc_config.specs.declared.gathered.Held.{Held}
use Rattle.hc_config.specs.declared.gathered.Holding.{Holding}
use Rattle.hc_config.specs.declared.gathered.Opening.{Opening}
use Rattle.hc_config.specs.declared.containers.Container.{Container}
use Rattle.hc_config.specs.declared.source.Source.{Source}
use Rattle.hc_config.specs.Requires.{container_rule, section_tree, tree_of}
use Rattle.hc_config.specs.Rewriting.{no_rewriting, with_base, with_cond, with_engine, with_inherit, with_rule}
use Rattle.hc_config.specs.declared.rewriting.Rewriting.{Rewriting}
use Rattle.hc_config.specs.Sources.{top_context}

-- ---- contexts

abbrev pub context_of_reach : Reach → Context
context_of_reach (Dir pattern) = context.Directory
context_of_reach (DirSearch pattern) = context.DirectoryMatch
context_of_reach (Files pattern) = context.Files
context_of_reach (Location path) = context.Location
context_of_reach (LocationGlob pattern) = context.Location
context_of_reach (LocationSearch pattern) = context.Location
context_of_reach (When test) = context.IfSection
context_of_reach (Otherwise test) = context.IfSection

abbrev pub context_inside : Opened → Context
context_inside (Host addresses) = context.VirtualHost
context_inside (Reached reach) = context_of_reach reach

-- ---- what one server or section has so far

abbrev pub nothing_gathered : Gathered
nothing_gathered = record {
  root = None;
  name = None;
  names = [];
  redirects = [];
  aliases = [];
  options = [];
  allow = None;
  sections = [];
  hosts = [];
  merging = Off;
  members = [];
  rewriting = no_rewriting;
  recursion = None;
  rewrite_maps = [];
}

-- The last line counts of DocumentRoot, ServerName, AllowOverride, AuthMerging, RewriteEngine, RewriteBase,
-- RewriteOptions
-- and LimitInternalRecursion; of all else every line, in its order.
abbrev pub with_given : Gathered → Given → Gathered
with_given gathered (given.Root path) = record gathered { root = Some path }
with_given gathered (given.Name name) = record gathered { name = Some name }
with_given gathered (given.Names names) = record gathered { names = gathered.names ++ names }
with_given gathered (given.Map alias) = record gathered { aliases = gathered.aliases ++ alias ∷ [] }
with_given gathered (given.Send redirect) = record gathered { redirects = gathered.redirects ++ redirect ∷ [] }
with_given gathered (given.Options step) = record gathered { options = gathered.options ++ step ∷ [] }
with_given gathered (given.Allow allowed) = record gathered { allow = Some allowed }
with_given gathered (given.Merges merging) = record gathered { merging = merging }
with_given gathered (given.Member member) = record gathered { members = gathered.members ++ member ∷ [] }
with_given gathered (given.Engine on) = record gathered { rewriting = with_engine gathered.rewriting on }
with_given gathered (given.Base path) = record gathered { rewriting = with_base gathered.rewriting path }
with_given gathered (given.Inherits inherit) = record gathered { rewriting = with_inherit gathered.rewriting inherit }
with_given gathered (given.Condition cond) = record gathered { rewriting = with_cond gathered.rewriting cond }
with_given gathered (given.Rewrite made) = record gathered { rewriting = with_rule gathered.rewriting made }
with_given gathered (given.Recursion limit) = record gathered { recursion = Some limit }
with_given gathered (given.Values map) = record gathered { rewrite_maps = gathered.rewrite_maps ++ map ∷ [] }

-- ---- bodies

-- A server keeps its redirects and sections beside its body, and no RewriteBase stands in it.
abbrev pub server_body : List OptStep → Rewriting → Body
server_body options rewriting = roll-Body (record {
  options = options;
  allow = None;
  merging = Off;
  require = None;
  engine = rewriting.engine;
  base = None;
  rules = rewriting.rules;
  rewrites = rewriting.stands;
  redirects = [];
  inner = [];
  inherit = rewriting.inherit;
})

abbrev pub section_body : Gathered → Body
section_body gathered = roll-Body (record {
  options = gathered.options;
  allow = gathered.allow;
  merging = gathered.merging;
  require = section_tree gathered.members;
  engine = gathered.rewriting.engine;
  base = gathered.rewriting.base;
  rules = gathered.rewriting.rules;
  rewrites = gathered.rewriting.stands;
  redirects = gathered.redirects;
  inner = gathered.sections;
  inherit = gathered.rewriting.inherit;
})

abbrev pub server_of : Place → List HostAddr → Gathered → Server
server_of place addresses gathered = record {
  place = place;
  addresses = addresses;
  name = gathered.name;
  names = gathered.names;
  root = gathered.root;
  redirects = gathered.redirects;
  aliases = gathered.aliases;
  body = server_body gathered.options gathered.rewriting;
  sections = gathered.sections;
  recursion = gathered.recursion;
  rewrite_maps = gathered.rewrite_maps;
}

abbrev pub section_of : Spot → Reach → Gathered → Section
section_of spot reach gathered = roll-Section (record {
  place = spot.place;
  span = spot.span;
  reach = reach;
  body = section_body gathered;
})

-- What was opened is put into what is around it.
abbrev pub with_closed : Spot → Opened → Gathered → Gathered → Gathered
with_closed spot (Host addresses) inner outer =
    record outer { hosts = outer.hosts ++ server_of spot.place addresses inner ∷ [] }
with_closed spot (Reached reach) inner outer =
    record outer { sections = outer.sections ++ section_of spot reach inner ∷ [] }

-- ---- the levels

-- An opening, what that in which it stands had before it, and the containers of Require lines that were
-- open there, the innermost last.
pub record Around : Type 0 where
  pub opening : Opening
  pub gathered : Gathered
  pub held : List Held

-- What the innermost has so far, and its containers that are open; the openings around an entry, the
-- innermost last; and whether an If or ElseIf is closed right before the entry.
pub record Standing : Type 0 where
  pub so_far : Gathered
  pub held : List Held
  pub around : List Around
  pub chained : Bool

abbrev pub nothing_standing : Standing
nothing_standing = record { so_far = nothing_gathered; held = []; around = []; chained = false }

abbrev pub last_of : {A : Type 0} → List A → Option A
last_of items = slice_get items (length items - 1)

abbrev pub without_last : {A : Type 0} → List A → List A
without_last items = take (length items - 1) items

abbrev pub context_within : Source → Option Around → Context
context_within source None = top_context source
context_within source (Some around) = context_inside around.opening.opened

abbrev pub is_wild : Option Around → Bool
is_wild None = false
is_wild (Some around) = around.opening.wild

-- The innermost opening is a Directory with wildcards.
abbrev pub wild_of : Standing → Bool
wild_of standing = is_wild (last_of standing.around)

-- That of the innermost opening, else that outside all.
abbrev pub context_of : Source → Standing → Context
context_of source standing = context_within source (last_of standing.around)

abbrev pub opened : Standing → Opening → Standing
opened standing opening = record standing {
  so_far = nothing_gathered;
  held = [];
  around = standing.around ++ record { opening = opening; gathered = standing.so_far; held = standing.held } ∷ [];
}

abbrev pub closed_by : Standing → Option Around → Standing
closed_by standing None = standing
closed_by standing (Some around) = record {
  so_far = with_closed around.opening.spot around.opening.opened standing.so_far around.gathered;
  held = around.held;
  around = without_last standing.around;
  chained = around.opening.chained;
}

-- A chain of conditions goes on behind the close of one of them alone.
abbrev pub chain_ended : Standing → Standing
chain_ended standing = record standing { chained = false }

-- The innermost opening is closed.
abbrev pub innermost_closed : Standing → Standing
innermost_closed standing = closed_by standing (last_of standing.around)

-- ---- containers of Require lines

abbrev pub container_of : Standing → Option Container
container_of standing = option_map (λ held. held.holding.container) (last_of standing.held)

abbrev pub with_members : Gathered → List ReqTree → Gathered
with_members gathered members = record gathered { members = members }

-- What stands around a container waits until it is closed.
abbrev pub holding_opened : Standing → Holding → Standing
holding_opened standing holding = record standing {
  so_far = with_members standing.so_far [];
  held = standing.held ++ record { holding = holding; members = standing.so_far.members } ∷ [];
}

abbrev pub released : Standing → Held → Standing
released standing held = record standing {
  so_far = with_members standing.so_far (held.members ++ tree_of held.holding.container standing.so_far.members ∷ []);
  held = without_last standing.held;
}

-- A rule that a container breaks is refused at its opening.
abbrev pub unless_refused : Standing → Held → Option ℕ → Result Standing Refusal
unless_refused standing held None = Ok (released standing held)
unless_refused standing held (Some code) = Err (refusal_at held.holding.place (rule code))

abbrev pub released_by : Standing → Option Held → Result Standing Refusal
released_by standing None = Ok standing
released_by standing (Some held) =
    unless_refused standing held (container_rule held.holding.container standing.so_far.members)

-- The innermost container is closed.
abbrev pub innermost_released : Standing → Result Standing Refusal
innermost_released standing = released_by standing (last_of standing.held)
