-- What is in force once sections are merged: one rule a setting.
-- Apache manual, "How the sections are merged"; core, Options; mod_alias, Redirect; mod_authz_core, AuthMerging. That a
-- later section's
-- redirects come before the earlier ones' is our own choice.
use Rattle.std.specs.Prelude.{List, [], ◌∷◌, ◌++◌, map, Bool, true, false, not, ◌&&◌, ◌||◌, Option}
use Rattle.std.specs.Prelude.{None}
use Rattle.std.specs.List.{fold, list_any}
use Rattle.hc_model.specs.Joined.{joined_behind}
use Rattle.hc_model.specs.declared.authorization.ReqTree.{ReqTree}
use Rattle.hc_model.specs.declared.config.Config.{Config}
use Rattle.hc_model.specs.declared.config.HostId.{HostId}
use Rattle.hc_model.specs.declared.config.Server.{Server}
use Rattle.hc_model.specs.declared.event.Event.{Event}
use Rattle.hc_model.specs.declared.event.Event.TheVariants as event
use Rattle.hc_model.specs.declared.mapping.Redirect.{Redirect}
use Rattle.hc_model.specs.declared.request.View.{View}
use Rattle.hc_model.specs.declared.section.Body.{out-Body}
use Rattle.hc_model.specs.declared.section.Effective.{Effective}
use Rattle.hc_model.specs.declared.section.OptStep.{OptStep}
use Rattle.hc_model.specs.declared.walk.Walk.{Walk}
use Rattle.hc_table.specs.Options.{is_option}
use Rattle.hc_table.specs.declared.option_name.OptionName.{OptionName}
use Rattle.hc_table.specs.declared.option_name.OptionName.TheVariants.{FollowSymLinks, SymLinksIfOwnerMatch}
use Rattle.hc_merge.specs.Candidates.{Candidate, servers_merged}
use Rattle.hc_merge.specs.Order.{ordered_sections}
use Rattle.hc_merge.specs.Overriding.{Files_at}
use Rattle.hc_merge.specs.Reaching.{kept_by}
use Rattle.hc_merge.specs.Rewriting.{rewriting_of}

-- ---- Options

abbrev pub is_among : OptionName → List OptionName → Bool
is_among option options = list_any (is_option option) options

-- A line adds an option; else it stays where it is neither replaced nor taken away.
abbrev pub still_on : OptionName → Bool → OptStep → Bool
still_on option on step = is_among option step.add || (on && not step.replace && not (is_among option step.take))

abbrev pub on_after : OptionName → Bool → List OptStep → Bool
on_after option on steps = fold (still_on option) on steps

-- The lines of the servers, and then those of the sections.
abbrev pub on_at_servers : OptionName → Bool → List Server → Bool
on_at_servers option on servers = fold (λ on server. on_after option on (out-Body server.body).options) on servers

abbrev pub on_at_sections : OptionName → Bool → List Candidate → Bool
on_at_sections option on kept = fold (λ on candidate. on_after option on (out-Body candidate.body).options) on kept

abbrev pub is_on : OptionName → Bool → List Server → List Candidate → Bool
is_on option on servers kept = on_at_sections option (on_at_servers option on servers) kept

-- FollowSymLinks is on at the start.
abbrev pub follows : List Server → List Candidate → Bool
follows servers kept = is_on FollowSymLinks true servers kept || is_on SymLinksIfOwnerMatch false servers kept

-- ---- redirects

-- A later section's come first.
abbrev pub redirects_of : List Candidate → List Redirect
redirects_of [] = []
redirects_of (candidate ∷ candidates) = redirects_of candidates ++ (out-Body candidate.body).redirects

-- ---- authorization

abbrev pub require_behind : Option ReqTree → Candidate → Option ReqTree
require_behind so_far candidate =
    joined_behind so_far (out-Body candidate.body).require (out-Body candidate.body).merging

abbrev pub require_of : List Candidate → Option ReqTree
require_of kept = fold require_behind None kept

-- ---- what is in force

abbrev pub event_of : Candidate → Event
event_of candidate = event.Section candidate.spot

abbrev pub merged : Config → HostId → List Candidate → Effective
merged config host kept = record {
  follow = follows (servers_merged config host) kept;
  require = require_of kept;
  engine = (rewriting_of kept).engine;
  dir = (rewriting_of kept).dir;
  base = (rewriting_of kept).base;
  rules = (rewriting_of kept).rules;
  redirects = redirects_of kept;
  sections = map event_of kept;
}

abbrev pub effective : Config → HostId → Walk → View → Files_at → Effective
effective config host walk view files = merged config host (kept_by view (ordered_sections config host files walk.dirs))
