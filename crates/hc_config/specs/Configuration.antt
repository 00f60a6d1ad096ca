-- The configuration that a flat list gives, and what that of a `.htaccess` gives, or the first refusal.
-- Apache manual, "Configuration Files"; ".htaccess files"; core, DocumentRoot and Define; mod_alias, Alias. The
-- refusals
-- and their order are our own choice.
use Rattle.std.specs.Prelude.{ℕ, ◌==◌, List, [], ◌∷◌, ◌++◌, length, Bool, not, ◌&&◌, ◌||◌}
use Rattle.std.specs.Prelude.{is_some, if◌then◌else◌, Option, Some, None, Result, Ok, Err}
use Rattle.std.specs.List.{list_any}
use Rattle.hc_base.specs.Rules.{refusal_at, rule}
use Rattle.hc_base.specs.declared.codes.TheConstants.{NO_DOCUMENT_ROOT}
use Rattle.hc_base.specs.declared.fault.AtByte.{AtByte}
use Rattle.hc_base.specs.declared.place.Place.{Place}
use Rattle.hc_base.specs.declared.place.Refusal.{Refusal}
use Rattle.hc_flat.specs.declared.flat.Flat.{Flat}
use Rattle.hc_model.specs.declared.config.Config.{Config}
use Rattle.hc_model.specs.declared.config.Server.{Server}
use Rattle.hc_model.specs.declared.entry.Entry.{Entry}
use Rattle.hc_model.specs.declared.section.Allowed.{Allowed}
use Rattle.hc_model.specs.declared.section.Body.{Body}
use Rattle.hc_config.specs.Among.{Among}
use Rattle.hc_config.specs.Levels.{Standing, chain_ended, container_of, context_of, holding_opened, innermost_closed}
use Rattle.hc_config.specs.Levels.{innermost_released, nothing_standing, opened, section_body, server_of, wild_of}
use Rattle.hc_config.specs.Levels.{with_given}
use Rattle.hc_config.specs.Rules.{judged}
use Rattle.hc_config.specs.declared.source.Source.{Source}
use Rattle.hc_config.specs.declared.source.Source.TheVariants.{Configuration, Override}
use Rattle.hc_config.specs.declared.effect.Effect.{Effect}
use Rattle.hc_config.specs.declared.effect.Effect.TheVariants.{Closes, Gives, Holds, Nothing, Opens, Releases}
use Rattle.hc_config.specs.declared.gathered.Gathered.{Gathered}

-- ---- what entries give, one behind another

abbrev pub with_effect : Standing → Effect → Result Standing Refusal
with_effect standing Nothing = Ok standing
with_effect standing (Gives given) = Ok (record standing { so_far = with_given standing.so_far given })
with_effect standing (Opens opening) = Ok (opened standing opening)
with_effect standing Closes = Ok (innermost_closed standing)
with_effect standing (Holds holding) = Ok (holding_opened standing holding)
with_effect standing Releases = innermost_released standing

-- Each entry ends the chain of conditions before it.
abbrev pub after_entry : Standing → Effect → Result Standing Refusal
after_entry standing effect = with_effect (chain_ended standing) effect

abbrev pub goes_on : (Standing → Result Standing Refusal) → Result Standing Refusal → Result Standing Refusal
goes_on more (Err refusal) = Err refusal
goes_on more (Ok standing) = more standing

abbrev pub gathered_next : Standing → Entry → (Standing → Result Standing Refusal) → Result Effect AtByte
    → Result Standing Refusal
gathered_next standing entry more (Err broken) = Err (refusal_at entry.spot.place broken)
gathered_next standing entry more (Ok effect) = goes_on more (after_entry standing effect)

abbrev pub among_standing : Standing → List Entry → Entry → List Entry → Among
among_standing standing before entry behind = record {
  before = before;
  entry = entry;
  behind = behind;
  container = container_of standing;
  chained = standing.chained;
  wild = wild_of standing;
}

-- All that entries give behind others, or the refusal of the first that breaks a rule.
abbrev pub gathered_from : Source → Standing → List Entry → List Entry → Result Standing Refusal
gathered_from source standing before [] = Ok standing
gathered_from source standing before (entry ∷ behind) =
    gathered_next standing entry (λ later. gathered_from source later (before ++ entry ∷ []) behind)
    (judged source (context_of source standing) (among_standing standing before entry behind))

-- ---- the main server

abbrev pub no_place : Place
no_place = record { file = []; line = 0 }

unfoldable pub config_of : Flat → Gathered → Config
config_of flat gathered = record {
  main = server_of no_place [] gathered;
  hosts = gathered.hosts;
  defines = flat.defines;
  modules = flat.modules;
  reads = flat.reads;
}

-- ---- the first refusal

-- The main server has no DocumentRoot, and there is no virtual host or one of them has none.
abbrev pub has_no_root : Server → Bool
has_no_root server = not (is_some server.root)

abbrev pub is_rootless : Gathered → Bool
is_rootless gathered =
    not (is_some gathered.root) && ((length gathered.hosts == 0) || list_any has_no_root gathered.hosts)

-- Such a configuration is refused as a whole, when all else is accepted.
abbrev pub rootless : List ℕ → Refusal
rootless file = refusal_at (record { file = file; line = 0 }) (rule NO_DOCUMENT_ROOT)

abbrev pub unless_rootless : Flat → Gathered → Result Config Refusal
unless_rootless flat gathered = if is_rootless gathered then Err (rootless flat.file) else Ok (config_of flat gathered)

abbrev pub unless_stopped : Flat → Gathered → Option Refusal → Result Config Refusal
unless_stopped flat gathered None = unless_rootless flat gathered
unless_stopped flat gathered (Some refusal) = Err refusal

-- The first entry that breaks a rule counts, then what stopped the reading. A list that was read to its
-- end has a close for each opening.
abbrev pub finished : Flat → Result Standing Refusal → Result Config Refusal
finished flat (Err refusal) = Err refusal
finished flat (Ok standing) = unless_stopped flat standing.so_far flat.stop

unfoldable pub built : Flat → Result Config Refusal
built flat = finished flat (gathered_from Configuration nothing_standing [] flat.entries)

-- ---- a `.htaccess`

abbrev pub body_unless_stopped : Gathered → Option Refusal → Result Body Refusal
body_unless_stopped gathered None = Ok (section_body gathered)
body_unless_stopped gathered (Some refusal) = Err refusal

abbrev pub body_finished : Flat → Result Standing Refusal → Result Body Refusal
body_finished flat (Err refusal) = Err refusal
body_finished flat (Ok standing) = body_unless_stopped standing.so_far flat.stop

-- What stands in it, as in a section of its directory.
unfoldable pub built_override : Flat → Allowed → Result Body Refusal
built_override flat allowed = body_finished flat (gathered_from (Override allowed) nothing_standing [] flat.entries)
