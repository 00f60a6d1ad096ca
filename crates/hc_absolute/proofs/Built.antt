-- In a configuration that is built, document roots and what aliases name begin with a slash.
use Rattle.std.proofs.Common.{◌∷◌, ◌++◌, ℕ, List, [], Bool, true, false, if◌then◌else◌, Option, Some}
use Rattle.std.proofs.Common.{None, Result, Ok, Err, subst}
use Rattle.std.specs.List.{AllByRecursion, slice_get}
use Rattle.std.specs.Option.{IfSome, option_or}
use Rattle.std.specs.Result.{IfOk}
use Rattle.hc_alias.specs.Mapping.{maps_of, root_of}
use Rattle.hc_base.specs.declared.fault.AtByte.{AtByte}
use Rattle.hc_base.specs.declared.place.Refusal.{Refusal}
use Rattle.hc_config.specs.Configuration.{after_entry, among_standing, built, config_of, finished, gathered_from}
use Rattle.hc_config.specs.Configuration.{gathered_next, goes_on, is_rootless, rootless, unless_stopped}
use Rattle.hc_config.specs.Levels.{Standing, chain_ended, context_of, nothing_standing}
use Rattle.hc_flat.specs.declared.flat.Flat.{Flat}
use Rattle.hc_model.specs.declared.config.Config.{Config}
use Rattle.hc_model.specs.declared.config.HostId.{HostId}
use Rattle.hc_model.specs.declared.config.HostId.TheVariants.{Main, Nth}
use Rattle.hc_model.specs.declared.config.Server.{Server}
use Rattle.hc_model.specs.declared.entry.Entry.{Entry}
use Rattle.hc_vhost.specs.Servers.{or_main, servers_of}
use Rattle.hc_absolute.specs.Absolute.{AreAbsolute, BuiltAreAbsolute, IsAbsolute}
use Rattle.hc_absolute.proofs.Judging.{judged_so}
use Rattle.hc_absolute.proofs.Standing.{AreGathered, AreStanding, Effect, Gathered, IsServer, Keeps, all_at, all_both}
use Rattle.hc_absolute.proofs.Targets.{Begins}

-- ---- entries, one behind another

module _ (more : Standing → Result Standing Refusal)
    (each : (later : Standing) → AreStanding later → IfOk (more later) AreStanding) where
  going_on : (next : Result Standing Refusal) → IfOk next AreStanding → IfOk (goes_on more next) AreStanding
  going_on (Err refusal) are = tt
  going_on (Ok later) are = each later are

  entry_keeps : (standing : Standing) (entry : Entry) (judgment : Result Effect AtByte) → AreStanding standing
      → IfOk judgment Keeps → IfOk (gathered_next standing entry more judgment) AreStanding
  entry_keeps standing entry (Err broken) are is = tt
  entry_keeps standing entry (Ok effect) are is =
      going_on (after_entry standing effect) (is (chain_ended standing) are)

gathered_are : (source : _) (standing : Standing) (before behind : List Entry) → AreStanding standing
    → IfOk (gathered_from source standing before behind) AreStanding
gathered_are source standing before [] are = are
gathered_are source standing before (entry ∷ behind) are =
    entry_keeps (λ later. gathered_from source later (before ++ entry ∷ []) behind)
    (λ later are. gathered_are source later (before ++ entry ∷ []) behind are) standing entry _ are
    (judged_so source (context_of source standing) (among_standing standing before entry behind))

-- ---- servers, one behind another

either_begins : (one other : Option (List ℕ)) → IfSome one Begins → IfSome other Begins
    → IfSome (option_or one other) Begins
either_begins None other is also = also
either_begins (Some root) other is also = is

roots_begin : (servers : List Server) → AllByRecursion IsServer servers → IfSome (root_of servers) Begins
roots_begin [] all = tt
roots_begin (server ∷ servers) all =
    either_begins server.root (root_of servers) all.0.0 (roots_begin servers all.1)

maps_are : (servers : List Server) → AllByRecursion IsServer servers → AllByRecursion IsAbsolute (maps_of servers)
maps_are [] all = tt
maps_are (server ∷ servers) all =
    all_both IsAbsolute server.aliases (maps_of servers) all.0.1 (maps_are servers all.1)

-- ---- a configuration

module _ (config : Config) (main : IsServer config.main) (hosts : AllByRecursion IsServer config.hosts) where
  host_is : (host : Option Server) → IfSome host IsServer → IsServer (or_main config host)
  host_is None is = main
  host_is (Some host) is = is

  servers_are : (host : HostId) → AllByRecursion IsServer (servers_of config host)
  servers_are Main = (main, tt)
  servers_are (Nth place) =
      (host_is (slice_get config.hosts place) (all_at IsServer config.hosts place hosts), (main, tt))

  are_absolute : AreAbsolute config
  are_absolute = record {
    rooted = λ host own is. subst (λ root. IfSome root Begins) is
        (roots_begin (servers_of config host) (servers_are host));
    aliased = λ host. maps_are (servers_of config host) (servers_are host);
  }

made_is : (flat : Flat) (gathered : Gathered) (refused : Bool) → AreGathered gathered
    → IfOk (if refused then Err (rootless flat.file) else Ok (config_of flat gathered)) AreAbsolute
unfolding config_of
made_is flat gathered true are = tt
made_is flat gathered false are = are_absolute (config_of flat gathered) (are.0, are.1) are.2

stopped_is : (flat : Flat) (gathered : Gathered) (stop : Option Refusal) → AreGathered gathered
    → IfOk (unless_stopped flat gathered stop) AreAbsolute
stopped_is flat gathered None are = made_is flat gathered (is_rootless gathered) are
stopped_is flat gathered (Some refusal) are = tt

finished_is : (flat : Flat) (standing : Result Standing Refusal) → IfOk standing AreStanding
    → IfOk (finished flat standing) AreAbsolute
finished_is flat (Err refusal) are = tt
finished_is flat (Ok standing) are = stopped_is flat standing.so_far flat.stop are.0

pub built_are_absolute : BuiltAreAbsolute
unfolding built
built_are_absolute flat config is =
    subst (λ answer. IfOk answer AreAbsolute) is
    (finished_is flat _ (gathered_are _ nothing_standing [] flat.entries ((tt, tt, tt), tt)))
