-- The plan of a pass, from its start, from a further round of the server's list, or from one of a directory's list, up
-- to the next such point.
-- Apache manual: "Mapping URLs to Filesystem Locations"; mod_rewrite. What is outside is our own choice.
use Rattle.std.specs.Prelude.{ℕ, List, [], ◌∷◌, map, Bool, true, false, not, ◌&&◌, Option, None, Some}
use Rattle.std.specs.Str.{bytes_eq}
use Rattle.hc_alias.specs.Mapping.{root_of}
use Rattle.hc_base.specs.Paths.{ends_with_slash}
use Rattle.hc_dfa.specs.Texts.{TextSet}
use Rattle.hc_merge.specs.Order.{ordered_sections}
use Rattle.hc_merge.specs.Overriding.{Files_at, wanted_by}
use Rattle.hc_merge.specs.Settings.{merged}
use Rattle.hc_model.specs.declared.authorization.ReqTree.{ReqTree}
use Rattle.hc_model.specs.declared.event.Decision.{Decision}
use Rattle.hc_model.specs.declared.outcome.Outcome.{Outcome}
use Rattle.hc_model.specs.declared.outcome.Outcome.TheVariants as outcome
use Rattle.hc_model.specs.declared.rewrite.Rule.{Rule}
use Rattle.hc_model.specs.declared.section.Body.{Body}
use Rattle.hc_model.specs.declared.section.Effective.{Effective}
use Rattle.hc_plan.specs.Plan.{Plan, Source, and_then, done, from_slot, held, Item, leave_out, put_down, rename, sort}
use Rattle.hc_plan.specs.Plan.{take_up}
use Rattle.hc_plan.specs.Slots.{Slot}
use Rattle.hc_rw_eval.specs.Directories.{url_path}
use Rattle.hc_rw_expand.specs.Contexts.{Engine}
use Rattle.hc_serve.specs.Passing.{files_looked}
use Rattle.hc_serve.specs.ServerRules.{engine_at, looks_of, maps_at, rules_at}
use Rattle.hc_serve.specs.Site.{Site}
use Rattle.hc_steps.specs.Run as steps
use Rattle.hc_steps.specs.Run.{Way, goes_on, is_over}
use Rattle.hc_steps.specs.Step.{Shown}
use Rattle.hc_vhost.specs.Servers.{servers_of}
use Rattle.hc_abs_rw.specs.Frames.{Frame, frame_of}
use Rattle.hc_abs_rw.specs.Lists.{Listed, SoFar, again, answered, list_plan}
use Rattle.hc_abs_rw.specs.Lists.{over as is_over_so}
use Rattle.hc_abs_rw.specs.Substitutions.{Then}
use Rattle.hc_abs_rw.specs.Templates.{looked, main, slot_item}
use Rattle.hc_abs_pass.specs.Authorizing.{admitted_plan}
use Rattle.hc_abs_pass.specs.Ends.{Left, found, refused, status}
use Rattle.hc_abs_pass.specs.Mapping.{Placing, named, over, redirects_plan}
use Rattle.hc_abs_pass.specs.Naming.{placed_plan, tidy_plan}
use Rattle.hc_abs_pass.specs.Restarting.{restart_plan}
use Rattle.hc_abs_pass.specs.Sections.{of_slot, sections_plan}
use Rattle.hc_abs_pass.specs.Views.{Scene}
use Rattle.hc_abs_pass.specs.Walks.{WalkEnd, at_root, behind_slash, end_at, ends_in, is_empty, walk_plan}

-- The site, whose caller has what all requests have in common; whether no pass may follow; the world, and how deep it
-- is; what merges a setting, and the variables that are looked at.
pub record Ground : Type 0 where
  pub site : Site
  pub last : Bool
  pub shown : Shown
  pub levels : ℕ
  pub merges : Body → Bool
  pub names : List ℕ → Bool

-- What is in force where a directory's list runs, and whether the name comes from an alias.
pub record Settings : Type 0 where
  pub force : Effective
  pub aliased : Bool
  pub end : WalkEnd

-- An end of a step; what a rule answers; a rule begins a further round of the server's list, or of a directory's, where
-- its bound of rounds allows one.
pub data Finish : Type 0 where
  stopped : Left → Finish
  ruled : Then → Finish
  server_round : Rule → SoFar → Finish
  dir_round : Settings → Rule → SoFar → Finish

-- With it stays the tree of Require lines that is in force.
pub record Segment : Type 0 where
  pub decisions : List Decision
  pub require : Option ReqTree
  pub finish : Finish

abbrev pub finished_so : Option ReqTree → List Decision → Finish → Segment
finished_so require decisions finish = record { decisions = decisions; require = require; finish = finish }

abbrev pub ends_so : Option ReqTree → List Decision → Left → Segment
ends_so require decisions left = finished_so require decisions (stopped left)

abbrev pub begun_with : List Decision → Bool → SoFar
begun_with decisions substituted = record { decisions = decisions; substituted = substituted; replaced = false }

module _ (ground : Ground) where
  abbrev pub frame_by : Option Engine → Frame
  frame_by engine = frame_of (record {
    caller = ground.site.caller;
    path = [];
    root = root_of (servers_of ground.site.config ground.site.host);
    first_query = [];
    engine = engine;
  }) (looks_of (maps_at ground.site)) ground.shown

  -- ---- behind the rules of a directory

  abbrev pub path_of : Settings → List ℕ → List ℕ
  path_of settings text = elim settings.force.dir [
    | None ↦ text
    | Some dir ↦
        url_path (root_of (servers_of ground.site.config ground.site.host))
        (record { dir = dir; base = settings.force.base; aliased = settings.aliased }) text
  ]

  abbrev pub left_plan : Settings → List Decision → Bool → Plan Segment
  left_plan settings decisions ran =
      redirects_plan (ends_so settings.force.require decisions) settings.force.redirects (elim ran [
        | true ↦ and_then (restart_plan settings.end.kind ground.last (path_of settings) ground.names)
            (λ left. done (ends_so settings.force.require decisions left))
        | false ↦ done (ends_so settings.force.require decisions (found settings.end.kind))
      ])

  abbrev pub any_slot : Slot → Bool
  any_slot slot = true

  -- The target's path and the pass's are tied no more.
  abbrev pub path_untied : Bool → Plan Segment → Plan Segment
  path_untied true plan = rename from_slot any_slot
      (record { origin_path = false; text_path = true; text_name = true; query_first = true }) plan
  path_untied false plan = plan

  abbrev pub dir_left : Settings → Listed → Plan Segment
  dir_left settings listed = elim listed.stop [
    | is_over_so passed ↦
        path_untied (passed && listed.left.substituted) (left_plan settings listed.left.decisions true)
    | again rule ↦
        done (finished_so settings.force.require listed.left.decisions (dir_round settings rule listed.left))
    | answered next ↦ done (finished_so settings.force.require listed.left.decisions (ruled next))
  ]

  -- One round of a directory's list.
  unfoldable pub dir_round_plan : Settings → Engine → SoFar → Plan Segment
  dir_round_plan settings engine so_far =
      and_then (list_plan (frame_by (Some engine)) 0 settings.force.rules so_far) (dir_left settings)

  abbrev pub list_source : Slot → Source
  list_source Slot.Text = from_slot Slot.Name
  list_source other = from_slot other

  -- The file name is rewritten.
  abbrev pub dir_begun : Settings → Engine → List Decision → Plan Segment
  dir_begun settings engine decisions =
      rename list_source any_slot
      (record { origin_path = true; text_path = false; text_name = true; query_first = true })
      (dir_round_plan settings engine (begun_with decisions false))

  abbrev pub is_itself : List ℕ → TextSet
  is_itself dir name = bytes_eq name dir && not (ends_with_slash name)

  abbrev pub engine_by : Settings → List ℕ → Engine
  engine_by settings dir = record { dir = dir; base = settings.force.base; aliased = settings.aliased }

  abbrev pub follow_plan : Settings → List ℕ → List Decision → Plan Segment
  follow_plan settings dir decisions = elim settings.force.follow [
    | true ↦ dir_begun settings (engine_by settings dir) decisions
    | false ↦ done (ends_so settings.force.require decisions (status 403))
  ]

  -- First that END was not met, and then that the name is not the directory itself.
  abbrev pub ruled_in : Settings → List ℕ → List Decision → Plan Segment
  ruled_in settings dir decisions = of_slot Slot.End is_empty (λ fresh. elim fresh [
    | true ↦ of_slot Slot.Name (is_itself dir) (λ itself. elim itself [
      | true ↦ left_plan settings decisions false
      | false ↦ follow_plan settings dir decisions
    ])
    | false ↦ left_plan settings decisions false
  ])

  abbrev pub directory_plan : Settings → List Decision → Option (List ℕ) → Plan Segment
  directory_plan settings decisions None = left_plan settings decisions false
  directory_plan settings decisions (Some dir) = elim settings.force.engine [
    | true ↦ ruled_in settings dir decisions
    | false ↦ left_plan settings decisions false
  ]

  -- ---- up to what is in force

  abbrev pub force_plan : Settings → List Decision → Plan Segment
  force_plan settings decisions = admitted_plan ground.site.caller settings.force.require (λ is. elim is [
    | true ↦ directory_plan settings decisions settings.force.dir
    | false ↦ done (ends_so settings.force.require decisions (status 403))
  ])

  abbrev pub sections_from : Scene → (Settings → Plan Segment) → Bool → WalkEnd → Files_at → Plan Segment
  sections_from scene next aliased end files =
      and_then (sections_plan ground.merges scene [] [] []
      (ordered_sections ground.site.config ground.site.host files end.dirs))
      (λ kept. next (record {
        force = merged ground.site.config ground.site.host kept;
        aliased = aliased;
        end = end;
      }))

  -- The `.htaccess` files of the walk, which no slot enters. Nothing else ends their steps.
  abbrev pub files_by : (Files_at → Plan Segment) → (Left → Plan Segment) → Way Outcome Files_at
      → Plan Segment
  files_by next refuse (goes_on files) = next files
  files_by next refuse (is_over (outcome.HtRefused refusal)) = refuse (refused refusal)
  files_by next refuse (is_over other) = leave_out

  abbrev pub files_at : WalkEnd → Way Outcome Files_at
  files_at end =
      (steps.run (files_looked ground.site.config (wanted_by ground.site.config ground.site.host end.dirs))
      ground.shown).way

  abbrev pub scene_with : Item → Scene
  scene_with query = record { caller = ground.site.caller; query = query }

  abbrev pub there_plan : Bool → List Decision → WalkEnd → Plan Segment
  there_plan aliased decisions end = files_by
      (sections_from (scene_with (slot_item Slot.Query)) (λ settings. force_plan settings decisions) aliased end)
      (λ left. done (ends_so None decisions left)) (files_at end)

  abbrev pub name_plan : List Decision → Placing → Plan Segment
  name_plan decisions (over left) = done (ends_so None decisions left)
  name_plan decisions (named aliased) =
      tidy_plan (ends_so None decisions)
      (and_then (walk_plan (ends_in ground.levels ground.shown at_root)) (there_plan aliased decisions))

  -- ---- the rules of the server

  abbrev pub placed_from : List Decision → Bool → Bool → Plan Segment
  placed_from decisions substituted passed =
      and_then (placed_plan ground.shown (servers_of ground.site.config ground.site.host) substituted passed) (name_plan decisions)

  abbrev pub server_left : Listed → Plan Segment
  server_left listed = elim listed.stop [
    | is_over_so passed ↦ placed_from listed.left.decisions listed.left.substituted passed
    | again rule ↦ done (finished_so None listed.left.decisions (server_round rule listed.left))
    | answered next ↦ done (finished_so None listed.left.decisions (ruled next))
  ]

  -- One round of the server's list.
  unfoldable pub server_round_plan : SoFar → Plan Segment
  server_round_plan so_far = and_then (list_plan (frame_by None) 0 (rules_at ground.site) so_far) server_left

  -- From the start of a pass.
  unfoldable pub pass_plan : Plan Segment
  pass_plan = elim (engine_at ground.site) [
    | true ↦ server_round_plan (begun_with [] false)
    | false ↦ placed_from [] false false
  ]
