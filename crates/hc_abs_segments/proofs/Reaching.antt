-- From what is in force on: who may pass, and whether the rules of a directory run.
use Rattle.hc_abs_segments.proofs.Common.{◌≡◌, ◌∙◌, ℕ, ◌+◌, List, [], ◌++◌, Bool, true, false, not, ◌&&◌}
use Rattle.hc_abs_segments.proofs.Common.{if◌then◌else◌, Option, Some, None, refl, sym, ap, subst, append-nil}
use Rattle.hc_abs_segments.proofs.Common.{State, PlanRun, ended, plan_run, done, Slot, Decision, Outcome}
use Rattle.hc_abs_segments.proofs.Common.{Run, Way, is_over, run, Shown, Step, leaves, ends, ◌>>=◌}
use Rattle.hc_abs_segments.proofs.Common.{ending, decisions_in}
use Rattle.std.specs.Prelude.{codes, nat_le}
use Rattle.hc_addr.specs.declared.addr.Addr.{Addr}
use Rattle.hc_model.specs.declared.authorization.ReqTree.{ReqTree}
use Rattle.hc_model.specs.declared.event.Event.TheVariants as event
use Rattle.hc_model.specs.declared.outcome.Outcome.TheVariants.{Status}
use Rattle.hc_model.specs.declared.section.Body.{Body}
use Rattle.hc_model.specs.declared.walk.Walk.{Walk}
use Rattle.hc_plan.specs.Running.{renaming}
use Rattle.hc_rw_eval.specs.Lists.{begun}
use Rattle.hc_rw_expand.specs.Values.{request_line}
use Rattle.hc_rw_expand.specs.Variables.{variable_set}
use Rattle.hc_serve.specs.DirectoryRules.{is_last, ruling_dir, state_in, unless_itself}
unfoldable use Rattle.hc_serve.specs.Passing.{admitted, admitted_by}
use Rattle.hc_serve.specs.Passing.{authorized, lets_in, with_tree}
unfoldable use Rattle.hc_serve.specs.Segments.{behind_sections, in_directory}
use Rattle.hc_serve.specs.Segments.{Cut, from_dir_round}
use Rattle.hc_serve.specs.Site.{Site, most_passes}
use Rattle.hc_serve.specs.declared.stage.Ended.{Ended}
use Rattle.hc_serve.specs.declared.stage.Here.{Here}
use Rattle.hc_serve.specs.declared.stage.Named.{Named}
use Rattle.hc_serve.specs.declared.stage.Pass.{Pass}
use Rattle.hc_template.specs.Variables.{header_value}
use Rattle.hc_abs_rw.specs.Templates.{header_slot}
use Rattle.hc_abs_pass.specs.Ends.{Ends, Left, status}
use Rattle.hc_abs_pass.specs.Passing.{Ground, Segment, Settings, begun_with, dir_begun}
use Rattle.hc_abs_pass.specs.Passing.{directory_plan, ends_so, engine_by}
use Rattle.hc_abs_pass.specs.Passing.{follow_plan, force_plan, is_itself, left_plan, list_source, ruled_in}
use Rattle.hc_abs_pass.specs.Sections.{bare, of_slot}
use Rattle.hc_abs_pass.specs.Walks.{is_empty}
use Rattle.hc_abs_pass.proofs.Authorizing.{admitted_agrees}
use Rattle.hc_abs_segments.specs.Agreeing.{ground_of, is_last_pass, led}
use Rattle.hc_abs_segments.proofs.Directory.{behind_agrees, dir_round_like}
use Rattle.hc_abs_segments.proofs.Joining.{Agrees, agrees_saying}
use Rattle.hc_abs_segments.proofs.Leaving.{settled, stood_like}
use Rattle.hc_abs_segments.proofs.Names.{SamePass}

-- The slots have what a request has come to behind its walk.
pub record Walks (site : Site) (named : Named) (walk : Walk) (slots : Slot → List ℕ) (client : Addr) : Type 0 where
  pub file : slots Slot.Name ≡ walk.name
  pub info : slots Slot.Info ≡ walk.info
  pub query : slots Slot.Query ≡ named.pass.query
  pub end : slots Slot.End ≡ (if named.pass.end then codes "1" else [])
  pub path : slots Slot.Path ≡ named.pass.path
  pub method : slots Slot.Method ≡ site.caller.request.method
  pub request : slots Slot.Request ≡ request_line site.caller.request
  pub variables : (name : List ℕ) → slots (Slot.Env name) ≡ variable_set named.pass.vars name
  pub headers : (name : List ℕ) → slots (header_slot name) ≡ header_value site.caller.request.headers name
  pub caller : client ≡ site.caller.request.client

-- What ends so is a segment's end.
pub ends_agree : (site : Site) (pass : Pass) (round inner : ℕ) (require : Option ReqTree) (so_far : List Decision)
    (s : State) (left : Left) (own : Way Outcome Pass) (steps : Run Ended Cut) → Ends site s left own
    → steps.way ≡ led require own → decisions_in steps.events ≡ []
    → Agrees site pass round inner so_far (ended s (ends_so require so_far left)) steps
ends_agree site pass round inner require so_far s left own steps is way none = record {
  decided = sym (append-nil so_far) ∙ ap (λ own. so_far ++ own) (sym none);
  leads = (own, is, way);
}

module _ (site : Site) (pass : Pass) (round : ℕ) (here : Here) (same : SamePass pass here.named.pass) (shown : Shown)
    (levels : ℕ) (merges : Body → Bool) (names : List ℕ → Bool) (settings : Settings) (so_far : List Decision) where
  abbrev last : Bool
  last = is_last_pass site pass

  abbrev ground : Ground
  ground = ground_of site last shown levels merges names

  abbrev own : Settings
  own = settled site here shown settings

  abbrev Same : PlanRun Segment → Step Ended Cut → Type 0
  Same first step = Agrees site pass round 1 so_far first (run step shown)

  abbrev Here_met : State → Type 0
  Here_met s = Walks site here.named here.walk s.slots s.client

  last_is : is_last site here ≡ last
  last_is = ap (λ number. nat_le (most_passes site.config site.host) (number + 1)) same.number

  -- No rules run.
  stood : (s : State) → Here_met s
      → Same (plan_run (left_plan ground own so_far false) s) (in_directory site here None)
  unfolding in_directory
  stood s met =
      behind_agrees site here shown pass round 1 so_far (plan_run (left_plan ground own so_far false) s) None
      (stood_like site here shown last last_is levels merges names settings so_far s met.path
      met.query met.file met.info)

  stops : (s : State)
      → Same (plan_run (done (ends_so own.force.require so_far (status 403))) s)
      (ends (with_tree here.force.require (Status 403)))
  unfolding plan_run run
  stops s =
      ends_agree site pass round 1 here.force.require so_far s (status 403) (is_over (Status 403))
      (run (ends (with_tree here.force.require (Status 403))) shown) refl refl refl

  module _ (dir : List ℕ) (is_dir : here.force.dir ≡ Some dir) where
    begins : (s : State) → Here_met s
        → Same (plan_run (dir_begun ground own (engine_by ground own dir) so_far) s)
        (from_dir_round site here dir 1 (begun (state_in here)))
    unfolding plan_run
    begins s met =
        dir_round_like site here dir is_dir shown pass same.first last last_is levels merges names settings round 1
        (begun (state_in here)) (begun_with so_far false) (renaming s (list_source ground)) (record {
          meets = record {
            text = met.file;
            query = met.query;
            info = met.info;
            end = met.end;
            path = met.path;
            method = met.method;
            request = met.request;
            variables = met.variables;
            headers = met.headers;
            caller = met.caller;
          };
          name = met.file;
          once = same.once;
        }) refl

    follows : (s : State) → Here_met s
        → Same (plan_run (follow_plan ground own dir so_far) s) (in_directory site here (Some dir))
    unfolding in_directory
    follows s met = by here.force.follow
      where
        by : (follow : Bool)
            → Same (plan_run (elim follow [
              | true ↦ dir_begun ground own (engine_by ground own dir) so_far
              | false ↦ done (ends_so own.force.require so_far (status 403))
            ]) s)
            (if follow then from_dir_round site here dir 1 (begun (state_in here))
            else ends (with_tree here.force.require (Status 403)))
        by true = begins s met
        by false = stops s

    itself : (s : State) → Here_met s
        → Same (plan_run (of_slot Slot.Name (is_itself ground dir) (λ itself. elim itself [
          | true ↦ left_plan ground own so_far false
          | false ↦ follow_plan ground own dir so_far
        ])) s) (in_directory site here (unless_itself here.walk.name (Some dir)))
    unfolding plan_run
    itself s met =
        subst (λ is. Same (plan_run (elim is [
          | true ↦ left_plan ground own so_far false
          | false ↦ follow_plan ground own dir so_far
        ]) (bare s)) (in_directory site here (unless_itself here.walk.name (Some dir))))
        (sym (ap (is_itself ground dir) (append-nil (s.slots Slot.Name) ∙ met.file)))
        (by (is_itself ground dir here.walk.name))
      where
        by : (is : Bool) → Same (plan_run (elim is [
          | true ↦ left_plan ground own so_far false
          | false ↦ follow_plan ground own dir so_far
        ]) (bare s)) (in_directory site here (if is then None else Some dir))
        by true = stood (bare s) met
        by false = follows (bare s) met

    fresh : (s : State) → Here_met s
        → Same (plan_run (ruled_in ground own dir so_far) s)
        (in_directory site here (if not here.named.pass.end then unless_itself here.walk.name (Some dir) else None))
    unfolding plan_run
    fresh s met =
        subst (λ is. Same (plan_run (elim is [
          | true ↦ of_slot Slot.Name (is_itself ground dir) (λ itself. elim itself [
            | true ↦ left_plan ground own so_far false
            | false ↦ follow_plan ground own dir so_far
          ])
          | false ↦ left_plan ground own so_far false
        ]) (bare s))
        (in_directory site here (if not here.named.pass.end then unless_itself here.walk.name (Some dir) else None)))
        (sym (ap is_empty (append-nil (s.slots Slot.End) ∙ met.end) ∙ none here.named.pass.end))
        (by (not here.named.pass.end))
      where
        none : (end : Bool) → is_empty (if end then codes "1" else []) ≡ not end
        none true = refl
        none false = refl

        by : (is : Bool) → Same (plan_run (elim is [
          | true ↦ of_slot Slot.Name (is_itself ground dir) (λ itself. elim itself [
            | true ↦ left_plan ground own so_far false
            | false ↦ follow_plan ground own dir so_far
          ])
          | false ↦ left_plan ground own so_far false
        ]) (bare s)) (in_directory site here (if is then unless_itself here.walk.name (Some dir) else None))
        by true = itself (bare s) met
        by false = stood (bare s) met

  in_dir : (s : State) → Here_met s → (dir : Option (List ℕ)) → here.force.dir ≡ dir
      → Same (plan_run (directory_plan ground own so_far dir) s)
      (in_directory site here
      (if here.force.engine && not here.named.pass.end then unless_itself here.walk.name dir else None))
  in_dir s met None is_dir = by (here.force.engine && not here.named.pass.end)
    where
      by : (is : Bool) → Same (plan_run (left_plan ground own so_far false) s)
          (in_directory site here (if is then None else None))
      by true = stood s met
      by false = stood s met
  in_dir s met (Some dir) is_dir = by here.force.engine
    where
      by : (engine : Bool) → Same (plan_run (elim engine [
        | true ↦ ruled_in ground own dir so_far
        | false ↦ left_plan ground own so_far false
      ]) s) (in_directory site here
          (if engine && not here.named.pass.end then unless_itself here.walk.name (Some dir) else None))
      by true = fresh dir is_dir s met
      by false = stood s met

  -- Who may pass.
  pub forced : (s : State) → Here_met s → Same (plan_run (force_plan ground own so_far) s) (behind_sections site here)
  unfolding plan_run run behind_sections admitted admitted_by ending ◌>>=◌
  forced s met =
      let value = authorized site.caller here.force.require in
      subst (λ first. Same first (behind_sections site here))
      (sym (admitted_agrees Segment site.caller here.force.require (λ is. elim is [
        | true ↦ directory_plan ground own so_far own.force.dir
        | false ↦ done (ends_so own.force.require so_far (status 403))
      ]) s met.caller met.method))
      (agrees_saying site pass round 1 so_far (event.Auth value) _ _ refl (by (lets_in value)))
    where
      by : (is : Bool) → Same (plan_run (elim is [
        | true ↦ directory_plan ground own so_far own.force.dir
        | false ↦ done (ends_so own.force.require so_far (status 403))
      ]) s) (ending (with_tree here.force.require) (if is then leaves (tt {0}) else ends (Status 403))
          >>= λ unit. in_directory site here (ruling_dir here))
      by true = in_dir s met here.force.dir refl
      by false = stops s
