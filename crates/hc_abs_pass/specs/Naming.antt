-- What a pass goes on with behind the rules of the server, and how a file name is prepared for the walk.
-- Apache manual, mod_rewrite; "Mapping URLs to Filesystem Locations". What is outside is our own choice.
use Rattle.std.specs.Prelude.{◌≡◌, List, [], ◌∷◌, Bool, true, false, Option, None, Some}
use Rattle.hc_alias.specs.Mapping.{root_of}
use Rattle.hc_base.specs.Paths.{begins_with_slash, has_dots, has_double_slash, merge_slashes}
use Rattle.hc_dfa.specs.Texts.{TextSet}
use Rattle.hc_model.specs.declared.config.Server.{Server}
use Rattle.hc_model.specs.declared.outcome.Reason.TheVariants.{DotSegment}
use Rattle.hc_model.specs.declared.read.Read.TheVariants.{KindOf}
use Rattle.hc_model.specs.declared.request.Caller.{Caller}
use Rattle.hc_plan.specs.Branches.{others}
use Rattle.hc_plan.specs.Plan.{Plan, done, from_hand, store, take_up, test, tidy}
use Rattle.hc_plan.specs.Slots.{Slot}
use Rattle.hc_serve.specs.ServerRules.{first_component, is_there}
use Rattle.hc_steps.specs.Step.{Path, Shown}
use Rattle.hc_abs_rw.specs.Templates.{main, slot_item}
use Rattle.hc_abs_pass.specs.Ends.{Left, outside, status}
use Rattle.hc_model.specs.declared.event.Decision.{Decision}
use Rattle.hc_model.specs.declared.outcome.Outcome.{Outcome}
use Rattle.hc_model.specs.declared.outcome.Outcome.TheVariants as outcome
use Rattle.hc_plan.specs.Running.{State, run}
use Rattle.hc_plan.specs.Texts.{pick}
use Rattle.hc_rw_eval.specs.declared.run.Finished.{Finished}
use Rattle.hc_serve.specs.DirectoryRules.{is_aliased}
use Rattle.hc_serve.specs.Passing.{finished, name_of}
use Rattle.hc_serve.specs.ServerRules.{context_at}
use Rattle.hc_serve.specs.Site.{Site}
use Rattle.hc_steps.specs.Run as steps
use Rattle.hc_steps.specs.Run.{Way, goes_on, is_over}
use Rattle.hc_steps.specs.Step.{◌>>=◌}
use Rattle.hc_vhost.specs.Servers.{servers_of}
use Rattle.hc_abs_rw.specs.Frames.{common}
use Rattle.hc_abs_rw.specs.Standing.{Like, Meets}
use Rattle.hc_abs_pass.specs.Ends.{MeetsOn, SentBy, sent}
use Rattle.hc_serve.specs.declared.stage.Named.{Named}
use Rattle.hc_serve.specs.declared.stage.Pass.{Pass}
use Rattle.hc_abs_pass.specs.Mapping.{Placing, map_plan, named, over, under_root_plan}

abbrev pub there : Shown → Option Path → Bool
there shown None = false
there shown (Some path) = is_there (shown (KindOf path))

-- The first component of the text names something that exists.
abbrev pub first_exists : Shown → TextSet
first_exists shown text = there shown (first_component text)

-- The slashes of the text in hand are merged, and a segment of dots is outside.
abbrev pub tidy_plan : {A : Type 0} → (Left → A) → Plan A → Plan A
tidy_plan ended plan = tidy main has_double_slash merge_slashes (test main has_dots (λ dots. elim dots [
  | true ↦ done (ended (outside DotSegment))
  | false ↦ plan
]))

module _ (shown : Shown) (servers : List Server) where
  -- With PT the text is a URL path; else a file name, or what stands under the document root.
  abbrev pub text_plan : Bool → Plan Placing
  text_plan true =
      take_up main (slot_item Slot.Text ∷ [])
      (tidy_plan over (store ((Slot.Path, from_hand main) ∷ []) (map_plan servers)))
  text_plan false =
      take_up main (slot_item Slot.Text ∷ []) (test main (first_exists shown) (λ own. elim own [
        | true ↦ done (named true)
        | false ↦ under_root_plan (root_of servers) Slot.Text
      ]))

  unfoldable pub placed_plan : Bool → Bool → Plan Placing
  placed_plan false passed = map_plan servers
  placed_plan true passed =
      take_up main (slot_item Slot.Text ∷ []) (test main (others begins_with_slash) (λ relative. elim relative [
        | true ↦ done (over (status 400))
        | false ↦ text_plan passed
      ]))

-- ---- agreement

-- The file name is in hand and the slots have what the pass has come to; or the pass has ended.
abbrev pub NamedLike : Site → State → Placing → Way Outcome Named → List Decision → Type 0
NamedLike site state (named own) way decisions = (decisions ≡ []) × (next : Named) × (way ≡ goes_on next)
    × (pick state.texts main ≡ next.name) × (is_aliased next ≡ own) × MeetsOn site next.pass state
NamedLike site state (over (status number)) way decisions =
    (decisions ≡ []) × (way ≡ is_over (outcome.Status number))
NamedLike site state (over (outside reason)) way decisions =
    (decisions ≡ []) × (way ≡ is_over (outcome.Outside reason))
NamedLike site state (over (sent redirect)) way decisions = (decisions ≡ []) × (own : Outcome) × (way ≡ is_over own)
    × SentBy site.caller state redirect own
NamedLike site state (over other) way decisions = ⊥

-- Behind the run of the server's rules.
abbrev pub NamingAgrees : Type 0
NamingAgrees = (site : Site) (pass : Pass) (finished_run : Finished) (shown : Shown) (state : State)
    → Meets (context_at site pass) finished_run.left.state state
    → Like (NamedLike site)
    (run (placed_plan shown (servers_of site.config site.host) finished_run.left.substituted finished_run.passed) state)
    (steps.run (finished site pass finished_run >>= name_of site) shown)
