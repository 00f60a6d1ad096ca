-- A plan in which no pass may follow, beside the same one in which another pass may: they part where the limit ends the
-- one and another pass follows in the other.
use Rattle.hc_abs_again.proofs.Common.{◌≡◌, ◌⊎◌, inl, inr, ℕ, List, [], ◌∷◌, ◌++◌, Bool, true, false, ◌&&◌}
use Rattle.hc_abs_again.proofs.Common.{Option, Some, None, refl, sym, subst, State, PlanRun, ended, too_long, left_out}
use Rattle.hc_abs_again.proofs.Common.{in_hand, plan_then, plan_run, Plan, done, and_then, Slot, pick, Decision}
use Rattle.hc_abs_again.proofs.Common.{Outcome, Way, goes_on, is_over, Shown, Site}
use Rattle.hc_base.specs.Paths.{has_dots, has_double_slash, merge_slashes}
use Rattle.hc_merge.specs.Candidates.{Candidate}
use Rattle.hc_merge.specs.Order.{ordered_sections}
use Rattle.hc_merge.specs.Overriding.{Files_at}
use Rattle.hc_merge.specs.Settings.{merged}
use Rattle.hc_model.specs.declared.authorization.ReqTree.{ReqTree}
use Rattle.hc_model.specs.declared.mapping.PathTest.{PathTest}
use Rattle.hc_model.specs.declared.mapping.PathTest.TheVariants.{Prefix, Search}
use Rattle.hc_model.specs.declared.mapping.Redirect.{Redirect}
use Rattle.hc_model.specs.declared.outcome.LimitKind.TheVariants.{Redirects}
use Rattle.hc_model.specs.declared.outcome.Outcome.TheVariants as outcome
use Rattle.hc_model.specs.declared.outcome.Reason.TheVariants.{DotSegment}
use Rattle.hc_model.specs.declared.request.Caller.{Caller}
use Rattle.hc_model.specs.declared.section.Body.{Body}
use Rattle.hc_model.specs.declared.walk.Kind.{Kind}
use Rattle.hc_plan.proofs.Sequence.{runs_in_turn}
use Rattle.hc_plan.specs.Plan.{equal, from_hand, from_slot, make, take_up}
use Rattle.hc_plan.specs.Running.{answer, renaming, storing, tidied, with_groups}
use Rattle.hc_rw_expand.specs.Contexts.{Engine}
use Rattle.hc_serve.specs.ServerRules.{engine_at, rules_at}
use Rattle.hc_vhost.specs.Servers.{servers_of}
use Rattle.hc_ways.specs.Kept.{Held, first_match}
use Rattle.hc_abs_rw.specs.Lists.{Listed, SoFar, Stop, again, answered, list_plan}
use Rattle.hc_abs_rw.specs.Lists.{over as is_over_so}
use Rattle.hc_abs_rw.specs.Templates.{groups, main, slot_item}
unfoldable use Rattle.hc_abs_pass.specs.Authorizing.{admitted_plan}
use Rattle.hc_abs_pass.specs.Ends.{Left, found, limit, next_pass, outside, status}
unfoldable use Rattle.hc_abs_pass.specs.Mapping.{entries_plan}
use Rattle.hc_abs_pass.specs.Mapping.{Placing, named, over, redirects_plan, sent_away, taken}
use Rattle.hc_abs_pass.specs.Naming.{placed_plan, tidy_plan}
use Rattle.hc_abs_pass.specs.Passing.{Ground, Segment, Settings, begun_with, dir_begun, dir_left, dir_round}
use Rattle.hc_abs_pass.specs.Passing.{directory_plan, ends_so, engine_by, files_at, files_by, finished_so, follow_plan}
use Rattle.hc_abs_pass.specs.Passing.{force_plan, frame_by, is_itself, left_plan, list_source, name_plan, path_of}
use Rattle.hc_abs_pass.specs.Passing.{path_untied, placed_from, ruled, ruled_in, scene_with, sections_from, server_left}
use Rattle.hc_abs_pass.specs.Passing.{server_round, there_plan}
unfoldable use Rattle.hc_abs_pass.specs.Passing.{dir_round_plan, pass_plan, server_round_plan}
use Rattle.hc_abs_pass.specs.Restarting.{begun_again, pass_source, unless_last}
unfoldable use Rattle.hc_abs_pass.specs.Restarting.{restart_plan}
use Rattle.hc_abs_pass.specs.Sections.{bare, of_slot, sections_plan}
use Rattle.hc_abs_pass.specs.Walks.{WalkEnd, at_root, ends_in, is_empty, walk_plan}
use Rattle.hc_abs_segments.specs.Agreeing.{ground_of}

pub record IsCutOff (one other : PlanRun Segment) : Type 0 where
  pub state : State
  pub later : State
  pub require : Option ReqTree
  pub decisions : List Decision
  pub limited : one ≡ ended state (ends_so require decisions (limit Redirects))
  pub on : other ≡ ended later (ends_so require decisions next_pass)

abbrev pub Alike : PlanRun Segment → PlanRun Segment → Type 0
Alike one other = (one ≡ other) ⊎ IsCutOff one other

-- By whether the pass is the last one.
abbrev pub Lasts : (Bool → Plan Segment) → Type 0
Lasts plan = (s : State) → Alike (plan_run (plan true) s) (plan_run (plan false) s)

same_lasts : (plan : Plan Segment) → Lasts (λ last. plan)
same_lasts plan s = inl refl

either_lasts : (is : Bool) (one other : Bool → Plan Segment) → Lasts one → Lasts other
    → Lasts (λ last. elim is [ true ↦ one last | false ↦ other last ])
either_lasts true one other first rest = first
either_lasts false one other first rest = rest

then_lasts : {A : Type 0} (first : Plan A) (next : Bool → A → Plan Segment)
    → ((end : A) → Lasts (λ last. next last end)) → Lasts (λ last. and_then first (next last))
then_lasts {A} first next each s =
    subst (λ one. Alike one (plan_run (and_then first (next false)) s)) (sym (runs_in_turn (next true) first s))
    (subst (Alike (plan_then (plan_run first s) (λ end s. plan_run (next true end) s)))
    (sym (runs_in_turn (next false) first s)) (by (plan_run first s)))
  where
    by : (came : PlanRun A)
        → Alike (plan_then came (λ end s. plan_run (next true end) s))
        (plan_then came (λ end s. plan_run (next false end) s))
    by (ended s end) = each end s
    by too_long = inl refl
    by left_out = inl refl

slot_lasts : (slot : Slot) (set : List ℕ → Bool) (plan : Bool → Bool → Plan Segment)
    → ((is : Bool) → Lasts (λ last. plan last is)) → Lasts (λ last. of_slot slot set (plan last))
unfolding plan_run
slot_lasts slot set plan each s = each (set (s.slots slot ++ [])) (bare s)

admitted_lasts : (caller : Caller) (require : Option ReqTree) (plan : Bool → Bool → Plan Segment)
    → ((is : Bool) → Lasts (λ last. plan last is)) → Lasts (λ last. admitted_plan caller require (plan last))
unfolding plan_run admitted_plan
admitted_lasts caller None plan each s = each true s
admitted_lasts caller (Some tree) plan each s = each _ s

tidy_lasts : (give : Left → Segment) (plan : Bool → Plan Segment) → Lasts plan
    → Lasts (λ last. tidy_plan give (plan last))
unfolding plan_run
tidy_lasts give plan each s =
    let text = tidied has_double_slash merge_slashes (pick s.texts main) in
    either_lasts (has_dots text) (λ last. done (give (outside DotSegment))) plan
    (same_lasts (done (give (outside DotSegment)))) each (in_hand s main text)

taken_lasts : (from : PathTest) (plan : Bool → Bool → Plan Segment) → ((is : Bool) → Lasts (λ last. plan last is))
    → Lasts (λ last. taken from (plan last))
unfolding plan_run
taken_lasts (Prefix from) plan each s = each _ s
taken_lasts (Search pattern) plan each s = by (first_match (pick s.texts main) pattern)
  where
    by : (own : Option Held)
        → Alike (elim own [
          | Some holds ↦ plan_run (plan true true) (with_groups s groups (pick s.texts main) holds)
          | None ↦ plan_run (plan true false) s
        ]) (elim own [
          | Some holds ↦ plan_run (plan false true) (with_groups s groups (pick s.texts main) holds)
          | None ↦ plan_run (plan false false) s
        ])
    by (Some holds) = each true (with_groups s groups (pick s.texts main) holds)
    by None = each false s

redirects_last : (give : Left → Segment) (redirects : List Redirect) (plan : Bool → Plan Segment) → Lasts plan
    → Lasts (λ last. redirects_plan give redirects (plan last))
unfolding plan_run entries_plan
redirects_last give [] plan each s = each s
redirects_last give (redirect ∷ redirects) plan each s =
    taken_lasts redirect.from (λ last is. elim is [
      | true ↦ sent_away give redirect
      | false ↦ redirects_plan give redirects (plan last)
    ])
    (λ is. either_lasts is (λ last. sent_away give redirect) (λ last. redirects_plan give redirects (plan last))
    (same_lasts (sent_away give redirect)) (redirects_last give redirects plan each))
    (in_hand s main (s.slots Slot.Path ++ []))

module _ (site : Site) (shown : Shown) (levels : ℕ) (merges : Body → Bool) (names : List ℕ → Bool) where
  abbrev pub ground : Bool → Ground
  ground last = ground_of site last shown levels merges names

  -- ---- behind the rules of a directory

  module _ (kind : Kind) (placed : List ℕ → List ℕ) (require : Option ReqTree) (decisions : List Decision) where
    abbrev give : Left → Plan Segment
    give left = done (ends_so require decisions left)

    unless_alike : (dots : Bool) (s : State)
        → Alike (plan_run (and_then (elim dots [
          | true ↦ done (outside DotSegment)
          | false ↦ unless_last true names
        ]) give) s) (plan_run (and_then (elim dots [
          | true ↦ done (outside DotSegment)
          | false ↦ unless_last false names
        ]) give) s)
    unfolding plan_run and_then
    unless_alike true s = inl refl
    unless_alike false s = inr (record {
      state = s;
      later = renaming (storing s ((Slot.Path, from_hand main) ∷ [])) pass_source;
      require = require;
      decisions = decisions;
      limited = refl;
      on = refl;
    })

    restart_lasts : Lasts (λ last. and_then (restart_plan kind last placed names) give)
    unfolding plan_run and_then restart_plan
    restart_lasts s = by (answer (equal Slot.Text Slot.Name) s)
      where
        path : List ℕ
        path = placed (s.slots Slot.Text ++ [])

        tidy_path : List ℕ
        tidy_path = tidied has_double_slash merge_slashes path

        by : (same : Bool)
            → Alike (plan_run (and_then (elim same [
              | true ↦ done (found kind)
              | false ↦ take_up main (slot_item Slot.Text ∷ [])
                  (make main (λ text also. placed text) main main (begun_again true names))
            ]) give) s) (plan_run (and_then (elim same [
              | true ↦ done (found kind)
              | false ↦ take_up main (slot_item Slot.Text ∷ [])
                  (make main (λ text also. placed text) main main (begun_again false names))
            ]) give) s)
        by true = inl refl
        by false =
            unless_alike (has_dots tidy_path)
            (in_hand (in_hand (in_hand s main (s.slots Slot.Text ++ [])) main path) main tidy_path)

  left_lasts : (settings : Settings) (decisions : List Decision) (ran : Bool)
      → Lasts (λ last. left_plan (ground last) settings decisions ran)
  left_lasts settings decisions ran =
      let require = settings.force.require in
      let kind = (settings.end).kind in
      let went : Bool → Plan Segment = λ last.
      and_then (restart_plan kind last (path_of (ground last) settings) names)
      (λ left. done (ends_so require decisions left)) in
      let stays : Bool → Plan Segment = λ last. done (ends_so require decisions (found kind)) in
      redirects_last (ends_so require decisions) settings.force.redirects
      (λ last. elim ran [ true ↦ went last | false ↦ stays last ]) (either_lasts ran went stays
      (restart_lasts kind (path_of (ground true) settings) require decisions)
      (same_lasts (done (ends_so require decisions (found kind)))))

  untied_lasts : (is : Bool) (plan : Bool → Plan Segment) → Lasts plan
      → Lasts (λ last. path_untied (ground last) is (plan last))
  unfolding plan_run
  untied_lasts true plan each s = each (renaming s from_slot)
  untied_lasts false plan each s = each s

  dir_left_lasts : (settings : Settings) (listed : Listed) → Lasts (λ last. dir_left (ground last) settings listed)
  dir_left_lasts settings listed = by listed.stop
    where
      by : (stop : Stop) → Lasts (λ last. elim stop [
        | is_over_so passed ↦
            path_untied (ground last) (passed && listed.left.substituted)
            (left_plan (ground last) settings listed.left.decisions true)
        | again rule ↦
            done (finished_so settings.force.require listed.left.decisions (dir_round settings rule listed.left))
        | answered next ↦ done (finished_so settings.force.require listed.left.decisions (ruled next))
      ])
      by (is_over_so passed) =
          untied_lasts (passed && listed.left.substituted)
          (λ last. left_plan (ground last) settings listed.left.decisions true)
          (left_lasts settings listed.left.decisions true)
      by (again rule) = λ s. inl refl
      by (answered next) = λ s. inl refl

  pub dir_round_lasts : (settings : Settings) (engine : Engine) (so_far : SoFar)
      → Lasts (λ last. dir_round_plan (ground last) settings engine so_far)
  unfolding dir_round_plan
  dir_round_lasts settings engine so_far =
      then_lasts (list_plan (frame_by (ground true) (Some engine)) 0 settings.force.rules so_far)
      (λ last. dir_left (ground last) settings) (dir_left_lasts settings)

  module _ (settings : Settings) (decisions : List Decision) where
    abbrev stood : Bool → Plan Segment
    stood last = left_plan (ground last) settings decisions false

    abbrev forbidden : Bool → Plan Segment
    forbidden last = done (ends_so settings.force.require decisions (status 403))

    stood_lasts : Lasts stood
    stood_lasts = left_lasts settings decisions false

    begun_lasts : (engine : Engine) → Lasts (λ last. dir_begun (ground last) settings engine decisions)
    unfolding plan_run
    begun_lasts engine s =
        dir_round_lasts settings engine (begun_with decisions false) (renaming s (list_source (ground true)))

    follow_lasts : (dir : List ℕ) → Lasts (λ last. follow_plan (ground last) settings dir decisions)
    follow_lasts dir =
        let engine = engine_by (ground true) settings dir in
        either_lasts settings.force.follow (λ last. dir_begun (ground last) settings engine decisions) forbidden
        (begun_lasts engine) (same_lasts (forbidden true))

    ruled_lasts : (dir : List ℕ) → Lasts (λ last. ruled_in (ground last) settings dir decisions)
    ruled_lasts dir =
        let follow = λ (last : Bool). follow_plan (ground last) settings dir decisions in
        let itself : Bool → Bool → Plan Segment = λ last is. elim is [ true ↦ stood last | false ↦ follow last ] in
        let by_name : Bool → Plan Segment = λ last. of_slot Slot.Name (is_itself (ground true) dir) (itself last) in
        slot_lasts Slot.End is_empty (λ last fresh. elim fresh [ true ↦ by_name last | false ↦ stood last ])
        (λ fresh. either_lasts fresh by_name stood
        (slot_lasts Slot.Name (is_itself (ground true) dir) itself
        (λ is. either_lasts is stood follow stood_lasts (follow_lasts dir))) stood_lasts)

    directory_lasts : (dir : Option (List ℕ)) → Lasts (λ last. directory_plan (ground last) settings decisions dir)
    directory_lasts None = stood_lasts
    directory_lasts (Some dir) =
        either_lasts settings.force.engine (λ last. ruled_in (ground last) settings dir decisions) stood
        (ruled_lasts dir) stood_lasts

    force_lasts : Lasts (λ last. force_plan (ground last) settings decisions)
    force_lasts =
        let in_dir = λ (last : Bool). directory_plan (ground last) settings decisions settings.force.dir in
        admitted_lasts (ground true).site.caller settings.force.require
        (λ last is. elim is [ true ↦ in_dir last | false ↦ forbidden last ])
        (λ is. either_lasts is in_dir forbidden (directory_lasts settings.force.dir) (same_lasts (forbidden true)))

  -- ---- up to what is in force

  module _ (decisions : List Decision) where
    abbrev sections : Bool → Bool → WalkEnd → Files_at → Plan Segment
    sections last = sections_from (ground last) (scene_with (ground last) (slot_item Slot.Query))
        (λ settings. force_plan (ground last) settings decisions)

    sections_last : (aliased : Bool) (end : WalkEnd) (files : Files_at)
        → Lasts (λ last. sections last aliased end files)
    sections_last aliased end files =
        let settings : List Candidate → Settings = λ kept.
        record { force = merged site.config site.host kept; aliased = aliased; end = end } in
        then_lasts (sections_plan merges (scene_with (ground true) (slot_item Slot.Query)) [] [] []
        (ordered_sections site.config site.host files end.dirs))
        (λ last kept. force_plan (ground last) (settings kept) decisions)
        (λ kept. force_lasts (settings kept) decisions)

    abbrev refuse : Left → Plan Segment
    refuse left = done (ends_so None decisions left)

    there_lasts : (aliased : Bool) (end : WalkEnd) → Lasts (λ last. there_plan (ground last) aliased decisions end)
    there_lasts aliased end = by (files_at (ground true) end)
      where
        by : (way : Way Outcome Files_at)
            → Lasts (λ last. files_by (ground last) (sections last aliased end) refuse way)
        by (goes_on files) = sections_last aliased end files
        by (is_over (outcome.HtRefused refusal)) = λ s. inl refl
        by (is_over other) = λ s. inl refl

    name_lasts : (placing : Placing) → Lasts (λ last. name_plan (ground last) decisions placing)
    name_lasts (over left) = same_lasts (refuse left)
    name_lasts (named aliased) =
        let walk = walk_plan (ends_in levels shown at_root) in
        tidy_lasts (ends_so None decisions)
        (λ last. and_then walk (there_plan (ground last) aliased decisions))
        (then_lasts walk (λ last. there_plan (ground last) aliased decisions) (there_lasts aliased))

    placed_lasts : (substituted passed : Bool)
        → Lasts (λ last. placed_from (ground last) decisions substituted passed)
    placed_lasts substituted passed =
        then_lasts (placed_plan shown (servers_of site.config site.host) substituted passed)
        (λ last. name_plan (ground last) decisions) name_lasts

  -- ---- the rules of the server

  server_left_lasts : (listed : Listed) → Lasts (λ last. server_left (ground last) listed)
  server_left_lasts listed = by listed.stop
    where
      by : (stop : Stop) → Lasts (λ last. elim stop [
        | is_over_so passed ↦ placed_from (ground last) listed.left.decisions listed.left.substituted passed
        | again rule ↦ done (finished_so None listed.left.decisions (server_round rule listed.left))
        | answered next ↦ done (finished_so None listed.left.decisions (ruled next))
      ])
      by (is_over_so passed) = placed_lasts listed.left.decisions listed.left.substituted passed
      by (again rule) = λ s. inl refl
      by (answered next) = λ s. inl refl

  pub server_round_lasts : (so_far : SoFar) → Lasts (λ last. server_round_plan (ground last) so_far)
  unfolding server_round_plan
  server_round_lasts so_far =
      then_lasts (list_plan (frame_by (ground true) None) 0 (rules_at site) so_far) (λ last. server_left (ground last))
      server_left_lasts

  pub pass_lasts : Lasts (λ last. pass_plan (ground last))
  unfolding pass_plan
  pass_lasts =
      either_lasts (engine_at site) (λ last. server_round_plan (ground last) (begun_with [] false))
      (λ last. placed_from (ground last) [] false false) (server_round_lasts (begun_with [] false))
      (placed_lasts [] false false)
