-- Segments count passes.
use Rattle.hc_abs_segments.proofs.Common.{◌≡◌, ◌∙◌, ℕ, ◌+◌, List, [], ◌∷◌, Bool, true, false, if◌then◌else◌}
use Rattle.hc_abs_segments.proofs.Common.{Option, Some, None, refl, ap, Event, Outcome, RwState}
use Rattle.hc_abs_segments.proofs.Common.{run, Step, leaves, ends, say, look, ◌>>=◌, ending}
use Rattle.hc_alias.specs.Mapping.{map_url, under_root}
use Rattle.hc_alias.specs.declared.mapping.Mapped.{Mapped}
use Rattle.hc_alias.specs.declared.mapping.Mapped.TheVariants as mapped
use Rattle.hc_base.specs.Paths.{begins_with_slash, has_dots, merge_slashes}
use Rattle.hc_merge.specs.Overriding.{wanted_by}
use Rattle.hc_model.specs.declared.event.Event.TheVariants as event
use Rattle.hc_model.specs.declared.outcome.LimitKind.TheVariants.{Redirects}
use Rattle.hc_model.specs.declared.outcome.Outcome.TheVariants.{Limit, Outside, Status}
use Rattle.hc_model.specs.declared.outcome.Reason.TheVariants.{DotSegment}
use Rattle.std.specs.Str.{bytes_eq}
use Rattle.hc_serve.specs.Passing.{outcome_at}
use Rattle.hc_model.specs.declared.rewrite.Rule.{Rule}
use Rattle.hc_rw_eval.specs.Lists.{begun, from_place}
use Rattle.hc_rw_eval.specs.declared.attempt.Rewritten.{Rewritten}
use Rattle.hc_rw_eval.specs.declared.run.Finished.{Finished}
use Rattle.hc_rw_eval.specs.declared.run.NextRound.{NextRound}
use Rattle.hc_rw_eval.specs.declared.run.Round.{Round}
use Rattle.hc_rw_eval.specs.declared.run.Round.TheVariants.{Again, Over}
use Rattle.hc_rw_expand.specs.Contexts.{Context}
use Rattle.hc_serve.specs.DirectoryRules.{context_in, is_last, next_pass, path_for, root_at, ruling_dir, state_in}
unfoldable use Rattle.hc_serve.specs.Passing.{absolute_left, answered, answered_by, exists, finished, finished_there}
unfoldable use Rattle.hc_serve.specs.Passing.{in_force, mapped_at, merged, name_left, name_of, named, path_left}
unfoldable use Rattle.hc_serve.specs.Passing.{path_without_dots, reached_from, redirected, restarted, restarted_at}
unfoldable use Rattle.hc_serve.specs.Passing.{seen_there, sections_told, text_left, told_pass, walked, without_dots}
use Rattle.hc_serve.specs.Passing.{admitted, files_looked, force_at, sent_there, told_each, with_force, with_tree}
unfoldable use Rattle.hc_serve.specs.Segments.{behind_directory, behind_round, behind_sections, behind_server}
unfoldable use Rattle.hc_serve.specs.Segments.{behind_server_rules, from_dir_round, from_pass, from_server_round}
unfoldable use Rattle.hc_serve.specs.Segments.{in_directory, in_server, one_round, segment}
use Rattle.hc_serve.specs.Segments.{Cut, at_pass, behind_dir_rules, dir_round, server_round}
use Rattle.hc_serve.specs.ServerRules.{context_at, engine_at, first_component, looks_of, maps_at, pass_with, rules_at}
use Rattle.hc_serve.specs.ServerRules.{state_at}
use Rattle.hc_serve.specs.Site.{Site}
use Rattle.hc_serve.specs.declared.stage.Ended.{Ended}
use Rattle.hc_serve.specs.declared.stage.Here.{Here}
use Rattle.hc_serve.specs.declared.stage.Named.{Named}
use Rattle.hc_serve.specs.declared.stage.Pass.{Pass}
use Rattle.hc_serve.specs.declared.stage.Placed.{Placed}
use Rattle.hc_serve.specs.declared.stage.Placed.TheVariants as placed
use Rattle.hc_serve.specs.declared.stage.Walked.{Walked}
use Rattle.hc_steps.specs.Step.{told}
use Rattle.hc_steps.specs.Walking.{walk as followed}
use Rattle.hc_abs_segments.specs.Counting.{Follows, SegmentsCount}
use Rattle.hc_abs_segments.proofs.Once.{Any, Gives, gives_any, gives_either, gives_run, gives_then}

pub gives_ending : {E F A : Type 0} (end : E → F) (P : A → Type 0) (step : Step E A) → Gives P step
    → Gives P (ending end step)
unfolding ending
gives_ending end P (leaves left) is = is
gives_ending end P (ends with) is = tt
gives_ending end P (say event rest) is = gives_ending end P rest is
gives_ending end P (look read rest) is = λ shown. gives_ending end P (rest shown) (is shown)

-- What is said of no value of the first step holds behind it.
pub gives_behind : {E A B : Type 0} (Q : B → Type 0) (step : Step E A) (next : A → Step E B)
    → ((left : A) → Gives Q (next left)) → Gives Q (step >>= next)
gives_behind Q step next each = gives_then Any Q step next (gives_any step) (λ left any. each left)

told_gives : (P : Here → Type 0) (events : List Event) (here : Here) → P here
    → Gives {E = Outcome} P (told_each events here)
told_gives P [] here is = is
told_gives P (event ∷ events) here is = told_gives P events here is

round_gives : (P : Cut → Type 0) (end : Outcome → Ended) (site : Site) (context : Context) (rules : List Rule)
    (over : Finished → Step Ended Cut) (cut : ℕ → NextRound → Cut) (round : ℕ) (left : Rewritten)
    → ((finished : Finished) → Gives P (over finished)) → ((round : ℕ) (next : NextRound) → P (cut round next))
    → Gives P (one_round end site context rules over cut round left)
unfolding one_round behind_round
round_gives P end site context rules over cut round left each again =
    gives_behind P (ending end (from_place context (looks_of (maps_at site)) round 0 rules left))
    (behind_round over cut round) by
  where
    by : (came : Round) → Gives P (behind_round over cut round came)
    by (Over finished) = each finished
    by (Again next) = again (round + 1) next

-- ---- behind the rules of a directory

-- The limit allows the pass that follows.
pub record IsNext (site : Site) (here : Here) (next : Pass) : Type 0 where
  pub number : next.number ≡ here.named.pass.number + 1
  pub allowed : is_last site here ≡ false

restart_gives : (site : Site) (here : Here) (state : RwState) (path : List ℕ)
    → Gives (IsNext site here) (restarted_at site here state path)
unfolding restarted_at
restart_gives site here state path =
    gives_either (IsNext site here) (has_dots path) (ends (Outside DotSegment))
    (if is_last site here then ends (Limit Redirects) else told (event.Restart path) (next_pass here state path)) tt
    (by (is_last site here) refl)
  where
    by : (is : Bool) → is_last site here ≡ is → Gives (IsNext site here)
        (if is then ends (Limit Redirects) else told (event.Restart path) (next_pass here state path))
    by true is = tt
    by false is = record { number = refl; allowed = is }

answer_gives : (site : Site) (here : Here) (left : Option RwState) → Gives (IsNext site here) (answered site here left)
unfolding answered answered_by restarted redirected
answer_gives site here None = tt
answer_gives site here (Some state) =
    gives_either (IsNext site here) (bytes_eq state.text here.walk.name)
    (ends (outcome_at here.walk.kind here.walk.name state.info)) (restarted site here state) tt
    (restart_gives site here state (merge_slashes (path_for site here here.force.dir state.text)))

pub next_gives : (site : Site) (here : Here) (left : Option RwState)
    → Gives (IsNext site here) (finished_there site here left)
unfolding finished_there
next_gives site here left =
    gives_behind (IsNext site here) (sent_there site here left) (λ unit. answered site here left)
    (λ unit. answer_gives site here left)

module _ (site : Site) (pass : Pass) where
  abbrev pub SameCount : Pass → Type 0
  SameCount own = (own.number ≡ pass.number) × (own.first_query ≡ pass.first_query)

  abbrev pub HereCounts : Here → Type 0
  HereCounts here = SameCount here.named.pass

  directory_gives : (here : Here) → HereCounts here → (left : Option RwState)
      → Gives (Follows pass) (behind_directory site here left)
  unfolding behind_directory
  directory_gives here same left =
      gives_then (IsNext site here) (Follows pass)
      (ending (with_tree here.force.require) (finished_there site here left)) _
      (gives_ending (with_tree here.force.require) (IsNext site here) (finished_there site here left)
      (next_gives site here left))
      (λ next is. is.number ∙ ap (λ number. number + 1) same.0)

  dir_round_gives : (here : Here) → HereCounts here → (dir : List ℕ) (round : ℕ) (left : Rewritten)
      → Gives (Follows pass) (from_dir_round site here dir round left)
  unfolding from_dir_round
  dir_round_gives here same dir round left =
      round_gives (Follows pass) (with_tree here.force.require) site (context_in site here dir) here.force.rules
      (behind_dir_rules site here) (dir_round here dir) round left
      (λ run. directory_gives here same (Some run.left.state)) (λ round next. same)

  in_dir_gives : (here : Here) → HereCounts here → (dir : Option (List ℕ))
      → Gives (Follows pass) (in_directory site here dir)
  unfolding in_directory
  in_dir_gives here same None = directory_gives here same None
  in_dir_gives here same (Some dir) =
      gives_either (Follows pass) here.force.follow (from_dir_round site here dir 1 (begun (state_in here)))
      (ends (with_tree here.force.require (Status 403))) (dir_round_gives here same dir 1 (begun (state_in here))) tt

  sections_give : (here : Here) → HereCounts here → Gives (Follows pass) (behind_sections site here)
  unfolding behind_sections
  sections_give here same =
      gives_behind (Follows pass) (ending (with_tree here.force.require) (admitted site here)) _
      (λ unit. in_dir_gives here same (ruling_dir here))

  -- ---- behind the rules of the server

  abbrev pub NamedCounts : Named → Type 0
  NamedCounts own = SameCount own.pass

  abbrev pub PlacedCounts : Placed → Type 0
  PlacedCounts (placed.Unnamed own) = SameCount own
  PlacedCounts (placed.Named own) = NamedCounts own

  named_gives : (own : Pass) → SameCount own → (to : Mapped) → Gives NamedCounts (named own to)
  unfolding named
  named_gives own same (mapped.Name name from) = same
  named_gives own same (mapped.Away away) = tt
  named_gives own same mapped.NoRoot = tt

  name_gives : (own : Placed) → PlacedCounts own → Gives NamedCounts (name_of site own)
  unfolding name_of mapped_at
  name_gives (placed.Unnamed own) is =
      named_gives own is (map_url site.config site.host own.path own.query site.caller)
  name_gives (placed.Named own) is = is

  there_gives : (own : Walked) → SameCount own.named.pass → Gives HereCounts (in_force site own)
  unfolding in_force sections_told ◌>>=◌
  there_gives own same =
      gives_behind HereCounts (files_looked site.config (wanted_by site.config site.host own.walk.dirs)) _
      (λ files.
      told_gives HereCounts (force_at site own files).sections (with_force own (force_at site own files)) same)

  walked_gives : (own : Named) → NamedCounts own → Gives (λ (there : Walked). SameCount there.named.pass) (walked own)
  unfolding walked seen_there
  walked_gives own same =
      gives_behind (λ (there : Walked). SameCount there.named.pass) (followed own.name) (seen_there own) (λ walk. same)

  merged_gives : (own : Named) → NamedCounts own → Gives NamedCounts (merged own)
  unfolding merged without_dots
  merged_gives own same = gives_either NamedCounts (has_dots (merge_slashes own.name)) _ _ tt same

  pub reached_gives : (own : Placed) → PlacedCounts own → Gives HereCounts (reached_from site own)
  unfolding reached_from
  reached_gives own is =
      gives_then NamedCounts HereCounts (name_of site own) _ (name_gives own is)
      (λ named same. gives_then NamedCounts HereCounts (merged named) _ (merged_gives named same)
      (λ named same. gives_then (λ (there : Walked). SameCount there.named.pass) HereCounts (walked named) _
      (walked_gives named same) there_gives))

  server_gives : (own : Placed) → PlacedCounts own → Gives (Follows pass) (behind_server site own)
  unfolding behind_server
  server_gives own is =
      gives_then HereCounts (Follows pass) (ending (with_tree None) (reached_from site own)) (behind_sections site)
      (gives_ending (with_tree None) HereCounts (reached_from site own) (reached_gives own is)) sections_give

  left_gives : (own : Pass) → SameCount own → (text : List ℕ) (is : Bool)
      → Gives PlacedCounts (name_left site own text is)
  unfolding name_left
  left_gives own same text true = same
  left_gives own same text false =
      gives_then NamedCounts PlacedCounts (named own (under_root (root_at site) text)) _
      (named_gives own same (under_root (root_at site) text)) (λ name is. is)

  pub finished_gives : (run : Finished) → Gives PlacedCounts (finished site pass run)
  unfolding finished text_left absolute_left path_left path_without_dots
  finished_gives run =
      let own = pass_with pass run.left.state in
      let text = run.left.state.text in
      gives_either PlacedCounts run.left.substituted _ (leaves (placed.Unnamed own))
      (gives_either PlacedCounts (begins_with_slash text) _ _
      (gives_either PlacedCounts run.passed _ _
      (gives_either PlacedCounts (has_dots (merge_slashes text)) _
      (leaves (placed.Unnamed (record own { path = merge_slashes text }))) tt (refl, refl))
      (gives_behind PlacedCounts (exists (first_component text)) (name_left site own text)
      (left_gives own (refl, refl) text))) tt)
      (refl, refl)

  rules_give : (run : Finished) → Gives (Follows pass) (behind_server_rules site pass run)
  unfolding behind_server_rules
  rules_give run =
      gives_then PlacedCounts (Follows pass) (ending (with_tree None) (finished site pass run)) (behind_server site)
      (gives_ending (with_tree None) PlacedCounts (finished site pass run) (finished_gives run)) server_gives

  server_round_gives : (round : ℕ) (left : Rewritten) → Gives (Follows pass) (from_server_round site pass round left)
  unfolding from_server_round
  server_round_gives round left =
      round_gives (Follows pass) (with_tree None) site (context_at site pass) (rules_at site)
      (behind_server_rules site pass) (server_round pass) round left rules_give (λ round next. refl)

  pass_gives : Gives (Follows pass) (from_pass site pass)
  unfolding from_pass told_pass in_server ending ◌>>=◌
  pass_gives =
      gives_either (Follows pass) (engine_at site) (from_server_round site pass 1 (begun (state_at pass)))
      (behind_server site (placed.Unnamed pass)) (server_round_gives 1 (begun (state_at pass)))
      (server_gives (placed.Unnamed pass) (refl, refl))

pub segments_count : SegmentsCount
unfolding segment
segments_count site (at_pass left) next shown is =
    gives_run (Follows left.pass) (from_pass site left.pass) (pass_gives site left.pass) shown next is
segments_count site (server_round pass round own) next shown is =
    gives_run (Follows pass) (from_server_round site pass round own.left) (server_round_gives site pass round own.left)
    shown next is
segments_count site (dir_round here dir round own) next shown is =
    gives_run (Follows here.named.pass) (from_dir_round site here dir round own.left)
    (dir_round_gives site here.named.pass here (refl, refl) dir round own.left) shown next is
