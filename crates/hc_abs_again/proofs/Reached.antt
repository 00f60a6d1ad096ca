-- Each segment that leads to a further round of a directory's list went through the steps that find what is in force.
use Rattle.hc_abs_again.proofs.Common.{◌≡◌, ℕ, ◌+◌, List, Bool, true, false, not, ◌&&◌, if◌then◌else◌, Option}
use Rattle.hc_abs_again.proofs.Common.{Some, None, refl, subst, RwState, Outcome, goes_on, run, Shown, Step}
use Rattle.hc_abs_again.proofs.Common.{leaves, ends, ◌>>=◌, ending, Site, Here, Pass}
use Rattle.std.specs.Str.{bytes_eq}
use Rattle.hc_base.specs.Paths.{ends_with_slash}
use Rattle.hc_model.specs.declared.outcome.Outcome.TheVariants.{Status}
use Rattle.hc_model.specs.declared.rewrite.Rule.{Rule}
use Rattle.hc_plan.specs.Texts.{any, of_bytes}
use Rattle.hc_rw_eval.specs.Lists.{begun, from_place}
use Rattle.hc_rw_eval.specs.declared.attempt.Rewritten.{Rewritten}
use Rattle.hc_rw_eval.specs.declared.run.Finished.{Finished}
use Rattle.hc_rw_eval.specs.declared.run.NextRound.{NextRound}
use Rattle.hc_rw_eval.specs.declared.run.Round.{Round}
use Rattle.hc_rw_eval.specs.declared.run.Round.TheVariants.{Again, Over}
use Rattle.hc_rw_expand.specs.Contexts.{Context}
use Rattle.hc_serve.specs.DirectoryRules.{context_in, ruling_dir, state_in, unless_itself}
unfoldable use Rattle.hc_serve.specs.Passing.{finished, told_pass}
use Rattle.hc_serve.specs.Passing.{admitted, finished_there, followed_by, reached_from, with_tree}
unfoldable use Rattle.hc_serve.specs.Segments.{behind_directory, behind_round, behind_sections, behind_server}
unfoldable use Rattle.hc_serve.specs.Segments.{behind_server_rules, from_dir_round, from_pass, from_server_round}
unfoldable use Rattle.hc_serve.specs.Segments.{in_directory, in_server, one_round, segment}
use Rattle.hc_serve.specs.Segments.{Cut, at_pass, behind_dir_rules, dir_round, server_round}
use Rattle.hc_serve.specs.ServerRules.{context_at, engine_at, looks_of, maps_at, rules_at, state_at}
use Rattle.hc_serve.specs.declared.stage.Ended.{Ended}
use Rattle.hc_serve.specs.declared.stage.Placed.TheVariants as placed
use Rattle.hc_abs_segments.proofs.Joining.{parted}
use Rattle.hc_abs_segments.proofs.Once.{Gives}
use Rattle.hc_abs_again.specs.Arriving.{BeginsBytes, LeavesBytes, SegmentsReach, WasReached}
use Rattle.hc_abs_again.proofs.Coming.{Comes, comes_ending, comes_so}
use Rattle.hc_abs_again.proofs.Leading.{here_comes}

module _ (site : Site) (shown : Shown) where
  abbrev Reaches : Step Ended Cut → Type 0
  Reaches step = Comes shown (WasReached site shown) step

  either_reaches : (is : Bool) (one other : Step Ended Cut) → Reaches one → Reaches other
      → Reaches (if is then one else other)
  either_reaches true one other first rest = first
  either_reaches false one other first rest = rest

  -- What ends, and what leads to another pass.
  none_reached : (step : Step Ended Cut) → Gives (WasReached site shown) step → Reaches step
  none_reached step gives = comes_so shown (WasReached site shown) step gives

  round_reaches : (end : Outcome → Ended) (context : Context) (rules : List Rule)
      (over : Finished → Step Ended Cut) (cut : ℕ → NextRound → Cut) (round : ℕ) (left : Rewritten)
      → ((finished : Finished)
      → (run (from_place context (looks_of (maps_at site)) round 0 rules left) shown).way ≡ goes_on (Over finished)
      → Reaches (over finished))
      → ((round : ℕ) (next : NextRound) → WasReached site shown (cut round next))
      → Reaches (one_round end site context rules over cut round left)
  unfolding one_round behind_round
  round_reaches end context rules over cut round left each again =
      comes_ending shown (WasReached site shown) end (from_place context (looks_of (maps_at site)) round 0 rules left)
      (behind_round over cut round) by
    where
      by : (came : Round)
          → (run (from_place context (looks_of (maps_at site)) round 0 rules left) shown).way ≡ goes_on came
          → Reaches (behind_round over cut round came)
      by (Over finished) is = each finished is
      by (Again next) is = none_reached (behind_round over cut round (Again next)) (again (round + 1) next)

  -- ---- in a directory

  directory_reaches : (here : Here) (left : Option RwState) → Reaches (behind_directory site here left)
  unfolding behind_directory
  directory_reaches here left =
      comes_ending shown (WasReached site shown) (with_tree here.force.require) (finished_there site here left) _
      (λ pass is. none_reached (leaves (at_pass (followed_by here.force.require pass))) tt)

  dir_round_reaches : (here : Here) (dir : List ℕ)
      → ((round : ℕ) (next : NextRound) → WasReached site shown (dir_round here dir round next))
      → (round : ℕ) (left : Rewritten) → Reaches (from_dir_round site here dir round left)
  unfolding from_dir_round
  dir_round_reaches here dir reached round left =
      round_reaches (with_tree here.force.require) (context_in site here dir) here.force.rules
      (behind_dir_rules site here) (dir_round here dir) round left
      (λ run is. directory_reaches here (Some run.left.state)) reached

  -- The list is that of the directory in force.
  ruling_is : (here : Here) (dir : List ℕ) → ruling_dir here ≡ Some dir → here.force.dir ≡ Some dir
  ruling_is here dir = by (here.force.engine && not here.named.pass.end) here.force.dir
    where
      itself : (is : Bool) (own : List ℕ) → (if is then None else Some own) ≡ Some dir → Some own ≡ Some dir
      itself true own same = absurd (let none = same in cc)
      itself false own same = same

      by : (runs : Bool) (own : Option (List ℕ))
          → (if runs then unless_itself here.walk.name own else None) ≡ Some dir → own ≡ Some dir
      by true None same = same
      by true (Some own) same = itself (bytes_eq here.walk.name own && not (ends_with_slash here.walk.name)) own same
      by false own same = absurd (let none = same in cc)

  module _ (pass : Pass) (left : Finished) (bytes : of_bytes any left.left.state.query ≡ true) where
    reached_here : (here : Here) (dir : List ℕ) → here.force.dir ≡ Some dir
        → (run (finished site pass left >>= reached_from site) shown).way ≡ goes_on here
        → (round : ℕ) (next : NextRound) → WasReached site shown (dir_round here dir round next)
    reached_here here dir is_dir is round next = (
      is_dir,
      (here_comes site shown (λ query. of_bytes any query ≡ true) pass left bytes here is).query,
      pass,
      left,
      is,
    )

    sections_reach : (here : Here) → (run (finished site pass left >>= reached_from site) shown).way ≡ goes_on here
        → Reaches (behind_sections site here)
    unfolding behind_sections in_directory
    sections_reach here is =
        comes_ending shown (WasReached site shown) (with_tree here.force.require) (admitted site here) _
        (λ unit is_in. by (ruling_dir here) refl)
      where
        by : (dir : Option (List ℕ)) → ruling_dir here ≡ dir → Reaches (in_directory site here dir)
        by None rules = directory_reaches here None
        by (Some dir) rules =
            either_reaches here.force.follow (from_dir_round site here dir 1 (begun (state_in here)))
            (ends (with_tree here.force.require (Status 403)))
            (dir_round_reaches here dir (reached_here here dir (ruling_is here dir rules) is) 1 (begun (state_in here)))
            (none_reached (ends (with_tree here.force.require (Status 403))) tt)

    -- ---- in the server

    rules_reach : Reaches (behind_server_rules site pass left)
    unfolding behind_server_rules behind_server
    rules_reach =
        subst Reaches
        (parted (with_tree None) (finished site pass left) (reached_from site) (behind_sections site))
        (comes_ending shown (WasReached site shown) (with_tree None) (finished site pass left >>= reached_from site)
        (behind_sections site) sections_reach)

  server_round_reaches : (pass : Pass) (round : ℕ) (before : Rewritten) → LeavesBytes site shown pass round before
      → Reaches (from_server_round site pass round before)
  unfolding from_server_round
  server_round_reaches pass round before bytes =
      round_reaches (with_tree None) (context_at site pass) (rules_at site) (behind_server_rules site pass)
      (server_round pass) round before (λ left is. rules_reach pass left (bytes left is)) (λ round next. tt)

  -- Without rules.
  off_reaches : (pass : Pass) → of_bytes any pass.query ≡ true → Reaches (behind_server site (placed.Unnamed pass))
  unfolding behind_server_rules finished ending ◌>>=◌
  off_reaches pass bytes = rules_reach pass (record { left = begun (state_at pass); passed = false }) bytes

  pass_reaches : (pass : Pass) → BeginsBytes (engine_at site) site shown pass → Reaches (from_pass site pass)
  unfolding from_pass told_pass in_server ending ◌>>=◌ run
  pass_reaches pass bytes = by (engine_at site) bytes
    where
      by : (engine : Bool) → BeginsBytes engine site shown pass
          → Reaches (if engine then from_server_round site pass 1 (begun (state_at pass))
          else behind_server site (placed.Unnamed pass))
      by true bytes = server_round_reaches pass 1 (begun (state_at pass)) bytes
      by false bytes = off_reaches pass bytes

pub segments_reach : SegmentsReach
unfolding segment
segments_reach site (at_pass left) next shown was bytes is = pass_reaches site shown left.pass bytes next is
segments_reach site (server_round pass round own) next shown was bytes is =
    server_round_reaches site shown pass round own.left bytes next is
segments_reach site (dir_round here dir round own) next shown was bytes is =
    dir_round_reaches site shown here dir (λ round next. was) round own.left next is
