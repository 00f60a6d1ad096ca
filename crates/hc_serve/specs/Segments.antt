-- The way of a request in segments: from the beginning of a pass, from a further round of the server's list, or from
-- one of a directory's list, up to the next such point. Each has one round of one list at most.
-- Apache manual, mod_rewrite: RewriteRule ("Per-directory Rewrites"); "RewriteRule Flags": N.
use Rattle.std.specs.Prelude.{◌≡◌, ℕ, zero, suc, ◌+◌, List, if◌then◌else◌, Option, Some, None}
use Rattle.hc_include.specs.Ending.{ending}
use Rattle.hc_model.specs.declared.event.Event.TheVariants as event
use Rattle.hc_model.specs.declared.outcome.Outcome.{Outcome}
use Rattle.hc_model.specs.declared.outcome.Outcome.TheVariants.{Status}
use Rattle.hc_model.specs.declared.rewrite.Rule.{Rule}
use Rattle.hc_rw_eval.specs.Lists.{begun, from_place}
use Rattle.hc_rw_eval.specs.declared.attempt.Rewritten.{Rewritten}
use Rattle.hc_rw_eval.specs.declared.run.Finished.{Finished}
use Rattle.hc_rw_eval.specs.declared.run.NextRound.{NextRound}
use Rattle.hc_rw_eval.specs.declared.run.Round.{Round}
use Rattle.hc_rw_eval.specs.declared.run.Round.TheVariants.{Again, Over}
use Rattle.hc_rw_expand.specs.Contexts.{Context}
use Rattle.hc_rw_expand.specs.declared.state.RwState.{RwState}
use Rattle.hc_serve.specs.DirectoryRules.{context_in, ruling_dir, state_in}
use Rattle.hc_serve.specs.Passing.{admitted, finished, finished_there, followed_by, reached_from, told_pass, with_tree}
use Rattle.hc_serve.specs.Request.{passes}
use Rattle.hc_serve.specs.ServerRules.{context_at, engine_at, looks_of, maps_at, rules_at, state_at}
use Rattle.hc_serve.specs.Site.{Site}
use Rattle.hc_serve.specs.declared.admission.TheConstants.{FORBIDDEN}
use Rattle.hc_serve.specs.declared.stage.Ended.{Ended}
use Rattle.hc_serve.specs.declared.stage.Here.{Here}
use Rattle.hc_serve.specs.declared.stage.Pass.{Pass}
use Rattle.hc_serve.specs.declared.stage.Placed.{Placed}
use Rattle.hc_serve.specs.declared.stage.Placed.TheVariants as placed
use Rattle.hc_serve.specs.declared.stage.Restarted.{Restarted}
use Rattle.hc_steps.specs.Run.{run}
use Rattle.hc_steps.specs.Step.{Shown, Step, ends, leaves, told, ◌>>=◌}

-- Before a pass, and before a round behind the first, of the server's list or of the list of a directory.
pub data Cut : Type 0 where
  at_pass : Restarted → Cut
  server_round : Pass → ℕ → NextRound → Cut
  dir_round : Here → List ℕ → ℕ → NextRound → Cut

-- ---- a round

-- A further round is told.
unfoldable pub behind_round : (Finished → Step Ended Cut) → (ℕ → NextRound → Cut) → ℕ → Round
    → Step Ended Cut
behind_round over cut round (Over finished) = over finished
behind_round over cut round (Again next) = told (event.Round (round + 1)) (cut (round + 1) next)

-- A round of a list that ends so, and what follows where it is the last.
unfoldable pub one_round : (Outcome → Ended) → Site → Context → List Rule → (Finished → Step Ended Cut)
    → (ℕ → NextRound → Cut) → ℕ → Rewritten → Step Ended Cut
one_round end site context rules over cut round left =
    ending end (from_place context (looks_of (maps_at site)) round 0 rules left) >>= behind_round over cut round

-- ---- in a directory

unfoldable pub behind_directory : Site → Here → Option RwState → Step Ended Cut
behind_directory site here left =
    ending (with_tree here.force.require) (finished_there site here left)
    >>= λ pass. leaves (at_pass (followed_by here.force.require pass))

abbrev pub behind_dir_rules : Site → Here → Finished → Step Ended Cut
behind_dir_rules site here run = behind_directory site here (Some run.left.state)

unfoldable pub from_dir_round : Site → Here → List ℕ → ℕ → Rewritten → Step Ended Cut
from_dir_round site here dir round left =
    one_round (with_tree here.force.require) site (context_in site here dir) here.force.rules
    (behind_dir_rules site here) (dir_round here dir) round left

unfoldable pub in_directory : Site → Here → Option (List ℕ) → Step Ended Cut
in_directory site here None = behind_directory site here None
in_directory site here (Some dir) =
    if here.force.follow then from_dir_round site here dir 1 (begun (state_in here))
    else ends (with_tree here.force.require (Status FORBIDDEN))

unfoldable pub behind_sections : Site → Here → Step Ended Cut
behind_sections site here =
    ending (with_tree here.force.require) (admitted site here) >>= λ _. in_directory site here (ruling_dir here)

-- ---- in a server

unfoldable pub behind_server : Site → Placed → Step Ended Cut
behind_server site placed = ending (with_tree None) (reached_from site placed) >>= behind_sections site

unfoldable pub behind_server_rules : Site → Pass → Finished → Step Ended Cut
behind_server_rules site pass run = ending (with_tree None) (finished site pass run) >>= behind_server site

unfoldable pub from_server_round : Site → Pass → ℕ → Rewritten → Step Ended Cut
from_server_round site pass round left =
    one_round (with_tree None) site (context_at site pass) (rules_at site)
    (behind_server_rules site pass) (server_round pass) round left

unfoldable pub in_server : Site → Pass → Step Ended Cut
in_server site pass =
    if engine_at site then from_server_round site pass 1 (begun (state_at pass))
    else behind_server site (placed.Unnamed pass)

unfoldable pub from_pass : Site → Pass → Step Ended Cut
from_pass site pass = ending (with_tree None) (told_pass pass) >>= in_server site

-- ---- one after another

unfoldable pub segment : Site → Cut → Step Ended Cut
segment site (at_pass left) = from_pass site left.pass
segment site (server_round pass round next) = from_server_round site pass round next.left
segment site (dir_round here dir round next) = from_dir_round site here dir round next.left

-- So many, unless one ends the request.
unfoldable pub segments : ℕ → Site → Cut → Step Ended Cut
segments zero site cut = leaves cut
segments (suc more) site cut = segment site cut >>= segments more site

-- ---- a law

-- In each world, so many passes at most are some number of segments.
abbrev pub PassesAreSegments : Type 0
PassesAreSegments =
    (site : Site) (shown : Shown) (most : ℕ) (left : Restarted)
    → (count : ℕ)
    × (run (passes most site left >>= λ left. leaves (at_pass left)) shown
    ≡ run (segments count site (at_pass left)) shown)
