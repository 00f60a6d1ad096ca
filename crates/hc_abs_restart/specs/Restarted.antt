-- The branches of a restart, as code has them.
use Rattle.std.specs.Prelude.{◌≡◌, ℕ, List, Bool, Option, None, Some, option_map}
use Rattle.std.specs.List.{list_any}
use Rattle.std.specs.Str.{bytes_eq}
use Rattle.hc_addr.specs.declared.addr.Addr.{Addr}
use Rattle.hc_plan.specs.Branches.{Branch, no_text}
use Rattle.hc_plan.specs.Coded.{AreBranches}
use Rattle.hc_plan.specs.States.{AbsState}
use Rattle.hc_plan.specs.Texts.{all_three}
use Rattle.hc_plan.specs.declared.storing.Tied.{Tied}
use Rattle.hc_rw_eval.specs.Directories.{url_path}
use Rattle.hc_rw_expand.specs.Contexts.{Engine, engine_of}
use Rattle.hc_abs_pass.specs.Ends.{EndsAt, Left, left_of, next_pass}
use Rattle.hc_abs_pass.specs.Restarting.{restart_plan}
use Rattle.hc_abs_restart.specs.declared.restart.Restart.{Restart}
use Rattle.hc_abs_restart.specs.declared.restart.Restarted.{Restarted}

-- The URL path that a text stands for in the rules of a directory.
abbrev pub placed_by : Option (List ℕ) → Option Engine → List ℕ → List ℕ
placed_by root None text = text
placed_by root (Some engine) text = url_path root engine text

abbrev pub is_among : List (List ℕ) → List ℕ → Bool
is_among names name = list_any (bytes_eq name) names

-- Where a pass follows, no text is in hand.
abbrev pub PutDown : Left → AbsState → Type 0
PutDown next_pass state = state.texts ≡ all_three no_text
PutDown other state = Unit {0}

pub record RestartedFits (client : Option Addr) (restarted : Restarted) (branch : Branch Left) : Type 0 where
  pub at : EndsAt client restarted.tied branch.0
  pub left : branch.1 ≡ left_of restarted.left
  pub texts : PutDown branch.1 branch.0

-- These are the branches behind the rules of a directory that have run.
abbrev pub AreRestarted : Restart → Tied → List Restarted → Type 0
AreRestarted restart before found = (client : Option Addr) (state : AbsState) → EndsAt client before state
    → AreBranches (RestartedFits client)
    (restart_plan restart.kind restart.last
    (placed_by (option_map (λ root. root.now) restart.root) (option_map engine_of restart.engine))
    (is_among restart.names.now)) state found
