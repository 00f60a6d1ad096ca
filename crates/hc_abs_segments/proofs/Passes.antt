-- No pass is left over.
use Rattle.hc_abs_segments.proofs.Common.{◌≡◌, ◌∙◌, ℕ, zero, suc, ◌+◌, false, refl, sym, ap}
use Rattle.hc_abs_segments.proofs.Common.{arith, leaves, ending, ◌>>=◌}
use Rattle.std.proofs.Common.{None, nat_le}
use Rattle.std.proofs.lemmas.Bool.Decides.{nat_tests}
use Rattle.hc_model.specs.declared.config.Config.{Config}
use Rattle.hc_model.specs.declared.request.Request.{Request}
unfoldable use Rattle.hc_serve.specs.Passing.{passed, passed_from, passed_there, reached, rewritten, rules_run, told_pass}
use Rattle.hc_serve.specs.Passing.{admitted, finished, finished_there, reached_from, rewritten_there, with_tree}
unfoldable use Rattle.hc_serve.specs.Request.{first_pass, host_of, host_told, opened, passes, passes_at, passes_of, way}
use Rattle.hc_serve.specs.Site.{Site, most_passes, site_at}
use Rattle.hc_serve.specs.ServerRules.{engine_at}
use Rattle.hc_serve.specs.declared.stage.Here.{Here}
use Rattle.hc_serve.specs.declared.stage.Pass.{Pass}
use Rattle.hc_serve.specs.declared.stage.Placed.TheVariants as placed
use Rattle.hc_serve.specs.declared.stage.Restarted.{Restarted}
use Rattle.hc_target.specs.Targets.{read}
use Rattle.hc_target.specs.declared.target.TargetRead.{TargetRead}
use Rattle.hc_target.specs.declared.target.TargetRead.TheVariants as target
use Rattle.hc_abs_segments.specs.Counting.{NoneIsLeft}
use Rattle.hc_abs_segments.proofs.Counting.{HereCounts, IsNext, PlacedCounts, finished_gives, gives_behind, gives_ending}
use Rattle.hc_abs_segments.proofs.Counting.{next_gives, reached_gives}
use Rattle.hc_abs_segments.proofs.Once.{Gives, gives_either, gives_run, gives_then}

-- Another one is allowed, and has the next number.
record IsAllowed (site : Site) (pass : Pass) (left : Restarted) : Type 0 where
  number : left.pass.number ≡ pass.number + 1
  allowed : nat_le (most_passes site.config site.host) (pass.number + 1) ≡ false

abbrev Never : {A : Type 0} → A → Type 0
Never left = ⊥

module _ (site : Site) (pass : Pass) where
  placed_gives : Gives (PlacedCounts site pass) (rewritten site pass)
  unfolding rewritten rules_run
  placed_gives =
      gives_either (PlacedCounts site pass) (engine_at site) _ (leaves (placed.Unnamed pass))
      (gives_behind (PlacedCounts site pass) _ (finished site pass) (finished_gives site pass)) (refl, refl)

  here_gives : Gives (HereCounts site pass) (reached site pass)
  unfolding reached told_pass ◌>>=◌
  here_gives =
      gives_then (PlacedCounts site pass) (HereCounts site pass) (rewritten site pass) (reached_from site) placed_gives
      (reached_gives site pass)

  behind_gives : (here : Here) → HereCounts site pass here → Gives (IsAllowed site pass) (passed_from site here)
  unfolding passed_from passed_there
  behind_gives here same =
      gives_then (IsNext site here) (IsAllowed site pass) (ending (with_tree here.force.require) _) _
      (gives_ending (with_tree here.force.require) (IsNext site here) _
      (gives_behind (IsNext site here) (admitted site here) _
      (λ unit. gives_behind (IsNext site here) (rewritten_there site here) (finished_there site here)
      (next_gives site here))))
      (λ next is. record {
        number = is.number ∙ ap (λ number. number + 1) same.0;
        allowed =
            ap (λ number. nat_le (most_passes site.config site.host) (number + 1)) (sym same.0) ∙ is.allowed;
      })

  pass_gives : Gives (IsAllowed site pass) (passed site pass)
  unfolding passed
  pass_gives =
      gives_then (HereCounts site pass) (IsAllowed site pass) (ending (with_tree None) (reached site pass))
      (passed_from site) (gives_ending (with_tree None) (HereCounts site pass) (reached site pass) here_gives)
      behind_gives

-- As many as are left of those that the limit allows.
none_gives : (site : Site) (count : ℕ) (left : Restarted)
    → left.pass.number + count ≡ most_passes site.config site.host
    → nat_le (most_passes site.config site.host) left.pass.number ≡ false → Gives Never (passes count site left)
unfolding passes
none_gives site zero left all below = grind (arith, nat_tests, all, below)
none_gives site (suc count) left all below =
    gives_then (IsAllowed site left.pass) Never (passed site left.pass) (passes count site) (pass_gives site left.pass)
    (λ next is. none_gives site count next (omega (arith, is.number, all))
    (ap (nat_le (most_passes site.config site.host)) is.number ∙ is.allowed))

-- ---- the whole way

abbrev IsFirst : Pass → Type 0
IsFirst pass = pass.number ≡ 0

first_gives : (to : TargetRead) → Gives IsFirst (first_pass to)
unfolding first_pass
first_gives target.Bad400 = tt
first_gives target.Miss404 = tt
first_gives target.PathByte = tt
first_gives (target.Path path query) = refl

-- What is known where passes begin, by what takes it.
abbrev In : {A B : Type 0} → (A → B) → Type 0
In {A} {B} take = A

abbrev Begins : (config : Config) (request : Request) → In (passes_of config request) → Type 0
Begins config request own = IsFirst own.pass

opened_gives : (config : Config) (request : Request) → Gives (Begins config request) (opened config request)
unfolding opened
opened_gives config request =
    gives_behind (Begins config request) (host_of config request) _
    (λ host. gives_then IsFirst (Begins config request) (first_pass (read request.target)) _
    (first_gives (read request.target)) (λ pass is. is))

above_none : (rest number : ℕ) → number ≡ 0 → nat_le (1 + rest) number ≡ false
above_none rest number is = grind (arith, nat_tests, is)

way_gives : (config : Config) (request : Request) → Gives Never (way config request)
unfolding way passes_of passes_at
way_gives config request =
    gives_then (Begins config request) Never (ending (with_tree None) (opened config request))
    (passes_of config request)
    (gives_ending (with_tree None) (Begins config request) (opened config request) (opened_gives config request))
    (λ own is. none_gives (site_at config own.host request) (most_passes config own.host) _ (omega (arith, is))
    (above_none _ own.pass.number is))

pub none_is_left : NoneIsLeft
none_is_left config request shown left is =
    gives_run Never (way config request) (way_gives config request) shown left is
