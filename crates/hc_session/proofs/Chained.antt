-- How the requests of a chain are asked one after another.
use Rattle.std.proofs.Common.{◌≡◌, ◌∙◌, ◌≤◌, ◌+◌, ℕ, List, ◌∷◌, length, Bool, true, false, refl, sym, ap, subst}
use Rattle.std.proofs.Common.{arith}
use Rattle.std.specs.Prelude.{if◌then◌else◌}
use Rattle.hc_follow.specs.Chains.{AreSteps, Halts}
use Rattle.hc_follow.specs.Next.{next_request}
use Rattle.hc_follow.specs.declared.chain.TheConstants.{MOST_STEPS}
use Rattle.hc_follow.specs.declared.next.Stop.{Stop}
use Rattle.hc_follow.specs.declared.origin.Origin.{Origin}
use Rattle.hc_model.specs.World.{World}
use Rattle.hc_model.specs.declared.config.Config.{Config}
use Rattle.hc_model.specs.declared.request.Request.{Request}
use Rattle.hc_serve.specs.Request.{IsAnswer}
use Rattle.hc_serve.specs.declared.answer.Answer.{Answer}
use Rattle.hc_session.specs.Asking.{answer_of, asked, evaluated, is_kept, served}
use Rattle.hc_session.specs.Following.{IsFollowed, asked_all}
use Rattle.hc_session.specs.Sound.{IsAskedIn}
use Rattle.hc_session.specs.State.{State}

-- What one request more leaves.
pub record IsAskedMore (mid new : State) : Type 0 where
  pub stays : IsAskedIn mid new
  pub asks : new.asks ≡ mid.asks + 1
  pub evaluations : new.evaluations ≤ mid.evaluations + 1

asked_by : (mid : State) (request : Request) (answer : Answer) (kept : Bool) (new : State)
    → new ≡ (if kept then served mid else evaluated mid request answer)
    → IsAskedMore mid new
asked_by mid request answer true new is = subst (IsAskedMore mid) (sym is)
    (record { stays = refl; asks = refl; evaluations = omega arith })
asked_by mid request answer false new is = subst (IsAskedMore mid) (sym is)
    (record { stays = refl; asks = refl; evaluations = omega arith })

pub asked_more : (mid new : State) (request : Request) (answer : Answer) → new ≡ asked mid request answer
    → IsAskedMore mid new
asked_more mid new request answer is = asked_by mid request answer (is_kept mid request) new is

-- One whose answer isn't kept is evaluated.
pub asked_anew : (mid new : State) (request given : Request) (answer made : Answer) → is_kept mid request ≡ false
    → given ≡ request → made ≡ answer → new ≡ evaluated mid given made → new ≡ asked mid request answer
asked_anew mid new request given answer made isnt same is_made is =
    is ∙ (λ i. evaluated mid (same i) (is_made i))
    ∙ ap (λ (kept : Bool). if kept then served mid else evaluated mid request answer) (sym isnt)

pub asked_still : (old mid new : State) → IsAskedIn old mid → IsAskedIn mid new → IsAskedIn old new
asked_still old mid new first next =
    next ∙ (λ i. record (first i) { kept = new.kept; asks = new.asks; evaluations = new.evaluations })

pub is_answer : (world : World) (config : Config) (request : Request) (answer : Answer)
    → answer ≡ answer_of world config request → IsAnswer world config request answer
is_answer world config request answer is = record {
  outcome = ap (λ (a : Answer). a.outcome) is;
  events = ap (λ (a : Answer). a.events) is;
  trail = ap (λ (a : Answer). a.trail) is;
  reads = ap (λ (a : Answer). a.reads) is;
}

module _ (old mid new : State) (config : Config) (hosts : List Origin) (first at : Request)
    (before : List Request) (stays : IsAskedIn old mid) (so_far : mid ≡ asked_all config old before) where
  pub same_world : (mid.world).files ≡ (old.world).files
  same_world = ap (λ (state : State). (state.world).files) stays

  pub all_asked : new ≡ asked mid at (answer_of (mid.world).files config at)
      → new ≡ asked_all config old (at ∷ before)
  all_asked is = is ∙ (λ i. asked (so_far i) at (answer_of (same_world i) config at))

  -- The chain that comes to its end here.
  pub chain_ends : (steps : ℕ) (last : Answer) (stop : Stop)
      → AreSteps (old.world).files config hosts first before at → length before ≡ steps → steps ≤ MOST_STEPS
      → new ≡ asked mid at (answer_of (mid.world).files config at) → last ≡ answer_of (mid.world).files config at
      → Halts (old.world).files config hosts steps (next_request hosts at last.outcome) stop
      → IsFollowed old config hosts first (record { steps = steps; last = last; stop = stop }) new
  chain_ends steps last stop are count few is answer halts = record {
    is = record {
      before = before;
      at = at;
      steps = are;
      count = count;
      few = few;
      last = is_answer (old.world).files config at last (answer ∙ ap (λ world. answer_of world config at) same_world);
      halts = halts;
    };
    leaves = all_asked is;
  }
