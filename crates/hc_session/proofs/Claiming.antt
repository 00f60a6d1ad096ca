-- What a claim is answered, step by step.
use Rattle.hc_session.proofs.Common.{◌≡◌, ℕ, ◌+◌, List, Option, Some, None, true, false, arith, refl, sym, ap, ◌∙◌}
use Rattle.hc_session.proofs.Common.{Bool, subst, inl, inr}
use Rattle.std.specs.Prelude.{◌||◌, IfOk, Ok, Err, Result}
use Rattle.std.specs.declared.alloc.AllocError.{AllocError as NoMemory}
use Rattle.hc_absolute.proofs.Built.{built_are_absolute}
use Rattle.hc_absolute.specs.Absolute.{AreAbsolute}
use Rattle.hc_abs_pass.proofs.Listable.{all_listed}
use Rattle.hc_abs_pass.specs.Walks.{IsListed}
use Rattle.hc_base.specs.declared.place.Refusal.{Refusal}
use Rattle.hc_ends.specs.Asking.{Site}
use Rattle.hc_ends.specs.Deciding as ends
use Rattle.hc_ends.specs.Holding as held
use Rattle.hc_ends.specs.declared.decided.DecidedEnds.{DecidedEnds}
use Rattle.hc_held.specs.Verdicts.{IsVerdict, Verdict}
use Rattle.hc_held.specs.Claims.{Answers, Asked, Decided, Holds, MayRun, Runs}
use Rattle.hc_claim_lines.specs.declared.lines.ClaimLines.{ClaimLines}
use Rattle.hc_held.proofs.Accepting.{verdicts_hold}
use Rattle.hc_include.specs.Flat.{flat_of}
use Rattle.hc_invariant.specs.declared.named.NamedCell.{NamedCell}
use Rattle.hc_json.specs.Claims.{ClaimForm, guarded, shadowed, stops}
use Rattle.hc_json.specs.CommandView.{scope_view}
use Rattle.hc_json.specs.Reply.{Reply}
use Rattle.hc_kept.specs.Site.{configuration}
use Rattle.hc_model.specs.World.{IsWorld, World}
use Rattle.hc_model.specs.declared.config.Config.{Config}
use Rattle.hc_scope.specs.declared.claim.Claim.{Claim}
use Rattle.hc_scope.specs.declared.claim.Claim.TheVariants as claim
use Rattle.hc_scope.specs.declared.claim.Scope.{Scope}
use Rattle.hc_stated.specs.CellViews.{cells_view}
use Rattle.hc_stated.specs.Cells.{AreCells, CellSets}
use Rattle.hc_stated.specs.Stated.{IsClaim, IsScope, Sets, bad_pattern}
use Rattle.hc_stated.specs.Views.{IsStated}
use Rattle.hc_stated.specs.declared.stated.Stated.{Stated}
use Rattle.hc_steps.specs.Shown.{shown_by}
use Rattle.hc_session.specs.Deciding.{IsAnswered, IsAsked, IsTried, Posed, SaysOfLine, SaysOfSets, SaysUnder, Tries}
use Rattle.hc_session.specs.Deciding.{decided_reply, has_line}
use Rattle.hc_session.specs.Ending.{CountsFollowed, SaysOfEnds, ends_reply, site_under}
use Rattle.hc_session.specs.Session.{Says}
use Rattle.hc_session.specs.Stating.{HasSets, chained_at, sets_of_ending}
use Rattle.hc_session.specs.Stating.{CountsTries, IsConfiguration, IsRead, Replies, asked_at, claim_in, has_line_in}
use Rattle.hc_session.specs.Stating.{posed_at, scope_in, sets_of_stating}
use Rattle.hc_session.specs.declared.deciding.Scene.{Scene}
use Rattle.hc_session.specs.declared.deciding.Stating.{Stating}
use Rattle.hc_session.specs.declared.ends.Ending.{Ending}
use Rattle.hc_session.specs.declared.stepped.Stepped.{Stepped}
use Rattle.hc_session.specs.declared.verifying.Verifying.{Verifying}
use Rattle.hc_session.specs.Verifying.{IsVerified, VerifiesLine, verdict_reply}

-- A configuration that files give has file paths that begin with a slash.
pub absolute : (config : Config) → IsConfiguration (Ok config) → AreAbsolute config
unfolding configuration
absolute config (world, main, is) = built_are_absolute (flat_of world main) config (sym is)

-- The line that the claim speaks of is that of its form.
pub line_of : (world : World) (lines : ClaimLines) (form : ClaimForm) (sets : Sets) (own : Claim)
    → IsClaim form sets.target own → has_line_in world lines own ≡ has_line world lines form
line_of world lines stops sets claim.Stops is = refl
line_of world lines (shadowed place) sets (claim.Shadowed own) is = ap (λ place. has_line world lines (shadowed place)) is
line_of world lines (guarded written by) sets (claim.Guarded set own) is =
    ap (λ place. has_line world lines (guarded written place)) is.1
line_of world lines stops sets (claim.Shadowed own) is = absurd is
line_of world lines stops sets (claim.Guarded set own) is = absurd is
line_of world lines (shadowed place) sets claim.Stops is = absurd is
line_of world lines (shadowed place) sets (claim.Guarded set own) is = absurd is
line_of world lines (guarded written by) sets claim.Stops is = absurd is
line_of world lines (guarded written by) sets (claim.Shadowed own) is = absurd is

-- The reply to a claim that was decided.
pub answered : (limit old new : ℕ) (asked : Asked) (decided : Decided) (stepped : Stepped)
    → Answers asked limit old new decided → Holds asked decided → Says (decided_reply decided) stepped
    → Replies (IsAnswered limit asked) stepped
answered limit old new asked decided stepped answers holds says = (
  decided_reply decided,
  record { answer = decided; spent = answers.0; is = answers.2; holds = holds; says = refl },
  says,
)

module _ (scene : Scene) (stating : Stating) (stated : Stated)
    (is : IsStated stating.claim stating.scope (sets_of_stating stating) stated) where
  -- What is asked is what was posed.
  asked_is : IsAsked (posed_at scene stating) scene.config.now (sets_of_stating stating) (asked_at scene stated)
  asked_is = record { world = refl; config = refl; claimed = is.claimed; within = is.asked }

  abbrev there : Bool
  there = has_line scene.world.now.files scene.lines.now (claim_in stating)

  pub says_there : (stepped : Stepped) → there ≡ true
      → Replies (IsAnswered scene.limit (asked_at scene stated)) stepped
      → Replies (SaysOfLine (posed_at scene stating) scene.config.now (sets_of_stating stating) there) stepped
  says_there stepped is_there (said, answers, says) =
      subst (λ there. Replies (SaysOfLine (posed_at scene stating) scene.config.now (sets_of_stating stating) there) stepped)
      (sym is_there) (said, (asked_at scene stated, asked_is, answers), says)

  pub tries_there : (before after : ℕ) → IsRead stating → Runs (asked_at scene stated) before after
      → CountsTries (posed_at scene stating) (Ok scene.config.now) before after
  tries_there before after read (spent, rises, may) = (
    spent,
    rises,
    inr (record {
      sets = sets_of_stating stating;
      are_sets = read;
      config = scene.config.now;
      is_built = refl;
      asked = asked_at scene stated;
      is = asked_is;
      may = may;
    }),
  )

pub tries_none : (posed : Posed) (built : Result Config Refusal) (count : ℕ) → CountsTries posed built count count
tries_none posed built count = (0, omega arith, inl refl)

-- ---- the claim that chains end

module _ (scene : Scene) (ending : Ending) (scope : Scope)
    (is : IsScope (scope_view ending.scope) (sets_of_ending ending) scope) where
  abbrev site : Site
  site = site_under (chained_at scene ending) scene.config.now

  pub ends_answered : (old new : ℕ) (decided : DecidedEnds) (stepped : Stepped)
      → ends.Answers site scope scene.limit old new decided → held.Holds site scope decided
      → Says (ends_reply decided) stepped
      → Replies (SaysOfEnds (chained_at scene ending) scene.config.now (sets_of_ending ending) None) stepped
  ends_answered old new decided stepped answers holds says = (
    ends_reply decided,
    (
      scope,
      is,
      record { answer = decided; spent = answers.0; is = answers.2; holds = holds; says = refl },
    ),
    says,
  )

  pub chains_followed : (before after : ℕ) → HasSets ending → ends.Runs site scope before after
      → CountsFollowed (chained_at scene ending) (Ok scene.config.now) before after
  chains_followed before after has (spent, rises, may) = (
    spent,
    rises,
    inr (record {
      sets = sets_of_ending ending;
      are_sets = has;
      config = scene.config.now;
      is_built = refl;
      scope = scope;
      is = is;
      may = may;
    }),
  )

-- ---- an invariant

-- The reply to one that was checked.
pub verified : (asked : Asked) (cells : List NamedCell) (verdict : Verdict) (stepped : Stepped)
    → AreAbsolute asked.config → IsWorld asked.world
    → ((levels : ℕ) → IsListed levels (shown_by asked.world) → IsVerdict asked cells levels verdict)
    → Says (verdict_reply verdict) stepped → Replies (IsVerified asked cells) stepped
verified asked cells verdict stepped absolute world is says = (
  verdict_reply verdict,
  record {
    verdict = verdict;
    is = is;
    holds = let listed = all_listed asked.world world in
        verdicts_hold asked cells 4098 verdict absolute listed (is 4098 listed);
    says = refl;
  },
  says,
)

module _ (scene : Scene) (verifying : Verifying) (stated : Stated)
    (is : IsStated (verifying.stating).claim (verifying.stating).scope (sets_of_stating verifying.stating) stated) where
  abbrev posing : Posed
  posing = posed_at scene verifying.stating

  abbrev sets : Sets
  sets = sets_of_stating verifying.stating

  abbrev own : List CellSets
  own = cells_view verifying.cells.now

  pub verifies_there : (cells : List NamedCell) (has : Bool) (stepped : Stepped) → has ≡ true → AreCells own cells
      → Replies (IsVerified (asked_at scene stated) cells) stepped
      → Replies (VerifiesLine posing sets own scene.config.now has) stepped
  verifies_there cells has stepped it_has are (said, verified, says) =
      subst (λ has. Replies (VerifiesLine posing sets own scene.config.now has) stepped) (sym it_has)
      (said, (asked_at scene stated, cells, asked_is scene verifying.stating stated is, are, verified), says)
