-- Where the branches of the server's list have queries of bytes, a round of it leaves one.
use Rattle.hc_abs_again.proofs.Common.{◌≡◌, ◌∙◌, inl, inr, ℕ, List, [], ◌∷◌, Bool, true, false, ◌||◌, if◌then◌else◌}
use Rattle.hc_abs_again.proofs.Common.{refl, sym, ap, subst, State, PlanRun, ended, too_long, left_out, plan_run}
use Rattle.hc_abs_again.proofs.Common.{Plan, Slot, Outcome, Way, goes_on, Run, run, Shown, leaves, ends, Site}
use Rattle.hc_abs_again.proofs.Common.{Pass}
use Rattle.std.specs.Prelude.{nat_le}
use Rattle.std.specs.List.{AllByRecursion}
use Rattle.hc_model.specs.declared.outcome.LimitKind.TheVariants.{Rounds}
use Rattle.hc_model.specs.declared.outcome.Outcome.TheVariants.{Limit}
use Rattle.hc_model.specs.declared.rewrite.Rule.{Rule}
use Rattle.hc_model.specs.declared.section.Body.{Body}
use Rattle.hc_plan.proofs.Covering.{covered}
use Rattle.hc_plan.specs.Branches.{Branch}
use Rattle.hc_plan.specs.Cover.{Among, Covers}
use Rattle.hc_plan.specs.States.{AbsState}
use Rattle.hc_plan.specs.Texts.{any, of_bytes}
unfoldable use Rattle.hc_rw_eval.specs.Lists.{begun_again}
use Rattle.hc_rw_eval.specs.Lists.{begun, from_place, next_by}
use Rattle.hc_rw_eval.specs.declared.attempt.Rewritten.{Rewritten}
use Rattle.hc_rw_eval.specs.declared.run.Finished.{Finished}
use Rattle.hc_rw_eval.specs.declared.run.Round.{Round}
use Rattle.hc_rw_eval.specs.declared.run.Round.TheVariants.{Again, Over}
use Rattle.hc_serve.specs.Segments.{at_pass, dir_round, server_round}
use Rattle.hc_serve.specs.ServerRules.{context_at, engine_at, looks_of, maps_at, rules_at, state_at}
use Rattle.hc_abs_rw.specs.Frames.{frame_of}
use Rattle.hc_abs_rw.specs.Lists.{Listed, SoFar, Stop, again, answered, list_plan, over}
use Rattle.hc_abs_rw.specs.Standing.{Like, ListLike, Meets, StopsLike}
use Rattle.hc_abs_rw.specs.Substitutions.{goes_on as on, outside, redirect, status}
use Rattle.hc_abs_rw.proofs.Lists.{list_like}
use Rattle.hc_abs_pass.specs.Passing.{begun_with}
use Rattle.hc_abs_segments.specs.Agreeing.{ground_of}
use Rattle.hc_abs_again.specs.Arriving.{BeginsBytes, LeavesBytes, marked}
use Rattle.hc_abs_again.specs.Bytes.{BranchesSeeBytes, HasBytes, ServerHasBytes}
use Rattle.hc_abs_again.proofs.Marked.{list_behind, list_runs}

all_at : {B : Type 0} (P : B → Type 0) (xs : List B) (x : B) → AllByRecursion P xs → Among x xs → P x
all_at P [] x all among = absurd among
all_at P (y ∷ xs) x all (inl same) = subst P (sym same) all.0
all_at P (y ∷ xs) x all (inr among) = all_at P xs x all.1 among

over_is : (one other : Finished) → ◌≡◌ {A = Way Outcome Round} (goes_on (Over one)) (goes_on (Over other)) → one ≡ other
over_is one other same = let e = same in cc

module _ (site : Site) (pass : Pass) (shown : Shown) (levels : ℕ) (merges : Body → Bool) (names : List ℕ → Bool)
    (round : ℕ) (before : Rewritten) (s : State) (meets : Meets (context_at site pass) before.state s)
    (known : AbsState) (covers : Covers known s)
    (bytes : ServerHasBytes (ground_of site false shown levels merges names) known) where
  abbrev so_far : SoFar
  so_far = begun_with [] false

  abbrev list : SoFar → Plan Listed
  list so_far =
      list_plan (frame_of (context_at site pass) (looks_of (maps_at site)) shown) 0 (rules_at site) so_far

  abbrev steps : Run Outcome Round
  steps = run (from_place (context_at site pass) (looks_of (maps_at site)) round 0 (rules_at site) before) shown

  module _ (finished : Finished) (is : steps.way ≡ goes_on (Over finished)) where
    abbrev Bytes : Type 0
    Bytes = of_bytes any finished.left.state.query ≡ true

    -- The round is over with what the slots have.
    left_bytes : (left : Finished) (later : State) → steps.way ≡ goes_on (Over left)
        → Meets (context_at site pass) left.left.state later → of_bytes any (later.slots Slot.Query) ≡ true → Bytes
    left_bytes left later way there query =
        subst (λ (left : Finished). of_bytes any left.left.state.query ≡ true) (over_is left finished (sym way ∙ is))
        (ap (of_bytes any) (sym there.query) ∙ query)

    again_never : (rule : Rule) (left : Rewritten) → steps.way ≡ (run (begun_again rule round left) shown).way → Bytes
    unfolding begun_again run
    again_never rule left way = by (nat_le rule.flags.rounds round) (sym way ∙ is)
      where
        by : (late : Bool)
            → (run (if late then ends (Limit Rounds) else leaves (Again (next_by rule left))) shown).way
            ≡ goes_on (Over finished) → Bytes
        by true same = absurd (let none = same in cc)
        by false same = absurd (let none = same in cc)

    stop_bytes : (left : SoFar) (later : State) (stop : Stop)
        → StopsLike (context_at site pass) shown round left later stop steps.way
        → of_bytes any (later.slots Slot.Query) ≡ true → Bytes
    stop_bytes left later (over passed) like query = left_bytes _ later like.1 like.2 query
    stop_bytes left later (again rule) like query = again_never rule _ like.1
    stop_bytes left later (answered on) like query = left_bytes _ later like.1 like.2 query
    stop_bytes left later (answered (status number)) like query = absurd (let none = sym like ∙ is in cc)
    stop_bytes left later (answered (redirect number front noescape)) like query =
        absurd (let none = sym like ∙ is in cc)
    stop_bytes left later (answered (outside reason)) like query = absurd (let none = sym like ∙ is in cc)

    came_bytes : (came : PlanRun Listed) → plan_run (list so_far) s ≡ came
        → Like (ListLike (context_at site pass) shown round []) (list_behind before.substituted came) steps → Bytes
    came_bytes (ended later listed) runs like =
        let branch = covered (list so_far) known s bytes.0 later listed covers bytes.1 runs in
        stop_bytes (marked before.substituted listed.left) later listed.stop like.1
        (all_at (λ (branch : Branch Listed). HasBytes branch.0) bytes.0 (branch.0, listed) bytes.2 branch.1
        (later.slots Slot.Query) (branch.2.slots Slot.Query))
    came_bytes too_long runs like = absurd (let none = sym like ∙ is in cc)
    came_bytes left_out runs like = absurd like

  or_none : (was : Bool) → (was || false) ≡ was
  or_none true = refl
  or_none false = refl

  leaves_bytes : LeavesBytes site shown pass round before
  leaves_bytes finished is =
      let looks = looks_of (maps_at site) in
      let context = context_at site pass in
      let was = before.substituted in
      came_bytes finished is (plan_run (list so_far) s) refl
      (subst (λ first. Like (ListLike context shown round []) first steps)
      (list_runs was (frame_of context looks shown) 0 (rules_at site) so_far s)
      (list_like context looks shown round (rules_at site) 0 before (marked was so_far) s meets (or_none was)))

pub branches_see_bytes : BranchesSeeBytes
branches_see_bytes site (at_pass left) shown levels merges names known s stands covers has bytes =
    by (engine_at site)
  where
    by : (engine : Bool) → BeginsBytes engine site shown left.pass
    by true =
        leaves_bytes site left.pass shown levels merges names 1 (begun (state_at left.pass)) s stands.0 known covers
        bytes
    by false = has left.pass.query
        (ap (known.cell Slot.Query) (sym stands.0.query) ∙ covers.slots Slot.Query)
branches_see_bytes site (server_round pass round next) shown levels merges names known s stands covers has bytes =
    leaves_bytes site pass shown levels merges names round next.left s stands.0 known covers bytes
branches_see_bytes site (dir_round here dir round next) shown levels merges names known s stands covers has bytes = tt
