-- Behind one round of the rules of a directory.
use Rattle.hc_abs_left.proofs.Common.{◌≡◌, ◌∙◌, ℕ, List, [], ◌∷◌, ◌++◌, Bool, true, false, ◌&&◌, Option, Some}
use Rattle.hc_abs_left.proofs.Common.{refl, sym, ap, subst, Plan, done}
use Rattle.std.proofs.Common.{Bor}
use Rattle.hc_addr.specs.declared.addr.Addr.{Addr}
use Rattle.hc_model.specs.declared.rewrite.Rule.{Rule}
use Rattle.hc_model.specs.declared.section.Body.{Body}
use Rattle.hc_plan.proofs.Coded.{end_fits, joined_fits}
use Rattle.hc_plan.proofs.Slots.{name_tied, path_tied, query_tied}
use Rattle.hc_plan.specs.Branches.{Branch, renamed}
unfoldable use Rattle.hc_plan.specs.Branches.{Branches}
use Rattle.hc_plan.specs.Coded.{AreBranches, IsNext}
use Rattle.hc_plan.specs.Plan.{from_slot, rename}
use Rattle.hc_plan.specs.States.{AbsState}
use Rattle.hc_plan.specs.declared.storing.Tied.{Tied}
use Rattle.hc_rw_expand.specs.Contexts.{Engine}
use Rattle.hc_abs_pass.specs.Ends.{EndsAt}
use Rattle.hc_abs_pass.specs.Listing.{AreListed, ListedFits, so_far_of, stop_of}
use Rattle.hc_abs_pass.specs.Passing as plans
use Rattle.hc_abs_pass.specs.Passing.{dir_left, engine_by, finished_so, frame_by, left_plan, path_untied, ruled}
unfoldable use Rattle.hc_abs_pass.specs.Passing.{dir_round_plan}
use Rattle.hc_abs_pass.specs.declared.list.Listed.{Listed}
use Rattle.hc_abs_pass.specs.declared.list.SoFar.{SoFar}
use Rattle.hc_abs_pass.specs.declared.list.Stop.{Stop}
use Rattle.hc_abs_pass.specs.declared.list.Stop.TheVariants as stop
use Rattle.hc_abs_rw.specs.Applied.{next_of}
use Rattle.hc_abs_rw.specs.Frames.{Frame, common}
use Rattle.hc_abs_rw.specs.Lists as lists
use Rattle.hc_abs_rw.specs.Lists.{list_plan}
use Rattle.hc_abs_rw.specs.RuleBranches.{Rests}
use Rattle.hc_abs_rw.specs.declared.apply.Next.{Next}
use Rattle.hc_abs_left.specs.Grounds.{SettingsFit, Stands, ground_in}
use Rattle.hc_abs_left.specs.Left.{ended_in, engine_at}
use Rattle.hc_abs_left.specs.Rounds.{AddsPast, ArePast, BeginsAgain, IsRoundOf, untied_so}
use Rattle.hc_abs_left.specs.Segments.{AreDirRound, AreLeft, FinishFits, SegmentFits}
use Rattle.hc_abs_left.specs.declared.ground.Ground.{Ground}
use Rattle.hc_abs_left.specs.declared.ground.Settings.{Settings}
use Rattle.hc_abs_left.specs.declared.segment.Finish.{Finish}
use Rattle.hc_abs_left.specs.declared.segment.Finish.TheVariants as finish
use Rattle.hc_abs_left.specs.declared.segment.Segment.{Segment}

-- ---- ties

-- The ties of a state whose slots are renamed to themselves, without that of the target's path and the pass's.
abbrev without_origin : AbsState → AbsState
without_origin state = renamed state from_slot (λ slot. true)
    (record { origin_path = false; text_path = true; text_name = true; query_first = true })

ties_left : (state : AbsState) → (without_origin state).ties ≡ record (state.ties) { origin_path = false }
ties_left state = λ i. record {
  origin_path = false;
  text_path = path_tied state.ties i;
  text_name = name_tied state.ties i;
  query_first = query_tied state.ties i;
}

-- Between rules and at an end nothing is held.
ends_at : (client : Option Addr) (tied : Tied) (state : AbsState) → Rests client tied state → EndsAt client tied state
ends_at client tied state rests =
    record { cell = rests.cell; ties = rests.ties; given = rests.given; printed = rests.printed }

-- A plan behind the tie.
untied_fits : {A B : Type 0} (Fit : B → Branch A → Type 0) (client : Option Addr) (tied : Tied) (state : AbsState)
    (plan : Plan A) (found : List B) → Rests client tied state
    → ((later : AbsState) → EndsAt client (untied_so true tied) later → AreBranches Fit plan later found)
    → AreBranches Fit (rename from_slot (λ slot. true)
    (record { origin_path = false; text_path = true; text_name = true; query_first = true }) plan) state found
unfolding Branches
untied_fits Fit client tied state plan found rests leads =
    let are = leads (without_origin state) (record {
      cell = rests.cell;
      ties = ties_left state ∙ (λ i. record (rests.ties i) { origin_path = false });
      given = rests.given;
      printed = rests.printed;
    }) in (are.0, are.1, are.2)

-- ---- ends of a list of rules

module _ (ground : Ground) (lent : Settings) (levels : ℕ) (merges : Body → Bool) (own : plans.Settings)
    (fit : SettingsFit lent own) where
  abbrev Fit : Segment → Branch plans.Segment → Type 0
  Fit = SegmentFits ground.client ground.tests.now

  abbrev First : Listed → Branch lists.Listed → Type 0
  First = ListedFits ground.client (common ground.tests.now)

  abbrev next : lists.Listed → Plan plans.Segment
  next = dir_left (ground_in levels merges ground) own

  -- What follows an end of a list, by how the list ends.
  by_stop : (one : Listed) (end : Stop) (found : List Segment) → one.stop ≡ end
      → ((state : AbsState) → Rests ground.client one.tied state
      → AreBranches Fit (next (record { left = so_far_of one.left; stop = stop_of (common ground.tests.now) end })) state
      found)
      → IsNext First Fit next one found
  by_stop one end found same leads branch fits =
      subst (λ listed. AreBranches Fit (next listed) branch.0 found)
      (sym (fits.1 ∙ ap (λ end. record { left = so_far_of one.left; stop = stop_of (common ground.tests.now) end }) same))
      (leads branch.0 fits.0)

  -- By whether the tie is taken away.
  over_fits : (is : Bool) (tied : Tied) (state : AbsState) (plan : Plan plans.Segment) (found : List Segment)
      → Rests ground.client tied state
      → ((later : AbsState) → EndsAt ground.client (untied_so is tied) later → AreBranches Fit plan later found)
      → AreBranches Fit (path_untied (ground_in levels merges ground) is plan) state found
  over_fits true tied state plan found rests leads =
      untied_fits Fit ground.client tied state plan found rests leads
  over_fits false tied state plan found rests leads = leads state (ends_at ground.client tied state rests)

  -- The finish of a further round.
  finish_fits : (rule : Rule) (left : SoFar) (end : Finish) → IsRoundOf lent rule left end
      → FinishFits ground.tests.now end (plans.dir_round own rule (so_far_of left))
  finish_fits rule left (finish.DirRound settings other so_far) is = (
    own,
    subst (λ lent. SettingsFit lent own) (sym is.0) fit,
    (λ i. plans.dir_round own (sym is.1 i) (so_far_of (sym is.2 i))),
  )
  finish_fits rule left other is = absurd is

  -- The branch of a further round, and that of an answer.
  again_fits : (rule : Rule) (tied : Tied) (left : SoFar) (segment : Segment) (state : AbsState)
      → BeginsAgain lent rule tied left segment → Rests ground.client tied state
      → Fit segment (state, finished_so own.force.require left.decisions (plans.dir_round own rule (so_far_of left)))
  again_fits rule tied left segment state is rests = record {
    at = subst (λ tied. EndsAt ground.client tied state) (sym is.tied_is) (ends_at ground.client tied state rests);
    texts = rests.texts;
    decided = sym is.decided;
    require = ap (λ force. force.require) fit.force ∙ sym is.require;
    finish = finish_fits rule left segment.finish is.finish;
  }

  ruled_fits : Stands ground → (tied : Tied) (left : SoFar) (answer : Next) (state : AbsState)
      → Rests ground.client tied state
      → Fit (ended_in lent left.decisions tied (finish.Ruled answer))
      (state, finished_so own.force.require left.decisions (ruled (next_of (common ground.tests.now) answer)))
  ruled_fits stands tied left answer state rests = record {
    at = ends_at ground.client tied state rests;
    texts = rests.texts;
    decided = refl;
    require = ap (λ force. force.require) fit.force;
    finish = ap (λ caller. ruled (next_of caller answer)) stands.caller;
  }

  -- A list's end that leads to one branch.
  one_end : (one : Listed) (end : Stop) (finish : plans.Finish) (segment : Segment) → one.stop ≡ end
      → next (record { left = so_far_of one.left; stop = stop_of (common ground.tests.now) end })
      ≡ done (finished_so own.force.require one.left.decisions finish)
      → ((state : AbsState) → Rests ground.client one.tied state
      → Fit segment (state, finished_so own.force.require one.left.decisions finish))
      → IsNext First Fit next one (segment ∷ [])
  one_end one end finish segment same is fits =
      by_stop one end (segment ∷ []) same (λ state rests.
      subst (λ plan. AreBranches Fit plan state (segment ∷ [])) (sym is)
      (end_fits Fit state (finished_so own.force.require one.left.decisions finish) segment (fits state rests)))

module _ (ground : Ground) (lent : Settings) (one : Listed) (earlier later : List Segment) where
  pub over_past : (passed : Bool) (more : List Segment) → one.stop ≡ stop.Over passed
      → AreLeft ground lent one.left.decisions true (untied_so (passed && one.left.substituted) one.tied) more
      → later ≡ earlier ++ more → AddsPast ground lent one earlier later
  over_past passed more same are is levels merges own fit = (
    more,
    is,
    by_stop ground lent levels merges own fit one (stop.Over passed) more same (λ state rests.
        over_fits ground lent levels merges own fit (passed && one.left.substituted) one.tied state
        (left_plan (ground_in levels merges ground) own one.left.decisions true) more rests
        (λ after ends. are levels merges own after fit ends)),
  )

  pub again_past : (rule : Bor Rule) (segment : Segment) → one.stop ≡ stop.Again rule
      → BeginsAgain lent rule.now one.tied one.left segment → later ≡ earlier ++ segment ∷ []
      → AddsPast ground lent one earlier later
  again_past rule segment same begins is levels merges own fit = (
    segment ∷ [],
    is,
    one_end ground lent levels merges own fit one (stop.Again rule)
        (plans.dir_round own rule.now (so_far_of one.left)) segment same refl (λ state rests.
        again_fits ground lent levels merges own fit rule.now one.tied one.left segment state begins rests),
  )

  pub ruled_past : (answer : Next) → Stands ground → one.stop ≡ stop.Answered answer
      → later ≡ earlier ++ ended_in lent one.left.decisions one.tied (finish.Ruled answer) ∷ []
      → AddsPast ground lent one earlier later
  ruled_past answer stands same is levels merges own fit = (
    ended_in lent one.left.decisions one.tied (finish.Ruled answer) ∷ [],
    is,
    one_end ground lent levels merges own fit one (stop.Answered answer)
        (ruled (next_of (common ground.tests.now) answer))
        (ended_in lent one.left.decisions one.tied (finish.Ruled answer)) same refl
        (ruled_fits ground lent levels merges own fit stands one.tied one.left answer),
  )

-- ---- the round

pub round_fits : (ground : Ground) (lent : Settings) (dir : List ℕ) (engine : Engine) (so_far : SoFar) (tied : Tied)
    (frame : Frame) (rules : List Rule) (listed : List Listed) (found : List Segment)
    → ((levels : ℕ) (merges : Body → Bool) → frame ≡ frame_by (ground_in levels merges ground) (Some engine))
    → engine ≡ engine_at lent dir → rules ≡ lent.force.rules
    → AreListed frame ground.client rules so_far tied listed → ArePast ground lent listed found
    → AreDirRound ground lent dir so_far tied found
unfolding dir_round_plan
round_fits ground lent dir engine so_far tied frame rules listed found frames engine_is rules_are are past levels merges
    own state fit rests =
    let at = ground_in levels merges ground in
    let engines : engine ≡ engine_by at own dir =
    engine_is ∙ (λ i. record { dir = dir; base = (sym fit.force i).base; aliased = sym fit.aliased i }) in
    let all = rules_are ∙ (λ i. (sym fit.force i).rules) in
    joined_fits (ListedFits ground.client (common ground.tests.now)) (SegmentFits ground.client ground.tests.now)
    (dir_left at own) (list_plan (frame_by at (Some (engine_by at own dir))) 0 own.force.rules (so_far_of so_far)) state
    listed found
    (subst (λ engine. AreBranches (ListedFits ground.client (common ground.tests.now))
    (list_plan (frame_by at (Some engine)) 0 own.force.rules (so_far_of so_far)) state listed) engines
    (subst (λ rules. AreListed (frame_by at (Some engine)) ground.client rules so_far tied listed) all
    (subst (λ frame. AreListed frame ground.client rules so_far tied listed) (frames levels merges) are) state rests))
    (past levels merges own fit)
