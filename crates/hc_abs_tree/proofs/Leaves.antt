-- Each request has a leaf.
use Rattle.std.proofs.Common.{◌≡◌, ◌∙◌, inl, inr, ℕ, zero, suc, ◌+◌, nat_le, List, [], ◌∷◌, ◌++◌, Bool}
use Rattle.std.proofs.Common.{true, false, if◌then◌else◌, refl, sym, ap, subst, append_assoc, append-nil, arith}
use Rattle.hc_model.specs.declared.event.Decision.{Decision}
use Rattle.hc_model.specs.declared.event.Event.{Event}
use Rattle.hc_model.specs.declared.outcome.LimitKind.TheVariants.{Rounds}
use Rattle.hc_model.specs.declared.outcome.Outcome.{Outcome}
use Rattle.hc_model.specs.declared.outcome.Outcome.TheVariants as outcome
use Rattle.hc_model.specs.declared.outcome.Reason.TheVariants.{LongText}
use Rattle.hc_plan.proofs.Covering.{among_one, among_other, covered}
use Rattle.hc_plan.specs.Branches.{Branch, Branches}
use Rattle.hc_plan.specs.Cover.{Among, Covers}
use Rattle.hc_plan.specs.Running.{Run as PlanRun, State, ended, left_out, run as plan_run, too_long}
use Rattle.hc_plan.specs.States.{AbsState}
use Rattle.hc_rw_eval.specs.Lists.{next_by as resumed_by}
use Rattle.hc_serve.specs.Passing.{followed_by, with_tree}
use Rattle.hc_serve.specs.Segments.{Cut, at_pass, dir_round, segment, server_round}
unfoldable use Rattle.hc_serve.specs.Segments.{segments}
use Rattle.hc_serve.specs.ServerRules.{context_at, pass_with}
use Rattle.hc_serve.specs.Site.{Site}
use Rattle.hc_serve.specs.declared.stage.Ended.{Ended}
use Rattle.hc_serve.specs.declared.stage.Pass.{Pass}
use Rattle.hc_steps.proofs.Running.{in_turn}
use Rattle.hc_steps.specs.Run.{Run, Way, behind, goes_on, is_over, on_way, run_then}
unfoldable use Rattle.hc_steps.specs.Run.{run}
use Rattle.hc_abs_rw.proofs.Staging.{decisions_joined}
use Rattle.hc_abs_rw.specs.Standing.{Leads, decision_of, decisions_in, rewritten_so}
use Rattle.hc_abs_rw.specs.Substitutions as then_so
use Rattle.hc_abs_rw.specs.Substitutions.{Then}
use Rattle.hc_abs_pass.specs.Ends as left_so
use Rattle.hc_abs_pass.specs.Ends.{Ends, Left}
use Rattle.hc_abs_pass.specs.Passing.{Finish, Segment, ruled, stopped}
use Rattle.hc_abs_pass.specs.Passing.{dir_round as in_dir_again, server_round as in_server_again}
use Rattle.hc_abs_segments.specs.Agreeing.{FinishLike, IsGround, LikeSegment, SegmentLike, led}
use Rattle.hc_abs_segments.specs.Counting.{pass_at}
use Rattle.hc_abs_segments.proofs.Counting.{segments_count}
use Rattle.hc_abs_tree.specs.Leaves.{EachHasLeaf, FinishedSo, HasLeaf, IsLeafOf, begun_at, way_from}
use Rattle.hc_abs_tree.specs.Trees.{Behind, At, Grown, Leaf, Next, Node, Soil, common_site, directory, directory_at}
use Rattle.hc_abs_tree.specs.Trees.{ends, goes, leaf_of, next_by, next_of, number_of, on_from, pass, plan_at, server}
use Rattle.hc_abs_tree.specs.Trees.{server_at}
unfoldable use Rattle.hc_abs_tree.specs.Trees.{TreeIn}
use Rattle.hc_abs_tree.proofs.Meeting.{MeetsCut, decided_at, number_is, plan_agrees}

-- ---- leaves behind a branch

abbrev AllAmong : List Leaf → List Leaf → Type 0
AllAmong one leaves = (leaf : Leaf) → Among leaf one → Among leaf leaves

grown_at : (Further : Node → List Leaf → Type 0) (node : Node) (branch : Branch Segment)
    (branches : List (Branch Segment)) (leaves : List Leaf) → Among branch branches → Grown Further node branches leaves
    → (one : List Leaf) × AllAmong one leaves × Behind Further (next_of node branch) one
grown_at Further node branch [] leaves among grown = absurd among
grown_at Further node branch (first ∷ branches) leaves (inl is) grown = (
  grown.0,
  λ leaf among. subst (Among leaf) (sym grown.2) (among_one leaf grown.0 grown.1 among),
  subst (λ branch. Behind Further (next_of node branch) grown.0) (sym is) grown.3,
)
grown_at Further node branch (first ∷ branches) leaves (inr among) grown =
    let rest = grown_at Further node branch branches grown.1 among grown.4 in (
      rest.0,
      λ leaf among. subst (Among leaf) (sym grown.2) (among_other leaf grown.0 grown.1 (rest.1 leaf among)),
      rest.2,
    )

-- ---- steps

over_is : (one other : Ended) → ◌≡◌ {A = Way Ended Cut} (is_over one) (is_over other) → one ≡ other
over_is one other is = ap by is
  where
    by : Way Ended Cut → Ended
    by (is_over end) = end
    by (goes_on cut) = one

no_next : (number : ℕ) → number ≡ number + 1 → ⊥
no_next number is = omega (arith, is)

module _ (soil : Soil) (site : Site) (same : common_site soil.site ≡ common_site site)
    (is_ground : IsGround site soil.shown soil.levels soil.merges) where
  abbrev way_by : ℕ → Cut → Run Ended Cut
  way_by count cut = way_from site soil.shown count cut

  -- What the tree has for a request at a cut.
  abbrev Has : ℕ → Node → Cut → List Leaf → Ended → Type 0
  Has count node cut leaves end = HasLeaf site soil.shown cut leaves end
      ((node.decided ++ decided_at node.at) ++ decisions_in (way_by count cut).events)

  abbrev Found : ℕ → Type 0
  Found count = (height : ℕ) (node : Node) (cut : Cut) (s : State) (leaves : List Leaf) (end : Ended)
      → MeetsCut site node.at cut s → Covers node.known s → TreeIn soil height node leaves
      → (way_by count cut).way ≡ is_over end → Has count node cut leaves end

  first_is : (more : ℕ) (cut : Cut)
      → way_by (suc more) cut ≡ run_then (run (segment site cut) soil.shown) (λ cut. way_by more cut)
  unfolding segments
  first_is more cut = in_turn (segment site cut) (λ cut. segments more site cut) soil.shown

  none_is : (cut : Cut) → (way_by 0 cut).way ≡ goes_on cut
  unfolding segments run
  none_is cut = refl

  not_over : (cut : Cut) (end : Ended) → (way_by 0 cut).way ≡ is_over end → ⊥
  not_over cut end is = let none = sym (none_is cut) ∙ is in cc

  module _ (more : ℕ) (further : Found more) (height : ℕ) (node : Node) (cut : Cut) (s : State) (leaves : List Leaf)
      (end : Ended) (meets : MeetsCut site node.at cut s) (is : (way_by (suc more) cut).way ≡ is_over end) where
    abbrev before : List Decision
    before = node.decided ++ decided_at node.at

    abbrev first : Run Ended Cut
    first = run (segment site cut) soil.shown

    over_so : (own : Ended) → first.way ≡ is_over own
        → way_by (suc more) cut ≡ record { events = first.events; reads = first.reads; way = is_over own }
    over_so own over = first_is more cut ∙ ap (λ way. on_way first way (λ cut. way_by more cut)) over

    on_so : (next : Cut) → first.way ≡ goes_on next → way_by (suc more) cut ≡ behind first (way_by more next)
    on_so next on = first_is more cut ∙ ap (λ way. on_way first way (λ cut. way_by more cut)) on

    own_is : (own : Ended) → first.way ≡ is_over own → own ≡ end
    own_is own over = over_is own end (sym (ap (λ (whole : Run Ended Cut). whole.way) (over_so own over)) ∙ is)

    module _ (later : State) (known : AbsState) (covers : Covers known later) (own : Segment)
        (decided : own.decisions ≡ decided_at node.at ++ decisions_in first.events) (one : List Leaf)
        (among : AllAmong one leaves) where
      abbrev Mine : Type 0
      Mine = Has (suc more) node cut leaves end

      all_decided : (rest : List Decision)
          → (node.decided ++ own.decisions) ++ rest
          ≡ (node.decided ++ decided_at node.at) ++ (decisions_in first.events ++ rest)
      all_decided rest =
          ap (λ decisions. (node.decided ++ decisions) ++ rest) decided
          ∙ ap (λ front. front ++ rest)
          (sym (append_assoc node.decided (decided_at node.at) (decisions_in first.events)))
          ∙ append_assoc (node.decided ++ decided_at node.at) (decisions_in first.events) rest

      -- The request ends here.
      leaf_here : (finish : Finish) (value : Outcome) → first.way ≡ is_over (with_tree own.require value)
          → FinishedSo site (pass_at cut) later finish (is_over value)
          → one ≡ leaf_of node known own finish ∷ [] → Mine
      leaf_here finish value over so alone = inr (
        leaf_of node known own finish,
        among (leaf_of node known own finish) (subst (Among (leaf_of node known own finish)) (sym alone) (inl refl)),
        subst (λ end. IsLeafOf site soil.shown cut (leaf_of node known own finish) end
            ((node.decided ++ decided_at node.at) ++ decisions_in (way_by (suc more) cut).events))
            (own_is (with_tree own.require value) over) (record {
              state = later;
              covers = covers;
              decided = sym (append-nil (node.decided ++ own.decisions)) ∙ all_decided []
                  ∙ ap (λ decisions. before ++ decisions) (append-nil (decisions_in first.events))
                  ∙ ap (λ (whole : Run Ended Cut). before ++ decisions_in whole.events)
                  (sym (over_so (with_tree own.require value) over));
              require = refl;
              last = cut;
              reached = (0, none_is cut);
              over = over;
              finish = so;
            }),
      )

      -- It goes on there.
      onward : (next : Node) (to : Cut) → first.way ≡ goes_on to → MeetsCut site next.at to later
          → Covers next.known later → next.decided ++ decided_at next.at ≡ node.decided ++ own.decisions
          → TreeIn soil height next one → Mine
      onward next to on there within all tree = by (further height next to later one end there within tree
          (sym (ap (λ (whole : Run Ended Cut). whole.way) (on_so to on)) ∙ is))
        where
          all_in : (next.decided ++ decided_at next.at) ++ decisions_in (way_by more to).events
              ≡ (node.decided ++ decided_at node.at) ++ decisions_in (way_by (suc more) cut).events
          all_in =
              ap (λ front. front ++ decisions_in (way_by more to).events) all
              ∙ all_decided (decisions_in (way_by more to).events)
              ∙ ap (λ rest. (node.decided ++ decided_at node.at) ++ rest)
              (sym (decisions_joined first.events (way_by more to).events))
              ∙ ap (λ (whole : Run Ended Cut). before ++ decisions_in whole.events)
              (sym (on_so to on))

          by : Has more next to one end → Mine
          by (inl long) = inl long
          by (inr has) = inr (
            has.0,
            among has.0 has.1,
            record {
              state = (has.2).state;
              covers = (has.2).covers;
              decided = (has.2).decided ∙ all_in;
              require = (has.2).require;
              last = (has.2).last;
              reached = (
                suc ((has.2).reached).0,
                ap (λ (whole : Run Ended Cut). whole.way) (first_is ((has.2).reached).0 cut
                    ∙ ap (λ way. on_way first way (λ cut. way_by ((has.2).reached).0 cut)) on)
                    ∙ ((has.2).reached).1,
              );
              over = (has.2).over;
              finish = (has.2).finish;
            },
          )

      abbrev Ahead : Next → Type 0
      Ahead next = Behind (TreeIn soil height) next one

      by_left : (left : Left) (way : Way Outcome Pass) → Ends site later left way → first.way ≡ led own.require way
          → Ahead (next_by node known own (stopped left)) → Mine
      by_left (left_so.status number) way so is ahead =
          leaf_here (stopped (left_so.status number)) (outcome.Status number) (is ∙ ap (led own.require) so) refl ahead
      by_left (left_so.outside reason) way so is ahead =
          leaf_here (stopped (left_so.outside reason)) (outcome.Outside reason) (is ∙ ap (led own.require) so) refl
          ahead
      by_left (left_so.found kind) way so is ahead =
          leaf_here (stopped (left_so.found kind)) _ (is ∙ ap (led own.require) so) refl ahead
      by_left (left_so.sent redirect) way so is ahead =
          leaf_here (stopped (left_so.sent redirect)) so.0 (is ∙ ap (led own.require) so.1) (so.0, refl, so.2) ahead
      by_left (left_so.refused refusal) way so is ahead =
          leaf_here (stopped (left_so.refused refusal)) (outcome.HtRefused refusal) (is ∙ ap (led own.require) so) refl
          ahead
      by_left (left_so.limit kind) way so is ahead =
          leaf_here (stopped (left_so.limit kind)) (outcome.Limit kind) (is ∙ ap (led own.require) so) refl ahead
      by_left left_so.next_pass way so is ahead =
          let to = at_pass (followed_by own.require so.0) in
          let on = is ∙ ap (led own.require) so.1 in
          let next : Node = record {
            at = pass (number_of node.at + 1);
            known = known;
            decided = node.decided ++ own.decisions;
          } in
          onward next to on (
            segments_count site cut to soil.shown on ∙ ap (λ number. number + 1) (number_is site node.at cut s meets),
            so.2,
            so.3,
          )
          covers (append-nil (node.decided ++ own.decisions)) ahead

      -- No rule's answer goes on.
      by_then : (answer : Then) (way : Way Outcome Pass)
          → Leads (context_at site (pass_at cut)) (pass_with (pass_at cut)) later answer way
          → first.way ≡ led own.require way → Ahead (next_by node known own (ruled answer)) → Mine
      by_then then_so.goes_on way so is ahead =
          absurd (no_next (pass_at cut).number (segments_count site cut
          (at_pass (followed_by own.require (pass_with (pass_at cut) so.0))) soil.shown
          (is ∙ ap (led own.require) so.1)))
      by_then (then_so.status number) way so is ahead =
          leaf_here (ruled (then_so.status number)) (outcome.Status number) (is ∙ ap (led own.require) so) refl ahead
      by_then (then_so.redirect number front noescape) way so is ahead =
          leaf_here (ruled (then_so.redirect number front noescape)) _ (is ∙ ap (led own.require) so) refl ahead
      by_then (then_so.outside reason) way so is ahead =
          leaf_here (ruled (then_so.outside reason)) (outcome.Outside reason) (is ∙ ap (led own.require) so) refl ahead

      -- A further round, unless it is one too many.
      by_bound : (to : Cut) (at : At) (late : Bool)
          → first.way ≡ (if late then is_over (with_tree own.require (outcome.Limit Rounds)) else goes_on to)
          → (first.way ≡ goes_on to → MeetsCut site at to later)
          → decided_at at ≡ own.decisions
          → Ahead (elim late [
            | true ↦ ends (leaf_of node known own (stopped (left_so.limit Rounds)))
            | false ↦ goes (record { at = at; known = known; decided = node.decided })
          ]) → Mine
      by_bound to at true is there all ahead =
          leaf_here (stopped (left_so.limit Rounds)) (outcome.Limit Rounds) is refl ahead
      by_bound to at false is there all ahead =
          onward (record { at = at; known = known; decided = node.decided }) to is (there is) covers
          (ap (λ decisions. node.decided ++ decisions) all) ahead

      by_finish : (finish : Finish)
          → FinishLike site (pass_at cut) (server_at node.at) (directory_at node.at) later own.require finish first.way
          → Ahead (next_by node known own finish) → Mine
      by_finish (stopped left) like ahead = by_left left like.0 like.1 like.2 ahead
      by_finish (ruled answer) like ahead = by_then answer like.0 like.1 like.2 ahead
      by_finish (in_server_again rule so_far) like ahead =
          let round = server_at node.at in
          by_bound (server_round (pass_at cut) (round + 1) (resumed_by rule (rewritten_so so_far.substituted like.0)))
          (server (number_of node.at) (round + 1) (on_from own so_far)) (nat_le rule.flags.rounds round) like.3
          (λ on. (
            number_is site node.at cut s meets,
            refl,
            like.0,
            record { rule = rule; same = refl },
            like.1,
            like.2,
          )) refl ahead
      by_finish (in_dir_again settings rule so_far) like ahead =
          let round = directory_at node.at in
          let here = like.0 in
          let to = dir_round here like.1 (round + 1) (resumed_by rule (rewritten_so so_far.substituted like.2)) in
          by_bound to (directory (number_of node.at) (round + 1) settings (on_from own so_far))
          (nat_le rule.flags.rounds round) like.6
          (λ on. (
            (segments_count site cut to soil.shown on).0 ∙ number_is site node.at cut s meets,
            refl,
            like.2,
            record { rule = rule; same = refl },
            like.3,
            like.4,
            like.5,
          )) refl ahead

    by_run : (branches : List (Branch Segment)) → Branches (plan_at soil node.at) node.known branches
        → Grown (TreeIn soil height) node branches leaves → Covers node.known s → (run_so : PlanRun Segment)
        → plan_run (plan_at soil node.at) s ≡ run_so
        → LikeSegment (SegmentLike site (pass_at cut) (server_at node.at) (directory_at node.at) (decided_at node.at))
        run_so
        first
        → Has (suc more) node cut leaves end
    by_run branches are grown within (ended later own) runs like =
        let branch = covered (plan_at soil node.at) node.known s branches later own within are runs in
        let ahead = grown_at (TreeIn soil height) node (branch.0, own) branches leaves branch.1 grown in
        by_finish later branch.0 branch.2 own like.decided ahead.0 ahead.1 own.finish like.leads ahead.2
    by_run branches are grown within too_long runs like =
        inl (sym (ap (λ (own : Ended). own.outcome) (own_is (with_tree like.0 (outcome.Outside LongText)) like.1)))
    by_run branches are grown within left_out runs like = absurd like

  found : (count : ℕ) → Found count
  unfolding TreeIn
  found zero height node cut s leaves end meets within tree is = absurd (not_over cut end is)
  found (suc more) zero node cut s leaves end meets within tree is = absurd tree
  found (suc more) (suc height) node cut s leaves end meets within tree is =
      by_run more (found more) height node cut s leaves end meets is tree.0 tree.1 tree.2 within
      (plan_run (plan_at soil node.at) s) refl (plan_agrees soil site same is_ground node.at cut s meets)

pub each_has_leaf : EachHasLeaf
each_has_leaf soil site begun require known s leaves count end same is_ground meets once covers tree is =
    found soil site same is_ground count tree.0 (record { at = pass begun.number; known = known; decided = [] })
    (begun_at begun require) s leaves end (refl, meets, once) covers tree.1 is
