-- Each request has a branch from the cut at which it stands.
use Rattle.hc_abs_again.proofs.Common.{◌≡◌, ◌∙◌, ◌⊎◌, inl, inr, ℕ, List, [], ◌∷◌, Bool, true, false, ◌||◌}
use Rattle.hc_abs_again.proofs.Common.{refl, sym, ap, subst, append-nil, State, PlanRun, ended, too_long}
use Rattle.hc_abs_again.proofs.Common.{left_out, in_hand, holding, plan_run, Plan, Slot, pick}
use Rattle.hc_abs_again.proofs.Common.{Run, run, Shown, Site, Here, Pass}
use Rattle.hc_model.specs.declared.section.Body.{Body}
use Rattle.hc_plan.proofs.Covering.{covered}
use Rattle.hc_plan.specs.Branches.{Both, Branch, Branches}
use Rattle.hc_plan.specs.Cover.{Among, Covers, GivenIs, IsMade}
use Rattle.hc_plan.specs.States.{AbsState}
use Rattle.hc_plan.specs.Texts.{Key, first_key, second_key, third_key}
use Rattle.hc_rw_eval.specs.declared.run.NextRound.{NextRound}
use Rattle.hc_serve.specs.DirectoryRules.{is_aliased}
unfoldable use Rattle.hc_serve.specs.Segments.{segment}
use Rattle.hc_serve.specs.Segments.{Cut, at_pass, dir_round, server_round}
use Rattle.hc_serve.specs.declared.stage.Ended.{Ended}
use Rattle.hc_abs_rw.specs.Templates.{looked, main}
use Rattle.hc_abs_pass.specs.Again.{AreAtEnd, AreAtEnds, AreFromPlace, AreFromPlaces, again_at, begun_again, exactly}
use Rattle.hc_abs_pass.specs.Again.{AreFromDir, from_dir, from_server, named}
use Rattle.hc_abs_pass.specs.Ends.{next_pass}
use Rattle.hc_abs_pass.specs.Passing.{Finish, Ground, Segment, Settings, dir_round_plan, ends_so, engine_by, pass_plan}
use Rattle.hc_abs_pass.specs.Passing.{ruled, server_round_plan, stopped}
use Rattle.hc_abs_pass.specs.Passing.{dir_round as in_dir_again, server_round as in_server_again}
use Rattle.hc_abs_pass.specs.Walks.{WalkEnd, at_root, ends_in}
use Rattle.hc_abs_segments.specs.Agreeing.{IsGround, LikeSegment, MeetsList, SegmentLike, ground_of}
use Rattle.hc_abs_segments.specs.Agreeing.{is_last_pass, led}
use Rattle.hc_abs_segments.specs.Counting.{pass_at}
use Rattle.hc_abs_segments.proofs.Leaving.{as_settled, settled}
use Rattle.hc_abs_segments.proofs.Server.{pass_agrees, server_round_like}
use Rattle.hc_abs_again.specs.Arriving.{EachHasArrival, IsArrival, IsTooLong, StandsAt, WasReached}
use Rattle.hc_abs_again.specs.Arriving.{directory_at, finish_behind, server_at, was_substituted}
use Rattle.hc_abs_again.proofs.Exact.{IsMet, met_again}
use Rattle.hc_abs_again.proofs.Lasting.{Alike, Lasts, dir_round_lasts, pass_lasts, server_round_lasts}
use Rattle.hc_abs_again.proofs.Leading.{IsHere, here_comes}
use Rattle.hc_abs_again.proofs.Marked.{round_behind, run_behind}
use Rattle.hc_abs_again.proofs.Placing.{IsPlace, let_gone, place}
use Rattle.hc_abs_again.proofs.Sides.{AllAmong, HasPart, all_among, on_one_side, part_one, part_other}

-- ---- from a plan's run

module _ (site : Site) (cut : Cut) (steps : Run Ended Cut) where
  abbrev Agrees : PlanRun Segment → Type 0
  Agrees first = LikeSegment (SegmentLike site (pass_at cut) (server_at cut) (directory_at cut) [])
      (run_behind (was_substituted cut) first) steps

  abbrev Arrives : List (Branch Segment) → Type 0
  Arrives branches = IsTooLong steps ⊎ IsArrival site cut branches steps

  abbrev is_last : Bool
  is_last = is_last_pass site (pass_at cut)

  -- No pass is the last one for the branches.
  pub arrives : (plan : Bool → Plan Segment) → Lasts plan → (s : State) → Agrees (plan_run (plan is_last) s)
      → (known : AbsState) → Covers known s → (branches : List (Branch Segment)) → Branches (plan false) known branches
      → Arrives branches
  arrives plan lasts s like known covers branches are = by is_last refl like
    where
      from : (first : PlanRun Segment) → plan_run (plan false) s ≡ first → Agrees first → Arrives branches
      from (ended later end) runs like =
          let branch = covered (plan false) known s branches later end covers are runs in
          inr (record {
            known = branch.0;
            segment = end;
            among = branch.1;
            state = later;
            covers = branch.2;
            decided = like.decided;
            leads = inl like.leads;
          })
      from too_long runs like = inl like
      from left_out runs like = absurd like

      limited : is_last ≡ true → Agrees (plan_run (plan true) s)
          → Alike (plan_run (plan true) s) (plan_run (plan false) s) → Arrives branches
      limited last like (inl same) = from (plan_run (plan false) s) refl (subst Agrees same like)
      limited last like (inr is) =
          let goes = ends_so is.require is.decisions next_pass in
          let branch = covered (plan false) known s branches is.later goes covers are is.on in
          let stops = subst Agrees is.limited like in
          inr (record {
            known = branch.0;
            segment = goes;
            among = branch.1;
            state = is.later;
            covers = branch.2;
            decided = stops.decided;
            leads = inr (record {
              last = last;
              leads = refl;
              over = stops.leads.2 ∙ ap (led is.require) stops.leads.1;
            });
          })

      by : (last : Bool) → is_last ≡ last → Agrees (plan_run (plan last) s) → Arrives branches
      by true last like = limited last like (lasts s)
      by false last like = from (plan_run (plan false) s) refl like

  arrives_in : (one all : List (Branch Segment)) → AllAmong one all → Arrives one → Arrives all
  arrives_in one all among (inl long) = inl long
  arrives_in one all among (inr is) = inr (record {
    known = is.known;
    segment = is.segment;
    among = among (is.known, is.segment) is.among;
    state = is.state;
    covers = is.covers;
    decided = is.decided;
    leads = is.leads;
  })

-- Where no substitution was made, the run stays.
finish_same : (finish : Finish) → finish ≡ finish_behind false finish
finish_same (stopped left) = refl
finish_same (ruled next) = refl
finish_same (in_server_again rule so_far) = refl
finish_same (in_dir_again settings rule so_far) = refl

run_same : (first : PlanRun Segment) → first ≡ run_behind false first
run_same (ended s end) = ap (λ finish. ended s (record end { finish = finish })) (finish_same end.finish)
run_same too_long = refl
run_same left_out = refl

module _ (site : Site) (shown : Shown) (levels : ℕ) (merges : Body → Bool) (names : List ℕ → Bool)
    (is_ground : IsGround site shown levels merges) where
  abbrev ground : Bool → Ground
  ground last = ground_of site last shown levels merges names

  -- ---- from the start of a pass, and in the server's list

  abbrev steps_at : Cut → Run Ended Cut
  steps_at cut = run (segment site cut) shown

  module _ (pass : Pass) (round : ℕ) (next : NextRound) (s : State) (known : AbsState) (covers : Covers known s)
      (stands : StandsAt site (server_round pass round next) s) where
    abbrev cut : Cut
    cut = server_round pass round next

    by_server : (substituted : Bool) → substituted ≡ next.left.substituted → (branches : List (Branch Segment))
        → Branches (from_server (ground false) substituted) known branches
        → Arrives site cut (steps_at cut) branches
    unfolding segment
    by_server substituted same branches are =
        arrives site cut (steps_at cut) (λ last. server_round_plan (ground last) (begun_again substituted))
        (server_round_lasts site shown levels merges names (begun_again substituted)) s
        (subst (λ first. LikeSegment (SegmentLike site pass round 1 []) first (steps_at cut)) (run_same _)
        (server_round_like site pass shown levels merges names is_ground round next.left (begun_again substituted) s
        stands.0 stands.1 same)) known covers branches are

    server_arrives : (branches : List (Branch Segment))
        → Both (Branches (from_server (ground false) true) known) (Branches (from_server (ground false) false) known)
        branches → Arrives site cut (steps_at cut) branches
    server_arrives branches both = by next.left.substituted refl
      where
        by : (is : Bool) → is ≡ next.left.substituted → Arrives site cut (steps_at cut) branches
        by true same =
            let part = part_one _ _ branches both in
            arrives_in site cut (steps_at cut) part.0 branches part.1 (by_server true same part.0 part.2)
        by false same =
            let part = part_other _ _ branches both in
            arrives_in site cut (steps_at cut) part.0 branches part.1 (by_server false same part.0 part.2)

  -- ---- in a directory's list

  module _ (dir : List ℕ) where
    at_end : (known : AbsState) (ends : List WalkEnd) (places : List (Branch Settings)) (end : WalkEnd)
        → AreAtEnds (ground false) dir known ends places → Among end ends
        → HasPart (AreAtEnd (ground false) dir known end) places
    at_end known [] places end are among = absurd among
    at_end known (first ∷ ends) places end are (inl same) =
        subst (λ end. HasPart (AreAtEnd (ground false) dir known end) places) (sym same) (part_one _ _ places are)
    at_end known (first ∷ ends) places end are (inr among) =
        let rest = part_other _ _ places are in
        let part = at_end known ends rest.0 end rest.2 among in
        (part.0, all_among part.0 rest.0 places part.1 rest.1, part.2)

    from_place : (places : List (Branch Settings)) (found : List (Branch Segment)) (place : Branch Settings)
        → AreFromPlaces (ground false) dir places found → Among place places
        → HasPart (AreFromPlace (ground false) dir place) found
    from_place [] found place are among = absurd among
    from_place (first ∷ places) found place are (inl same) =
        subst (λ place. HasPart (AreFromPlace (ground false) dir place) found) (sym same) (part_one _ _ found are)
    from_place (first ∷ places) found place are (inr among) =
        let rest = part_other _ _ found are in
        let part = from_place places rest.0 place rest.2 among in
        (part.0, all_among part.0 rest.0 found part.1 rest.1, part.2)

    by_alias : (aliased : Bool) (place : Branch Settings) (found : List (Branch Segment))
        → AreFromPlace (ground false) dir place found
        → HasPart (Branches (from_dir (ground false) dir aliased place.1) place.0) found
    by_alias true place found both = part_other _ _ found both
    by_alias false place found both = part_one _ _ found both

  module _ (here : Here) (dir : List ℕ) (round : ℕ) (next : NextRound) (s : State) (known : AbsState)
      (covers : Covers known s) (reached : WasReached site shown (dir_round here dir round next))
      (meets : MeetsList site here dir next.left.state s) where
    abbrev at_cut : Cut
    at_cut = dir_round here dir round next

    abbrev was : Bool
    was = next.left.substituted

    -- From where the list is in force.
    settled_arrives : (settings : Settings) (later : State) (over : AbsState) (branches : List (Branch Segment))
        → MeetsList site here dir next.left.state later → Covers over later
        → Branches (dir_round_plan (ground false) (settled site here shown settings)
        (engine_by (ground false) (settled site here shown settings) dir) (begun_again false)) over branches
        → Arrives site at_cut (steps_at at_cut) branches
    unfolding segment
    settled_arrives settings later over branches meets within are =
        let own = settled site here shown settings in
        let last = is_last_pass site here.named.pass in
        let engine = engine_by (ground false) own dir in
        arrives site at_cut (steps_at at_cut) (λ last. dir_round_plan (ground last) own engine (begun_again false))
        (dir_round_lasts site shown levels merges names own engine (begun_again false)) later
        (round_behind site here dir reached.0 shown last refl levels merges names settings round was next.left
        (begun_again false) later meets (none was)) over within branches are
      where
        none : (is : Bool) → (is || false) ≡ is
        none true = refl
        none false = refl

    -- What is in force was found by a walk; its name is walked again, with the query that the sections saw.
    abbrev AnyQuery : List ℕ → Type 0
    AnyQuery query = Unit {0}

    came : IsHere site shown AnyQuery here
    came = here_comes site shown AnyQuery reached.2 reached.3 tt here reached.4

    met : IsMet levels shown here.walk
    met =
        met_again levels shown is_ground.listed came.name
        (came.begins (record { rooted = is_ground.rooted; aliased = is_ground.aliased })) came.single here.walk
        came.walk

    begun : State
    begun = in_hand (holding s looked (λ at. here.named.pass.query)) main (s.slots Slot.Name)

    begun_covers : Covers (named (ground false) known) begun
    unfolding begun
    begun_covers = record {
      slots = covers.slots;
      ties = covers.ties;
      given = held_by;
      texts = text_by;
      clients = covers.clients;
      printed = covers.printed;
    }
      where
        held_by : (key : Key) (at : ℕ)
            → GivenIs (pick (named (ground false) known).given key at) (pick begun.given key at)
        held_by first_key at = covers.given first_key at
        held_by second_key at = covers.given second_key at
        held_by third_key at = reached.1

        text_by : (key : Key)
            → IsMade s.slots (pick (named (ground false) known).texts key) (pick begun.texts key)
        text_by first_key =
            let name = s.slots Slot.Name in
            (name, (name, [], sym (append-nil name), refl, refl), refl, refl)
        text_by second_key = covers.texts second_key
        text_by third_key = covers.texts third_key

    found : IsPlace site shown levels merges names is_ground here dir reached.0 AnyQuery came met.end met.kind met.dirs
        begun
    unfolding begun
    found =
        place site shown levels merges names is_ground here dir reached.0 AnyQuery came met.end met.kind met.dirs begun
        (record {
          path = meets.meets.path;
          name = meets.name;
          query = refl;
          method = meets.meets.method;
          headers = meets.meets.headers;
          client = meets.meets.caller;
          scheme = refl;
          host = refl;
          server = refl;
          port = refl;
        })

    later_meets : MeetsList site here dir next.left.state (let_gone begun)
    unfolding begun
    later_meets = record { meets = meets.meets; name = meets.name; once = meets.once }

    dir_arrives : (branches : List (Branch Segment)) → AreFromDir (ground false) dir known branches
        → Arrives site at_cut (steps_at at_cut) branches
    unfolding begun
    dir_arrives branches are =
        let part = at_end dir known (ends_in levels shown at_root) are.0 met.end are.1 met.among in
        let plan = again_at (ground false) dir met.end in
        let side = on_one_side (named (ground false) known) begun begun_covers (exactly met.end) (Branches plan) part.0
        part.2 (ap (exactly met.end) meets.name ∙ met.exact) in
        let branch = covered plan side.0 begun part.0 (let_gone begun) found.settings side.1 side.2 found.runs in
        let aliased = is_aliased here.named in
        let at : Branch Settings = (branch.0, found.settings) in
        let ahead = from_place dir are.0 branches at are.2 (part.1 at branch.1) in
        let last = by_alias dir aliased at ahead.0 ahead.2 in
        let own : Settings = record found.settings { aliased = aliased } in
        arrives_in site at_cut (steps_at at_cut) last.0 branches (all_among last.0 ahead.0 branches last.1 ahead.1)
        (settled_arrives own (let_gone begun) branch.0 last.0 later_meets branch.2
        (subst (λ own. Branches
        (dir_round_plan (ground false) own (engine_by (ground false) own dir) (begun_again false)) branch.0 last.0)
        (as_settled site here shown own found.settles) last.2))

pub each_has_arrival : EachHasArrival
unfolding segment
each_has_arrival site (at_pass left) shown levels merges names known state branches is_ground reached stands covers
    are =
    let cut = at_pass left in
    let steps = run (segment site cut) shown in
    arrives site cut steps (λ last. pass_plan (ground_of site last shown levels merges names))
    (pass_lasts site shown levels merges names) state
    (subst (λ first. LikeSegment (SegmentLike site left.pass 1 1 []) first steps) (run_same _)
    (pass_agrees site left.pass left.require shown levels merges names state is_ground stands.0 stands.1)) known covers
    branches are
each_has_arrival site (server_round pass round next) shown levels merges names known state branches is_ground reached
    stands covers are =
    server_arrives site shown levels merges names is_ground pass round next state known covers stands branches are
each_has_arrival site (dir_round here dir round next) shown levels merges names known state branches is_ground reached
    stands covers are =
    dir_arrives site shown levels merges names is_ground here dir round next state known covers reached stands branches
    are
