-- Behind the rules of a directory: the first redirect that takes the path, and else the end of the pass.
use Rattle.hc_abs_left.proofs.Common.{◌≡◌, ◌∙◌, ℕ, List, [], ◌∷◌, ◌++◌, map, Bool, true, false, if◌then◌else◌}
use Rattle.hc_abs_left.proofs.Common.{Option, Some, None, option_map, refl, sym, ap, subst, Plan, Slot, done}
use Rattle.hc_alias.specs.Mapping.{root_of}
use Rattle.hc_alias.specs.Tests.{is_below}
use Rattle.hc_model.specs.declared.event.Decision.{Decision}
use Rattle.hc_model.specs.declared.mapping.PathTest.{PathTest}
use Rattle.hc_model.specs.declared.mapping.PathTest.TheVariants.{Prefix, Search}
use Rattle.hc_model.specs.declared.mapping.Redirect.{Redirect}
use Rattle.hc_model.specs.declared.section.Body.{Body}
use Rattle.hc_model.specs.declared.section.Effective.{Effective}
use Rattle.hc_model.specs.declared.walk.Kind.{Kind}
use Rattle.hc_plan.proofs.Coded.{end_fits, joined_fits, put_down_fits}
use Rattle.hc_plan.specs.Branches.{Branch, without_texts}
use Rattle.hc_plan.specs.Coded.{AreBranches, AreNext, IsNext}
use Rattle.hc_plan.specs.Plan.{let_go, look_for, take_up, test}
unfoldable use Rattle.hc_plan.specs.Plan.{and_then}
use Rattle.hc_plan.specs.States.{AbsState}
use Rattle.hc_plan.specs.declared.storing.Tied.{Tied}
use Rattle.hc_rw_eval.specs.Directories.{url_path}
use Rattle.hc_rw_expand.specs.Contexts.{Engine, engine_of}
use Rattle.hc_target.specs.Urls.{is_redirection}
use Rattle.hc_vhost.specs.Servers.{servers_of}
use Rattle.hc_abs_map.specs.Mapped.{AreRedirected, RedirectedFits}
use Rattle.hc_abs_map.specs.declared.redirects.Redirected.{Redirected}
use Rattle.hc_abs_pass.specs.Ends.{EndsAt, Left, found, left_of, next_pass, sent, status}
use Rattle.hc_abs_pass.specs.Mapping.{left_by, redirects_plan, sent_away, taken}
unfoldable use Rattle.hc_abs_pass.specs.Mapping.{entries_plan}
use Rattle.hc_abs_pass.specs.Passing as plans
use Rattle.hc_abs_pass.specs.Passing.{ends_so, left_plan, stopped}
use Rattle.hc_abs_pass.specs.Restarting.{restart_plan}
use Rattle.hc_abs_pass.specs.declared.ends.Left.{Left as LeftIn}
use Rattle.hc_abs_pass.specs.declared.ends.Left.TheVariants as left
use Rattle.hc_abs_restart.specs.Restarted.{AreRestarted, PutDown, RestartedFits, is_among, placed_by}
use Rattle.hc_abs_restart.specs.declared.restart.Restart.{Restart}
use Rattle.hc_abs_restart.specs.declared.restart.Restarted.{Restarted}
use Rattle.hc_abs_rw.specs.Templates.{groups, main, slot_item}
use Rattle.hc_abs_left.specs.Grounds.{SettingsFit, ground_in}
use Rattle.hc_abs_left.specs.Left.{AddsBehind, AreBehind, AreUnsent, behind_redirects, ends_with, engine_at, engine_in}
use Rattle.hc_abs_left.specs.Left.{sent_plan, stopped_in, stopped_so, unsent_plan}
use Rattle.hc_abs_left.specs.Segments.{AreLeft, SegmentFits}
use Rattle.hc_abs_left.specs.declared.ground.Ground.{Ground}
use Rattle.hc_abs_left.specs.declared.ground.Settings.{Settings}
use Rattle.hc_abs_left.specs.declared.segment.Segment.{Segment}

-- ---- redirects

-- The first redirect that takes the path, and what follows where none does.
module _ (end : Left → plans.Segment) (next : Option Left → Plan plans.Segment)
    (sends : (redirect : Redirect) → next (Some (left_by redirect)) ≡ done (end (left_by redirect))) where
  led : (redirects : List Redirect)
      → and_then (redirects_plan Some redirects (done None)) next ≡ redirects_plan end redirects (next None)
  unfolding and_then entries_plan
  led [] = refl
  led (redirect ∷ redirects) = λ i. take_up main (slot_item Slot.Path ∷ []) (by redirect.from (led redirects) i)
    where
      Rest : Type 0
      Rest = and_then (redirects_plan Some redirects (done None)) next ≡ redirects_plan end redirects (next None)

      each : Rest → (is : Bool) → and_then (elim is [
        | true ↦ sent_away Some redirect
        | false ↦ redirects_plan Some redirects (done None)
      ]) next ≡ elim is [
        | true ↦ sent_away end redirect
        | false ↦ redirects_plan end redirects (next None)
      ]
      each rest true = ap (let_go groups) (sends redirect)
      each rest false = rest

      by : (own : PathTest) → Rest → and_then (taken own (λ is. elim is [
        | true ↦ sent_away Some redirect
        | false ↦ redirects_plan Some redirects (done None)
      ])) next ≡ taken own (λ is. elim is [
        | true ↦ sent_away end redirect
        | false ↦ redirects_plan end redirects (next None)
      ])
      by (Prefix from) rest = λ i. test main (is_below from) (λ is. each rest is i)
      by (Search pattern) rest = λ i. look_for groups pattern main (λ is. each rest is i)

-- ---- ends

module _ (ground : Ground) (lent : Settings) (decisions : List Decision) where
  abbrev Fit : Segment → Branch plans.Segment → Type 0
  Fit = SegmentFits ground.client ground.tests.now

  -- The pass ends at a state.
  ends_here : (tied : Tied) (left : LeftIn) (end : Left) (state : AbsState) → end ≡ left_of left
      → EndsAt ground.client tied state → PutDown end state
      → AreBranches Fit (done (ends_with lent decisions end)) state (stopped_in lent decisions tied left ∷ [])
  ends_here tied left end state same ends texts =
      end_fits Fit state (ends_with lent decisions end) (stopped_in lent decisions tied left) (record {
        at = ends;
        texts = texts;
        decided = refl;
        require = refl;
        finish = ap stopped same;
      })

  -- It ends by a redirect, or, where that led to another pass, with no text in hand.
  sent_fits : (tied : Tied) (left : LeftIn) (state : AbsState) → EndsAt ground.client tied state
      → AreBranches Fit (sent_plan lent decisions (left_of left)) state (stopped_in lent decisions tied left ∷ [])
  sent_fits tied left.NextPass state ends =
      put_down_fits Fit state (done (ends_with lent decisions next_pass))
      (stopped_in lent decisions tied left.NextPass ∷ [])
      (ends_here tied left.NextPass next_pass (without_texts state) refl
      (record { cell = ends.cell; ties = ends.ties; given = ends.given; printed = ends.printed }) refl)
  sent_fits tied (left.Status number) state ends =
      ends_here tied (left.Status number) (left_of (left.Status number)) state refl ends tt
  sent_fits tied (left.Outside reason) state ends =
      ends_here tied (left.Outside reason) (left_of (left.Outside reason)) state refl ends tt
  sent_fits tied (left.Found kind) state ends =
      ends_here tied (left.Found kind) (left_of (left.Found kind)) state refl ends tt
  sent_fits tied (left.Sent redirect) state ends =
      ends_here tied (left.Sent redirect) (left_of (left.Sent redirect)) state refl ends tt
  sent_fits tied (left.Refused refusal) state ends =
      ends_here tied (left.Refused refusal) (left_of (left.Refused refusal)) state refl ends tt
  sent_fits tied (left.Limit kind) state ends =
      ends_here tied (left.Limit kind) (left_of (left.Limit kind)) state refl ends tt

  -- No redirect leads to another pass.
  sends : (redirect : Redirect)
      → sent_plan lent decisions (left_by redirect) ≡ done (ends_with lent decisions (left_by redirect))
  sends redirect = by (is_redirection redirect.status)
    where
      by : (is : Bool)
          → sent_plan lent decisions (if is then sent redirect else status redirect.status)
          ≡ done (ends_with lent decisions (if is then sent redirect else status redirect.status))
      by true = refl
      by false = refl

  -- ---- where no redirect takes the path

  module _ (ran : Bool) where
    pub found_here : (tied : Tied) (later before : List Segment) → ran ≡ false → before ≡ []
        → later ≡ before ++ stopped_in lent decisions tied (left.Found lent.kind) ∷ []
        → AreUnsent ground lent decisions ran tied later
    found_here tied later before isnt none more state ends =
        subst (λ ran. AreBranches Fit (unsent_plan ground lent decisions ran) state later) (sym isnt)
        (subst (AreBranches Fit (done (ends_with lent decisions (found lent.kind))) state)
        (sym (more ∙ ap (λ before. before ++ stopped_in lent decisions tied (left.Found lent.kind) ∷ []) none))
        (ends_here tied (left.Found lent.kind) (found lent.kind) state refl ends tt))

    -- It ends with each branch of a restart.
    all_stop : (restarted : List Restarted)
        → AreNext (RestartedFits ground.client) Fit (λ end. done (ends_with lent decisions end)) restarted
        (map (stopped_so lent decisions) restarted)
    all_stop [] = refl
    all_stop (one ∷ restarted) = (
      stopped_so lent decisions one ∷ [],
      map (stopped_so lent decisions) restarted,
      refl,
      (λ branch fits. ends_here one.tied one.left branch.1 branch.0 fits.left fits.at fits.texts),
      all_stop restarted,
    )

    pub restarted_fit : (restart : Restart) (tied : Tied) (restarted : List Restarted) (later : List Segment)
        → ran ≡ true → restart.kind ≡ lent.kind → restart.last ≡ ground.last → restart.names ≡ ground.names
        → option_map (λ root. root.now) restart.root ≡ root_of (servers_of ground.config.now ground.host)
        → option_map engine_of restart.engine ≡ engine_in lent → AreRestarted restart tied restarted
        → later ≡ map (stopped_so lent decisions) restarted → AreUnsent ground lent decisions ran tied later
    restarted_fit restart tied restarted later is kind last names root engine are all state ends =
        subst (λ ran. AreBranches Fit (unsent_plan ground lent decisions ran) state later) (sym is)
        (joined_fits (RestartedFits ground.client) Fit (λ end. done (ends_with lent decisions end))
        (restart_plan lent.kind ground.last
        (placed_by (root_of (servers_of ground.config.now ground.host)) (engine_in lent)) (is_among ground.names.now))
        state restarted later
        (subst (λ plan. AreBranches (RestartedFits ground.client) plan state restarted)
        (λ i. restart_plan (kind i) (last i) (placed_by (root i) (engine i)) (is_among (names i).now))
        (are ground.client state ends))
        (subst (AreNext (RestartedFits ground.client) Fit (λ end. done (ends_with lent decisions end)) restarted)
        (sym all) (all_stop restarted)))

    -- ---- behind redirects

    module _ (one : Redirected) (earlier later : List Segment) where
      by_end : (given : Option LeftIn) (more : List Segment) → one.left ≡ given
          → ((state : AbsState) → EndsAt ground.client one.tied state
          → AreBranches Fit (behind_redirects ground lent decisions ran (option_map left_of given)) state more)
          → IsNext (RedirectedFits ground.client) Fit (behind_redirects ground lent decisions ran) one more
      by_end given more same leads branch fits =
          subst (λ end. AreBranches Fit (behind_redirects ground lent decisions ran end) branch.0 more)
          (sym (fits.1 ∙ ap (option_map left_of) same)) (leads branch.0 fits.0)

      -- One ends the pass.
      pub sent_behind : (left : LeftIn) → one.left ≡ Some left
          → later ≡ earlier ++ stopped_in lent decisions one.tied left ∷ []
          → AddsBehind ground lent decisions ran one earlier later
      sent_behind left same more = (
        stopped_in lent decisions one.tied left ∷ [],
        more,
        by_end (Some left) (stopped_in lent decisions one.tied left ∷ []) same (sent_fits one.tied left),
      )

      -- None takes the path.
      pub unsent_behind : (more : List Segment) → one.left ≡ None → AreUnsent ground lent decisions ran one.tied more
          → later ≡ earlier ++ more → AddsBehind ground lent decisions ran one earlier later
      unsent_behind more same are is = (more, is, by_end None more same are)

    -- ---- the whole

    -- A text in the rules of a directory, by whether there is one.
    placed_is : (root : Option (List ℕ)) (engine : List ℕ → Engine) (dir : Option (List ℕ))
        → placed_by root (option_map engine dir)
        ≡ λ text. elim dir [ None ↦ text | Some dir ↦ url_path root (engine dir) text ]
    placed_is root engine None = refl
    placed_is root engine (Some dir) = refl

    -- The plan behind the rules, from what is in force.
    abbrev whole : Effective → Kind → (List ℕ → List ℕ) → Plan plans.Segment
    whole force kind placed = redirects_plan (ends_so force.require decisions) force.redirects (elim ran [
      | true ↦ and_then (restart_plan kind ground.last placed (is_among ground.names.now))
          (λ left. done (ends_so force.require decisions left))
      | false ↦ done (ends_so force.require decisions (found kind))
    ])

    -- What follows the redirects, from what is lent, makes the plan behind the rules.
    left_is : (levels : ℕ) (merges : Body → Bool) (settings : plans.Settings) → SettingsFit lent settings
        → redirects_plan (ends_with lent decisions) lent.force.redirects (unsent_plan ground lent decisions ran)
        ≡ left_plan (ground_in levels merges ground) settings decisions ran
    left_is levels merges settings fit =
        let root = root_of (servers_of ground.config.now ground.host) in
        ap (whole lent.force lent.kind)
        (placed_is root (engine_at lent) lent.force.dir)
        ∙ (λ i. whole (sym fit.force i) (sym fit.kind i) (λ text. elim (sym fit.force i).dir [
          | None ↦ text
          | Some dir ↦ url_path root
              (record { dir = dir; base = (sym fit.force i).base; aliased = sym fit.aliased i }) text
        ]))

    pub left_fit : (tied : Tied) (redirected : List Redirected) (later : List Segment)
        → AreRedirected lent.force.redirects tied redirected → AreBehind ground lent decisions ran redirected later
        → AreLeft ground lent decisions ran tied later
    left_fit tied redirected later are behind levels merges settings state fit ends =
        let next = behind_redirects ground lent decisions ran in
        subst (λ plan. AreBranches Fit plan state later)
        (led (ends_with lent decisions) next sends lent.force.redirects ∙ left_is levels merges settings fit)
        (joined_fits (RedirectedFits ground.client) Fit next (redirects_plan Some lent.force.redirects (done None)) state
        redirected later (are ground.client state ends) behind)
