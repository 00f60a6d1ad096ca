-- Where a text leads that a rule makes.
use Rattle.hc_abs_rw.proofs.Common.{◌≡◌, ◌∙◌, ℕ, List, [], ◌∷◌, ◌++◌, Bool, true, false}
use Rattle.hc_abs_rw.proofs.Common.{◌||◌, Option, None, Some, refl, sym, ap, subst, Frame, Plan, Result, Ok, Err}
use Rattle.hc_abs_rw.proofs.Common.{if◌then◌else◌, pick, true≢false, unwrap_or, length, eqb-true, ◌==◌}
use Rattle.std.proofs.lemmas.List.{nil_from_length}
use Rattle.std.specs.Borrow.{Bor}
use Rattle.std.specs.Prelude.{is_some, option_map}
use Rattle.hc_addr.specs.declared.addr.Addr.{Addr}
use Rattle.hc_base.specs.Paths.{begins_with_slash}
use Rattle.hc_dfa.specs.Automata.{Automaton, accepts}
use Rattle.hc_dfa.specs.Built.{Accepts}
use Rattle.hc_dfa.specs.Texts.{IsText, TextSet}
use Rattle.hc_model.specs.declared.outcome.Reason.{Reason}
use Rattle.hc_model.specs.declared.outcome.Reason.TheVariants as reason
use Rattle.hc_model.specs.declared.request.Caller.{Caller}
use Rattle.hc_model.specs.declared.walk.Kind.{Kind}
use Rattle.hc_pat_lang.specs.Sets.{AcceptsOnly}
use Rattle.hc_plan.proofs.Coded.{bound_fits}
use Rattle.hc_plan.specs.Branches.{others}
use Rattle.hc_plan.specs.Hands.{set_in}
use Rattle.hc_plan.specs.Plan.{make, test}
use Rattle.hc_plan.specs.States.{AbsState, Has}
use Rattle.hc_plan.specs.Texts.{IsSetOf}
use Rattle.hc_plan.specs.declared.hand.Element.{Element}
use Rattle.hc_plan.specs.declared.hand.Element.TheVariants as element
use Rattle.hc_plan.specs.declared.hand.Way.{Way}
use Rattle.hc_rw_eval.specs.Directories.{url_path}
use Rattle.hc_rw_eval.specs.Locations.{has_scheme, own_path}
use Rattle.hc_rw_eval.specs.Substitutions.{front_of, is_long, redirects}
use Rattle.hc_rw_expand.specs.Contexts.{engine_of}
use Rattle.hc_rw_expand.specs.Lookups.{Values}
use Rattle.hc_rw_expand.specs.declared.context.Engine.{Engine as LentEngine}
use Rattle.hc_rw_sets.proofs.Joins.{joined_text}
use Rattle.hc_rw_sets.specs.Made.{MadeOf}
use Rattle.hc_steps.specs.Step.{Path}
use Rattle.hc_target.specs.Urls.{is_url}
use Rattle.hc_abs_rw.specs.Applied.{AppliedFits}
use Rattle.hc_abs_rw.specs.Drafts.{Adds, AddsLed, AddsOn, AddsOwn, IsTextSet, Leads, Sits, SitsIn, by_task, frame_in}
use Rattle.hc_abs_rw.specs.Drafts.{fronted_by, fronted_plan, left_here, on_way, outside_as, own_left, path_sent}
use Rattle.hc_abs_rw.specs.Drafts.{sent_to}
use Rattle.hc_abs_rw.specs.Frames.{common}
use Rattle.hc_abs_rw.specs.Substitutions.{Made, own_plan, placed_plan, relative_plan, scheme_plan, slash_plan}
use Rattle.hc_abs_rw.specs.Substitutions.{text_plan, url_plan, path_plan, front_plan}
use Rattle.hc_abs_rw.specs.Templates.{main, second}
use Rattle.hc_abs_rw.specs.Trials.{AreWays}
use Rattle.hc_abs_rw.specs.declared.apply.Applied.{Applied}
use Rattle.hc_abs_rw.specs.declared.draft.Draft.{Draft}
use Rattle.hc_abs_rw.specs.declared.draft.Task.{Task}
use Rattle.hc_abs_rw.specs.declared.ways.Ways.{Ways}
use Rattle.hc_abs_rw.proofs.Drafting.{asked, asked_within, led_alike, remade}
use Rattle.hc_abs_rw.proofs.Images.{MakesTexts, hand_has, image_set, own_images, url_text}

-- ---- tests

module _ (task : Task) (draft : Draft) (set : Automaton) (ways : Ways) (before mid after : List Applied) where
  abbrev pub Asked : Bool → Type 0
  Asked negated = AreWays draft.tied.cell draft.tied.ties draft.text.now 0 draft.side negated (accepts set) ways

  pub url_led : Accepts set is_url → Asked false → AddsOn task url_plan draft ways.held before mid
      → AddsOn task scheme_plan draft ways.failed mid after → AddsLed task text_plan draft before after
  unfolding text_plan
  url_led is are first rest =
      let led = asked task draft (λ frame. is_url) (accepts set) false (λ kind values x bytes. is x bytes) ways are
      url_plan scheme_plan before mid after first rest in
      record {
        found = led.found;
        more = led.more;
        led = λ kind values client state sits.
            let Fit = AppliedFits client (common task.tests.now) in
            bound_fits Fit state main is_long _ led.found
            (bound_fits Fit state second is_long _ led.found (led.led kind values client state sits));
      }

  pub scheme_led : Accepts set has_scheme → Asked false
      → AddsOn task (outside_as reason.Scheme) draft ways.held before mid
      → AddsOn task relative_plan draft ways.failed mid after → AddsLed task scheme_plan draft before after
  scheme_led is are =
      asked task draft (λ frame. has_scheme) (accepts set) false (λ kind values x bytes. is x bytes) ways are
      (outside_as reason.Scheme) relative_plan before mid after

  pub own_led : Accepts set (λ text. is_some (own_path task.tests.now text)) → Asked false
      → AddsOwn task draft ways.held before mid → AddsOn task (sent_to false) draft ways.failed mid after
      → AddsLed task own_plan draft before after
  own_led is are first rest =
      asked_within task draft (λ frame text. is_some (own_path frame.caller text)) (accepts set) false
      (λ kind values x bytes. is x bytes) ways are own_left (sent_to false) before mid
      after (λ text. is_some (own_path task.tests.now text)) (λ kind values x within. within) first rest

  pub slash_led : Accepts set begins_with_slash → Asked true → AddsOn task fronted_plan draft ways.held before mid
      → AddsOn task placed_plan draft ways.failed mid after → AddsLed task slash_plan draft before after
  slash_led is are first rest =
      led_alike task (Sits draft) _ (by_task task slash_plan draft.replaced) before after
      (λ kind values i. test main (others begins_with_slash) (λ relative. same kind values relative i))
      (asked task draft (λ frame. begins_with_slash) (accepts set) true (λ kind values x bytes. is x bytes) ways are
      fronted_plan placed_plan before mid after first rest)
    where
      same : (kind : Path → Kind) (values : Values) (relative : Bool) → elim relative [
        | true ↦ by_task task fronted_plan draft.replaced (frame_in task kind values)
        | false ↦ by_task task placed_plan draft.replaced (frame_in task kind values)
      ] ≡ front_plan (frame_in task kind values) task.flags.now task.setting draft.replaced
          (if relative then front_of (option_map engine_of task.engine) (redirects task.flags.now) else Ok [])
      same kind values true = refl
      same kind values false = refl

-- ---- by R and the engine

chosen : (is : Bool) (one other : Plan Made) → is ≡ true → one ≡ elim is [ true ↦ one | false ↦ other ]
chosen true one other same = refl
chosen false one other same = absurd (true≢false (sym same))

other_chosen : (is : Bool) (one other : Plan Made) → is ≡ false
    → other ≡ elim is [ true ↦ one | false ↦ other ]
other_chosen true one other same = absurd (true≢false same)
other_chosen false one other same = refl

some_engine : (engine : Option LentEngine) → is_some (option_map engine_of engine) ≡ is_some engine
some_engine None = refl
some_engine (Some engine) = refl

module _ (task : Task) (draft : Draft) (before after : List Applied) where
  abbrev Led : Leads → Type 0
  Led plan = AddsLed task plan draft before after

  abbrev plan_in : Leads → (Path → Kind) → Values → Plan Made
  plan_in plan kind values = by_task task plan draft.replaced (frame_in task kind values)

  alike : (plan other : Leads)
      → ((kind : Path → Kind) (values : Values) → plan_in plan kind values ≡ plan_in other kind values)
      → Led plan → Led other
  alike plan other =
      led_alike task (Sits draft) (by_task task plan draft.replaced) (by_task task other draft.replaced) before after

  pub url_sent : redirects task.flags.now ≡ true → Led (sent_to false) → Led url_plan
  url_sent is =
      alike (sent_to false) url_plan (λ kind values.
      chosen (redirects task.flags.now) (plan_in (sent_to false) kind values) (plan_in own_plan kind values) is)

  pub url_asked : redirects task.flags.now ≡ false → Led own_plan → Led url_plan
  url_asked is =
      alike own_plan url_plan (λ kind values.
      other_chosen (redirects task.flags.now) (plan_in (sent_to false) kind values) (plan_in own_plan kind values) is)

  asks : (is : Bool) → (redirects task.flags.now || is_some task.engine) ≡ is
      → (redirects task.flags.now || is_some (option_map engine_of task.engine)) ≡ is
  asks is same = ap (λ some. redirects task.flags.now || some) (some_engine task.engine) ∙ same

  pub relative_asked : (redirects task.flags.now || is_some task.engine) ≡ true → Led slash_plan
      → Led relative_plan
  relative_asked is =
      alike slash_plan relative_plan (λ kind values.
      chosen (redirects task.flags.now || is_some (option_map engine_of task.engine)) (plan_in slash_plan kind values)
      (plan_in placed_plan kind values) (asks true is))

  pub relative_unasked : (redirects task.flags.now || is_some task.engine) ≡ false → Led placed_plan
      → Led relative_plan
  relative_unasked is =
      alike placed_plan relative_plan (λ kind values.
      other_chosen (redirects task.flags.now || is_some (option_map engine_of task.engine))
      (plan_in slash_plan kind values) (plan_in placed_plan kind values) (asks false is))

  pub placed_sent : redirects task.flags.now ≡ true → Led path_sent → Led placed_plan
  placed_sent is =
      alike path_sent placed_plan (λ kind values.
      chosen (redirects task.flags.now) (plan_in path_sent kind values) (plan_in left_here kind values) is)

  pub placed_left : redirects task.flags.now ≡ false → Led left_here → Led placed_plan
  placed_left is =
      alike left_here placed_plan (λ kind values.
      other_chosen (redirects task.flags.now) (plan_in path_sent kind values) (plan_in left_here kind values) is)

  -- In a server.
  pub sent_alone : task.engine ≡ None → Led (sent_to true) → Led path_sent
  sent_alone is =
      alike (sent_to true) path_sent (λ kind values.
      sym (ap (λ (engine : Option LentEngine). path_plan (frame_in task kind values) task.flags.now task.setting
      draft.replaced (option_map engine_of engine) (plan_in (sent_to true) kind values)) is))

  pub fronted_led : (front : Result (List ℕ) Reason)
      → front ≡ front_of (option_map engine_of task.engine) (redirects task.flags.now)
      → Led (fronted_by front) → Led fronted_plan
  fronted_led front is =
      alike (fronted_by front) fronted_plan (λ kind values.
      ap (λ (front : Result (List ℕ) Reason). plan_in (fronted_by front) kind values) is)

  pub front_refused : (front : Result (List ℕ) Reason) (why : Reason) → front ≡ Err why → Led (outside_as why)
      → Led (fronted_by front)
  front_refused front why is =
      alike (outside_as why) (fronted_by front) (λ kind values.
      sym (ap (λ (front : Result (List ℕ) Reason). plan_in (fronted_by front) kind values) is))

  -- A text that is put behind nothing.
  pub behind_nothing : (front lent : List ℕ) → lent ≡ front → (length lent == 0) ≡ true → Led placed_plan
      → Led (fronted_by (Ok front))
  behind_nothing front lent same none =
      alike placed_plan (fronted_by (Ok front)) (λ kind values.
      sym (ap (λ (front : List ℕ). plan_in (fronted_by (Ok front)) kind values)
      (sym same ∙ nil_from_length lent (eqb-true (length lent) 0 none))))

-- ---- texts that are made anew

module _ (task : Task) (draft changed : Draft) (text : Bor (List Element)) (texts made : Automaton)
    (before after : List Applied) (is : changed ≡ record draft { text = text; side = None })
    (free : text.now ≡ element.Free made ∷ []) (of : IsTextSet draft texts) where
  has : (client : Option Addr) (state : AbsState) → Sits draft client state
      → IsSetOf (set_in texts) (Has state.cell (pick state.texts main))
  has client state sits =
      hand_has draft.tied.cell draft.text.now draft.side texts state.cell (pick state.texts main) sits.text.stands.holds
      sits.text.stands.hand of

  made_led : (plan : Leads) (image : Frame → List ℕ → List ℕ)
      → ((kind : Path → Kind) (values : Values) → MakesTexts (image (frame_in task kind values)))
      → ((kind : Path → Kind) (values : Values)
      → AcceptsOnly (MadeOf (image (frame_in task kind values)) (accepts texts)) made)
      → AddsLed task plan changed before after
      → Adds task (Sits draft)
      (λ frame. make main (λ text also. image frame text) main main (by_task task plan draft.replaced frame))
      before after
  made_led plan image keeps are =
      remade task (Sits draft) plan draft changed text made image before after (λ client state sits. sits) is free
      (λ kind values client state sits.
      image_set state (pick state.texts main) (image (frame_in task kind values)) texts made (has client state sits)
      (keeps kind values) (are kind values))

  -- Behind a front.
  pub behind_front : (front lent : List ℕ) → lent ≡ front → (length lent == 0) ≡ false → IsText front
      → AcceptsOnly (MadeOf (λ text. lent ++ text) (accepts texts)) made
      → AddsLed task placed_plan changed before after
      → AddsLed task (fronted_by (Ok front)) draft before after
  behind_front [] lent same some bytes are =
      absurd (true≢false (sym (ap (λ (front : List ℕ). length front == 0) same) ∙ some))
  behind_front (b ∷ bs) lent same some bytes are =
      made_led placed_plan (λ frame text. (b ∷ bs) ++ text)
      (λ kind values text of_bytes. joined_text (b ∷ bs) text bytes of_bytes)
      (λ kind values. subst (λ front. AcceptsOnly (MadeOf (λ text. front ++ text) (accepts texts)) made) same are)

  -- In a directory.
  pub sent_in : (engine : LentEngine) → task.engine ≡ Some engine
      → IsText (unwrap_or (option_map (λ base. base.now) engine.base) [])
      → AcceptsOnly
      (MadeOf (url_path (option_map (λ root. root.now) task.root) (engine_of engine)) (accepts texts)) made
      → AddsLed task (sent_to true) changed before after → AddsLed task path_sent draft before after
  sent_in engine here bytes are adds =
      led_alike task (Sits draft) _ (by_task task path_sent draft.replaced) before after
      (λ kind values.
      sym (ap (λ (engine : Option LentEngine). path_plan (frame_in task kind values) task.flags.now task.setting
      draft.replaced (option_map engine_of engine)
      (by_task task (sent_to true) draft.replaced (frame_in task kind values))) here))
      (made_led (sent_to true) (λ frame text. url_path frame.root (engine_of engine) text)
      (λ kind values text of_bytes.
      url_text (option_map (λ root. root.now) task.root) (engine_of engine) text bytes of_bytes)
      (λ kind values. are) adds)

  -- Without the server's own name.
  abbrev pub AreOwnPaths : Caller → Type 0
  AreOwnPaths caller =
      AcceptsOnly (λ x. (y : List ℕ) × IsText y × (accepts texts y ≡ true) × (own_path caller y ≡ Some x))
      made

  abbrev is_here : TextSet
  is_here text = is_some (own_path task.tests.now text)

  own_made : AreOwnPaths task.tests.now → AddsLed task left_here changed before after
      → Adds task (SitsIn is_here draft) (by_task task own_left draft.replaced) before after
  own_made are =
      remade task (SitsIn is_here draft) left_here draft changed text made
      (λ frame text. unwrap_or (own_path frame.caller text) []) before after (λ client state within. within.sits) is
      free
      (λ kind values client state within.
      own_images task.tests.now state (pick state.texts main) texts made (has client state within.sits) within.within
      are)

  pub own_left_led : (first : Draft) (given : Option Way) (way : Way) (caller : Caller) → given ≡ Some way
      → draft ≡ on_way first way → caller ≡ task.tests.now → AreOwnPaths caller
      → AddsLed task left_here changed before after → AddsOwn task first given before after
  own_left_led first given way caller there same own are adds =
      subst (λ given. AddsOwn task first given before after) (sym there)
      (subst (λ draft. Adds task (SitsIn is_here draft) (by_task task own_left draft.replaced) before after) same
      (own_made (subst AreOwnPaths own are) adds))

-- By whether it is asked.
pub ruleset relatives = (relative_asked, relative_unasked)
