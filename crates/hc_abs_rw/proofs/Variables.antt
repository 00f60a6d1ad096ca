-- The plan of E values comes to what they come to.
use Rattle.hc_abs_rw.proofs.Common.{◌≡◌, ◌∙◌, ℕ, List, [], ◌∷◌, Bool, true, false}
use Rattle.hc_abs_rw.proofs.Common.{if◌then◌else◌, Option, Some, None, refl, sym, ap, subst}
use Rattle.hc_abs_rw.proofs.Common.{true≢false, Context, Looks, Shown, RwState, State, plan_run}
use Rattle.hc_abs_rw.proofs.Common.{too_long, run, ◌>>=◌, Step, leaves, ends, say, look, Frame, frame_of}
use Rattle.hc_abs_rw.proofs.Common.{values_shown, HoldsGroups, Meets, Stands, Slot}
use Rattle.std.specs.Prelude.{unwrap_or, cond}
use Rattle.std.specs.Map.{lookup}
use Rattle.std.specs.Str.{bytes_eq}
use Rattle.hc_model.specs.declared.outcome.Outcome.{Outcome}
use Rattle.hc_model.specs.declared.outcome.Outcome.TheVariants as outcome
use Rattle.hc_model.specs.declared.outcome.Reason.TheVariants.{LongText}
use Rattle.hc_model.specs.declared.rewrite.EnvSet.{EnvSet}
use Rattle.hc_model.specs.declared.template.Piece.{Piece}
use Rattle.hc_plan.specs.Plan.{Plan, bound, store, from, from_hand, from_text}
use Rattle.hc_plan.specs.Running.{storing}
use Rattle.std.specs.Cmp.Lexicographic.{texts_ties}
use Rattle.hc_plan.specs.Slots.{put}
use Rattle.hc_plan.proofs.Slots.{own_bytes, same_bytes}
use Rattle.hc_rw_eval.specs.Substitutions.{is_long, set_by as real_set_by, set_to, with_set as set_in_order}
use Rattle.hc_rw_eval.specs.Substitutions.{variables_set, with_variable, without_variable}
use Rattle.hc_rw_expand.specs.Lookups.{expanded, filled_with}
use Rattle.hc_rw_expand.specs.Values.{filling_in}
use Rattle.hc_rw_expand.specs.Variables.{Variables, variable_set, with_value}
use Rattle.hc_steps.specs.Step.{in_order}
use Rattle.hc_abs_rw.specs.Standing.{Like}
use Rattle.hc_abs_rw.specs.Substitutions.{set_by, sets_plan}
use Rattle.hc_abs_rw.specs.Templates.{main}
use Rattle.hc_abs_rw.proofs.Expanding.{all_expanded, expand_run, with_main}
use Rattle.hc_abs_rw.proofs.Staging.{Relation, like_quiet}

-- ---- variables

abbrev first_or : Bool → List ℕ → List ℕ → List ℕ
first_or is value rest = if is then value else rest

first_is : (other : List ℕ) (each : List ℕ × List ℕ) (vars : Variables)
    → variable_set (each ∷ vars) other ≡ first_or (bytes_eq other each.0) each.1 (variable_set vars other)
first_is other each vars = by (bytes_eq other each.0)
  where
    by : (is : Bool) → unwrap_or (cond is (Some each.1) (lookup (bytes_eq other) vars)) []
        ≡ first_or is each.1 (variable_set vars other)
    by true = refl
    by false = refl

turned : (one other : List ℕ) → bytes_eq other one ≡ bytes_eq one other
turned one other = by (bytes_eq one other) (bytes_eq other one) refl refl
  where
    by : (is was : Bool) → bytes_eq one other ≡ is → bytes_eq other one ≡ was → was ≡ is
    by true true e k = refl
    by false false e k = refl
    by true false e k = absurd (true≢false
        (sym (own_bytes one) ∙ ap (λ x. bytes_eq x one) (same_bytes one other e) ∙ k))
    by false true e k = absurd (true≢false
        (sym (own_bytes other) ∙ ap (λ x. bytes_eq x other) (same_bytes other one k) ∙ e))

-- A name that is set has the value, and each other one what it had.
pub set_again : (name value other : List ℕ) (same : Bool) → bytes_eq name other ≡ same → (vars : Variables)
    → variable_set (with_value vars name value) other ≡ (if same then value else variable_set vars other)
set_again name value other same is [] =
    first_is other (name, value) [] ∙ ap (λ it. first_or it value []) (turned name other ∙ is)
set_again name value other same is (each ∷ vars) =
    by (bytes_eq name each.0) refl same is (set_again name value other same is vars)
  where
    here : (same : Bool) → bytes_eq name each.0 ≡ true → bytes_eq name other ≡ same
        → bytes_eq other each.0 ≡ same
    here same own is = ap (bytes_eq other) (sym (same_bytes name each.0 own)) ∙ turned name other ∙ is

    elsewhere : bytes_eq name each.0 ≡ false → bytes_eq name other ≡ true → bytes_eq other each.0 ≡ false
    elsewhere own is = ap (λ x. bytes_eq x each.0) (sym (same_bytes name other is)) ∙ own

    by : (at : Bool) → bytes_eq name each.0 ≡ at → (same : Bool) → bytes_eq name other ≡ same
        → variable_set (with_value vars name value) other ≡ (if same then value else variable_set vars other)
        → variable_set (if at then (each.0, value) ∷ vars else each ∷ with_value vars name value) other
        ≡ (if same then value else variable_set (each ∷ vars) other)
    by true own true is later =
        first_is other (each.0, value) vars
        ∙ ap (λ it. first_or it value (variable_set vars other)) (here true own is)
    by true own false is later =
        first_is other (each.0, value) vars
        ∙ ap (λ it. first_or it value (variable_set vars other)) (here false own is)
        ∙ sym (first_is other each vars
        ∙ ap (λ it. first_or it each.1 (variable_set vars other)) (here false own is))
    by false own true is later =
        first_is other each (with_value vars name value)
        ∙ ap (λ it. first_or it each.1 (variable_set (with_value vars name value) other)) (elsewhere own is)
        ∙ later
    by false own false is later =
        first_is other each (with_value vars name value)
        ∙ ap (first_or (bytes_eq other each.0) each.1) later ∙ sym (first_is other each vars)

-- ---- steps in a row

pub in_a_row : {E A B C : Type 0} (step : Step E A) (next : A → Step E B) (last : B → Step E C)
    → (step >>= next) >>= last ≡ step >>= λ value. next value >>= last
unfolding ◌>>=◌
in_a_row (leaves value) next last = refl
in_a_row (ends end) next last = refl
in_a_row (say event step) next last = ap (say event) (in_a_row step next last)
in_a_row (look read step) next last = λ i. look read (λ shown. in_a_row (step shown) next last i)

-- ---- E values

module _ (context : Context) (looks : Looks) (shown : Shown) where
  abbrev own : Frame
  own = frame_of context looks shown

  -- A variable is set; its value is empty where it is unset.
  moved : (now : RwState) (s : State) → Meets context now s → (name value : List ℕ) (vars : Variables)
      → ((other : List ℕ)
      → (if bytes_eq name other then value else variable_set now.vars other) ≡ variable_set vars other)
      → Stands context (record now { vars = vars }) (put (Slot.Env name) value s.slots) s.client
  moved now s meets name value vars each = record {
    text = meets.text;
    query = meets.query;
    info = meets.info;
    end = meets.end;
    path = meets.path;
    method = meets.method;
    request = meets.request;
    variables = λ other. ap (λ same. if same then value else s.slots (Slot.Env other)) (sym (texts_ties name other))
        ∙ by other (bytes_eq name other) (meets.variables other) ∙ each other;
    headers = meets.headers;
    caller = meets.caller;
  }
    where
      by : (other : List ℕ) (same : Bool) → s.slots (Slot.Env other) ≡ variable_set now.vars other
          → (if same then value else s.slots (Slot.Env other)) ≡ (if same then value else variable_set now.vars
          other)
      by other true is = refl
      by other false is = is

  set : (now : RwState) (s : State) → Meets context now s → (name value : List ℕ)
      → Stands context (with_variable name value now) (put (Slot.Env name) value s.slots) s.client
  set now s meets name value = moved now s meets name value (with_value now.vars name value)
      (λ other. sym (set_again name value other (bytes_eq name other) refl now.vars))

  module _ {C D : Type 0} (R : Relation C D) where
    -- What follows comes to one from all such states.
    abbrev pub Further : Plan C → (RwState → Step Outcome D) → Type 0
    Further plan next = (now : RwState) (s : State) → Meets context now s
        → HoldsGroups now s.given.first s.given.second
        → Like R (plan_run plan s) (run (next now) shown)

    long_or : (is : Bool) (text name : List ℕ) (plan : Plan C) (next : RwState → Step Outcome D) (now : RwState)
        (s : State) (one other : List ℕ)
        → Meets context now s → HoldsGroups now s.given.first s.given.second → Further plan next
        → Like R (elim is [
          | true ↦ too_long
          | false ↦
              plan_run plan (storing (with_main s text one other) ((Slot.Env name, from_hand main) ∷ []))
        ])
        (run ((if is then ends (outcome.Outside LongText) else leaves (with_variable name text now)) >>= next) shown)
    unfolding run ◌>>=◌
    long_or true text name plan next now s one other meets holds further = refl
    long_or false text name plan next now s one other meets holds further =
        further (with_variable name text now)
        (storing (with_main s text one other) ((Slot.Env name, from_hand main) ∷ []))
        (set now s meets name text) (record { own = holds.own; cond = holds.cond })

    set_like : (name : List ℕ) (value : Option (List Piece)) (plan : Plan C) (next : RwState → Step Outcome D)
        → Further plan next
        → Further (set_by own name value plan) (λ now. real_set_by context looks now name value >>= next)
    unfolding plan_run run ◌>>=◌ real_set_by set_to
    set_like name None plan next further now s meets holds =
        further (without_variable name now) (storing s ((Slot.Env name, from (from_text [])) ∷ []))
        (set now s meets name [])
        (record { own = holds.own; cond = holds.cond })
    set_like name (Some value) plan next further now s meets holds =
        let body = bound main is_long (store ((Slot.Env name, from_hand main) ∷ []) plan) in
        let template = expanded looks (filling_in context now) value in
        let text = filled_with (values_shown looks shown) (filling_in context now) value in
        let led = expand_run context looks shown now body value s meets holds in
        subst (λ first. Like R first (run ((template >>= set_to now name) >>= next) shown)) (sym led.2)
        (subst (λ step. Like R (plan_run body (with_main s text led.0 led.1)) (run step shown))
        (sym (in_a_row template (set_to now name) next))
        (like_quiet R (plan_run body (with_main s text led.0 led.1)) template (λ text. set_to now name text >>= next)
        shown text
        (all_expanded looks (filling_in context now) shown value)
        (long_or (is_long text) text name plan next now s led.0 led.1 meets holds further)))

    pub sets_like : (sets : List EnvSet) (plan : Plan C) (next : RwState → Step Outcome D) → Further plan next
        → Further (sets_plan own sets plan) (λ now. variables_set context looks now sets >>= next)
    unfolding sets_plan variables_set set_in_order ◌>>=◌
    sets_like [] plan next further now s meets holds = further now s meets holds
    sets_like (each ∷ sets) plan next further now s meets holds =
        let rest : RwState → Step Outcome RwState = λ now. in_order (set_in_order context looks) now sets in
        subst (λ step. Like R (plan_run (sets_plan own (each ∷ sets) plan) s) (run step shown))
        (sym (in_a_row (set_in_order context looks now each) rest next))
        (set_like each.name each.value (sets_plan own sets plan) (λ now. rest now >>= next)
        (sets_like sets plan next further) now s meets holds)
