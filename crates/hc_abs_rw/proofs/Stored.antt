-- What a rule stores that makes a text.
use Rattle.hc_abs_rw.proofs.Common.{◌≡◌, ◌∙◌, List, [], ◌∷◌, ◌++◌, Bool, true, false, not}
use Rattle.hc_abs_rw.proofs.Common.{◌&&◌, Option, None, refl, sym, ap, subst, append_assoc, append-nil}
use Rattle.hc_abs_rw.proofs.Common.{Frame, Plan, done, pick}
use Rattle.hc_addr.specs.declared.addr.Addr.{Addr}
use Rattle.hc_dfa.specs.Automata.{Automaton}
use Rattle.hc_dfa.specs.Built.{Accepts}
use Rattle.hc_dfa.specs.Singles.{single}
use Rattle.hc_model.specs.declared.outcome.Reason.TheVariants as reason
use Rattle.hc_plan.proofs.Coded.{both_fit}
use Rattle.hc_plan.proofs.Stores.{StoresSame, store_fits}
use Rattle.hc_plan.specs.Branches.{Branches}
use Rattle.hc_plan.specs.Coded.{AllFit, AreBranches}
use Rattle.hc_plan.specs.Hands.{set_in}
use Rattle.hc_plan.specs.Plan.{Stored as PlanStored, from, from_hand, from_text, store}
use Rattle.hc_plan.specs.Slots.{Slot}
use Rattle.hc_plan.specs.States.{AbsState, Has}
use Rattle.hc_plan.specs.Stores.{Stores}
use Rattle.hc_plan.specs.Texts.{IsSetOf}
use Rattle.hc_plan.specs.Ways.{IsHandSet}
use Rattle.hc_plan.specs.declared.storing.Stored.{Stored}
use Rattle.hc_plan.specs.declared.storing.Tied.{Tied}
use Rattle.hc_rw_eval.specs.Substitutions.{status_sent, stops}
use Rattle.hc_abs_rw.specs.Applied.{AppliedFits, front_by, made_of}
use Rattle.hc_abs_rw.specs.Drafts.{AddsLed, AddsStored, IsTextSet, Leads, Sits, StoresAll, StoresFrom, by_task}
use Rattle.hc_abs_rw.specs.Drafts.{frame_in, left_here, outside_as, sent_to}
use Rattle.hc_abs_rw.specs.Frames.{common}
use Rattle.hc_abs_rw.specs.Substitutions.{Made, goes_on, info_stored, nothing_made, outside, query_stored}
use Rattle.hc_abs_rw.specs.Substitutions.{redirect}
use Rattle.hc_abs_rw.specs.Templates.{main, second}
use Rattle.hc_abs_rw.specs.declared.apply.Applied.{Applied}
use Rattle.hc_abs_rw.specs.declared.apply.Made.{Made as MadeOf}
use Rattle.hc_abs_rw.specs.declared.apply.Next.TheVariants as next
use Rattle.hc_abs_rw.specs.declared.draft.Draft.{Draft}
use Rattle.hc_abs_rw.specs.declared.draft.Task.{Task}
use Rattle.hc_abs_rw.proofs.Drafting.{led_alike}
use Rattle.hc_abs_rw.proofs.Images.{hand_has, nothing_has, untested_has}

-- ---- one slot

module _ (draft : Draft) where
  pub text_stored : (slot : Slot) (set : Automaton) → IsTextSet draft set
      → StoresFrom draft (slot, from_hand main) (record { slot = slot; set = set })
  text_stored slot set is = record {
    slot = refl;
    set = λ client state sits.
        hand_has draft.tied.cell draft.text.now draft.side set state.cell (pick state.texts main) sits.text.stands.holds
        sits.text.stands.hand is;
  }

  pub query_of : (set : Automaton) → IsHandSet draft.tied.cell draft.query.now 0 None set
      → StoresFrom draft (Slot.Query, from_hand second) (record { slot = Slot.Query; set = set })
  query_of set is = record {
    slot = refl;
    set = λ client state sits.
        subst (λ own. IsSetOf (set_in set) (Has state.cell own)) (sym sits.query)
        (untested_has draft.tied.cell draft.query.now set state.cell sits.text.stands.holds is);
  }

  pub nothing_in : (slot : Slot) (set : Automaton) → Accepts set (single [])
      → StoresFrom draft (slot, from (from_text [])) (record { slot = slot; set = set })
  nothing_in slot set is = record {
    slot = refl;
    set = λ client state sits. nothing_has set is;
  }

  -- ---- one after another

  pub none_stored : (before : List Stored) → AddsStored draft [] before before
  none_stored before = record { found = []; more = sym (append-nil before); same = refl }

  pub one_stored : (one : Slot × PlanStored) (stored : Stored) (before after : List Stored)
      → StoresFrom draft one stored
      → after ≡ before ++ stored ∷ [] → AddsStored draft (one ∷ []) before after
  one_stored one stored before after is more =
      record { found = stored ∷ []; more = more; same = (stored, [], refl, is, refl) }

  pub more_stored : (list more : List (Slot × PlanStored)) (before mid after : List Stored)
      → AddsStored draft list before mid → AddsStored draft more mid after
      → AddsStored draft (list ++ more) before after
  more_stored list more before mid after first rest = record {
    found = first.found ++ rest.found;
    more =
        rest.more ∙ ap (λ so_far. so_far ++ rest.found) first.more ∙ append_assoc before first.found rest.found;
    same = both_fit (StoresFrom draft) list more first.found rest.found first.same rest.same;
  }

  all_same : (client : Option Addr) (state : AbsState) → Sits draft client state
      → (list : List (Slot × PlanStored))
      (stored : List Stored) → AllFit (StoresFrom draft) list stored → AllFit (StoresSame state) list stored
  all_same client state sits [] stored fit = fit
  all_same client state sits (one ∷ list) stored fit = (
    fit.0,
    fit.1,
    fit.2,
    (fit.3.slot, fit.3.set client state sits),
    all_same client state sits list fit.1 fit.4,
  )

  pub all_stored : (list : List (Slot × PlanStored)) (stored : List Stored) (tied : Tied)
      → AddsStored draft list [] stored → Stores draft.tied.cell draft.tied.ties stored tied
      → StoresAll draft list tied
  all_stored list stored tied adds stores client state sits =
      let left = store_fits state state draft.tied.cell draft.tied.ties list adds.found tied
      (all_same client state sits list adds.found adds.same) sits.text.stands.holds sits.text.stands.tied
      (subst (λ stored. Stores draft.tied.cell draft.tied.ties stored tied) adds.more stores) in (
        left.next,
        left.is,
        record {
          cell = left.cell;
          ties = left.ties;
          looked = ap (λ given. given.third) left.given ∙ sits.text.looked;
          printed = left.printed ∙ sits.text.printed;
        },
      )

  -- A query that takes the place of the old one.
  pub query_replaced : (set : Automaton) (before after : List Stored) → draft.replaced ≡ true
      → IsHandSet draft.tied.cell draft.query.now 0 None set
      → after ≡ before ++ record { slot = Slot.Query; set = set } ∷ []
      → AddsStored draft (query_stored draft.replaced) before after
  query_replaced set before after is hand more =
      subst (λ replaced. AddsStored draft (query_stored replaced) before after) (sym is)
      (one_stored (Slot.Query, from_hand second) _ before after (query_of set hand) more)

  -- DPI.
  pub info_dropped : (discards : Bool) (set : Automaton) (before after : List Stored) → discards ≡ true
      → Accepts set (single []) → after ≡ before ++ record { slot = Slot.Info; set = set } ∷ []
      → AddsStored draft (info_stored discards) before after
  info_dropped discards set before after is empty more =
      subst (λ discards. AddsStored draft (info_stored discards) before after) (sym is)
      (one_stored (Slot.Info, from (from_text [])) _ before after (nothing_in Slot.Info set empty) more)

  pub stored_all : (slot : Slot) (discards : Bool)
      (start first second_stored third_stored lent : List Stored)
      (tied : Tied) → start ≡ [] → AddsStored draft ((slot, from_hand main) ∷ []) start first
      → AddsStored draft (query_stored draft.replaced) first second_stored
      → AddsStored draft (info_stored discards) second_stored third_stored → lent ≡ third_stored
      → Stores draft.tied.cell draft.tied.ties lent tied
      → StoresAll draft ((slot, from_hand main) ∷ query_stored draft.replaced ++ info_stored discards) tied
  stored_all slot discards start first second_stored third_stored lent tied none text query info same =
      all_stored _ lent tied
      (subst (AddsStored draft _ []) (sym same)
      (more_stored ((slot, from_hand main) ∷ []) (query_stored draft.replaced ++ info_stored discards) []
      first
      third_stored
      (subst (λ start. AddsStored draft ((slot, from_hand main) ∷ []) start first) none text)
      (more_stored (query_stored draft.replaced) (info_stored discards) first second_stored third_stored query
      info)))

-- ---- ends behind what is stored

module _ (task : Task) (draft : Draft) (before after : List Applied) where
  stored_led : (plan : Leads) (list : List (Slot × PlanStored)) (tied : Tied) (made : MadeOf) (end : Frame → Made)
      → StoresAll draft list tied
      → ((frame : Frame) → plan frame task.flags.now task.setting draft.replaced ≡ store list (done (end frame)))
      → ((frame : Frame) → end frame ≡ made_of frame.caller made)
      → after ≡ before ++ record { tied = tied; made = made } ∷ [] → AddsLed task plan draft before after
  unfolding Branches
  stored_led plan list tied made end stores is same more = record {
    found = record { tied = tied; made = made } ∷ [];
    more = more;
    led = λ kind values client state sits.
        let frame = frame_in task kind values in
        let left = stores client state sits in
        subst (λ plan. AreBranches (AppliedFits client (common task.tests.now)) plan state
        (record { tied = tied; made = made } ∷ [])) (sym (is frame)) (
          (left.0, end frame) ∷ [],
          (left.0, left.1, refl),
          ((left.0, end frame), [], refl, record { known = left.2; made = same frame }, refl),
        );
  }

  pub left_led : (tied : Tied)
      → StoresAll draft
      ((Slot.Text, from_hand main) ∷ query_stored draft.replaced ++ info_stored task.flags.now.discard)
      tied
      → after ≡ before ++ record {
        tied = tied;
        made =
            record { substituted = true; replaced = draft.replaced; next = next.GoesOn };
      } ∷ [] → AddsLed task left_here draft before after
  left_led tied stores more =
      stored_led left_here _ tied (record { substituted = true; replaced = draft.replaced; next = next.GoesOn })
      (λ frame. record { substituted = true; replaced = draft.replaced; next = goes_on }) stores (λ frame. refl)
      (λ frame. refl) more

  -- A rule that redirects ends the list, or no rule follows it.
  abbrev sent_end : Bool → Frame → Made
  sent_end own frame = record {
    substituted = false;
    replaced = draft.replaced;
    next =
        redirect (status_sent task.flags.now) (front_by own frame.caller) task.flags.now.noescape;
  }

  abbrev sent_stored : Bool → Frame → Plan Made
  sent_stored own frame =
      store ((Slot.Location, from_hand main) ∷ query_stored draft.replaced) (done (sent_end own frame))

  sent_by : (own : Bool) (frame : Frame) (wrong : Bool)
      → (task.setting.followed && not (stops task.flags.now)) ≡ wrong
      → by_task task (sent_to own) draft.replaced frame
      ≡ elim wrong [ true ↦ nothing_made (outside reason.Scheme) | false ↦ sent_stored own frame ]
  sent_by own frame wrong is = ap (λ (wrong : Bool). elim wrong [
    | true ↦ nothing_made (outside reason.Scheme)
    | false ↦ sent_stored own frame
  ]) is

  pub sent_wrong : (own : Bool) → (task.setting.followed && not (stops task.flags.now)) ≡ true
      → AddsLed task (outside_as reason.Scheme) draft before after → AddsLed task (sent_to own) draft before after
  sent_wrong own is =
      led_alike task (Sits draft) (by_task task (outside_as reason.Scheme) draft.replaced)
      (by_task task (sent_to own) draft.replaced) before after
      (λ kind values. sym (sent_by own (frame_in task kind values) true is))

  pub sent_led : (own : Bool) (tied : Tied) → (task.setting.followed && not (stops task.flags.now)) ≡ false
      → StoresAll draft
      ((Slot.Location, from_hand main) ∷ query_stored draft.replaced ++ info_stored false) tied
      → after ≡ before ++ record {
        tied = tied;
        made =
            record {
              substituted = false;
              replaced = draft.replaced;
              next =
                  next.Redirect (status_sent task.flags.now) own task.flags.now.noescape;
            };
      } ∷ [] → AddsLed task (sent_to own) draft before after
  sent_led own tied is stores more =
      stored_led (sent_to own) ((Slot.Location, from_hand main) ∷ query_stored draft.replaced) tied
      (record {
        substituted = false;
        replaced = draft.replaced;
        next =
            next.Redirect (status_sent task.flags.now) own task.flags.now.noescape;
      })
      (sent_end own)
      (subst (λ list. StoresAll draft ((Slot.Location, from_hand main) ∷ list) tied)
      (append-nil (query_stored draft.replaced)) stores)
      (λ frame. sent_by own frame false is) (λ frame. refl) more
