-- The query of a text that a rule makes.
use Rattle.hc_abs_rw.proofs.Common.{◌≡◌, List, [], ◌∷◌, Bool, true, false, not, ◌&&◌, Option, None}
use Rattle.hc_abs_rw.proofs.Common.{Some, refl, sym, ap, subst, inl, Plan, if◌then◌else◌, pick}
use Rattle.std.specs.Borrow.{Bor}
use Rattle.std.specs.List.{after_first, before_first, list_any}
use Rattle.hc_addr.specs.declared.addr.Addr.{Addr}
use Rattle.hc_base.specs.Bytes.{is_question}
use Rattle.hc_cells.specs.Cells.{Sets}
use Rattle.hc_cells.specs.declared.ties.Ties.{Ties}
use Rattle.hc_dfa.specs.Automata.{Automaton, accepts}
use Rattle.hc_dfa.specs.Built.{Accepts}
use Rattle.hc_model.specs.declared.rewrite.Flags.{Flags}
use Rattle.hc_pat_lang.specs.Sets.{AcceptsOnly}
use Rattle.hc_plan.proofs.Coded.{make_fits, take_up_fits}
use Rattle.hc_plan.specs.Branches.{Branch, others}
use Rattle.hc_plan.specs.Coded.{AreBranches}
use Rattle.hc_plan.specs.Hands.{cell_of, parts_of, set_in}
use Rattle.hc_plan.specs.Plan.{make, take_up}
use Rattle.hc_plan.specs.Slots.{Slot}
use Rattle.hc_plan.specs.States.{AbsState, AbsText, AreParts, Has, any_of, open_slot, whole, with_text}
use Rattle.hc_plan.specs.Texts.{IsSetOf}
use Rattle.hc_plan.specs.Ways.{IsHand, IsHandSet}
use Rattle.hc_plan.specs.declared.hand.Element.{Element}
use Rattle.hc_plan.specs.declared.hand.Element.TheVariants as element
use Rattle.hc_plan.specs.declared.hand.Way.{Way}
use Rattle.hc_plan.specs.declared.storing.Tied.{Tied}
use Rattle.hc_rw_expand.specs.Queries.{appended}
use Rattle.hc_rw_sets.specs.Made.{MadeOf}
use Rattle.hc_abs_rw.specs.Applied.{AppliedFits}
use Rattle.hc_abs_rw.specs.Drafts.{Adds, AddsLed, AddsSplit, AreQueries, InHand, frame_in, kept_query, kept_query_plan}
use Rattle.hc_abs_rw.specs.Drafts.{new_query_plan, slot_alone}
use Rattle.hc_abs_rw.specs.Frames.{common}
use Rattle.hc_abs_rw.specs.Substitutions.{Made, has_question, query_plan, split_plan, text_plan}
use Rattle.hc_abs_rw.specs.Templates.{main, second, slot_item, third}
use Rattle.hc_abs_rw.specs.Trials.{AreWays}
use Rattle.hc_abs_rw.specs.declared.apply.Applied.{Applied}
use Rattle.hc_abs_rw.specs.declared.draft.Task.{Task}
use Rattle.hc_abs_rw.specs.declared.ways.Ways.{Ways}
use Rattle.hc_abs_rw.proofs.Drafting.{hand_on, tested}
use Rattle.hc_abs_rw.proofs.Images.{after_text, appended_text, before_text, both_images, free_has, hand_has, image_set}
use Rattle.hc_abs_rw.proofs.Images.{untested_has}

-- ---- a new query

abbrev with_query : AbsState → Automaton → AbsText → AbsState
with_query state queries other =
    record state { texts = record { first = state.texts.first; second = any_of (set_in queries); third = other } }

module _ {B : Type 0} (Fit : B → Branch Made → Type 0) (flags : Flags) (plan : Plan Made) (found : List B) where
  query_fits : (sets : Sets) (elements : List Element) (side : Option Automaton) (texts queries : Automaton)
      (state : AbsState) → state.cell ≡ cell_of sets → IsHand state.cell elements 0 side (pick state.texts main)
      → IsHandSet sets elements 0 side texts → AreQueries (flags.qsa && not flags.qsd) sets texts queries
      → ((other : AbsText) → AreBranches Fit plan (with_query state queries other) found)
      → AreBranches Fit (query_plan flags plan) state found
  query_fits sets elements side texts queries state same hand of are more = by (flags.qsa && not flags.qsd) are
    where
      has : IsSetOf (set_in texts) (Has state.cell (pick state.texts main))
      has = hand_has sets elements side texts state.cell (pick state.texts main) same hand of

      by : (is : Bool) → AreQueries is sets texts queries
          → AreBranches Fit (make second (λ text also. after_first is_question
          text) main main (elim is [
            | true ↦ take_up third (slot_item Slot.Query ∷ []) (make second appended second third plan)
            | false ↦ plan
          ])) state found
      by false are =
          make_fits Fit state second (λ text also. after_first is_question text) main main (set_in queries) plan found
          (image_set state (pick state.texts main) (after_first is_question) texts queries has after_text are)
          (more state.texts.third)
      by true are =
          let new = are.0 in
          let old = whole (open_slot Slot.Query 0 ∷ []) in
          let first = with_text state second (any_of (set_in new)) in
          let both = with_text first third old in
          make_fits Fit state second (λ text also. after_first is_question text) main main (set_in new) _ found
          (image_set state (pick state.texts main) (after_first is_question) texts new has after_text are.1)
          (take_up_fits Fit first third (slot_item Slot.Query ∷ []) (open_slot Slot.Query 0 ∷ []) _ found
          (open_slot Slot.Query 0, [], refl, refl, refl)
          (make_fits Fit both second appended second third (set_in queries) plan found
          (both_images both (any_of (set_in new)) old appended new are.2.old queries
          (free_has state.cell (set_in new)) (untested_has sets (slot_alone Slot.Query) are.2.old state.cell same
          are.2.is_old)
          appended_text are.2.both)
          (more old)))

module _ (task : Task) (ties : Ties) (text : List Element) (way : Way) (before after : List Applied) where
  new_by : (texts queries fronts : Automaton) (front query : Bor (List Element))
      → IsHandSet way.cell text 0 way.side texts
      → AreQueries (task.flags.now.qsa && not task.flags.now.qsd) way.cell texts queries
      → AcceptsOnly (MadeOf (before_first is_question) (accepts texts)) fronts
      → front.now ≡ element.Free fronts ∷ []
      → query.now ≡ element.Free queries ∷ []
      → AddsLed task text_plan
      (record {
        tied = record { cell = way.cell; ties = ties };
        text = front;
        side = None;
        query = query;
        replaced =
            true;
      })
      before after → AddsSplit task new_query_plan ties text (Some way) before after
  new_by texts queries fronts front query of are fronts_are front_is query_is adds = record {
    found = adds.found;
    more = adds.more;
    led = λ kind values client state hand.
        let Fit = AppliedFits client (common task.tests.now) in
        let frame = frame_in task kind values in
        let plan = text_plan frame task.flags.now task.setting true in
        query_fits Fit task.flags.now (make main (λ text also. before_first is_question text) main main plan)
        adds.found
        way.cell text way.side texts queries state hand.stands.holds hand.stands.hand of are
        (λ other.
        let later = with_query state queries other in
        make_fits Fit later main (λ text also. before_first is_question text) main main (set_in fronts) plan adds.found
        (image_set later (pick state.texts main) (before_first is_question) texts fronts
        (hand_has way.cell text way.side texts state.cell (pick state.texts main) hand.stands.holds hand.stands.hand of)
        before_text fronts_are)
        (adds.led kind values client (with_text later main (any_of (set_in fronts)))
        (record {
          text = record {
            stands = record {
              holds = hand.stands.holds;
              tied = hand.stands.tied;
              hand = record { made = ap parts_of (sym front_is); behind = refl; lies = inl (λ x bytes. refl) };
            };
            looked = hand.looked;
            printed = hand.printed;
          };
          query = ap (λ elements. whole (parts_of elements)) (sym query_is);
        })));
  }

  -- ---- the old query

  kept_by : (own query : Bor (List Element)) → own.now ≡ text → query.now ≡ kept_query task.flags.now.qsd
      → AddsLed task text_plan
      (record {
        tied = record { cell = way.cell; ties = ties };
        text = own;
        side = way.side;
        query = query;
        replaced = task.flags.now.qsd;
      })
      before after → AddsSplit task kept_query_plan ties text (Some way) before after
  kept_by own query same is adds = record {
    found = adds.found;
    more = adds.more;
    led = λ kind values client state hand.
        let Fit = AppliedFits client (common task.tests.now) in
        let frame = frame_in task kind values in
        let later = with_text state second (whole (parts_of query.now)) in
        take_up_fits Fit state second (if task.flags.now.qsd then [] else slot_item Slot.Query ∷ [])
        (parts_of query.now) (text_plan frame task.flags.now task.setting task.flags.now.qsd) adds.found
        (subst (λ elements. AreParts state (if task.flags.now.qsd then [] else slot_item Slot.Query ∷ [])
        (parts_of elements)) (sym is) (by state task.flags.now.qsd))
        (adds.led kind values client later (record {
          text = record {
            stands = record {
              holds = hand.stands.holds;
              tied = hand.stands.tied;
              hand = subst (λ elements. IsHand state.cell elements 0 way.side (pick state.texts main)) (sym same)
                  hand.stands.hand;
            };
            looked = hand.looked;
            printed = hand.printed;
          };
          query = refl;
        }));
  }
    where
      by : (state : AbsState) (is : Bool)
          → AreParts state (if is then [] else slot_item Slot.Query ∷ []) (parts_of (kept_query is))
      by state true = refl
      by state false = (open_slot Slot.Query 0, [], refl, refl, refl)

  -- On the way that the test has.
  module _ (given : Option Way) (there : given ≡ Some way) where
    pub new_led : (texts queries fronts : Automaton) (front query : Bor (List Element))
        → IsHandSet way.cell text 0 way.side texts
        → AreQueries (task.flags.now.qsa && not task.flags.now.qsd) way.cell texts queries
        → AcceptsOnly (MadeOf (before_first is_question) (accepts texts)) fronts
        → front.now ≡ element.Free fronts ∷ [] → query.now ≡ element.Free queries ∷ []
        → AddsLed task text_plan
        (record {
          tied = record { cell = way.cell; ties = ties };
          text = front;
          side = None;
          query = query;
          replaced =
              true;
        })
        before after → AddsSplit task new_query_plan ties text given before after
    new_led texts queries fronts front query of are fronts_are front_is query_is adds =
        subst (λ given. AddsSplit task new_query_plan ties text given before after) (sym there)
        (new_by texts queries fronts front query of are fronts_are front_is query_is adds)

    pub kept_led : (own query : Bor (List Element)) → own.now ≡ text → query.now ≡ kept_query task.flags.now.qsd
        → AddsLed task text_plan
        (record {
          tied = record { cell = way.cell; ties = ties };
          text = own;
          side = way.side;
          query = query;
          replaced = task.flags.now.qsd;
        })
        before after → AddsSplit task kept_query_plan ties text given before after
    kept_led own query same is adds =
        subst (λ given. AddsSplit task kept_query_plan ties text given before after) (sym there)
        (kept_by own query same is adds)

-- ---- the test for a `?`

module _ (task : Task) (tied : Tied) (text : List Element) (set : Automaton) (ways : Ways)
    (before mid after : List Applied) where
  abbrev on_way : Way → Option Addr → AbsState → Type 0
  on_way way = InHand (record { cell = way.cell; ties = tied.ties }) text way.side

  pub split_led : Accepts set (list_any is_question)
      → AreWays tied.cell tied.ties text 0 None false (accepts set) ways
      → AddsSplit task new_query_plan tied.ties text ways.held before mid
      → AddsSplit task kept_query_plan tied.ties text ways.failed mid after
      → Adds task (InHand tied text None) (λ frame. split_plan frame task.flags.now task.setting) before after
  unfolding split_plan
  split_led is are first rest =
      tested task (InHand tied text None) tied text None (λ client state hand. hand.stands) on_way on_way false
      (λ frame. has_question) (accepts set)
      (λ kind values way client state now hand stands keeps.
      hand_on tied text None way has_question client state now hand stands keeps)
      (λ kind values way client state now hand stands keeps.
      hand_on tied text None way (others has_question) client state now hand stands keeps)
      (λ kind values x bytes. is x bytes) ways are
      (λ is frame. elim is [
        | true ↦ new_query_plan frame task.flags.now task.setting
        | false ↦ kept_query_plan frame task.flags.now task.setting
      ]) before mid after first rest
