-- What code finds for a list of rules are the branches of its plan: what is left of a list leads to the whole.
use Rattle.hc_abs_pass.proofs.Common.{◌≡◌, ◌∙◌, ℕ, zero, suc, List, [], ◌∷◌, ◌++◌, map, length}
use Rattle.hc_abs_pass.proofs.Common.{Bool, true, false, ◌||◌, Option, refl, sym, ap, subst, arith, append-nil}
use Rattle.hc_abs_pass.proofs.Common.{Plan, done, Slot}
use Rattle.std.proofs.Common.{Bor}
use Rattle.std.proofs.Math.Path.{fun_ext}
use Rattle.std.proofs.lemmas.List.{nil_from_length}
use Rattle.std.proofs.lemmas.Slice.Eq.{bytes_eq-Decides}
use Rattle.std.specs.Prelude.{codes}
use Rattle.std.specs.Str.{bytes_eq}
use Rattle.hc_addr.specs.declared.addr.Addr.{Addr}
use Rattle.hc_dfa.specs.Automata.{Automaton, accepts}
use Rattle.hc_dfa.specs.Built.{Accepts}
use Rattle.hc_dfa.specs.Singles.{single}
use Rattle.hc_dfa.specs.Texts.{IsText}
use Rattle.hc_model.specs.declared.request.Caller.{Caller}
use Rattle.hc_model.specs.declared.rewrite.Rule.{Rule}
use Rattle.hc_plan.proofs.Coded.{end_fits, joined_fits, next_joined}
use Rattle.hc_plan.proofs.Made.{set_of_bytes}
use Rattle.hc_plan.proofs.Stores.{Left, store_fits, stored_fits}
use Rattle.hc_plan.specs.Branches.{Branch}
use Rattle.hc_plan.specs.Coded.{AreBranches, AreNext}
use Rattle.hc_plan.specs.Hands.{set_in}
use Rattle.hc_plan.specs.Plan.{Stored as PlanStored, and_then, bound, choose, from, from_text, leave_out, let_go}
use Rattle.hc_plan.specs.Plan.{look_for, look_up, make, rename, shorten, sort, store, take_up, test, tidy}
use Rattle.hc_plan.specs.States.{AbsState}
use Rattle.hc_plan.specs.Texts.{IsSetOf}
use Rattle.hc_plan.specs.declared.storing.Stored.{Stored}
use Rattle.hc_plan.specs.declared.storing.Tied.{Tied}
use Rattle.hc_rw_eval.specs.Lists.{skipped_chain, stops_run}
use Rattle.hc_abs_rw.specs.Applied.{next_of}
use Rattle.hc_abs_rw.specs.Attempts.{Attempted, attempt_plan}
use Rattle.hc_abs_rw.specs.Frames.{Frame}
use Rattle.hc_abs_rw.specs.Lists as lists
use Rattle.hc_abs_rw.specs.Lists.{again, after, answered, behind_plan, end_stored, flags_plan, list_plan, over}
use Rattle.hc_abs_rw.specs.Lists.{setting_of, stopped}
use Rattle.hc_abs_rw.specs.RuleBranches.{AreRuleBranches, BranchFits, Rests}
use Rattle.hc_abs_rw.specs.Substitutions.{Then, goes_on, outside, redirect, status}
use Rattle.hc_abs_rw.specs.declared.apply.Next.{Next}
use Rattle.hc_abs_rw.specs.declared.apply.Next.TheVariants as next
use Rattle.hc_abs_rw.specs.declared.apply.Setting.{Setting}
use Rattle.hc_abs_rw.specs.declared.rule.RuleBranch.{RuleBranch}
use Rattle.hc_plan.proofs.Sequence.{in_turn}
use Rattle.hc_abs_pass.specs.Listing.{AreBehind, AreListed, ArePast, HasEnd, IsPast, IsPlaced, LeadsTo, ListedFits}
use Rattle.hc_abs_pass.specs.Listing.{PlaceFits, Standing, attempted_plan, before, ended_at, flagged_plan, flagged_so}
use Rattle.hc_abs_pass.specs.Listing.{left, matched_plan, placed_at, rest_plan, rule_plan, so_far_of, standing_at}
use Rattle.hc_abs_pass.specs.Listing.{stop_of, stopped_at, unless_answered}
use Rattle.hc_abs_pass.specs.declared.list.Listed.{Listed}
use Rattle.hc_abs_pass.specs.declared.list.Place.{Place}
use Rattle.hc_abs_pass.specs.declared.list.Place.TheVariants as at
use Rattle.hc_abs_pass.specs.declared.list.Placed.{Placed}
use Rattle.hc_abs_pass.specs.declared.list.SoFar.{SoFar}
use Rattle.hc_abs_pass.specs.declared.list.Stop.{Stop}
use Rattle.hc_abs_pass.specs.declared.list.Stop.TheVariants as stop

-- ---- a rule, and what is left behind it

module _ (frame : Frame) (rule : Rule) (rules : List Rule) where
  abbrev Rest : Standing → Plan lists.Listed
  Rest = rest_plan frame rules

  abbrev Further : ℕ → lists.SoFar → Plan lists.Listed
  Further skipped so_far = list_plan frame skipped rules so_far

  end_then : (end : Bool) (plan : Plan Standing) (other : Plan lists.Listed) → and_then plan Rest ≡ other
      → and_then (end_stored end plan) Rest ≡ end_stored end other
  unfolding and_then
  end_then true plan other is = ap (store ((Slot.End, from (from_text (codes "1"))) ∷ [])) is
  end_then false plan other is = is

  flags_then : (so_far : lists.SoFar) → and_then (flagged_plan rule so_far) Rest ≡ flags_plan Further rule so_far
  unfolding and_then
  flags_then so_far = by (stops_run rule.flags) rule.flags.next
    where
      by : (stops next : Bool)
          → and_then (flagged_so rule so_far stops next) Rest
          ≡ elim stops [
            | true ↦ end_stored rule.flags.end (stopped so_far (over rule.flags.pass))
            | false ↦ elim next [ true ↦ stopped so_far (again rule) | false ↦ Further rule.flags.skip so_far ]
          ]
      by true next =
          end_then rule.flags.end (done (stopped_at so_far (over rule.flags.pass)))
          (stopped so_far (over rule.flags.pass)) refl
      by false true = refl
      by false false = refl

  matched_then : (matched : Bool) (so_far : lists.SoFar)
      → and_then (matched_plan rule rules matched so_far) Rest
      ≡ elim matched [ true ↦ flags_plan Further rule so_far | false ↦ Further (skipped_chain rule rules) so_far ]
  unfolding and_then
  matched_then true so_far = flags_then so_far
  matched_then false so_far = refl

  answer_then : (next : Then) (so_far : lists.SoFar) (plan : Plan Standing) (other : Plan lists.Listed)
      → and_then plan Rest ≡ other
      → and_then (unless_answered so_far next plan) Rest ≡ lists.unless_answered so_far next other
  unfolding and_then
  answer_then goes_on so_far plan other is = is
  answer_then (status number) so_far plan other is = refl
  answer_then (redirect number front noescape) so_far plan other is = refl
  answer_then (outside reason) so_far plan other is = refl

  behind_then : (so_far : lists.SoFar) (attempted : Attempted)
      → and_then (attempted_plan rule rules so_far attempted) Rest ≡ behind_plan Further rule rules so_far attempted
  behind_then so_far attempted =
      answer_then attempted.made.next (after so_far attempted) _ _
      (matched_then attempted.matched (after so_far attempted))

  rule_then : (standing : Standing)
      → and_then (rule_plan frame rule rules standing) Rest ≡ rest_plan frame (rule ∷ rules) standing
  unfolding and_then list_plan
  rule_then (left listed) = refl
  rule_then (before (suc skipped) so_far) = refl
  rule_then (before zero so_far) =
      let attempt = attempt_plan frame rule (setting_of rules) so_far.decisions in
      in_turn (attempted_plan rule rules so_far) Rest attempt ∙ ap (and_then attempt) (fun_ext (behind_then so_far))

-- ---- places

-- Where a plan ends at once.
here : (tied : Tied) (so_far : SoFar) (place : Place) (client : Option Addr) (caller : Caller) (state : AbsState)
    → Rests client tied state
    → AreBranches (PlaceFits client caller) (done (standing_at caller so_far place)) state
    (placed_at tied so_far place ∷ [])
here tied so_far place client caller state rests =
    end_fits (PlaceFits client caller) state (standing_at caller so_far place) (placed_at tied so_far place)
    (rests, refl)

module _ (frame : Frame) (client : Option Addr) where
  abbrev Fit : Placed → Branch Standing → Type 0
  Fit = PlaceFits client frame.caller

  abbrev IsEnd : Listed → Branch lists.Listed → Type 0
  IsEnd = ListedFits client frame.caller

  -- What is left of the list.
  abbrev pub InList : List Rule → List Placed → List Listed → Type 0
  InList rules = AreNext Fit IsEnd (rest_plan frame rules)

  -- It begins with one place, which code puts into an empty list.
  pub list_begins : (rules : List Rule) (tied : Tied) (so_far : SoFar) (start begun : List Placed)
      (found : List Listed)
      → start ≡ [] → begun ≡ start ++ placed_at tied so_far (at.Before 0) ∷ [] → InList rules begun found
      → AreListed frame client rules so_far tied found
  list_begins rules tied so_far start begun found none push in_list state rests =
      let are = subst (λ placed. InList rules placed found)
      (push ∙ ap (λ front. front ++ placed_at tied so_far (at.Before 0) ∷ []) none) in_list in
      subst (AreBranches IsEnd (list_plan frame 0 rules (so_far_of so_far)) state)
      (sym (are.2 ∙ ap (λ rest. are.0 ++ rest) are.4 ∙ append-nil are.0))
      (are.3 (state, before 0 (so_far_of so_far)) (rests, refl))

  pub list_goes_on : (rest rules : List Rule) (rule : Rule) (placed later : List Placed) (found : List Listed)
      → rest ≡ rule ∷ rules → ArePast frame client rule rules placed later → InList rules later found
      → InList rest placed found
  list_goes_on rest rules rule placed later found is past more =
      subst (λ rest. InList rest placed found) (sym is)
      (next_joined Fit Fit IsEnd (rule_plan frame rule rules) (rest_plan frame rules) (rest_plan frame (rule ∷ rules))
      (rule_then frame rule rules) placed later found past more)

  place_over : (tied : Tied) (so_far : SoFar) (place : Place) (state : AbsState) → Rests client tied state
      → AreBranches IsEnd (rest_plan frame [] (standing_at frame.caller so_far place)) state
      (ended_at (placed_at tied so_far place) ∷ [])
  unfolding list_plan
  place_over tied so_far (at.Before skipped) state rests =
      end_fits IsEnd state (record { left = so_far_of so_far; stop = over false })
      (ended_at (placed_at tied so_far (at.Before skipped))) (rests, refl)
  place_over tied so_far (at.At end) state rests =
      end_fits IsEnd state (record { left = so_far_of so_far; stop = stop_of frame.caller end })
      (ended_at (placed_at tied so_far (at.At end))) (rests, refl)

  all_over : (placed : List Placed) → InList [] placed (map ended_at placed)
  all_over [] = refl
  all_over (one ∷ placed) = (
    ended_at one ∷ [],
    map ended_at placed,
    refl,
    (λ branch fits. subst (λ standing. AreBranches IsEnd (rest_plan frame [] standing) branch.0 (ended_at one ∷ []))
        (sym fits.1) (place_over one.tied one.left one.place branch.0 fits.0)),
    all_over placed,
  )

  pub list_over : (rules : List Rule) (placed : List Placed) (found : List Listed) → length rules ≡ 0
      → found ≡ map ended_at placed → InList rules placed found
  list_over rules placed found none is =
      subst (λ rules. InList rules placed found) (sym (nil_from_length rules none))
      (subst (InList [] placed) (sym is) (all_over placed))

  -- Where a rule leaves one place, and where it is tried.
  module _ (rule : Rule) (rules : List Rule) where
    leaves_one : (one : Placed) (later : Place)
        → rule_plan frame rule rules (standing_at frame.caller one.left one.place)
        ≡ done (standing_at frame.caller one.left later)
        → IsPast frame client rule rules one (placed_at one.tied one.left later ∷ [])
    leaves_one one later is branch fits =
        subst (λ plan. AreBranches Fit plan branch.0 (placed_at one.tied one.left later ∷ []))
        (sym (ap (rule_plan frame rule rules) fits.1 ∙ is))
        (here one.tied one.left later client frame.caller branch.0 fits.0)

    pub stays : (one : Placed) (end : Stop) → one.place ≡ at.At end
        → IsPast frame client rule rules one (placed_at one.tied one.left (at.At end) ∷ [])
    stays one end is =
        leaves_one one (at.At end)
        (ap (λ place. rule_plan frame rule rules (standing_at frame.caller one.left place)) is)

    pub skips : (one : Placed) (skipped less : ℕ) → one.place ≡ at.Before skipped → skipped ≡ suc less
        → IsPast frame client rule rules one (placed_at one.tied one.left (at.Before less) ∷ [])
    skips one skipped less is more =
        leaves_one one (at.Before less)
        (ap (λ place. rule_plan frame rule rules (standing_at frame.caller one.left place))
        (is ∙ ap (λ skipped. at.Before skipped) more))

    pub tried_here : (one : Placed) (skipped : ℕ) (found : List Placed) → one.place ≡ at.Before skipped
        → skipped ≡ 0 → IsPast frame client rule rules (placed_at one.tied one.left (at.Before 0)) found
        → IsPast frame client rule rules one found
    tried_here one skipped found is none =
        subst (λ place. IsPast frame client rule rules (placed_at one.tied one.left place) found)
        (sym (is ∙ ap (λ skipped. at.Before skipped) none))

    pub rule_tried : (tied : Tied) (so_far : SoFar) (setting : Setting) (branches : List RuleBranch)
        (found : List Placed) → setting ≡ setting_of rules
        → AreRuleBranches frame client rule setting tied so_far.decisions branches
        → AreBehind rule rules so_far branches found
        → IsPast frame client rule rules (placed_at tied so_far (at.Before 0)) found
    rule_tried tied so_far setting branches found same are behind branch fits =
        subst (λ standing. AreBranches Fit (rule_plan frame rule rules standing) branch.0 found) (sym fits.1)
        (joined_fits (BranchFits client frame.caller) Fit (attempted_plan rule rules (so_far_of so_far))
        (attempt_plan frame rule (setting_of rules) so_far.decisions) branch.0 branches found
        (subst (λ setting. AreRuleBranches frame client rule setting tied so_far.decisions branches) same are branch.0
        fits.0)
        (behind client frame.caller))

-- ---- the flags of a rule that matched

-- One text alone.
text_has : (text : List ℕ) (set : Automaton) → IsText text → Accepts set (single text)
    → IsSetOf (set_in set) (λ x. bytes_eq text x ≡ true)
text_has text set bytes is = set_of_bytes (accepts set) (λ x. bytes_eq text x ≡ true)
    (λ x same. subst IsText ((bytes_eq-Decides text x).0 same) bytes)
    (λ x of. (
      (λ in_set. (bytes_eq-Decides text x).1 (sym ((bytes_eq-Decides x text).0 (sym (is x of) ∙ in_set)))),
      (λ same. is x of ∙ (bytes_eq-Decides x text).1 (sym ((bytes_eq-Decides text x).0 same))),
    ))

module _ (rule : Bor Rule) (tied : Tied) (so_far : SoFar) where
  abbrev Flagged : Placed → Type 0
  Flagged = LeadsTo (flagged_plan rule.now (so_far_of so_far)) tied

  -- By what its flags say.
  flags_lead : (placed : Placed) (stops next : Bool) → stops_run rule.now.flags ≡ stops
      → rule.now.flags.next ≡ next
      → LeadsTo (flagged_so rule.now (so_far_of so_far) stops next) tied placed → Flagged placed
  flags_lead placed stops next stop_is next_is =
      subst (λ plan. LeadsTo plan tied placed)
      (λ i. flagged_so rule.now (so_far_of so_far) (sym stop_is i) (sym next_is i))

  ends_at : (end pass : Bool) (made : Tied) → HasEnd end tied made
      → LeadsTo (end_stored end (done (stopped_at (so_far_of so_far) (over pass)))) tied
      (placed_at made so_far (at.At (stop.Over pass)))
  ends_at false pass made is =
      subst (λ made. LeadsTo (done (stopped_at (so_far_of so_far) (over pass))) tied
      (placed_at made so_far (at.At (stop.Over pass)))) (sym is) (here tied so_far (at.At (stop.Over pass)))
  ends_at true pass made is = λ client caller state rests.
      let list : List (Slot × PlanStored) = (Slot.End, from (from_text (codes "1"))) ∷ [] in
      let one : Stored = record { slot = Slot.End; set = is.0 } in
      let place = at.At (stop.Over pass) in
      let is_left : Left state state list made =
      store_fits state state tied.cell tied.ties list (one ∷ []) made
      (one, [], refl, (refl, text_has (codes "1") is.0 (omega arith, tt) is.1), refl) rests.cell rests.ties is.2 in
      stored_fits (PlaceFits client caller) state list made (done (standing_at caller so_far place))
      (placed_at made so_far place ∷ []) is_left
      (here made so_far place client caller is_left.next (record {
        cell = is_left.cell;
        ties = is_left.ties;
        given = is_left.given ∙ rests.given;
        texts = ap (λ next. next.texts) (is_left.is).2;
        printed = is_left.printed ∙ rests.printed;
      }))

  pub stops_here : (made : Tied) → stops_run rule.now.flags ≡ true → HasEnd rule.now.flags.end tied made
      → Flagged (placed_at made so_far (at.At (stop.Over rule.now.flags.pass)))
  stops_here made stops is =
      flags_lead (placed_at made so_far (at.At (stop.Over rule.now.flags.pass))) true rule.now.flags.next stops refl
      (ends_at rule.now.flags.end rule.now.flags.pass made is)

  pub begins_again : stops_run rule.now.flags ≡ false → rule.now.flags.next ≡ true
      → Flagged (placed_at tied so_far (at.At (stop.Again rule)))
  begins_again stops next =
      flags_lead (placed_at tied so_far (at.At (stop.Again rule))) false true stops next
      (here tied so_far (at.At (stop.Again rule)))

  pub goes_further : stops_run rule.now.flags ≡ false → rule.now.flags.next ≡ false
      → Flagged (placed_at tied so_far (at.Before rule.now.flags.skip))
  goes_further stops next =
      flags_lead (placed_at tied so_far (at.Before rule.now.flags.skip)) false false stops next
      (here tied so_far (at.Before rule.now.flags.skip))

-- ---- a branch of a rule

pub skips_chain : (rule : Rule) (rules : List Rule) (tied : Tied) (so_far : SoFar) (matched : Bool) (skipped : ℕ)
    → matched ≡ false → skipped ≡ skipped_chain rule rules
    → LeadsTo (matched_plan rule rules matched (so_far_of so_far)) tied (placed_at tied so_far (at.Before skipped))
skips_chain rule rules tied so_far matched skipped is same =
    subst (λ plan. LeadsTo plan tied (placed_at tied so_far (at.Before skipped)))
    (ap (λ skipped. done (before skipped (so_far_of so_far))) same
    ∙ ap (λ matched. matched_plan rule rules matched (so_far_of so_far)) (sym is))
    (here tied so_far (at.Before skipped))

module _ (rule : Rule) (rules : List Rule) (so_far after : SoFar) (branch : RuleBranch)
    (same : after ≡ record {
      decisions = branch.decisions;
      substituted = branch.made.substituted || so_far.substituted;
      replaced = branch.made.replaced || so_far.replaced;
    }) where
  abbrev Behind : SoFar → Then → Plan Standing
  Behind later next = unless_answered (so_far_of later) next (matched_plan rule rules branch.matched (so_far_of later))

  -- By what the rule comes to.
  behind_leads : (placed : Placed)
      → ((client : Option Addr) (caller : Caller) (state : AbsState) → Rests client branch.tied state
      → AreBranches (PlaceFits client caller) (Behind after (next_of caller branch.made.next)) state (placed ∷ []))
      → IsPlaced rule rules so_far branch placed
  behind_leads placed leads client caller end fits =
      subst (λ plan. AreBranches (PlaceFits client caller) plan end.0 (placed ∷ []))
      (sym (ap (attempted_plan rule rules (so_far_of so_far)) fits.1
      ∙ ap (λ later. Behind later (next_of caller branch.made.next)) (sym same)))
      (leads client caller end.0 fits.0)

  pub placed_on : (placed : Placed) → branch.made.next ≡ next.GoesOn
      → LeadsTo (matched_plan rule rules branch.matched (so_far_of after)) branch.tied placed
      → IsPlaced rule rules so_far branch placed
  placed_on placed is leads =
      behind_leads placed (λ client caller state rests.
      subst (λ own. AreBranches (PlaceFits client caller) (Behind after (next_of caller own)) state (placed ∷ []))
      (sym is) (leads client caller state rests))

  answers : (caller : Caller) (own : Next) → (own ≡ next.GoesOn → ⊥)
      → Behind after (next_of caller own) ≡ done (stopped_at (so_far_of after) (answered (next_of caller own)))
  answers caller next.GoesOn other = absurd (other refl)
  answers caller (next.Status number) other = refl
  answers caller (next.Redirect number own noescape) other = refl
  answers caller (next.Outside reason) other = refl

  pub placed_answered : (branch.made.next ≡ next.GoesOn → ⊥)
      → IsPlaced rule rules so_far branch (placed_at branch.tied after (at.At (stop.Answered branch.made.next)))
  placed_answered other =
      let place : Place = at.At (stop.Answered branch.made.next) in
      behind_leads (placed_at branch.tied after place) (λ client caller state rests.
      subst (λ plan. AreBranches (PlaceFits client caller) plan state (placed_at branch.tied after place ∷ []))
      (sym (answers caller branch.made.next other)) (here branch.tied after place client caller state rests))
