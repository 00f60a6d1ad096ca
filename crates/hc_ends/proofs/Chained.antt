-- The ends of the chains of a scope, as they are found.
use Rattle.std.proofs.Common.{◌≡◌, ◌∙◌, inl, inr, ℕ, zero, suc, ◌+◌, ◌≤◌, ◌<◌, List, [], ◌∷◌, ◌++◌, length, Bool, true}
use Rattle.std.proofs.Common.{false, ◌-◌, Option, Some, None, drop, refl, sym, ap, subst, arith, length-append}
use Rattle.std.specs.List.{list_any}
use Rattle.std.proofs.lemmas.Result.{err_from_is_err_and}
use Rattle.std.specs.Borrow.{Bor}
use Rattle.std.specs.Prelude.{Result, Ok, Err, IsErrAnd, ⊤, slice_index_or}
use Rattle.hc_addr.specs.declared.addr.Addr.{Addr}
use Rattle.hc_base.specs.declared.fault.Fault.{Fault}
use Rattle.hc_base.specs.declared.fault.Fault.TheVariants.{NoMemory, Refused}
use Rattle.hc_cells.specs.Cells.{Sets}
use Rattle.hc_dfa.specs.Automata.{Automaton}
use Rattle.hc_follow.specs.declared.origin.Origin.{Origin}
use Rattle.hc_model.specs.declared.request.Caller.{Caller}
use Rattle.hc_plan.specs.Coded.{AllFit}
use Rattle.hc_scope.specs.declared.claim.Scope.{Scope}
use Rattle.hc_steps.specs.Shown.{shown_by}
use Rattle.hc_abs_leaves.specs.Fitting.{LeafFits}
use Rattle.hc_abs_leaves.specs.declared.leaf.Leaf.{Leaf as LeafIn}
use Rattle.hc_abs_pass.specs.Walks.{IsListed}
use Rattle.hc_abs_start.specs.Starts.{sole_client}
use Rattle.hc_abs_tree.specs.Trees.{Leaf}
use Rattle.hc_claim.proofs.Tried.{rest_from}
use Rattle.hc_claim.specs.Bad.{is_out}
use Rattle.hc_sent.specs.Ways.{AreLedFrom, AreReachedFrom}
use Rattle.hc_sent.specs.declared.leading.Led.{Led}
use Rattle.hc_sent.specs.declared.leading.Led.TheVariants as led
use Rattle.hc_sent.specs.declared.leading.Reach.{Reach}
use Rattle.hc_sent.specs.declared.parts.Part.{Part}
use Rattle.hc_ends.specs.Asking.{Site, next_scope}
use Rattle.hc_ends.specs.Chains.{AllBehind, AreAt, AreIn, AreLeafIn, Before, End, HasLeaves, IsLed, behind, caller_of}
use Rattle.hc_ends.specs.Chains.{end_at, is_outward, is_own, nowhere, to}
unfoldable use Rattle.hc_ends.specs.Chains.{ChainsIn}
use Rattle.hc_ends.specs.Finding.{Adds, AreFurther, AtStage, BeforeFits, Finds, Onward, first_at}
use Rattle.hc_ends.specs.Lending.{site_of}
use Rattle.hc_ends.specs.Walking.{HasAll, IsWalked}
use Rattle.hc_ends.specs.declared.chaining.Stage.{Stage}
use Rattle.hc_ends.specs.declared.finding.Before.{Before as BeforeIn}
use Rattle.hc_ends.specs.declared.finding.Found.{Found}
use Rattle.hc_ends.specs.declared.finding.TooMany.{TooMany}
use Rattle.hc_ends.specs.declared.walking.Walked.{Walked}
use Rattle.hc_ends.proofs.Adding.{SoFar, adds_more, adds_none, all_so_far, next_before, none_so_far}
use Rattle.hc_ends.proofs.Adding.{one_more, too_many}

-- What is found is what was found below.
pub finds_on : (Are : Bool → List End → Type 0) (old new : Found) (fault : Fault TooMany) (result : Result ⊤ (Fault
    TooMany))
    → IsErrAnd result (λ own. own ≡ fault) → Finds Are old new (Err fault) → Finds Are old new result
finds_on Are old new fault result is found =
    let own = err_from_is_err_and result is in subst (Finds Are old new) (sym (own.1 ∙ ap Err own.2)) found

pub finds_weaker : {Are Other : Bool → List End → Type 0} (old new : Found) (result : Result ⊤ (Fault TooMany))
    → ((cut : Bool) (ends : List End) → Are cut ends → Other cut ends) → Finds Are old new result
    → Finds Other old new result
finds_weaker old new (Ok done) weaker found = λ cut. let own = found cut in (own.0, weaker cut own.0 own.1, own.2)
finds_weaker old new (Err (Refused many)) weaker found = (found.0, weaker true found.0 found.1, found.2)
finds_weaker old new (Err NoMemory) weaker found = tt

pub chains_by : (site : Site) (cut : Bool) (levels left : ℕ) (scope : Scope) (before : Before) (ends : List End)
    → AreIn site cut levels (Onward site cut levels left) scope before ends
    → ChainsIn site cut levels left scope before ends
unfolding ChainsIn
chains_by site cut levels zero scope before ends are = are
chains_by site cut levels (suc left) scope before ends are = are

-- ---- leaf by leaf

module _ (stage : Stage) (levels : ℕ) (before : Before) where
  abbrev site : Site
  site = site_of stage.chains

  -- The ends at a leaf.
  abbrev pub One : Bool → Leaf → List End → Type 0
  One cut = AreLeafIn site cut levels (Onward site cut levels stage.left) stage.scope.now before

  -- Each leaf may be told alone.
  pub alone : (own : List Leaf) → (ends : List End) × AllBehind (One true) own ends × (length ends ≡ length own)
  alone [] = ([], refl, refl)
  alone (leaf ∷ own) =
      let rest = alone own in (
        end_at before leaf false ∷ rest.0,
        (end_at before leaf false ∷ [], rest.0, refl, inl (refl, refl), rest.1),
        ap suc rest.2,
      )

  pub many_leaves : (own : List Leaf) → HasLeaves site true levels stage.scope.now own → (found : Found)
      → found.left ≤ length own → (ends : List End)
      × ChainsIn site true levels stage.left stage.scope.now before ends × (found.left ≤ length ends)
  many_leaves own has found many =
      let told = alone own in (
        told.0,
        chains_by site true levels stage.left stage.scope.now before told.0 (own, has, told.1),
        omega (arith, many, told.2),
      )

-- The leaves up to one were looked at, whatever stands for them.
abbrev pub LeavesSoFar : Stage → Caller → List LeafIn → ℕ → Found → Found → Type 0
LeavesSoFar stage caller items at old now = AtStage stage (λ levels before. (client : Option Addr) (own : List Leaf)
    → AllFit (LeafFits client caller) items own → (cut : Bool)
    → (left : List Leaf) × AllFit (LeafFits client caller) (drop at items) left
    × SoFar (One stage levels before cut) own left old now)

pub no_leaves : (stage : Stage) (caller : Caller) (items : List LeafIn) (old : Found)
    → LeavesSoFar stage caller items 0 old old
no_leaves stage caller items old levels before listed fits client own fit cut =
    (own, fit, none_so_far (One stage levels before cut) own old)

-- What is found at one leaf.
abbrev pub AtOne : Stage → Caller → LeafIn → Found → Found → Result ⊤ (Fault TooMany) → Type 0
AtOne stage caller item now new result = AtStage stage (λ levels before. (client : Option Addr) (leaf : Leaf)
    → LeafFits client caller item leaf → Finds (λ cut. AreAt (site_of stage.chains) cut levels stage.scope.now before
    leaf
    (Onward (site_of stage.chains) cut levels stage.left stage.scope.now before leaf)) now new result)

abbrev pub AtAll : Stage → Found → Found → Result ⊤ (Fault TooMany) → Type 0
AtAll stage old new result = AtStage stage (λ levels before. Finds
    (λ cut. ChainsIn (site_of stage.chains) cut levels stage.left stage.scope.now before) old new result)

module _ (stage : Stage) (caller : Caller) (items : List LeafIn) (at : ℕ) (old now new : Found)
    (so_far : LeavesSoFar stage caller items at old now) where
  module _ (item : LeafIn) (below : at < length items) (is : item ≡ slice_index_or items at item) where
    pub leaf_more : (done : ⊤) → AtOne stage caller item now new (Ok done)
        → LeavesSoFar stage caller items (at + 1) old new
    leaf_more done found levels before listed fits client own fit cut =
        let here = so_far levels before listed fits client own fit cut in
        let split = subst (λ rest. AllFit (LeafFits client caller) rest here.0) (rest_from items at item below is)
        here.1 in
        let one = found levels before listed fits client split.0 split.3 cut in (
          split.1,
          split.4,
          one_more (One stage levels before cut) own old split.0 split.1 now
              (subst (λ left. SoFar (One stage levels before cut) own left old now) split.2 here.2) one.0 (inr one.1)
              new
              one.2,
        )

    pub leaf_stops : (walked : (levels : ℕ) → IsListed levels (shown_by (site_of stage.chains).world)
        → (client : Option Addr) × (own : List Leaf) × HasLeaves (site_of stage.chains) true levels stage.scope.now own
        × AllFit (LeafFits client caller) items own) → (halt : Fault TooMany) → AtOne stage caller item now new (Err
        halt)
        → AtAll stage old new (Err halt)
    leaf_stops walked NoMemory found levels before listed fits = tt
    leaf_stops walked (Refused many) found levels before listed fits =
        let all = walked levels listed in
        let here = so_far levels before listed fits all.0 all.1 all.3 true in
        let split = subst (λ rest. AllFit (LeafFits all.0 caller) rest here.0) (rest_from items at item below is)
        here.1 in
        let one = found levels before listed fits all.0 split.0 split.3 in
        let rest = alone stage levels before split.1 in
        let told = too_many (One stage levels before true) all.1 old split.0 split.1 now
        (subst (λ left. SoFar (One stage levels before true) all.1 left old now) split.2 here.2) one.0 (inr one.1) one.2
        (rest.0, rest.1) in (
          told.0,
          chains_by (site_of stage.chains) true levels stage.left stage.scope.now before told.0 (all.1, all.2, told.1),
          told.2,
        )

  pub leaves_over : drop at items ≡ [] → (walked : (cut : Bool) (levels : ℕ)
      → IsListed levels (shown_by (site_of stage.chains).world) → (client : Option Addr) × (own : List Leaf)
      × HasLeaves (site_of stage.chains) cut levels stage.scope.now own × AllFit (LeafFits client caller) items own)
      → (done : ⊤) → AtAll stage old now (Ok done)
  leaves_over none walked done levels before listed fits cut =
      let all = walked cut levels listed in
      let here = so_far levels before listed fits all.0 all.1 all.3 cut in
      let none_left = subst (λ rest. AllFit (LeafFits all.0 caller) rest here.0) none here.1 in
      let told = all_so_far (One stage levels before cut) all.1 old now
      (subst (λ left. SoFar (One stage levels before cut) all.1 left old now) none_left here.2) in (
        told.0,
        chains_by (site_of stage.chains) cut levels stage.left stage.scope.now before told.0 (all.1, all.2, told.1),
        told.2,
      )

-- What was walked has these leaves, cut off or not.
pub walked_leaves : (site : Site) (scope : Scope) (limit : ℕ) (walked : Walked)
    → IsWalked site scope limit (Some walked)
    → (items : List LeafIn) → items ≡ walked.leaves.items → (cut : Bool) (levels : ℕ)
    → IsListed levels (shown_by site.world) → (client : Option Addr) × (own : List Leaf)
    × HasLeaves site cut levels scope own × AllFit (LeafFits client (caller_of site scope)) items own
walked_leaves site scope limit walked is items same true levels listed =
    let all = is.1 levels listed in (
      sole_client scope.client,
      all.leaves,
      all.some,
      subst (λ items. AllFit (LeafFits (sole_client scope.client) (caller_of site scope)) items all.leaves) (sym same)
          all.fit,
    )
walked_leaves site scope limit walked is items same false levels listed =
    let all = is.1 levels listed in (
      sole_client scope.client,
      all.leaves,
      all.all,
      subst (λ items. AllFit (LeafFits (sole_client scope.client) (caller_of site scope)) items all.leaves) (sym same)
          all.fit,
    )

-- ---- what a location leads to, one after another

-- Those up to one were looked at, whatever stands for the leaf.
abbrev pub AtAnyLeaf : Stage → LeafIn → (ℕ → Before → Leaf → Type 0) → Type 0
AtAnyLeaf stage own Holds = AtStage stage (λ levels before. (client : Option Addr) (caller : Caller) (leaf : Leaf)
    → LeafFits client caller own leaf → Holds levels before leaf)

abbrev pub EachLed : Stage → ℕ → ℕ → Before → Leaf → Bool → Led → List End → Type 0
EachLed stage status levels before leaf cut = IsLed (site_of stage.chains) cut levels stage.scope.now before leaf
    (ChainsIn (site_of stage.chains) cut levels (stage.left - 1)) status

abbrev pub LedsSoFar : Stage → LeafIn → ℕ → List Led → ℕ → Found → Found → Type 0
LedsSoFar stage own status leds at old now = AtAnyLeaf stage own (λ levels before leaf. (cut : Bool)
    → SoFar (EachLed stage status levels before leaf cut) leds (drop at leds) old now)

pub no_leds : (stage : Stage) (own : LeafIn) (status : ℕ) (leds : List Led) (old : Found)
    → LedsSoFar stage own status leds 0 old old
no_leds stage own status leds old levels before listed fits client caller leaf leaf_fits cut = none_so_far _ leds old

module _ (stage : Stage) (own : LeafIn) (status : ℕ) (leds : List Led) (at : ℕ) (old now new : Found)
    (so_far : LedsSoFar stage own status leds at old now) (item : Led) (below : at < length leds)
    (is : item ≡ slice_index_or leds at item) where
  abbrev Each : ℕ → Before → Leaf → Bool → Led → List End → Type 0
  Each = EachLed stage status

  here : (levels : ℕ) (before : Before) (leaf : Leaf) (cut : Bool)
      → SoFar (Each levels before leaf cut) leds (drop at leds) old now
      → SoFar (Each levels before leaf cut) leds (item ∷ drop (at + 1) leds) old now
  here levels before leaf cut before_it =
      subst (λ left. SoFar (Each levels before leaf cut) leds left old now) (rest_from leds at item below is) before_it

  -- One that no request follows.
  nowhere_led : (levels : ℕ) (before : Before) (leaf : Leaf) (cut : Bool) (one : Led)
      → ((origin : Origin) (paths queries : Automaton) → one ≡ led.On origin paths queries → ⊥)
      → Each levels before leaf cut one []
  nowhere_led levels before leaf cut (led.On origin paths queries) none = absurd (none origin paths queries refl)
  nowhere_led levels before leaf cut led.Outside none = refl
  nowhere_led levels before leaf cut led.Away none = refl

  pub led_nowhere : ((origin : Origin) (paths queries : Automaton) → item ≡ led.On origin paths queries → ⊥)
      → LedsSoFar stage own status leds (at + 1) old now
  led_nowhere none levels before listed fits client caller leaf leaf_fits cut =
      one_more (Each levels before leaf cut) leds old item (drop (at + 1) leds) now
      (here levels before leaf cut (so_far levels before listed fits client caller leaf leaf_fits cut)) []
      (nowhere_led levels before leaf cut item none) now (adds_none now)

  -- What the requests that follow come to.
  abbrev pub AtNext : Result ⊤ (Fault TooMany) → Type 0
  AtNext result = AtAnyLeaf stage own (λ levels before leaf. Finds (λ cut ends. Each levels before leaf cut item ends)
      now new result)

  pub led_more : (done : ⊤) → AtNext (Ok done) → LedsSoFar stage own status leds (at + 1) old new
  led_more done found levels before listed fits client caller leaf leaf_fits cut =
      let one = found levels before listed fits client caller leaf leaf_fits cut in
      one_more (Each levels before leaf cut) leds old item (drop (at + 1) leds) now
      (here levels before leaf cut (so_far levels before listed fits client caller leaf leaf_fits cut)) one.0 one.1 new
      one.2

  -- They are those of a scope, behind the leaf.
  pub next_finds : (next : BeforeIn) (scope : Scope) (origin : Origin) (paths queries : Automaton) (cell : Bor Sets)
      (result : Result ⊤ (Fault TooMany)) → item ≡ led.On origin paths queries
      → scope ≡ next_scope stage.scope.now status origin paths queries
      → next.first ≡ Some cell → cell.now ≡ first_at stage.before.first own
      → next.decisions.now ≡ stage.before.decisions.now ++ own.decisions
      → ((levels : ℕ) (before : Before) → IsListed levels (shown_by (site_of stage.chains).world) → BeforeFits next
      before
      → Finds (λ cut. ChainsIn (site_of stage.chains) cut levels (stage.left - 1) scope before) now new result)
      → AtNext result
  next_finds next scope origin paths queries cell result on is_scope first is decided found levels before listed fits
      client caller leaf leaf_fits =
      finds_weaker now new result (λ cut ends are. subst (λ item. Each levels before leaf cut item ends) (sym on)
      (inr (subst (λ scope. ChainsIn (site_of stage.chains) cut levels (stage.left - 1) scope (behind before leaf) ends)
      is_scope are)))
      (found levels (behind before leaf) listed
      (next_before stage.before before client caller own leaf fits leaf_fits next cell decided first is))

  -- What isn't looked at any more is left out.
  left_out : (levels : ℕ) (before : Before) (leaf : Leaf) (others : List Led)
      → (ends : List End) × AllBehind (Each levels before leaf true) others ends
  left_out levels before leaf [] = ([], refl)
  left_out levels before leaf (led.On origin paths queries ∷ others) =
      let rest = left_out levels before leaf others in (rest.0, ([], rest.0, refl, inl (refl, refl), rest.1))
  left_out levels before leaf (led.Outside ∷ others) =
      let rest = left_out levels before leaf others in (rest.0, ([], rest.0, refl, refl, rest.1))
  left_out levels before leaf (led.Away ∷ others) =
      let rest = left_out levels before leaf others in (rest.0, ([], rest.0, refl, refl, rest.1))

  pub led_stops : (halt : Fault TooMany) → AtNext (Err halt) → AtAnyLeaf stage own (λ levels before leaf. Finds
      (λ cut. AreFurther (site_of stage.chains) cut levels (stage.left - 1) stage.scope.now before leaf status leds)
      old new
      (Err halt))
  led_stops NoMemory found levels before listed fits client caller leaf leaf_fits = tt
  led_stops (Refused many) found levels before listed fits client caller leaf leaf_fits =
      let one = found levels before listed fits client caller leaf leaf_fits in
      too_many (Each levels before leaf true) leds old item (drop (at + 1) leds) now
      (here levels before leaf true (so_far levels before listed fits client caller leaf leaf_fits true)) one.0 one.1
      one.2 (left_out levels before leaf (drop (at + 1) leds))

pub leds_over : (stage : Stage) (own : LeafIn) (status : ℕ) (leds : List Led) (at : ℕ) (old now : Found)
    → LedsSoFar stage own status leds at old now → drop at leds ≡ [] → (done : ⊤)
    → AtAnyLeaf stage own (λ levels before leaf. Finds
    (λ cut. AreFurther (site_of stage.chains) cut levels (stage.left - 1) stage.scope.now before leaf status leds) old
    now
    (Ok done))
leds_over stage own status leds at old now so_far none done levels before listed fits client caller leaf leaf_fits cut =
    all_so_far (EachLed stage status levels before leaf cut) leds old now
    (subst (λ left. SoFar (EachLed stage status levels before leaf cut) leds left old now) none
    (so_far levels before listed fits client caller leaf leaf_fits cut))

-- ---- the ends of a redirect

module _ (site : Site) (cut : Bool) (levels : ℕ) (scope : Scope) (before : Before) (leaf : Leaf) where
  -- Where no redirect is, the end of the leaf.
  pub nowhere_on : (left : ℕ) (ends : List End) → ends ≡ end_at before leaf (is_out leaf.finish) ∷ []
      → Onward site cut levels left scope before leaf nowhere ends
  nowhere_on zero ends is = is
  nowhere_on (suc left) ends is = is

  -- Where none is followed any more.
  pub last_on : (left status : ℕ) (parts : List Part) (reached : List Reach) (ends : List End) → left ≡ 0
      → AreReachedFrom parts [] site.hosts reached → ends ≡ end_at before leaf (list_any is_own reached) ∷ []
      → Onward site cut levels left scope before leaf (to status parts) ends
  last_on left status parts reached ends none are is =
      subst (λ left. Onward site cut levels left scope before leaf (to status parts) ends) (sym none) (reached, are, is)

  -- Behind what follows it, its own.
  pub own_end : (left status : ℕ) (parts : List Part) (leds : List Led) (further : List End) → (left ≡ 0 → ⊥)
      → AreLedFrom parts [] site.hosts leds
      → AreFurther site cut levels (left - 1) scope before leaf status leds further
      → Onward site cut levels left scope before leaf (to status parts)
      (further ++ end_at before leaf (list_any is_outward leds) ∷ [])
  own_end zero status parts leds further some led are = absurd (some refl)
  own_end (suc left) status parts leds further some led are =
      let less : suc left - 1 ≡ left = omega arith in (
        leds,
        led,
        further,
        subst (λ left. AreFurther site cut levels left scope before leaf status leds further) less are,
        refl,
      )

module _ (stage : Stage) (levels : ℕ) (before : Before) (leaf : Leaf) (status : ℕ) (parts : List Part) (leds : List Led)
    (some : stage.left ≡ 0 → ⊥) (led : AreLedFrom parts [] (site_of stage.chains).hosts leds) (old : Found) where
  abbrev Further : Bool → List End → Type 0
  Further cut = AreFurther (site_of stage.chains) cut levels (stage.left - 1) stage.scope.now before leaf status leds

  abbrev Whole : Bool → List End → Type 0
  Whole cut = Onward (site_of stage.chains) cut levels stage.left stage.scope.now before leaf (to status parts)

  abbrev own : List End
  own = end_at before leaf (list_any is_outward leds) ∷ []

  joined : (cut : Bool) (further : List End) → Further cut further → Whole cut (further ++ own)
  joined cut further are =
      own_end (site_of stage.chains) cut levels stage.scope.now before leaf stage.left status parts leds further some
      led are

  pub sent_stops : (new : Found) (halt : Fault TooMany) → Finds Further old new (Err halt)
      → Finds Whole old new (Err halt)
  sent_stops new NoMemory found = tt
  sent_stops new (Refused many) found =
      (found.0 ++ own, joined true found.0 found.1, omega (arith, found.2, length-append found.0 own))

  pub sent_more : (mid new : Found) (done : ⊤) (result : Result ⊤ (Fault TooMany)) → Finds Further old mid (Ok done)
      → Finds (λ cut ends. ends ≡ own) mid new result → Finds Whole old new result
  sent_more mid new done (Ok over) found end = λ cut.
      let further = found cut in
      let last = end cut in (
        further.0 ++ own,
        joined cut further.0 further.1,
        subst (λ ends. Adds (further.0 ++ ends) old new) last.1
            (adds_more further.0 last.0 old mid new further.2 last.2),
      )
  sent_more mid new done (Err (Refused many)) found end =
      let further = found true in (
        further.0 ++ own,
        joined true further.0 further.1,
        omega (arith, end.2, ap length end.1, further.2.count, length-append further.0 own),
      )
  sent_more mid new done (Err NoMemory) found end = tt
