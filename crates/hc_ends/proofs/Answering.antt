-- What an answer says of the chains of all requests of a scope.
use Rattle.std.proofs.Common.{◌≡◌, ◌∙◌, inl, inr, ℕ, zero, suc, List, [], ◌∷◌, Bool, true, false, Option, Some, None}
use Rattle.std.proofs.Common.{refl, sym, ap, subst}
use Rattle.std.specs.List.{find, list_any}
use Rattle.hc_absolute.specs.Absolute.{AreAbsolute}
use Rattle.hc_follow.specs.Next.{next_request}
use Rattle.hc_follow.specs.declared.chain.TheConstants.{MOST_STEPS}
use Rattle.hc_members.specs.Requests.{is_of_scope}
use Rattle.hc_model.specs.declared.event.Decision.{Decision}
use Rattle.hc_model.specs.declared.outcome.Outcome.{Outcome}
use Rattle.hc_model.specs.declared.request.Request.{Request}
use Rattle.hc_scope.specs.declared.claim.Scope.{Scope}
use Rattle.hc_serve.specs.Request.{received}
use Rattle.hc_steps.specs.Shown.{shown_by}
use Rattle.hc_abs_pass.specs.Walks.{IsListed}
use Rattle.hc_abs_tree.specs.Trees.{Leaf}
use Rattle.hc_claim.proofs.Members.{candidates_within, found_is}
use Rattle.hc_claim.specs.Bad.{is_out}
use Rattle.hc_claim.specs.Deciding.{OrElse}
use Rattle.hc_ends.specs.Asking.{HaveNames, Site}
use Rattle.hc_ends.specs.Breaking.{broken_by, broken_then, is_broken}
unfoldable use Rattle.hc_ends.specs.Breaking.{broken_in}
use Rattle.hc_ends.specs.Chains.{AreEnds, AreIn, AreLast, AreLeafIn, AreLed, Before, End, IsLed, Sends, caller_of}
use Rattle.hc_ends.specs.Chains.{end_at, is_outward, is_own, none_before, nowhere, to}
unfoldable use Rattle.hc_ends.specs.Chains.{ChainsIn}
use Rattle.hc_ends.specs.Deciding.{IsAnswered, IsFirst, IsShown, bad_of}
use Rattle.hc_ends.specs.Holding.{AnswersHold, Holds}
use Rattle.hc_ends.specs.declared.decided.DecidedEnds.{DecidedEnds}
use Rattle.hc_ends.proofs.Fitting.{none_reached}
use Rattle.hc_ends.proofs.Following.{SafeFor, leads_on}
use Rattle.hc_ends.proofs.Outcomes.{SendsSafely, safe_at}
use Rattle.hc_ends.proofs.Parts.{among_all, both_good, is_good, uncut}
use Rattle.hc_ends.proofs.Reaching.{EndsAmong, ends_among}

-- ---- what is proved

-- What is sent from a leaf is safe, where no end there is bad.
abbrev SendsFor : Site → (Request → Bool) → (Scope → Before → Leaf → Sends → List End → Type 0) → Type 0
SendsFor site broken Are = (scope : Scope) (before : Before) (leaf : Leaf) (sends : Sends) (ends : List End)
    → Are scope before leaf sends ends → bad_of ends ≡ [] → (request : Request) → is_of_scope scope request ≡ true
    → SendsSafely site.hosts request broken leaf.finish sends

module _ (site : Site) (absolute : AreAbsolute site.config) (named : HaveNames site.hosts) (levels : ℕ)
    (listed : IsListed levels (shown_by site.world)) where
  each_safe : (broken : Request → Bool) (Are : Scope → Before → Leaf → Sends → List End → Type 0)
      → SendsFor site broken Are → SafeFor (broken_by site broken) (AreIn site false levels Are)
  each_safe broken Are sends_safely scope before ends are none request within =
      by (received site.world site.config request)
      (ends_among site absolute levels listed scope are.0 are.1 request within)
    where
      by : (own : Outcome) → EndsAmong (caller_of site scope) are.0 own
          → broken_then broken own (next_request site.hosts request own) ≡ false
      by own (inl long) =
          subst (λ own. broken_then broken own (next_request site.hosts request own) ≡ false) (sym long) refl
      by own (inr found) =
          let leaf = found.0 in
          let part = among_all (AreLeafIn site false levels Are scope before) are.0 ends are.2 none leaf found.1 in
          let at = uncut part.are in
          safe_at site.hosts request broken (caller_of site scope) leaf own found.2 at.0 at.1
          (sends_safely scope before leaf at.0 part.ends at.2 part.none request within)

  last_sends : SendsFor site (λ next. true) (AreLast site false levels)
  last_sends scope before leaf nowhere ends are none request within =
      is_good before leaf (is_out leaf.finish) (ap bad_of (sym are) ∙ none)
  last_sends scope before leaf (to status parts) ends are none request within = λ location sent.
      none_reached parts location sent status request (λ next. true) site.hosts named
      (are.0, are.1, is_good before leaf (list_any is_own are.0) (ap bad_of (sym are.2) ∙ none))

  led_sends : (broken : Request → Bool) (Further : Scope → Before → List End → Type 0) → SafeFor broken Further
      → SendsFor site broken (λ scope before leaf. AreLed site false levels scope before leaf Further)
  led_sends broken Further safe scope before leaf nowhere ends are none request within =
      is_good before leaf (is_out leaf.finish) (ap bad_of (sym are) ∙ none)
  led_sends broken Further safe scope before leaf (to status parts) ends are none request within = λ location sent.
      let both = both_good are.2 (end_at before leaf (list_any is_outward are.0) ∷ []) (ap bad_of (sym are.4) ∙ none) in
      leads_on site levels scope before leaf status parts location sent request within broken Further safe site.hosts
      named (
        are.0,
        are.1,
        is_good before leaf (list_any is_outward are.0) both.more,
        among_all (IsLed site false levels scope before leaf Further status) are.0 are.2 are.3 both.first,
      )

  safe_in : (left : ℕ) → SafeFor (broken_in site left) (ChainsIn site false levels left)
  unfolding ChainsIn broken_in
  safe_in zero = each_safe (λ next. true) (AreLast site false levels) last_sends
  safe_in (suc left) =
      each_safe (broken_in site left)
      (λ scope before leaf. AreLed site false levels scope before leaf (ChainsIn site false levels left))
      (led_sends (broken_in site left) (ChainsIn site false levels left) (safe_in left))

-- ---- what is refuted

module _ (site : Site) (scope : Scope) where
  abbrev Shows : Option Request → Type 0
  Shows found = (request : Request) → found ≡ Some request
      → (is_broken site request ≡ true) × (is_of_scope scope request ≡ true)

  first_shows : (headers : List (List ℕ)) (ends : List End) (found : Option Request)
      → IsFirst site scope headers ends found → Shows found
  first_shows headers [] found none request is = let e = sym none ∙ is in cc
  first_shows headers (end ∷ ends) found tried request is =
      by (find (is_broken site) tried.0) refl tried.2 (λ later. first_shows headers ends found later request is)
    where
      by : (own : Option Request) → find (is_broken site) tried.0 ≡ own
          → OrElse (IsFirst site scope headers ends) own found
          → (IsFirst site scope headers ends found
          → (is_broken site request ≡ true) × (is_of_scope scope request ≡ true))
          → (is_broken site request ≡ true) × (is_of_scope scope request ≡ true)
      by (Some first) same later rest =
          found_is (is_broken site) (is_of_scope scope) tried.0 request (same ∙ sym later ∙ is)
          (candidates_within scope headers tried.1.0 tried.0 tried.1.2)
      by None same later rest = rest later

  shown_holds : (headers : List (List ℕ)) (ends : List End) (branch : List Decision) (found : Option Request)
      → IsFirst site scope headers ends found → (decided : DecidedEnds) → IsShown site scope branch found decided
      → Holds site scope decided
  shown_holds headers ends branch None first decided is = subst (Holds site scope) (sym is) tt
  shown_holds headers ends branch (Some request) first decided is =
      let own = first_shows headers ends (Some request) first request refl in
      subst (Holds site scope) (sym is.2) (own.1, own.0, is.1)

  answer_holds : AreAbsolute site.config → HaveNames site.hosts → (levels : ℕ) → IsListed levels (shown_by site.world)
      → (headers : List (List ℕ)) (ends : List End) → AreEnds site levels scope ends → (bad : List End)
      → bad_of ends ≡ bad → (decided : DecidedEnds) → IsAnswered site scope headers bad decided
      → Holds site scope decided
  answer_holds absolute named levels listed headers ends all [] none decided is =
      subst (Holds site scope) (sym is)
      (safe_in site absolute named levels listed MOST_STEPS scope none_before ends all none)
  answer_holds absolute named levels listed headers ends all (end ∷ bad) are decided is =
      shown_holds headers (end ∷ bad) end.decisions is.0 is.1 decided is.2

pub answers_hold : AnswersHold
answers_hold site scope limit levels spent decided absolute named listed (inl many) =
    subst (Holds site scope) (sym many.is) tt
answers_hold site scope limit levels spent decided absolute named listed (inr known) =
    answer_holds site scope absolute named levels listed known.names.headers known.ends known.all (bad_of known.ends)
    refl decided known.answer
