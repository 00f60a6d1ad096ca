-- Where a request stands, and the cell that it lies in there.
use Rattle.std.proofs.Common.{◌≡◌, ◌∙◌, ◌⊎◌, inl, inr, ℕ, List, [], ◌∷◌, true, false, Option}
use Rattle.std.proofs.Common.{Some, None, refl, sym, ap, subst, true≢false}
use Rattle.std.proofs.lemmas.Bool.{false≢true}
use Rattle.hc_addr.specs.Printed.{printed}
use Rattle.hc_dfa.specs.Texts.{TextSet}
use Rattle.hc_invariant.specs.declared.cut.Cut.{Cut as Named}
use Rattle.hc_invariant.specs.declared.cut.Cut.TheVariants as named
use Rattle.hc_invariant.specs.declared.named.NamedCell.{NamedCell}
use Rattle.hc_plan.proofs.Common.{and_left}
use Rattle.hc_plan.proofs.Made.{is_text}
use Rattle.hc_plan.proofs.Slots.{same_bytes}
use Rattle.hc_plan.specs.Cover.{Among, Covers, GivenIs, IsMade, TiesHold}
use Rattle.hc_plan.specs.Running.{State}
use Rattle.hc_plan.specs.Slots.{Slot}
use Rattle.hc_plan.specs.Branches.{no_text}
use Rattle.hc_plan.specs.States.{Given, this}
use Rattle.hc_plan.specs.Texts.{Key, all_three, first_key, pick, second_key, third_key}
use Rattle.hc_scope.specs.Clients.{clients_of}
use Rattle.hc_scope.specs.declared.claim.Scope.{Scope}
use Rattle.hc_serve.specs.Segments.{Cut, at_pass, dir_round, server_round}
use Rattle.hc_serve.specs.Site.{Site}
use Rattle.hc_steps.specs.Step.{Shown}
use Rattle.hc_abs_again.specs.Arriving.{StandsAt, WasReached}
use Rattle.hc_abs_rw.specs.Known.{client_given}
use Rattle.hc_abs_start.specs.Starts.{sole_client}
use Rattle.hc_cert.specs.Claims.{HasEmptySlot}
use Rattle.hc_cert.specs.Cells.{Belongs, LiesIn, known_in, same_cut, ties_at}
use Rattle.hc_held.proofs.Further.{first_at}
use Rattle.hc_held.proofs.Weakly.{Weakly, and_so, either_way, weakly}

abbrev pub cut_of : Cut → Named
cut_of (at_pass left) = named.Pass
cut_of (server_round pass round next) = named.Server
cut_of (dir_round here dir round next) = named.Dir dir

pub same_named : (one other : Named) → same_cut one other ≡ true → one ≡ other
same_named named.Pass named.Pass is = refl
same_named named.Server named.Server is = refl
same_named (named.Dir one) (named.Dir other) is = ap named.Dir (same_bytes one other is)
same_named one other is = absurd (false≢true is)

-- ---- the cell that a branch leads to

-- It can't be told which it is.
pub belongs_somewhere : (states : Slot → TextSet) (at : Named) (cells : List NamedCell)
    → Weakly ((found : Option NamedCell) × Belongs states at cells found)
belongs_somewhere states at [] = weakly (None, refl)
belongs_somewhere states at (own ∷ cells) =
    and_so (either_way (LiesIn states at own)) (by (belongs_somewhere states at cells))
  where
    by : Weakly ((found : Option NamedCell) × Belongs states at cells found)
        → LiesIn states at own ⊎ (LiesIn states at own → ⊥)
        → Weakly ((found : Option NamedCell) × Belongs states at (own ∷ cells) found)
    by rest (inl lies) = weakly (Some own, inl (lies, refl))
    by rest (inr isnt) = and_so rest (λ found. weakly (found.0, inr (isnt, found.1)))

same_some : (one other : NamedCell) → ◌≡◌ {A = Option NamedCell} (Some one) (Some other) → one ≡ other
same_some one other same = let e = same in cc

none_some : {P : Type 0} (own : NamedCell) → ◌≡◌ {A = Option NamedCell} (Some own) None → P
none_some own same = absurd (let e = same in cc)

pub belongs_in : (states : Slot → TextSet) (at : Named) (cells : List NamedCell) (to : NamedCell)
    → Belongs states at cells (Some to) → Among to cells × LiesIn states at to
belongs_in states at [] to same = none_some to same
belongs_in states at (own ∷ cells) to (inl here) =
    let same = same_some to own here.1 in (inl same, subst (LiesIn states at) (sym same) here.0)
belongs_in states at (own ∷ cells) to (inr rest) =
    let found = belongs_in states at cells to rest.1 in (inr found.0, found.1)

-- ---- what is known there

-- Nothing is held, and no text is in hand.
abbrev pub settled : State → State
settled state = record state { given = all_three (λ at. []); texts = all_three [] }

none : {P : Type 0} → false ≡ true → P
none is = absurd (false≢true is)

ties_hold : (own at : Named) (slots : Slot → List ℕ) → same_cut own at ≡ true
    → (at ≡ named.Pass → slots Slot.Text ≡ slots Slot.Path) → TiesHold slots (ties_at own)
ties_hold named.Pass named.Pass slots is tied =
    record { origin_path = none; text_path = λ is. tied refl; text_name = none; query_first = none }
ties_hold named.Pass at slots is tied = none is
ties_hold own at slots is tied = record { origin_path = none; text_path = none; text_name = none; query_first = none }

none_given : (key : Key) (at : ℕ)
    → GivenIs (pick {V = ℕ → Given} (all_three (λ at. this [])) key at)
    (pick {V = ℕ → List ℕ} (all_three (λ at. [])) key at)
none_given first_key at = refl
none_given second_key at = refl
none_given third_key at = refl

none_made : (slots : Slot → List ℕ) (key : Key)
    → IsMade slots (pick (all_three no_text) key) (pick (all_three []) key)
none_made slots first_key = ([], refl, refl, refl)
none_made slots second_key = ([], refl, refl, refl)
none_made slots third_key = ([], refl, refl, refl)

module _ (scope : Scope) where
  abbrev pub KnowsClient : State → Type 0
  KnowsClient state = (clients_of scope.client state.client ≡ true)
      × GivenIs (client_given (sole_client scope.client)) (printed state.client)

  pub lies_covered : (states : Slot → TextSet) (at : Named) (to : NamedCell) (state : State) → LiesIn states at to
      → ((slot : Slot) → states slot (state.slots slot) ≡ true)
      → (at ≡ named.Pass → state.slots Slot.Text ≡ state.slots Slot.Path) → KnowsClient state
      → Covers (known_in scope to) (settled state)
  lies_covered states at to state lies held tied client = record {
    slots = λ slot. lies.within slot (state.slots slot) (held slot);
    ties = ties_hold to.at at state.slots lies.cut tied;
    given = none_given;
    texts = none_made state.slots;
    clients = client.0;
    printed = client.1;
  }

  pub filled : (own : NamedCell) (state : State) → Covers (known_in scope own) state
      → HasEmptySlot (known_in scope own) → ⊥
  filled own state covers empty =
      let text = state.slots empty.0 in
      let held = covers.slots empty.0 in
      true≢false (sym held ∙ empty.1 text (is_text text (and_left _ _ held)))

-- ---- where a request stands

module _ (site : Site) (shown : Shown) where
  pub stands_settled : (cut : Cut) (state : State) → StandsAt site cut state → StandsAt site cut (settled state)
  stands_settled (at_pass left) state stands = stands
  stands_settled (server_round pass round next) state stands = stands
  stands_settled (dir_round here dir round next) state stands =
      record { meets = stands.meets; name = stands.name; once = stands.once }

  pub text_is_path : (cut : Cut) (state : State) → StandsAt site cut state → cut_of cut ≡ named.Pass
      → state.slots Slot.Text ≡ state.slots Slot.Path
  text_is_path (at_pass left) state stands is = stands.0.text ∙ sym stands.0.path
  text_is_path (server_round pass round next) state stands is = absurd (let e = is in cc)
  text_is_path (dir_round here dir round next) state stands is = absurd (let e = is in cc)

  pub client_is : (cut : Cut) (state : State) → StandsAt site cut state
      → state.client ≡ site.caller.request.client
  client_is (at_pass left) state stands = stands.0.caller
  client_is (server_round pass round next) state stands = stands.0.caller
  client_is (dir_round here dir round next) state stands = stands.meets.caller

  -- It stands at the cut, and what is known of the cell covers it.
  pub record Stands (scope : Scope) (own : NamedCell) (cut : Cut) (state : State) : Type 0 where
    pub at : same_cut own.at (cut_of cut) ≡ true
    pub reached : WasReached site shown cut
    pub stands : StandsAt site cut state
    pub covers : Covers (known_in scope own) state

  -- So it does at the round of number 0.
  pub stands_first : (scope : Scope) (own : NamedCell) (cut : Cut) (state : State) → Stands scope own cut state
      → Stands scope own (first_at cut) state
  stands_first scope own (at_pass left) state stands = stands
  stands_first scope own (server_round pass round next) state stands =
      record { at = stands.at; reached = tt; stands = stands.stands; covers = stands.covers }
  stands_first scope own (dir_round here dir round next) state stands =
      record { at = stands.at; reached = stands.reached; stands = stands.stands; covers = stands.covers }
