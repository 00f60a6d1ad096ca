-- What follows a request doesn't break the claim, where its own leaf and where that leads don't.
use Rattle.std.proofs.Common.{◌≡◌, ◌∙◌, ℕ, List, Bool, true, false, refl, sym, ap, subst, true≢false}
use Rattle.std.specs.List.{list_all}
use Rattle.std.specs.Prelude.{IsTrue, nat_lt}
use Rattle.hc_alias.specs.Locations as alias
use Rattle.hc_alias.specs.Tests.{Found}
use Rattle.hc_dfa.specs.Automata.{Automaton, accepts}
use Rattle.hc_dfa.specs.Texts.{IsText, TextSet}
use Rattle.hc_follow.specs.Next.{next_request}
use Rattle.hc_follow.specs.declared.origin.Origin.{Origin}
use Rattle.hc_model.specs.declared.mapping.Redirect.{Redirect}
use Rattle.hc_model.specs.declared.outcome.Outcome.{Outcome}
use Rattle.hc_model.specs.declared.outcome.Outcome.TheVariants as outcome
use Rattle.hc_model.specs.declared.request.Caller.{Caller}
use Rattle.hc_model.specs.declared.request.Request.{Request}
use Rattle.hc_model.specs.declared.walk.Kind.{Kind}
use Rattle.hc_model.specs.declared.walk.Kind.TheVariants as kind
use Rattle.hc_plan.proofs.Common.{and_left, and_right}
use Rattle.hc_plan.proofs.Made.{is_text}
use Rattle.hc_plan.specs.Cover.{Covers}
use Rattle.hc_plan.specs.Hands.{set_in}
use Rattle.hc_plan.specs.Running.{State}
use Rattle.hc_plan.specs.Slots.{Slot}
use Rattle.hc_serve.specs.Site.{Site}
use Rattle.hc_serve.specs.declared.stage.Pass.{Pass}
use Rattle.hc_steps.specs.Run.{Way, goes_on, is_over}
use Rattle.hc_abs_pass.specs.Ends.{SentBy, found, limit, next_pass, outside, refused, sent, status}
use Rattle.hc_abs_pass.specs.Passing.{Finish, dir_round, ruled, server_round, stopped}
use Rattle.hc_abs_rw.specs.Frames.{common}
use Rattle.hc_abs_rw.specs.Substitutions.{goes_on as ruled_on, outside as ruled_out, redirect as ruled_sent}
use Rattle.hc_abs_rw.specs.Substitutions.{status as ruled_status}
use Rattle.hc_abs_tree.specs.Leaves.{FinishedSo}
use Rattle.hc_abs_tree.specs.Trees.{Leaf}
use Rattle.hc_claim.specs.Bad.{is_out}
use Rattle.hc_sent.proofs.SentParts.{each_directed_is_sent, each_ruled_is_sent}
use Rattle.hc_sent.specs.Parts.{Sent}
use Rattle.hc_ends.specs.Breaking.{broken_then}
use Rattle.hc_ends.specs.Chains.{IsSent, Sends, nowhere, to}

-- A request ends so as the leaf says, and its caller has with this one in common what all requests of a scope have.
pub record EndsSo (caller : Caller) (leaf : Leaf) (own : Outcome) : Type 0 where
  pub site : Site
  pub same : common caller ≡ common site.caller
  pub last : Pass
  pub state : State
  pub covers : Covers leaf.known state
  pub finish : FinishedSo site last state leaf.finish (is_over own)

ended_so : {A : Type 0} (one other : Outcome) → ◌≡◌ {A = Way Outcome A} (is_over one) (is_over other) → one ≡ other
ended_so one other same = let e = same in cc

goes_nowhere : {A : Type 0} (own : Outcome) (left : A) → ◌≡◌ {A = Way Outcome A} (is_over own) (goes_on left) → ⊥
goes_nowhere own left same = let e = same in cc

-- A text that a slot may have is of its automaton.
record IsHeld (set : Automaton) (text : List ℕ) : Type 0 where
  bytes : IsText text
  member : IsTrue (accepts set text)

held_in : (cell : TextSet) (set : Automaton) (text : List ℕ) → cell ≡ set_in set → cell text ≡ true → IsHeld set text
held_in cell set text same is =
    let held : set_in set text ≡ true = ap (λ (cell : TextSet). cell text) (sym same) ∙ is in
    record {
      bytes = is_text text (and_left (list_all (λ b. nat_lt b 256) text) (accepts set text) held);
      member = and_right (list_all (λ b. nat_lt b 256) text) (accepts set text) held;
    }

-- A location is the same for all requests of a scope.
same_location : (one other : Caller) → common one ≡ common other → (redirect : Redirect) (test : Found) (query : List ℕ)
    → alias.location one redirect test query ≡ alias.location other redirect test query
same_location one other same redirect test query = ap (λ caller. alias.location caller redirect test query) same

module _ (hosts : List Origin) (request : Request) (broken : Request → Bool) where
  -- What follows an outcome doesn't break the claim.
  abbrev pub IsSafe : Outcome → Type 0
  IsSafe own = broken_then broken own (next_request hosts request own) ≡ false

  -- Neither does anything that is sent.
  abbrev pub SendsSafely : Finish → Sends → Type 0
  SendsSafely finish nowhere = is_out finish ≡ false
  SendsSafely finish (to number parts) =
      (location : List ℕ) → Sent parts location → IsSafe (outcome.Redirect number location)

  module _ (caller : Caller) (leaf : Leaf) (own : Outcome) (ends : EndsSo caller leaf own) where
    abbrev Goes : Finish → Type 0
    Goes finish = FinishedSo ends.site ends.last ends.state finish (is_over own) → (sends : Sends)
        → IsSent caller leaf.known.cell finish sends → SendsSafely finish sends → IsSafe own

    goes_so : (other : Outcome) → own ≡ other → IsSafe other → IsSafe own
    goes_so other same safe = subst IsSafe (sym same) safe

    by_kind : (kind : Kind) → Goes (stopped (found kind))
    by_kind kind.Absent so sends is safe = goes_so outcome.NotFound (ended_so _ _ so) refl
    by_kind kind.Dir so sends is safe =
        goes_so _ (ended_so own (outcome.Directory (ends.state.slots Slot.Name)) so) refl
    by_kind kind.File so sends is safe =
        goes_so _ (ended_so own (outcome.File (ends.state.slots Slot.Name) (ends.state.slots Slot.Info)) so) refl

    by_redirect : (redirect : Redirect) → Goes (stopped (sent redirect))
    by_redirect redirect so sends is safe =
        let from = is.1 in
        let lead : SentBy ends.site.caller ends.state redirect so.0 = so.2 in
        let path = held_in _ from.texts _ from.holds (ends.covers.slots Slot.Path) in
        let query = held_in _ from.queries _ from.asks (ends.covers.slots Slot.Query) in
        goes_so _ (ended_so _ _ so.1 ∙ lead.2)
        (subst (SendsSafely (stopped (sent redirect))) is.2 safe _
        (subst (Sent is.0)
        (same_location caller ends.site.caller ends.same redirect lead.0 (ends.state.slots Slot.Query))
        (each_directed_is_sent caller redirect (accepts from.texts) (accepts from.queries) is.0
        (ends.state.slots Slot.Path) (ends.state.slots Slot.Query) lead.0 from.are path.bytes path.member query.bytes
        query.member lead.1)))

    by_rule : (number : ℕ) (front : List ℕ) (noescape : Bool) → Goes (ruled (ruled_sent number front noescape))
    by_rule number front noescape so sends is safe =
        let from = is.1 in
        let text = held_in _ from.texts _ from.holds (ends.covers.slots Slot.Location) in
        let query = held_in _ from.queries _ from.asks (ends.covers.slots Slot.Query) in
        goes_so _ (ended_so _ _ so)
        (subst (SendsSafely (ruled (ruled_sent number front noescape))) is.2 safe _
        (each_ruled_is_sent front noescape (accepts from.texts) (accepts from.queries) is.0
        (ends.state.slots Slot.Location) _ (ends.state.slots Slot.Query) from.are text.bytes text.member query.bytes
        query.member))

    by_finish : (finish : Finish) → Goes finish
    by_finish (stopped (status number)) so sends is safe = goes_so (outcome.Status number) (ended_so _ _ so) refl
    by_finish (stopped (outside reason)) so sends is safe =
        absurd (true≢false (subst (SendsSafely (stopped (outside reason))) is safe))
    by_finish (stopped (found kind)) so sends is safe = by_kind kind so sends is safe
    by_finish (stopped (sent redirect)) so sends is safe = by_redirect redirect so sends is safe
    by_finish (stopped (refused refusal)) so sends is safe = goes_so (outcome.HtRefused refusal) (ended_so _ _ so) refl
    by_finish (stopped (limit kind)) so sends is safe = goes_so (outcome.Limit kind) (ended_so _ _ so) refl
    by_finish (stopped next_pass) so sends is safe = absurd (goes_nowhere own so.0 so.1)
    by_finish (ruled ruled_on) so sends is safe = absurd (goes_nowhere own _ so.1)
    by_finish (ruled (ruled_status number)) so sends is safe = goes_so (outcome.Status number) (ended_so _ _ so) refl
    by_finish (ruled (ruled_sent number front noescape)) so sends is safe =
        by_rule number front noescape so sends is safe
    by_finish (ruled (ruled_out reason)) so sends is safe =
        absurd (true≢false (subst (SendsSafely (ruled (ruled_out reason))) is safe))
    by_finish (server_round rule so_far) so sends is safe = absurd so
    by_finish (dir_round settings rule so_far) so sends is safe = absurd so

    pub safe_at : (sends : Sends) → IsSent caller leaf.known.cell leaf.finish sends → SendsSafely leaf.finish sends
        → IsSafe own
    safe_at = by_finish leaf.finish ends.finish
