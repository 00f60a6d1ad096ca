-- A leaf at which a request breaks a claim is bad.
use Rattle.hc_claim.proofs.Common.{◌≡◌, ◌∙◌, inl, inr, List, [], ◌∷◌, ◌&&◌, true, false, refl}
use Rattle.hc_claim.proofs.Common.{sym, ap, true≢false}
use Rattle.hc_claim.proofs.Common.{list_any, Outcome}
use Rattle.hc_claim.proofs.Common.outcome
use Rattle.std.proofs.Math.Bool.{or-false}
use Rattle.std.proofs.lemmas.Bool.{and_parts, false≢true}
use Rattle.std.proofs.lemmas.List.Folds.{list_any-append}
use Rattle.hc_base.specs.declared.place.Place.{Place}
use Rattle.hc_broken.specs.Breaking.{breaks, breaks_by, is_limit, lacks, same_place}
use Rattle.hc_broken.specs.Breaking.{is_match as is_told, is_served as is_given}
use Rattle.hc_dfa.specs.Automata.{accepts}
use Rattle.hc_dfa.specs.Texts.{TextSet}
use Rattle.hc_model.specs.declared.event.Event.{Event}
use Rattle.hc_model.specs.declared.event.Event.TheVariants as event
use Rattle.hc_model.specs.declared.walk.Kind.{Kind}
use Rattle.hc_model.specs.declared.walk.Kind.TheVariants as kind
use Rattle.hc_plan.specs.Cover.{Covers}
use Rattle.hc_plan.specs.Running.{State}
use Rattle.hc_plan.specs.Slots.{Slot}
use Rattle.hc_scope.specs.declared.claim.Claim.{Claim}
use Rattle.hc_scope.specs.declared.claim.Claim.TheVariants.{Guarded, Shadowed, Stops}
use Rattle.hc_serve.specs.Needs.{needs_of}
use Rattle.hc_serve.specs.Site.{Site}
use Rattle.hc_serve.specs.declared.stage.Pass.{Pass}
use Rattle.hc_steps.specs.Run.{Way, goes_on, is_over}
use Rattle.hc_abs_pass.specs.Ends.{found, limit, next_pass, outside, refused, sent, status}
use Rattle.hc_abs_pass.specs.Passing.{Finish, dir_round, ruled, server_round, stopped}
use Rattle.hc_abs_rw.specs.Standing.{decision_of, decisions_in}
use Rattle.hc_abs_rw.specs.Substitutions.{goes_on as ruled_on, outside as ruled_out, redirect as ruled_sent}
use Rattle.hc_abs_rw.specs.Substitutions.{status as ruled_status}
use Rattle.hc_abs_tree.specs.Leaves.{FinishedSo}
use Rattle.hc_abs_tree.specs.Trees.{Leaf}
use Rattle.hc_claim.specs.Bad.{IsBad, MayBreak, MayName, is_limited, is_match, is_out, is_served, is_there}

-- ---- matches that are told are decided

told_once : (place : Place) (event : Event) → list_any (is_match place) (decision_of event) ≡ is_told place event
told_once place (event.Host own) = refl
told_once place (event.Pass number path query) = refl
told_once place (event.Cond spot held) = refl
told_once place (event.Rule spot matched) = or-false (matched && same_place spot.place place)
told_once place (event.Text text query) = refl
told_once place (event.Round number) = refl
told_once place (event.Redirect own) = refl
told_once place (event.Map from name) = refl
told_once place (event.Walk name info kind) = refl
told_once place (event.Section spot) = refl
told_once place (event.Auth value) = refl
told_once place (event.Restart path) = refl

pub told_all : (place : Place) (events : List Event)
    → list_any (is_match place) (decisions_in events) ≡ list_any (is_told place) events
told_all place [] = refl
told_all place (event ∷ events) = list_any-append (is_match place) (decision_of event) (decisions_in events)
    ∙ rw (told_once place event, told_all place events) refl

-- ---- by how the leaf ends

ended_so : {A : Type 0} (one other : Outcome) → ◌≡◌ {A = Way Outcome A} (is_over one) (is_over other) → one ≡ other
ended_so one other same = let e = same in cc

goes_nowhere : {A : Type 0} (own : Outcome) (left : A) → ◌≡◌ {A = Way Outcome A} (is_over own) (goes_on left) → ⊥
goes_nowhere own left same = let e = same in cc

module _ (leaf : Leaf) (events : List Event) (decided : leaf.decisions ≡ decisions_in events) where
  -- An outcome that is no limit where the leaf isn't, and no file or directory that the leaf may not give.
  record Shared (own : Outcome) : Type 0 where
    limited : is_limit own ≡ true → is_limited leaf.finish ≡ true
    given : (set : TextSet) → is_given set own ≡ true → (is_served leaf.finish ≡ true) × MayName leaf set

  by_claim : (claim : Claim) (own : Outcome) → Shared own
      → breaks_by claim own events (needs_of leaf.require) ≡ true → MayBreak claim leaf
  by_claim Stops own shared is = shared.limited is
  by_claim (Shadowed place) own shared is = ap (list_any (is_match place)) decided ∙ told_all place events ∙ is
  by_claim (Guarded target by) own shared is =
      let both = and_parts (is_given (accepts target) own) (lacks (needs_of leaf.require) by) is in
      let served = shared.given (accepts target) both.0 in (served.0, both.1, served.1)

  -- Neither a limit nor a file or directory.
  abbrev Other : Outcome → Type 0
  Other own = (is_limit own ≡ false) × ((set : TextSet) → is_given set own ≡ false)

  shared_other : (own : Outcome) → Other own → Shared own
  shared_other own other = record {
    limited = λ is. absurd (true≢false (sym is ∙ other.0));
    given = λ set is. absurd (true≢false (sym is ∙ other.1 set));
  }

  by_outcome : (claim : Claim) (own to : Outcome) → own ≡ to → Shared to
      → breaks claim to events (needs_of leaf.require) ≡ breaks_by claim to events (needs_of leaf.require)
      → breaks claim own events (needs_of leaf.require) ≡ true → IsBad claim leaf
  by_outcome claim own to same shared inside is =
      inr (by_claim claim to shared
      (sym inside ∙ ap (λ own. breaks claim own events (needs_of leaf.require)) (sym same) ∙ is))

  module _ (site : Site) (last : Pass) (state : State) (covers : Covers leaf.known state) where
    abbrev Judged : Claim → Outcome → Finish → Type 0
    Judged claim own finish = leaf.finish ≡ finish → FinishedSo site last state finish (is_over own)
        → breaks claim own events (needs_of leaf.require) ≡ true → IsBad claim leaf

    found_there : (kind : Kind) → is_there kind ≡ true → leaf.finish ≡ stopped (found kind) → (own : Outcome)
        → is_limit own ≡ false
        → ((set : TextSet) → is_given set own ≡ true → set (state.slots Slot.Name) ≡ true) → Shared own
    found_there kind there same own limited name = record {
      limited = λ is. absurd (true≢false (sym is ∙ limited));
      given = λ set is. (ap is_served same ∙ there, (state.slots Slot.Name, covers.slots Slot.Name, name set is));
    }

    by_kind : (claim : Claim) (own : Outcome) (kind : Kind) → Judged claim own (stopped (found kind))
    by_kind claim own kind.Absent same ends is =
        by_outcome claim own outcome.NotFound (ended_so _ _ ends) (shared_other _ (refl, λ set. refl)) refl is
    by_kind claim own kind.Dir same ends is =
        by_outcome claim own _ (ended_so _ _ ends)
        (found_there kind.Dir refl same (outcome.Directory (state.slots Slot.Name)) refl (λ set is. is)) refl is
    by_kind claim own kind.File same ends is =
        by_outcome claim own _ (ended_so _ _ ends)
        (found_there kind.File refl same (outcome.File (state.slots Slot.Name) (state.slots Slot.Info)) refl
        (λ set is. is)) refl is

    pub by_finish : (claim : Claim) (own : Outcome) (finish : Finish) → Judged claim own finish
    by_finish claim own (stopped (status number)) same ends is =
        by_outcome claim own (outcome.Status number) (ended_so _ _ ends) (shared_other _ (refl, λ set. refl)) refl is
    by_finish claim own (stopped (outside reason)) same ends is = inl (ap is_out same)
    by_finish claim own (stopped (found kind)) same ends is = by_kind claim own kind same ends is
    by_finish claim own (stopped (sent redirect)) same ends is =
        by_outcome claim own _ (ended_so _ _ ends.1 ∙ ends.2.2) (shared_other _ (refl, λ set. refl)) refl is
    by_finish claim own (stopped (refused refusal)) same ends is =
        by_outcome claim own (outcome.HtRefused refusal) (ended_so _ _ ends) (shared_other _ (refl, λ set. refl)) refl is
    by_finish claim own (stopped (limit kind)) same ends is =
        by_outcome claim own (outcome.Limit kind) (ended_so _ _ ends)
        (record { limited = λ is. ap is_limited same; given = λ set is. absurd (false≢true is) }) refl is
    by_finish claim own (stopped next_pass) same ends is = absurd (goes_nowhere own ends.0 ends.1)
    by_finish claim own (ruled ruled_on) same ends is = absurd (goes_nowhere own _ ends.1)
    by_finish claim own (ruled (ruled_status number)) same ends is =
        by_outcome claim own (outcome.Status number) (ended_so _ _ ends) (shared_other _ (refl, λ set. refl)) refl is
    by_finish claim own (ruled (ruled_sent number front noescape)) same ends is =
        by_outcome claim own _ (ended_so _ _ ends) (shared_other _ (refl, λ set. refl)) refl is
    by_finish claim own (ruled (ruled_out reason)) same ends is = inl (ap is_out same)
    by_finish claim own (server_round rule so_far) same ends is = absurd ends
    by_finish claim own (dir_round settings rule so_far) same ends is = absurd ends
