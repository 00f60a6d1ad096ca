-- One side of a test of the text in hand, and lists of branches that are joined.
use Rattle.hc_abs_again.proofs.Common.{◌≡◌, List, ℕ, Bool, true, Option, Some, None, inl, inr, sym, subst}
use Rattle.hc_abs_again.proofs.Common.{State, pick}
use Rattle.std.proofs.lemmas.Bool.{and_from}
use Rattle.hc_plan.proofs.Covering.{among_one, among_other}
use Rattle.hc_plan.proofs.Narrowing.{all_read, made_has, narrowed_holds, sole_gives}
use Rattle.hc_plan.specs.Branches.{Both, OnSide}
use Rattle.hc_plan.specs.Cover.{Among, Covers, IsMade}
use Rattle.hc_plan.specs.States.{AbsState, AbsText, IsWhole, met, narrowed, on_side, sole_in, with_text}
use Rattle.hc_plan.specs.declared.shape.Sole.{Sole}
use Rattle.hc_plan.specs.Texts.{Key, first_key, second_key, third_key}
use Rattle.hc_plan.specs.Slots.{Slot}
use Rattle.hc_abs_rw.specs.Templates.{main}

-- ---- lists

abbrev pub AllAmong : {B : Type 0} → List B → List B → Type 0
AllAmong {B} one all = (x : B) → Among x one → Among x all

pub all_among : {B : Type 0} (one mid all : List B) → AllAmong one mid → AllAmong mid all → AllAmong one all
all_among one mid all first rest = λ x among. rest x (first x among)

-- Those of one of both.
abbrev pub HasPart : {B : Type 0} → (List B → Type 0) → List B → Type 0
HasPart {B} Q all = (one : List B) × AllAmong one all × Q one

pub part_one : {B : Type 0} (Q R : List B → Type 0) (all : List B) → Both Q R all → HasPart Q all
part_one Q R all both =
    (both.0, λ x among. subst (Among x) (sym both.2) (among_one x both.0 both.1 among), both.3)

pub part_other : {B : Type 0} (Q R : List B → Type 0) (all : List B) → Both Q R all → HasPart R all
part_other Q R all both =
    (both.1, λ x among. subst (Among x) (sym both.2) (among_other x both.0 both.1 among), both.4)

-- ---- a side

module _ (over : AbsState) (state : State) (covers : Covers over state) where
  narrowed_covers : (side : List ℕ → Bool) (sole : Option Sole)
      → ((slot : Slot) → (narrowed over side sole).cell slot (state.slots slot) ≡ true)
      → Covers (narrowed over side sole) state
  narrowed_covers side None within = covers
  narrowed_covers side (Some sole) within = record {
    slots = within;
    ties = covers.ties;
    given = covers.given;
    texts = covers.texts;
    clients = covers.clients;
    printed = covers.printed;
  }

  -- Another text is known of what is in hand.
  pub text_covers : (own : AbsText) → IsMade state.slots own (pick state.texts main)
      → Covers (with_text over main own) state
  text_covers own is = record {
    slots = covers.slots;
    ties = covers.ties;
    given = covers.given;
    texts = by;
    clients = covers.clients;
    printed = covers.printed;
  }
    where
      by : (key : Key) → IsMade state.slots (pick (with_text over main own).texts key) (pick state.texts key)
      by first_key = is
      by second_key = covers.texts second_key
      by third_key = covers.texts third_key

is_whole : (next : AbsState) (state : State) (sole : Option Sole) → Covers next state → IsWhole next sole
is_whole next state None within = tt
is_whole next state (Some sole) within = λ slot touched. (state.slots slot, within.slots slot)

pub on_one_side : {B : Type 0} (over : AbsState) (state : State) → Covers over state → (set : List ℕ → Bool)
    (Q : AbsState → List B → Type 0) (branches : List B) → OnSide over main set Q branches
    → set (pick state.texts main) ≡ true
    → (next : AbsState) × Covers next state × Q next branches
on_one_side over state covers set Q branches side on =
    let own = met (pick over.texts main) set in
    let now = side.0 in
    let made = covers.texts main in
    let is : IsMade state.slots own (pick state.texts main) =
    (made.0, made.1, and_from _ _ made.2 (subst (λ x. set x ≡ true) made.3 on), made.3) in
    let gives = sole_gives state.slots now made.0
    (all_read over state.slots covers.slots (pick over.texts main).parts now side.1 made.0 made.1) in
    let within : Covers (on_side over main set now) state =
    text_covers (narrowed over own.side (sole_in now)) state
    (narrowed_covers over state covers own.side (sole_in now)
    (narrowed_holds over state covers own.side (sole_in now) made.0 is.2 gives)) own is in (
      on_side over main set now,
      within,
      elim side.2 [
        | inl there ↦ there.1
        | inr none ↦ absurd (none.0 (
          (
            pick state.texts main,
            made_has over state.slots covers.slots (pick over.texts main) (pick state.texts main) made,
            on,
          ),
          is_whole (on_side over main set now) state (sole_in now) within,
        ))
      ],
    )
