-- The elements of a template are its text in hand.
use Rattle.hc_abs_rw.proofs.Common.{◌≡◌, ◌∙◌, ℕ, suc, ◌<◌, ◌==◌, List, [], ◌∷◌, Bool, true, false, Option, refl, sym, ap}
use Rattle.hc_abs_rw.proofs.Common.{subst, arith, inl, eq-eqb, eqb-true, if◌then◌else◌, Frame, Item, Plan, pick, put_at}
use Rattle.hc_plan.specs.Texts.{Three}
use Rattle.hc_addr.specs.declared.addr.Addr.{Addr}
use Rattle.hc_model.specs.declared.template.Piece.{Piece, out-Piece}
use Rattle.hc_model.specs.declared.template.Piece.TheOpen.{Piece-F, Lookup}
use Rattle.hc_plan.proofs.Coded.{let_go_fits, look_up_fits, take_up_fits}
use Rattle.hc_plan.specs.Branches.{Branch, with_given}
use Rattle.hc_plan.specs.Coded.{AreBranches}
use Rattle.hc_plan.specs.Hands.{cell_of, part_of, parts_of}
use Rattle.hc_plan.specs.Plan.{client as client_item, held, let_go, literal, slot_behind, take_up}
use Rattle.hc_plan.specs.States.{AbsState, AreParts, Given, IsGiven, IsPart, Part, this, whole, with_text}
use Rattle.hc_plan.specs.Ways.{Stands}
use Rattle.hc_plan.specs.declared.hand.Element.{Element}
use Rattle.hc_abs_rw.specs.Elements.{AreExpanded, IsPieceOf}
use Rattle.hc_abs_rw.specs.Known.{Fits, HeldFits, Holds}
use Rattle.hc_abs_rw.specs.Templates.{expand, items_from, looked, looks_from, main, open_item, open_look, plain_items, second}
use Rattle.hc_abs_rw.specs.Templates.{third}
use Rattle.hc_abs_rw.specs.declared.known.Known.{Known}

-- ---- states alike but for their texts in hand and what is looked up

record Alike (state now : AbsState) : Type 0 where
  cell : now.cell ≡ state.cell
  ties : now.ties ≡ state.ties
  first : now.given.first ≡ state.given.first
  second_given : now.given.second ≡ state.given.second
  printed : now.printed ≡ state.printed

alike_holds : (client : Option Addr) (known : Known) (state now : AbsState) → Alike state now
    → Holds client known state → Holds client known now
alike_holds client known state now alike holds = record {
  groups = subst (HeldFits known.groups) (sym alike.first) holds.groups;
  conds = subst (HeldFits known.cond_groups) (sym alike.second_given) holds.conds;
  printed = alike.printed ∙ holds.printed;
}

-- The same parts, where the same is held.
parts_kept : (state now : AbsState) → now.given ≡ state.given → now.printed ≡ state.printed → (items : List Item)
    (parts : List Part) → AreParts state items parts → AreParts now items parts
parts_kept state now given printed [] parts are = are
parts_kept state now given printed (item ∷ items) parts are = (
  are.0,
  are.1,
  are.2,
  by item are.3,
  parts_kept state now given printed items are.1 are.4,
)
  where
    by : (item : Item) → IsPart state item are.0 → IsPart now item are.0
    by (literal own) is = is
    by (slot_behind slot count) is = is
    by (held key at) is = subst (λ (given : Three (ℕ → Given)). IsGiven (pick given key at) are.0) (sym given) is
    by client_item is = subst (λ given. IsGiven given are.0) (sym printed) is

-- ---- a template

-- The text of these elements is in hand.
pub record Ready (client : Option Addr) (known : Known) (elements : List Element) (state : AbsState) : Type 0 where
  pub fits : Fits client known state
  pub text : pick state.texts main ≡ whole (parts_of elements)

pub ready_stands : (client : Option Addr) (known : Known) (elements : List Element) (state : AbsState)
    → Ready client known elements state → Stands known.cell known.ties elements 0 Option.None state main
ready_stands client known elements state ready = record {
  holds = ready.fits.cell;
  tied = ready.fits.ties;
  hand = record {
    made = ap (λ own. own.parts) ready.text;
    behind = ap (λ own. own.off) ready.text;
    lies = inl (λ x bytes. ap (λ own. own.side x) ready.text);
  };
}

module _ {A B : Type 0} (Fit : B → Branch A → Type 0) (frame : Frame) (client : Option Addr) (known : Known)
    (found : List B) where
  -- What follows behind the look-ups.
  abbrev Behind : ℕ → List Piece → List Element → Plan A → AbsState → Type 0
  Behind at pieces elements plan state =
      (now : AbsState) → Alike state now → ((i : ℕ) → i < at → now.given.third i ≡ state.given.third i)
      → AreParts now (items_from frame at pieces) (parts_of elements) → AreBranches Fit plan now found

  given_at : (at : ℕ) (given : Given) (values : ℕ → Given) → put_at at given values at ≡ given
  given_at at given values = rw (eq-eqb at at refl) refl

  given_below : (at i : ℕ) (given : Given) (values : ℕ → Given) → i < at → put_at at given values i ≡ values i
  given_below at i given values below = by (at == i) refl
    where
      by : (v : Bool) → (at == i) ≡ v → (if v then given else values i) ≡ values i
      by true is = absurd (let same = eqb-true at i is in omega (arith, same))
      by false is = refl

  looks_fit : (at : ℕ) (pieces : List Piece) (elements : List Element) (plan : Plan A) (state : AbsState)
      → state.cell ≡ cell_of known.cell → Holds client known state → AreExpanded frame client known pieces elements
      → Behind at pieces elements plan state → AreBranches Fit (looks_from frame at pieces plan) state found
  looks_fit at [] elements plan state cell holds are more = more state
      (record { cell = refl; ties = refl; first = refl; second_given = refl; printed = refl }) (λ i below. refl)
      (ap parts_of are)
  looks_fit at (piece ∷ pieces) elements plan state cell holds are more =
      by (out-Piece piece) are.3 (looks_fit (suc at) pieces are.1 plan)
      (λ now alike below parts. more now alike below
      (part_of are.0, parts_of are.1, ap parts_of are.2, parts.0, parts.1))
    where
      by : (shown : Piece-F Piece) → IsPieceOf frame client known piece are.0 shown
          → ((state : AbsState) → state.cell ≡ cell_of known.cell → Holds client known state
          → AreExpanded frame client known pieces are.1 → Behind (suc at) pieces are.1 plan state
          → AreBranches Fit (looks_from frame (suc at) pieces plan) state found)
          → ((now : AbsState) → Alike state now → ((i : ℕ) → i < at → now.given.third i ≡ state.given.third i)
          → IsPart now (open_item frame at piece shown) (part_of are.0)
          × AreParts now (items_from frame (suc at) pieces) (parts_of are.1) → AreBranches Fit plan now found)
          → AreBranches Fit (open_look frame at shown (looks_from frame (suc at) pieces plan)) state found
      by (Lookup name key fallback) is each more =
          let up = is state cell holds in
          let keyed = with_text state second (whole up.keys) in
          let both = with_text keyed third (whole up.fallbacks) in
          let given = with_given both looked (put_at at up.given both.given.third) in
          take_up_fits Fit state second (plain_items frame key) up.keys _ found up.key_parts
          (take_up_fits Fit keyed third (plain_items frame fallback) up.fallbacks _ found
          (parts_kept state keyed refl refl (plain_items frame fallback) up.fallbacks up.fallback_parts)
          (look_up_fits Fit both looked at (frame.values name) second third up.given _ found up.gives
          (each given cell (record { groups = holds.groups; conds = holds.conds; printed = holds.printed }) are.4
          (λ now alike below parts.
          let same : now.given.third at ≡ up.given =
          below at (omega arith) ∙ given_at at up.given both.given.third in
          more now
          (record {
            cell = alike.cell;
            ties = alike.ties;
            first = alike.first;
            second_given = alike.second_given;
            printed = alike.printed;
          })
          (λ i less. below i (omega (arith, less)) ∙ given_below at i up.given both.given.third less)
          (subst (λ given. IsGiven given (part_of are.0)) (sym same) up.is, parts)))))
      by other is each more =
          each state cell holds are.4 (λ now alike below parts.
          more now alike (λ i less. below i (omega (arith, less)))
          (is now (alike_holds client known state now alike holds), parts))

  pub expand_fits : (pieces : List Piece) (elements : List Element) (plan : Plan A) (state : AbsState)
      → Fits client known state → AreExpanded frame client known pieces elements
      → ((now : AbsState) → Ready client known elements now → AreBranches Fit plan now found)
      → AreBranches Fit (expand frame pieces plan) state found
  unfolding expand
  expand_fits pieces elements plan state fits are more =
      looks_fit 0 pieces elements (take_up main (items_from frame 0 pieces) (let_go looked plan)) state fits.cell fits.holds
      are
      (λ now alike below parts.
      let text = with_text now main (whole (parts_of elements)) in
      let holds = alike_holds client known state now alike fits.holds in
      take_up_fits Fit now main (items_from frame 0 pieces) (parts_of elements) (let_go looked plan) found parts
      (let_go_fits Fit text looked plan found
      (more (with_given text looked (λ at. this []))
      (record {
        fits =
            record {
              cell = alike.cell ∙ fits.cell;
              ties = alike.ties ∙ fits.ties;
              holds = record { groups = holds.groups; conds = holds.conds; printed = holds.printed };
              looked = refl;
            };
        text = refl;
      }))))
