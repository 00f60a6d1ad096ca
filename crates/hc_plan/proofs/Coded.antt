-- For code that makes the branches of a plan from those of its parts.
use Rattle.hc_plan.proofs.Common.{◌≡◌, ℕ, List, [], ◌∷◌, ◌++◌, Bool, true, false, not, Option, None, Some, refl, sym, ap}
use Rattle.hc_plan.proofs.Common.{◌∙◌, subst, inl, inr, Key, Pattern, TextSet, pick, place, append_assoc, append-nil, drop}
use Rattle.hc_plan.proofs.Common.{first_key, second_key, third_key, and_right}
use Rattle.hc_cells.specs.Cells.{Sets}
use Rattle.hc_cells.specs.declared.ties.Ties.{Ties}
use Rattle.hc_dfa.specs.Automata.{Automaton}
use Rattle.hc_dfa.specs.Texts.{IsText}
use Rattle.hc_plan.proofs.Sequence.{joined}
use Rattle.hc_plan.specs.Branches.{Branch, Branches, Each, GivesFor, Image, OnSide, finds, found_in, others, with_given}
use Rattle.hc_plan.specs.Branches.{without_texts}
use Rattle.hc_plan.specs.Coded.{AddsNext, AllFit, AreBranches, AreNext, IsNext}
use Rattle.hc_plan.specs.Plan.{Plan, Item, and_then, bound, done, let_go, look_for, look_up, make, put_down, shorten}
use Rattle.hc_plan.specs.Plan.{take_up, test}
use Rattle.hc_plan.specs.Running.{put_at}
use Rattle.hc_plan.specs.Slots.{Slot}
use Rattle.hc_plan.specs.States.{AbsState, AbsText, AreParts, Given, Has, Part, Sole, met, narrowed, on_side, shorter, sole_in, this}
use Rattle.hc_plan.specs.States.{any_of, whole, with_text}
use Rattle.hc_plan.specs.Texts.{IsSetOf}
use Rattle.hc_plan.specs.Ways.{IsTested, Stands}
use Rattle.hc_plan.specs.declared.hand.Element.{Element}
use Rattle.hc_plan.specs.declared.hand.Way.{Way}

-- ---- lists

pub both_fit : {B C : Type 0} (Fit : B → C → Type 0) (bs more : List B) (cs others : List C) → AllFit Fit bs cs
    → AllFit Fit more others → AllFit Fit (bs ++ more) (cs ++ others)
both_fit Fit [] more cs others fit rest = subst (λ cs. AllFit Fit more (cs ++ others)) (sym fit) rest
both_fit Fit (b ∷ bs) more cs others fit rest = (
  fit.0,
  fit.1 ++ others,
  ap (λ cs. cs ++ others) fit.2,
  fit.3,
  both_fit Fit bs more fit.1 others fit.4 rest,
)

-- ---- an end, and steps with one way

module _ {A B : Type 0} (Fit : B → Branch A → Type 0) where
  pub end_fits : (state : AbsState) (end : A) (b : B) → Fit b (state, end) → AreBranches Fit (done end) state (b ∷ [])
  unfolding Branches
  end_fits state end b fit = ((state, end) ∷ [], refl, ((state, end), [], refl, fit, refl))

  pub take_up_fits : (state : AbsState) (key : Key) (items : List Item) (parts : List Part) (plan : Plan A) (found : List B)
      → AreParts state items parts → AreBranches Fit plan (with_text state key (whole parts)) found
      → AreBranches Fit (take_up key items plan) state found
  unfolding Branches
  take_up_fits state key items parts plan found are is = (is.0, (parts, are, is.1), is.2)

  pub put_down_fits : (state : AbsState) (plan : Plan A) (found : List B) → AreBranches Fit plan (without_texts state) found
      → AreBranches Fit (put_down plan) state found
  unfolding Branches
  put_down_fits state plan found is = (is.0, (without_texts state, refl, is.1), is.2)

  pub shorten_fits : (state : AbsState) (key : Key) (count : ℕ) (plan : Plan A) (found : List B)
      → AreBranches Fit plan (with_text state key (shorter (pick state.texts key) count)) found
      → AreBranches Fit (shorten key count plan) state found
  unfolding Branches
  shorten_fits state key count plan found is = (is.0, is.1, is.2)

  pub let_go_fits : (state : AbsState) (key : Key) (plan : Plan A) (found : List B)
      → AreBranches Fit plan (with_given state key (λ at. this [])) found → AreBranches Fit (let_go key plan) state found
  unfolding Branches
  let_go_fits state key plan found is = (is.0, is.1, is.2)

  pub look_up_fits : (state : AbsState) (to : Key) (at : ℕ) (table : List ℕ → Option (List ℕ)) (key fallback : Key)
      (given : Given) (plan : Plan A) (found : List B)
      → GivesFor state table (pick state.texts key) (pick state.texts fallback) given
      → AreBranches Fit plan (with_given state to (put_at at given (pick state.given to))) found
      → AreBranches Fit (look_up to at table key fallback plan) state found
  unfolding Branches
  look_up_fits state to at table key fallback given plan found gives is = (is.0, (given, gives, is.1), is.2)

  pub make_fits : (state : AbsState) (key : Key) (image : List ℕ → List ℕ → List ℕ) (one other : Key) (values : TextSet)
      (plan : Plan A) (found : List B)
      → IsSetOf values (Image state image (pick state.texts one) (pick state.texts other))
      → AreBranches Fit plan (with_text state key (any_of values)) found
      → AreBranches Fit (make key image one other plan) state found
  unfolding Branches
  make_fits state key image one other values plan found are is = (is.0, (values, are, is.1), is.2)

  pub bound_fits : (state : AbsState) (key : Key) (set : TextSet) (plan : Plan A) (found : List B)
      → AreBranches Fit plan state found → AreBranches Fit (bound key set plan) state found
  unfolding Branches
  bound_fits state key set plan found is = (is.0, is.1, is.2)

-- ---- one plan after another

module _ {A B X Y : Type 0} (First : X → Branch A → Type 0) (Fit : Y → Branch B → Type 0) (next : A → Plan B) where
  next_more : (xs : List X) (x : X) (found one : List Y) → AreNext First Fit next xs found
      → IsNext First Fit next x one → AreNext First Fit next (xs ++ x ∷ []) (found ++ one)
  next_more [] x found one are is = (one, [], ap (λ found. found ++ one) are ∙ sym (append-nil one), is, refl)
  next_more (first ∷ xs) x found one are is = (
    are.0,
    are.1 ++ one,
    ap (λ found. found ++ one) are.2 ∙ append_assoc are.0 are.1 one,
    are.3,
    next_more xs x are.1 one are.4 is,
  )

  pub next_added : (xs : List X) (x : X) (found after : List Y) → AreNext First Fit next xs found
      → AddsNext First Fit next x found after → AreNext First Fit next (xs ++ x ∷ []) after
  next_added xs x found after are adds =
      subst (AreNext First Fit next (xs ++ x ∷ [])) (sym adds.1) (next_more xs x found adds.0 are adds.2)

  next_parts : (xs more : List X) (found : List Y) → AreNext First Fit next (xs ++ more) found
      → (one : List Y) × (other : List Y) × (found ≡ one ++ other) × AreNext First Fit next xs one
      × AreNext First Fit next more other
  next_parts [] more found are = ([], found, refl, refl, are)
  next_parts (x ∷ xs) more found are =
      let rest = next_parts xs more are.1 are.4 in (
        are.0 ++ rest.0,
        rest.1,
        are.2 ∙ ap (λ tail. are.0 ++ tail) rest.2 ∙ sym (append_assoc are.0 rest.0 rest.1),
        (are.0, rest.0, refl, are.3, rest.3),
        rest.4,
      )

  each_fits : (xs : List X) (branches : List (Branch A)) (found : List Y) → AllFit First xs branches
      → AreNext First Fit next xs found
      → (all : List (Branch B)) × Each next branches all × AllFit Fit found all
  each_fits [] branches found fit are = (
    [],
    subst (λ branches. Each next branches []) (sym fit) refl,
    subst (λ found.
        AllFit Fit found []) (sym are) refl,
  )
  each_fits (x ∷ xs) branches found fit are =
      let one = are.3 fit.0 fit.3 in
      let rest = each_fits xs fit.1 are.1 fit.4 are.4 in (
        one.0 ++ rest.0,
        subst (λ branches. Each next branches (one.0 ++ rest.0)) (sym fit.2) (one.0, rest.0, refl, one.1, rest.1),
        subst (λ found. AllFit Fit found (one.0 ++ rest.0)) (sym are.2)
            (both_fit Fit are.0 are.1 one.0 rest.0 one.2 rest.2),
      )

  pub joined_fits : (plan : Plan A) (state : AbsState) (xs : List X) (found : List Y)
      → AreBranches First plan state xs → AreNext First Fit next xs found
      → AreBranches Fit (and_then plan next) state found
  joined_fits plan state xs found are more =
      let all = each_fits xs are.0 found are.2 more in
      (all.0, joined next plan state are.0 all.0 are.1 all.1, all.2)

-- One plan after another, behind each of a list.
module _ {A B C X Y Z : Type 0} (First : X → Branch A → Type 0) (Second : Y → Branch B → Type 0)
    (Fit : Z → Branch C → Type 0) (next : A → Plan B) (later : B → Plan C) (both : A → Plan C)
    (is : (end : A) → and_then (next end) later ≡ both end) where
  pub next_joined : (xs : List X) (ys : List Y) (zs : List Z) → AreNext First Second next xs ys
      → AreNext Second Fit later ys zs → AreNext First Fit both xs zs
  next_joined [] ys zs first rest = subst (λ ys. AreNext Second Fit later ys zs) first rest
  next_joined (x ∷ xs) ys zs first rest =
      let parts = next_parts Second Fit later first.0 first.1 zs
      (subst (λ ys. AreNext Second Fit later ys zs) first.2 rest) in (
        parts.0,
        parts.1,
        parts.2,
        (λ branch fits. subst (λ plan. AreBranches Fit plan branch.0 parts.0) (is branch.1)
            (joined_fits Second Fit later (next branch.1) branch.0 first.0 parts.0 (first.3 branch fits) parts.3)),
        next_joined xs first.1 parts.1 first.4 parts.4,
      )

-- Behind an end nothing follows.
pub next_ends : {A X : Type 0} (Fit : X → Branch A → Type 0) (next : A → Plan A) (xs : List X)
    → ((end : A) → next end ≡ done end) → AreNext Fit Fit next xs xs
next_ends Fit next [] is = refl
next_ends Fit next (x ∷ xs) is = (
  x ∷ [],
  xs,
  refl,
  (λ branch fits. subst (λ plan. AreBranches Fit plan branch.0 (x ∷ [])) (sym (is branch.1))
      (end_fits Fit branch.0 branch.1 x fits)),
  next_ends Fit next xs is,
)

-- ---- a test

-- A test narrows slots and puts a text on a side; all else stays.
pub record Keeps (state : AbsState) (key : Key) (set : TextSet) (now : AbsState) : Type 0 where
  pub given : now.given ≡ state.given
  pub texts : now.texts ≡ place key (pick now.texts key) state.texts
  pub clients : now.clients ≡ state.clients
  pub printed : now.printed ≡ state.printed
  pub asked : (x : List ℕ) → Has now.cell (pick now.texts key) x → set x ≡ true

-- What lies on the side of a test is in its set.
on_met : (cell : Slot → TextSet) (own : AbsText) (set : TextSet) (x : List ℕ) → Has cell (met own set) x → set x ≡ true
on_met cell own set x has =
    subst (λ x. set x ≡ true) (sym has.3) (and_right (own.side has.0) (set (drop own.off has.0)) has.2)

with_text_keeps : (state now : AbsState) (key : Key) (set : TextSet) (before : AbsText) → now.given ≡ state.given
    → now.texts ≡ state.texts → now.clients ≡ state.clients → now.printed ≡ state.printed
    → Keeps state key set (with_text now key (met before set))
with_text_keeps state now first_key set before given texts clients printed = record {
  given = given;
  texts = ap (place first_key (met before set)) texts;
  clients = clients;
  printed = printed;
  asked = on_met now.cell before set;
}
with_text_keeps state now second_key set before given texts clients printed = record {
  given = given;
  texts = ap (place second_key (met before set)) texts;
  clients = clients;
  printed = printed;
  asked = on_met now.cell before set;
}
with_text_keeps state now third_key set before given texts clients printed = record {
  given = given;
  texts = ap (place third_key (met before set)) texts;
  clients = clients;
  printed = printed;
  asked = on_met now.cell before set;
}

on_side_keeps : (state : AbsState) (key : Key) (set : TextSet) (now : List Part)
    → Keeps state key set (on_side state key set now)
on_side_keeps state key set now = by (sole_in now)
  where
    before : AbsText
    before = pick state.texts key

    by : (sole : Option Sole)
        → Keeps state key set (with_text (narrowed state (met before set).side sole) key (met before set))
    by None = with_text_keeps state state key set before refl refl refl refl
    by (Some sole) = with_text_keeps state (narrowed state (met before set).side (Some sole)) key set before refl refl
        refl refl

module _ {A B : Type 0} (Fit : B → Branch A → Type 0) (sets : Sets) (ties : Ties) (elements : List Element) (off : ℕ)
    (side : Option Automaton) (state : AbsState) (key : Key) (stands : Stands sets ties elements off side state key) where
  -- What was found where there is a way, whatever state fits it, and nothing where there is none.
  abbrev pub Follows : (AbsState → AbsState) → TextSet → Plan A → Option Way → List B → Type 0
  Follows after set plan None found = found ≡ []
  Follows after set plan (Some way) found =
      (now : AbsState) → Stands way.cell ties elements off way.side now key → Keeps state key set now
      → AreBranches Fit plan (after now) found

  pub side_fits : (after : AbsState → AbsState) (asked set : TextSet) (plan : Plan A) (way : Option Way) (found : List B)
      → ((x : List ℕ) → IsText x → asked x ≡ set x) → IsTested sets ties elements off side set way
      → Follows after asked plan way found
      → (branches : List (Branch A)) × OnSide state key asked (λ now. Branches plan (after now)) branches
      × AllFit Fit found branches
  side_fits after asked set plan None found alike tested more =
      let is = tested state key asked stands alike in
      ([], (is.0, is.1, inr (is.2, refl)), subst (λ found. AllFit Fit found []) (sym more) refl)
  side_fits after asked set plan (Some way) found alike tested more =
      let is = tested state key asked stands alike in
      let rest = more (on_side state key asked is.0) is.2.1 (on_side_keeps state key asked is.0) in
      (rest.0, (is.0, is.1, inl (is.2.0, rest.1)), rest.2)

  -- A test by what an automaton says, and the search for a pattern.
  module _ (asked one other : TextSet) (plan : Bool → Plan A) (held failed : Option Way) (first rest : List B)
      (alike : (x : List ℕ) → IsText x → asked x ≡ one x) (apart : (x : List ℕ) → IsText x → not (asked x) ≡ other x)
      (is_held : IsTested sets ties elements off side one held)
      (is_failed : IsTested sets ties elements off side other failed)
      (is_rest : Follows (λ now. now) (others asked) (plan false) failed rest) where
    pub test_fits : Follows (λ now. now) asked (plan true) held first
        → AreBranches Fit (test key asked plan) state (first ++ rest)
    unfolding Branches
    test_fits is_first =
        let on = side_fits (λ now. now) asked one (plan true) held first alike is_held is_first in
        let off = side_fits (λ now. now) (others asked) other (plan false) failed rest apart is_failed is_rest in (
          on.0 ++ off.0,
          (on.0, off.0, refl, on.1, off.1),
          both_fit Fit first rest on.0 off.0 on.2 off.2,
        )

    pub look_fits : (to : Key) (pattern : Pattern) → asked ≡ finds pattern
        → Follows (λ now. found_in now to pattern key) asked (plan true) held first
        → AreBranches Fit (look_for to pattern key plan) state (first ++ rest)
    unfolding Branches
    look_fits to pattern is is_first =
        let on = side_fits (λ now. found_in now to pattern key) asked one (plan true) held first alike is_held is_first in
        let off = side_fits (λ now. now) (others asked) other (plan false) failed rest apart is_failed is_rest in (
          on.0 ++ off.0,
          (
            on.0,
            off.0,
            refl,
            subst (λ set. OnSide state key set (λ now. Branches (plan true) (found_in now to pattern key)) on.0) is on.1,
            subst (λ set. OnSide state key (others set) (λ now. Branches (plan false) now) off.0) is off.1,
          ),
          both_fit Fit first rest on.0 off.0 on.2 off.2,
        )
