-- The branches are those of the question who may pass.
use Rattle.std.proofs.Common.{◌≡◌, ◌∙◌, ◌↔◌, ℕ, List, [], ◌∷◌, ◌++◌, Bool, true, false}
use Rattle.std.proofs.Common.{◌&&◌, ◌||◌, ◌⊎◌, inl, inr, Option, Some}
use Rattle.std.proofs.Common.{None, refl, sym, ap, subst, true≢false, nat_lt}
use Rattle.std.proofs.lemmas.Bool.{or_cases}
use Rattle.std.specs.List.{list_all}
use Rattle.hc_addr.specs.declared.addr.Addr.{Addr}
use Rattle.hc_addr.specs.declared.net.Net.{Net}
use Rattle.hc_authz.specs.Values.{is_granted}
use Rattle.hc_authz.specs.declared.tree.Tri.{Tri}
use Rattle.hc_authz.specs.declared.tree.Tri.TheVariants.{Granted, Denied, Neutral}
use Rattle.hc_cells.specs.Cells.{holds}
use Rattle.hc_dfa.specs.Automata.{Automaton, accepts}
use Rattle.hc_dfa.specs.Built.{Accepts}
use Rattle.hc_dfa.specs.Texts.{TextSet}
use Rattle.hc_model.specs.declared.authorization.ReqTree.{ReqTree}
use Rattle.hc_model.specs.declared.request.Caller.{Caller}
use Rattle.hc_plan.proofs.Coded.{both_fit}
use Rattle.hc_plan.proofs.Made.{is_text}
use Rattle.hc_plan.specs.Branches.{Branch, Branches, May, MayAllSay, Where}
use Rattle.hc_plan.specs.Coded.{AllFit, AreBranches}
use Rattle.hc_plan.specs.Hands.{set_in}
use Rattle.hc_plan.specs.Plan.{done, of_client}
use Rattle.hc_plan.specs.Slots.{Slot}
use Rattle.hc_plan.specs.States.{AbsState}
use Rattle.hc_plan.specs.declared.storing.Tied.{Tied}
use Rattle.hc_abs_pass.specs.Authorizing.{Leaf, admitted_plan, asked_of, is_let_in}
use Rattle.hc_abs_pass.specs.Ends.{EndsAt}
use Rattle.hc_abs_authz.specs.Admitting.{AdmittedFits, AreAdmitted}
use Rattle.hc_abs_authz.specs.Ways.{admitted_by, where_is}
use Rattle.hc_abs_authz.specs.Asking.{AreValuesAt}
use Rattle.hc_abs_authz.specs.Admitting.{clients_of}
use Rattle.hc_abs_authz.specs.Leaves.{AllSay, AreValues, Says, TreeMay, has}
use Rattle.hc_abs_authz.specs.declared.values.Values.{Values}
use Rattle.hc_abs_authz.proofs.Common.{first_of, second_of}

-- ---- the leaves

module _ (net : Net) (methods : Automaton) (tied : Tied) (own : Accepts methods (holds tied.cell Slot.Method))
    (client : Option Addr) (state : AbsState) (ends : EndsAt client tied state)
    (clients : state.clients ≡ clients_of net) where
  same_set : (m : List ℕ) (v : Bool) → list_all (λ b. nat_lt b 256) m ≡ v
      → (v && accepts methods m) ≡ (v && holds tied.cell Slot.Method m)
  same_set m true is = own m (is_text m is)
  same_set m false is = refl

  methods_are : (m : List ℕ) → set_in methods m ≡ state.cell Slot.Method m
  methods_are m =
      same_set m (list_all (λ b. nat_lt b 256) m) refl
      ∙ ap (λ (cell : Slot → TextSet). cell Slot.Method m) (sym ends.cell)

  abbrev OwnSays : Leaf → Bool → Type 0
  OwnSays = Says net (set_in methods)

  all_say : (leaves : List Leaf) (said : List Bool) → AllSay OwnSays leaves said → MayAllSay state leaves said
  all_say [] said is = is
  all_say (leaf ∷ leaves) said is =
      let one = is.3 in (
        is.0,
        is.1,
        is.2,
        (one.0, one.1, ap (λ test. test one.0) clients ∙ one.2, sym (methods_are one.1) ∙ one.3, one.4),
        all_say leaves is.1 is.4,
      )

  say_all : (leaves : List Leaf) (said : List Bool) → MayAllSay state leaves said → AllSay OwnSays leaves said
  say_all [] said is = is
  say_all (leaf ∷ leaves) said is =
      let one = is.3 in (
        is.0,
        is.1,
        is.2,
        (one.0, one.1, ap (λ test. test one.0) (sym clients) ∙ one.2, methods_are one.1 ∙ one.3, one.4),
        say_all leaves is.1 is.4,
      )

  -- ---- ways

  one_way : (P : Type 0) (may is : Bool) → (may ≡ true) ↔ P
      → (branches : List (Branch Bool)) × Where P (Branches (done is) state) branches
      × AllFit (AdmittedFits client) (where_is may is tied) branches
  unfolding Branches
  one_way P true is same = ((state, is) ∷ [], inl (same.0 refl, refl), ((state, is), [], refl, (ends, refl), refl))
  one_way P false is same = ([], inr (λ p. absurd (true≢false (sym (same.1 p))), refl), refl)

  module _ (caller : Caller) (tree : ReqTree) (values : Values)
      (are : AreValues (TreeMay OwnSays (asked_of caller.request tree)) values) where
    abbrev LetIn : Bool → Type 0
    LetIn is =
        May (of_client (asked_of caller.request tree).leaves (is_let_in (asked_of caller.request tree))) state is

    let_in : (is : Bool) (value : Tri) → has values value ≡ true → is_granted value ≡ is → LetIn is
    let_in is value held granted =
        let may = (are.each value).0 held in
        (may.0, all_say (asked_of caller.request tree).leaves may.0 may.1, ap is_granted may.2 ∙ granted)

    has_granted : (is : Bool) → LetIn is → (value : Tri) × (has values value ≡ true) × (is_granted value ≡ is)
    has_granted is may =
        let asked = asked_of caller.request tree in
        let value = (asked.value may.0).0 in
        (value, (are.each value).1 (may.0, say_all asked.leaves may.0 may.1, refl), may.2)

    granted_is : (value : Tri) → has values value ≡ true → is_granted value ≡ true → values.granted ≡ true
    granted_is Granted held is = held
    granted_is Denied held is = absurd (true≢false (sym is))
    granted_is Neutral held is = absurd (true≢false (sym is))

    other_is : (value : Tri) → has values value ≡ true → is_granted value ≡ false
        → (values.denied || values.neutral) ≡ true
    other_is Granted held is = absurd (true≢false is)
    other_is Denied held is = first_of values.denied values.neutral held
    other_is Neutral held is = second_of values.denied values.neutral held

    others_are : (values.denied ≡ true) ⊎ (values.neutral ≡ true) → LetIn false
    others_are (inl held) = let_in false Denied held refl
    others_are (inr held) = let_in false Neutral held refl

    pub tree_branches : AreBranches (AdmittedFits client) (admitted_plan caller (Some tree) (λ is. done is)) state
        (admitted_by tied (Some values))
    unfolding Branches admitted_plan
    tree_branches =
        let first = one_way (LetIn true) values.granted true (
          λ held. let_in true Granted held refl,
          λ may. let found = has_granted true may in granted_is found.0 found.1 found.2,
        ) in
        let rest = one_way (LetIn false) (values.denied || values.neutral) false (
          λ held. others_are (or_cases values.denied values.neutral held),
          λ may. let found = has_granted false may in other_is found.0 found.1 found.2,
        ) in (
          first.0 ++ rest.0,
          (first.0, rest.0, refl, first.1, rest.1),
          both_fit (AdmittedFits client) (where_is values.granted true tied)
              (where_is (values.denied || values.neutral) false tied) first.0 rest.0 first.2 rest.2,
        )

  pub no_tree : (caller : Caller) → AreBranches (AdmittedFits client) (admitted_plan caller None (λ is. done is)) state
      (admitted_by tied None)
  unfolding Branches admitted_plan
  no_tree caller = ((state, true) ∷ [], refl, ((state, true), [], refl, (ends, refl), refl))

pub admitted : (net : Net) (methods : Automaton) (caller : Caller) (tied : Tied) (require : Option ReqTree)
    (values : Option Values) → Accepts methods (holds tied.cell Slot.Method)
    → AreValuesAt net methods caller.request require values
    → AreAdmitted caller net require tied (admitted_by tied values)
admitted net methods caller tied None values own is client state ends clients =
    subst (λ values. AreBranches (AdmittedFits client) (admitted_plan caller None (λ is. done is)) state
    (admitted_by tied values)) (sym is) (no_tree net methods tied own client state ends clients caller)
admitted net methods caller tied (Some tree) values own is client state ends clients =
    subst (λ values. AreBranches (AdmittedFits client) (admitted_plan caller (Some tree) (λ is. done is)) state
    (admitted_by tied values)) (sym is.1)
    (tree_branches net methods tied own client state ends clients caller tree is.0 is.2)
