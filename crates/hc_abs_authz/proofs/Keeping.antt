-- The branches of a plan have the clients of the state before.
use Rattle.std.proofs.Common.{◌≡◌, ◌∙◌, ℕ, suc, List, [], ◌∷◌, ◌++◌, Bool, true, false}
use Rattle.std.proofs.Common.{Option, None, Some, refl, ap}
use Rattle.std.proofs.Common.{subst, ◌⊎◌, inl, inr}
use Rattle.hc_addr.specs.declared.addr.Addr.{Addr}
use Rattle.hc_dfa.specs.Texts.{TextSet}
use Rattle.hc_pattern.specs.Pattern.{Pattern}
use Rattle.hc_plan.specs.Branches.{Both, Branch, Branches, Compared, IsWay, May, MayCompare, OnSide, Searched, Sorted}
use Rattle.hc_plan.specs.Branches.{Split, StoredIn, Where, finds, found_in, meet, others, renamed}
use Rattle.hc_plan.specs.Cover.{Among}
use Rattle.hc_plan.specs.Plan.{Plan, Stored, done, take_up, test, sort, look_for, shorten, tidy, make, look_up, bound}
use Rattle.hc_plan.specs.Plan.{store}
use Rattle.hc_plan.specs.Plan.{rename, let_go, choose, compare, leave_out}
use Rattle.hc_plan.specs.Running.{compares}
use Rattle.hc_plan.specs.Slots.{Slot, put, untied}
use Rattle.hc_plan.specs.States.{AbsState, Part, met, narrowed, on_side, sole_in}
use Rattle.hc_plan.specs.Texts.{Key, any, pick}
use Rattle.hc_plan.specs.declared.shape.Sole.{Sole}

narrowed_clients : (state : AbsState) (side : TextSet) (sole : Option Sole)
    → (narrowed state side sole).clients ≡ state.clients
narrowed_clients state side None = refl
narrowed_clients state side (Some sole) = refl

side_clients : (state : AbsState) (key : Key) (set : TextSet) (now : List Part)
    → (on_side state key set now).clients ≡ state.clients
side_clients state key set now =
    narrowed_clients state (met (pick state.texts key) set).side (sole_in now)

stored_clients : (state : AbsState) (stored : List (Slot × Stored)) (so_far next : AbsState)
    → StoredIn state stored so_far next → next.clients ≡ so_far.clients
stored_clients state [] so_far next is = ap (λ (state : AbsState). state.clients) is
stored_clients state (one ∷ more) so_far next is =
    stored_clients state more
    (record so_far { cell = put one.0 is.0 so_far.cell; ties = untied one.0 so_far.ties }) next is.2

module _ {A : Type 0} (clients : Addr → Bool) where
  -- Each of the branches has these clients.
  abbrev pub Keeps : (List (Branch A) → Type 0) → Type 0
  Keeps Q =
      (branches : List (Branch A)) → Q branches → (branch : Branch A) → Among branch branches
      → branch.0.clients ≡ clients

  keep_none : (branches : List (Branch A)) → branches ≡ [] → (branch : Branch A) → Among branch branches
      → branch.0.clients ≡ clients
  keep_none branches none branch among = absurd (subst (Among branch) none among)

  in_one : (branch : Branch A) (one other : List (Branch A)) → Among branch (one ++ other)
      → Among branch one ⊎ Among branch other
  in_one branch [] other among = inr among
  in_one branch (first ∷ one) other (inl is) = inl (inl is)
  in_one branch (first ∷ one) other (inr among) = by (in_one branch one other among)
    where
      by : Among branch one ⊎ Among branch other → Among branch (first ∷ one) ⊎ Among branch other
      by (inl there) = inl (inr there)
      by (inr there) = inr there

  keep_where : (P : Type 0) (Q : List (Branch A) → Type 0) → Keeps Q → Keeps (Where P Q)
  keep_where P Q keep branches (inl is) = keep branches is.1
  keep_where P Q keep branches (inr none) = keep_none branches none.1

  keep_both : (Q R : List (Branch A) → Type 0) → Keeps Q → Keeps R → Keeps (Both Q R)
  keep_both Q R keep also branches is branch among =
      by (in_one branch is.0 is.1 (subst (Among branch) is.2 among))
    where
      by : Among branch is.0 ⊎ Among branch is.1 → branch.0.clients ≡ clients
      by (inl there) = keep is.0 is.3 branch there
      by (inr there) = also is.1 is.4 branch there

  module _ (state : AbsState) (same : state.clients ≡ clients) where
    keep_side : (key : Key) (set : TextSet) (Q : AbsState → List (Branch A) → Type 0)
        → ((next : AbsState) → next.clients ≡ clients → Keeps (Q next)) → Keeps (OnSide state key set Q)
    keep_side key set Q keep branches is =
        keep_where (IsWay state key set is.0) (Q (on_side state key set is.0))
        (keep (on_side state key set is.0) (side_clients state key set is.0 ∙ same)) branches is.2

    keep_split : (key : Key) (set : TextSet) (Q : Bool → AbsState → List (Branch A) → Type 0)
        → ((is : Bool) (next : AbsState) → next.clients ≡ clients → Keeps (Q is next)) → Keeps (Split state key set Q)
    keep_split key set Q keep =
        keep_both (OnSide state key set (Q true)) (OnSide state key (others set) (Q false))
        (keep_side key set (Q true) (keep true)) (keep_side key (others set) (Q false) (keep false))

    keep_sorted : (key : Key) (sets : List TextSet) (rest : TextSet) (at : ℕ)
        (Q : ℕ → AbsState → List (Branch A) → Type 0)
        → ((at : ℕ) (next : AbsState) → next.clients ≡ clients → Keeps (Q at next))
        → Keeps (Sorted state key rest sets at Q)
    keep_sorted key [] rest at Q keep = keep_side key rest (Q at) (keep at)
    keep_sorted key (set ∷ sets) rest at Q keep =
        keep_both (OnSide state key (meet rest set) (Q at)) (Sorted state key (meet rest (others set)) sets (suc at) Q)
        (keep_side key (meet rest set) (Q at) (keep at))
        (keep_sorted key sets (meet rest (others set)) (suc at) Q keep)

    keep_compared : (one other : Key) (asked : Bool) (Q : Bool → AbsState → List (Branch A) → Type 0)
        → ((is : Bool) (next : AbsState) → next.clients ≡ clients → Keeps (Q is next))
        → Keeps (Compared state one other asked Q)
    keep_compared one other asked Q keep branches (inl is) =
        keep_split one (λ x. compares asked x is.0) Q keep branches is.2
    keep_compared one other asked Q keep branches (inr (_, inl is)) =
        keep_split other (compares asked is.0) Q keep branches is.2
    keep_compared one other asked Q keep branches (inr (_, inr is)) =
        keep_both (Where (MayCompare state one other asked true) (Q true state))
        (Where (MayCompare state one other asked false) (Q false state))
        (keep_where (MayCompare state one other asked true) (Q true state) (keep true state same))
        (keep_where (MayCompare state one other asked false) (Q false state) (keep false state same)) branches is.1

  keep_searched : (to : Key) (pattern : Pattern) (key : Key) (Q : Bool → AbsState → List (Branch A) → Type 0)
      → ((is : Bool) (next : AbsState) → next.clients ≡ clients → Keeps (Q is next)) → (is : Bool) (next : AbsState)
      → next.clients ≡ clients → Keeps (Searched to pattern key Q is next)
  keep_searched to pattern key Q keep false next same = keep false next same
  keep_searched to pattern key Q keep true next same = keep true (found_in next to pattern key) same

  kept_clients : (plan : Plan A) (state : AbsState) → state.clients ≡ clients → Keeps (Branches plan state)
  unfolding Branches
  kept_clients (done end) state same branches is branch among = by (subst (Among branch) is among)
    where
      by : Among branch ((state, end) ∷ []) → branch.0.clients ≡ clients
      by (inl here) = ap (λ (branch : Branch A). branch.0.clients) here ∙ same
      by (inr there) = absurd there
  kept_clients (take_up key items plan) state same branches is branch among =
      kept_clients plan _ same branches is.2 branch among
  kept_clients (test key set plan) state same branches is branch among =
      keep_split state same key set (λ is. Branches (plan is)) (λ is. kept_clients (plan is)) branches is branch among
  kept_clients (sort key sets plan) state same branches is branch among =
      keep_sorted state same key sets any 0 (λ at. Branches (plan at)) (λ at. kept_clients (plan at)) branches is branch
      among
  kept_clients (look_for to pattern key plan) state same branches is branch among =
      keep_split state same key (finds pattern) (Searched to pattern key (λ is. Branches (plan is)))
      (keep_searched to pattern key (λ is. Branches (plan is)) (λ is. kept_clients (plan is))) branches is branch among
  kept_clients (shorten key count plan) state same branches is branch among =
      kept_clients plan _ same branches is branch among
  kept_clients (tidy key set image plan) state same branches is branch among =
      kept_clients plan _ same branches is.2 branch among
  kept_clients (make key image one two plan) state same branches is branch among =
      kept_clients plan _ same branches is.2 branch among
  kept_clients (look_up to at table key fallback plan) state same branches is branch among =
      kept_clients plan _ same branches is.2 branch among
  kept_clients (bound key set plan) state same branches is branch among =
      kept_clients plan state same branches is branch among
  kept_clients (store stored plan) state same branches is branch among =
      kept_clients plan is.0 (stored_clients state stored state is.0 is.1 ∙ same) branches is.2 branch among
  kept_clients (rename sources looked kept plan) state same branches is branch among =
      kept_clients plan (renamed state sources looked kept) same branches is branch among
  kept_clients (let_go key plan) state same branches is branch among =
      kept_clients plan _ same branches is branch among
  kept_clients (choose question plan) state same branches is branch among =
      keep_both (Where (May question state true) (Branches (plan true) state))
      (Where (May question state false) (Branches (plan false) state))
      (keep_where (May question state true) (Branches (plan true) state) (kept_clients (plan true) state same))
      (keep_where (May question state false) (Branches (plan false) state) (kept_clients (plan false) state same))
      branches is branch among
  kept_clients (compare one two asked plan) state same branches is branch among =
      keep_compared state same one two asked (λ is. Branches (plan is)) (λ is. kept_clients (plan is)) branches is
      branch among
  kept_clients leave_out state same branches is branch among = keep_none branches is branch among

-- Each branch of a plan has the clients of the state before.
pub keeps_clients : {A : Type 0} (plan : Plan A) (state : AbsState) (branches : List (Branch A)) (branch : Branch A)
    → Branches plan state branches → Among branch branches → branch.0.clients ≡ state.clients
keeps_clients plan state branches branch is among = kept_clients state.clients plan state refl branches is branch among
