-- Conditions, group by group.
use Rattle.hc_rw_eval.proofs.Common.{◌≡◌, ℕ, ◌+◌, List, [], ◌∷◌, length, take, drop, Bool, true}
use Rattle.hc_rw_eval.proofs.Common.{false, if◌then◌else◌, refl, ap, subst, Result, Ok, Err, Fault, Logged, Leads}
use Rattle.hc_rw_eval.proofs.Common.{Ran, Run, run, Shown, Step, in_order, ◌>>=◌, leads_end}
use Rattle.std.proofs.Common.{◌==◌, add-one, eqb-true}
use Rattle.std.proofs.lemmas.List.{nil_from_length}
use Rattle.std.specs.Result.{IsErrAnd}
use Rattle.hc_model.specs.declared.rewrite.Cond.{Cond}
use Rattle.hc_rw_eval.specs.Conditions.{or_groups, into_group}
use Rattle.hc_rw_eval.specs.Groups.{group_length}
use Rattle.hc_rw_eval.proofs.Leading.{leads_off, leads_then}

-- The first group is a front of the conditions.
abbrev pub IsSplit : ℕ → List (List Cond) → List Cond → Type 0
IsSplit n groups conds = groups ≡ take n conds ∷ or_groups (drop n conds)

first : (flag : Bool) (cond : Cond) (conds : List Cond)
    → into_group cond (or_groups conds)
    ≡ (cond ∷ take (group_length conds) conds) ∷ or_groups (drop (group_length conds) conds)
    → IsSplit (if flag then group_length conds + 1 else 1)
    (if flag then into_group cond (or_groups conds) else (cond ∷ []) ∷ or_groups conds) (cond ∷ conds)
first true cond conds grown = rw (add-one (group_length conds)) grown
first false cond conds grown = refl

grown : (cond : Cond) (conds : List Cond)
    → into_group cond (or_groups conds)
    ≡ (cond ∷ take (group_length conds) conds) ∷ or_groups (drop (group_length conds) conds)
grown cond [] = refl
grown cond (next ∷ conds) = ap (into_group cond) (first next.or_next next conds (grown next conds))

pub first_group : (conds : List Cond) → (length conds == 0) ≡ false
    → IsSplit (group_length conds) (or_groups conds) conds
first_group [] some = absurd (cc some)
first_group (cond ∷ conds) some = first cond.or_next cond conds (grown cond conds)

pub no_groups : (conds : List Cond) → (length conds == 0) ≡ true → or_groups conds ≡ []
no_groups conds none = ap or_groups (nil_from_length conds (eqb-true _ 0 none))

-- The loop over the groups: what is left from here on leads to the whole.
module _ {E B : Type 0} (f : B → List Cond → Step E B) (w : Shown) (old now : Logged) (whole : Run E B) (so_far : B)
    (conds : List Cond)
    (h : Leads old whole now (run (in_order f so_far (or_groups conds)) w)) where
  pub groups_end : (length conds == 0) ≡ true → Ran (Ok so_far) old now whole
  groups_end none =
      leads_end old now whole so_far so_far w
      (subst (λ groups. Leads old whole now (run (in_order f so_far groups) w)) (no_groups conds none) h) refl

  module _ (count : ℕ) (group behind : List Cond) (next : Logged) (some : (length conds == 0) ≡ false)
      (is : count ≡ group_length conds)
      (front : group ≡ take count conds) (back : behind ≡ drop count conds) where
    at_group : Leads old whole now (run (f so_far group >>= (λ so_far. in_order f so_far (or_groups behind))) w)
    at_group =
        let split : or_groups conds ≡ group ∷ or_groups behind = rw (front, back, is) (first_group conds some) in
        subst (λ groups. Leads old whole now (run (in_order f so_far groups) w)) split h

    pub group_more : (left : B) → Ran (Ok left) now next (run (f so_far group) w)
        → Leads old whole next (run (in_order f left (or_groups behind)) w)
    group_more left ran =
        leads_then (f so_far group)
        (λ so_far. in_order f so_far (or_groups behind)) w left old now next whole at_group ran

    pub group_faults : (fault : Fault E) (answer : Result B (Fault E))
        → Ran {A = B} (Err fault) now next (run (f so_far group) w)
        → IsErrAnd answer (λ other. other ≡ fault) → Ran answer old next whole
    group_faults fault answer ran is =
        leads_off (f so_far group)
        (λ so_far. in_order f so_far (or_groups behind)) w fault answer old now next whole at_group ran is
