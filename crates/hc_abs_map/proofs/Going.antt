-- Along a plan.
use Rattle.hc_abs_map.proofs.Common.{◌≡◌, ◌∙◌, List, [], ◌++◌, sym, ap, subst, Plan, append_assoc}
use Rattle.hc_abs_map.specs.Along.{Adds, Goes}

module _ {A B : Type 0} (Before Mid Rest : Plan A → List B → Type 0) where
  -- One part after another.
  pub goes_on : (first second both : Plan A → Plan A) (earlier found later : List B)
      → ((plan : Plan A) → first (second plan) ≡ both plan) → Goes Before Mid first earlier found
      → Goes Mid Rest second found later → Goes Before Rest both earlier later
  goes_on first second both earlier found later is one other = record {
    added = one.added ++ other.added;
    more = other.more ∙ ap (λ found. found ++ other.added) one.more ∙ append_assoc earlier one.added other.added;
    leads = λ plan tail left.
        subst (λ found. Before (both plan) found) (sym (append_assoc one.added other.added tail))
        (subst (λ plan. Before plan (one.added ++ (other.added ++ tail))) (is plan)
        (one.leads (second plan) (other.added ++ tail) (other.leads plan tail left)));
  }

module _ {A B : Type 0} (Before Rest : Plan A → List B → Type 0) where
  -- All that was found, where the plan ends.
  pub goes_to_end : (plans : Plan A → Plan A) (plan : Plan A) (earlier found later : List B) → earlier ≡ []
      → Goes Before Rest plans earlier found → Adds (Rest plan) found later → Before (plans plan) later
  goes_to_end plans plan earlier found later none goes adds =
      subst (λ found. Before (plans plan) found)
      (sym (adds.1 ∙ ap (λ found. found ++ adds.0) (goes.more ∙ ap (λ earlier. earlier ++ goes.added) none)))
      (goes.leads plan adds.0 adds.2)

  -- Also where something was found before.
  pub goes_added : (plans : Plan A → Plan A) (plan : Plan A) (earlier found later : List B)
      → Goes Before Rest plans earlier found → Adds (Rest plan) found later → Adds (Before (plans plan)) earlier later
  goes_added plans plan earlier found later goes adds = (
    goes.added ++ adds.0,
    adds.1 ∙ ap (λ found. found ++ adds.0) goes.more ∙ append_assoc earlier goes.added adds.0,
    goes.leads plan adds.0 adds.2,
  )
