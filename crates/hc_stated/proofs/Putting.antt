-- Sets that are put one after another, and what is made one behind another.
use Rattle.std.proofs.Common.{◌≡◌, ◌∙◌, ℕ, ◌+◌, ◌<◌, List, [], ◌∷◌, ◌++◌, length, drop, get_or, map, take}
use Rattle.std.proofs.Common.{Bool, true, false, cond, Option, None, Some, ap, subst, sym}
use Rattle.std.proofs.lemmas.List.{drop_more, map_push, take_more}
use Rattle.std.proofs.lemmas.List.Sums.{fold_push}
use Rattle.std.specs.List.{AllZip}
use Rattle.hc_cells.specs.Cells.{Puts, Sets, set_at}
use Rattle.hc_cells.specs.Slots.{same_slot}
use Rattle.hc_cells.specs.declared.slot.Slot.{Slot}
use Rattle.hc_dfa.specs.Automata.{Automaton}
use Rattle.hc_regset.specs.Forms.{Form}
use Rattle.hc_regset.specs.Sets.{IsSetOf}
use Rattle.hc_stated.specs.Cells.{HasSets, IsAt, form_at, put_at}

-- ---- an item of a list that is mapped, behind those that were taken, and before those that are left

module _ {A B : Type 0} (f : A → B) (xs : List A) (i : ℕ) (x : A) (here : i < length xs) (is : x ≡ get_or xs i x) where
  pub taken : map f (take (i + 1) xs) ≡ map f (take i xs) ++ f x ∷ []
  taken =
      ap (map f) (take_more xs i x here ∙ ap (λ one. take i xs ++ one ∷ []) (sym is)) ∙ map_push f (take i xs) x

  pub left : map f (drop i xs) ≡ f x ∷ map f (drop (i + 1) xs)
  left = ap (map f) (drop_more xs i x here ∙ ap (λ one. one ∷ drop (i + 1) xs) (sym is))

-- ---- one more

put_one : (same : Bool) (form : Form) (set : Automaton) (before : Option Form) (had : Option Automaton)
    → IsSetOf form set → IsAt before had → IsAt (cond same (Some form) before) (cond same (Some set) had)
put_one true form set before had is was = is
put_one false form set before had is was = was

pub put_more : (sets : List (Slot × Form)) (own : Slot × Form) (cell next : Sets) (set : Automaton)
    → HasSets sets cell → IsSetOf own.1 set → Puts cell own.0 set next → HasSets (sets ++ own ∷ []) next
put_more sets own cell next set has is puts = λ at.
    subst (λ (both : Option Form × Option Automaton). IsAt both.0 both.1)
    (λ i. (sym (fold_push (put_at at) None sets own) i, sym (puts at) i))
    (put_one (same_slot own.0 at) own.1 set (form_at sets at) (set_at cell at) is (has at))

pub zip_more : {A B : Type 0} (R : A → B → Type 0) (xs : List A) (ys : List B) (x : A) (y : B)
    → AllZip R xs ys → R x y → AllZip R (xs ++ x ∷ []) (ys ++ y ∷ [])
zip_more R [] [] x y all one = (one, tt)
zip_more R [] (b ∷ ys) x y all one = absurd all
zip_more R (a ∷ xs) [] x y all one = absurd all
zip_more R (a ∷ xs) (b ∷ ys) x y all one = (all.0, zip_more R xs ys x y all.1 one)
