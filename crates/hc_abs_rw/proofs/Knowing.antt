-- What code knows of a state fits it also behind a test.
use Rattle.hc_abs_rw.proofs.Common.{◌≡◌, ◌∙◌, ◌+◌, ◌&&◌, ℕ, List, [], ◌∷◌, ◌++◌, Bool, true, false, Option, None, Some, refl, sym}
use Rattle.hc_abs_rw.proofs.Common.{ap, subst, nat_lt, if◌then◌else◌, Slot, Key}
use Rattle.std.proofs.Common.{◌<◌, take}
use Rattle.std.proofs.lemmas.Bool.{lt-ltb}
use Rattle.hc_plan.proofs.Common.{fun_ext}
use Rattle.std.specs.List.{list_all}
use Rattle.std.specs.Option.{is_some}
use Rattle.std.specs.Prelude.{IsSome}
use Rattle.std.specs.Rc.{rc_value}
use Rattle.std.specs.declared.rc.Rc.{Rc}
use Rattle.hc_addr.specs.declared.addr.Addr.{Addr}
use Rattle.hc_cells.specs.Cells.{Sets}
use Rattle.hc_dfa.specs.Automata.{Automaton, accepts}
use Rattle.hc_dfa.specs.Built.{Accepts}
use Rattle.hc_dfa.specs.Texts.{TextSet}
use Rattle.hc_pat_lang.proofs.Covering.{found_by_match}
use Rattle.hc_pat_lang.specs.Found.{IsFound}
use Rattle.hc_pat_lang.specs.Sets.{AcceptsOnly}
use Rattle.hc_pattern.specs.Pattern.{Pattern}
use Rattle.hc_plan.proofs.Coded.{Keeps, both_fit}
use Rattle.hc_plan.proofs.Made.{is_text}
use Rattle.hc_plan.specs.Coded.{AllFit}
use Rattle.hc_plan.specs.Branches.{finds}
use Rattle.hc_plan.specs.Hands.{cell_of, set_in}
use Rattle.hc_plan.specs.States.{AbsState, AbsText, IsGiven, free, group, this}
use Rattle.hc_plan.specs.Texts.{any, of_bytes}
use Rattle.hc_plan.specs.Ways.{IsGroupSet, IsHand}
use Rattle.hc_plan.specs.declared.hand.Element.{Element}
use Rattle.hc_plan.specs.declared.hand.Element.TheVariants as element
use Rattle.hc_plan.specs.declared.held.Found.{Found}
use Rattle.hc_abs_rw.specs.Elements.{IsGroupOf}
use Rattle.hc_abs_rw.specs.Known.{HeldFits, Holds, client_given}
use Rattle.hc_abs_rw.specs.Trials.{IsHeld}
use Rattle.hc_abs_rw.specs.declared.known.Known.{Known}
use Rattle.hc_ways.specs.Kept.{first_match}

pub kept : (client : Option Addr) (known : Known) (state now : AbsState) (key : Key) (set : TextSet)
    → Holds client known state → Keeps state key set now → Holds client known now
kept client known state now key set holds keeps = record {
  groups = subst (λ given. HeldFits known.groups given.first) (sym keeps.given) holds.groups;
  conds = subst (λ given. HeldFits known.cond_groups given.second) (sym keeps.given) holds.conds;
  printed = keeps.printed ∙ holds.printed;
}

-- The groups of a pattern that was found in a text.
pub held_fits : {Z : Type 0} (held : Option (Rc Found Z)) (pattern : Pattern) (sets : Sets) (elements : List Element)
    (off : ℕ) (side : Option Automaton) (cell : Slot → TextSet) (own : AbsText) → cell ≡ cell_of sets
    → IsHand cell elements off side own → IsHeld pattern sets elements off side held
    → HeldFits held (group pattern cell own)
held_fits None pattern sets elements off side cell own same hand is = absurd is
held_fits (Some found) pattern sets elements off side cell own same hand is =
    let cells : cell ≡ cell_of (rc_value found).cell = same ∙ ap cell_of (sym is.1) in (
      own,
      subst (λ cell. IsHand cell (rc_value found).elements.items (rc_value found).off (rc_value found).side own) cells
          (subst (λ side. IsHand cell (rc_value found).elements.items (rc_value found).off side own) (sym is.4)
          (subst (λ off. IsHand cell (rc_value found).elements.items off side own) (sym is.3)
          (subst (λ elements. IsHand cell elements off side own) (sym is.2) hand))),
      (λ i. group (sym is.0 i) (cells i) own),
    )

-- ---- the texts in which a pattern is found

same_answer : (a b : Bool) → (a ≡ true → b ≡ true) → (b ≡ true → a ≡ true) → a ≡ b
same_answer true b to from = sym (to refl)
same_answer false true to from = from refl
same_answer false false to from = refl

is_there : {A : Type 0} (found : Option A) → IsSome found → is_some found ≡ true
is_there None some = absurd (let none = some in cc)
is_there (Some held) some = refl

there_is : {A : Type 0} (found : Option A) → is_some found ≡ true → IsSome found
there_is None is = absurd (let none = is in cc)
there_is (Some held) is = refl

pub found_set : (pattern : Pattern) (set : Automaton) → AcceptsOnly (IsFound pattern) set → Accepts set (finds pattern)
found_set pattern set only x text =
    let found = found_by_match x pattern in
    same_answer (accepts set x) (finds pattern x)
    (λ in_set. is_there (first_match x pattern) (found.0 ((only x text).0 in_set)))
    (λ is. (only x text).1 (found.1 (there_is (first_match x pattern) is)))

-- ---- what is given, in code

pub every_given : (client : Option Addr) (every : Automaton) → client ≡ None → Accepts every (λ text. true)
    → IsGiven (client_given client) (free (set_in every))
every_given client every is all =
    subst (λ client. IsGiven (client_given client) (free (set_in every))) (sym is)
    (ap free (fun_ext (λ x. by x (list_all (λ b. nat_lt b 256) x) refl)))
  where
    by : (x : List ℕ) (v : Bool) → list_all (λ b. nat_lt b 256) x ≡ v → set_in every x ≡ of_bytes any x
    by x true is = ap (λ has. list_all (λ b. nat_lt b 256) x && has) (all x (is_text x is))
    by x false is = ap (λ v. v && accepts every x) is ∙ sym (ap (λ v. v && true) is)

pub group_found : {Z : Type 0} (held : Option (Rc Found Z)) (found : Rc Found Z) (shown : Found) (number : ℕ)
    (texts : Automaton) → held ≡ Some found → shown ≡ rc_value found → number < 10
    → IsGroupSet shown number texts → IsGroupOf held number (element.Free texts)
group_found held found shown number texts is same small holds given fits =
    let of = subst (λ held. HeldFits held given) is fits in
    subst (λ one. IsGiven one (free (set_in texts)))
    (sym (ap (λ v. if v then given number else this []) (lt-ltb number 10 small) ∙ ap (λ given. given number) of.2))
    (set_in texts, subst (λ shown. IsGroupSet shown number texts) same holds of.0 of.1, refl)

-- ---- lists

pub fits_more : {B C : Type 0} (Fit : B → C → Type 0) (bs : List B) (at : ℕ) (b : B) (cs : List C) (c : C) (all : List C)
    → take (at + 1) bs ≡ take at bs ++ b ∷ [] → all ≡ cs ++ c ∷ [] → AllFit Fit (take at bs) cs → Fit b c
    → AllFit Fit (take (at + 1) bs) all
fits_more Fit bs at b cs c all more is fit one =
    subst (λ bs. AllFit Fit bs all) (sym more)
    (subst (AllFit Fit (take at bs ++ b ∷ [])) (sym is)
    (both_fit Fit (take at bs) (b ∷ []) cs (c ∷ []) fit (c, [], refl, one, refl)))
