-- Automata of sets, made of automata of sets.
use Rattle.hc_regset.proofs.Common.{◌≡◌, ◌↔◌, ℕ, Bool, not, IsTrue, List, [], ◌∷◌, None, Some, Err}
use Rattle.hc_regset.proofs.Common.{map, drop, length, get_or, sym, refl, ap, ◌∙◌, subst, inl, inr, ⊎_elim}
use Rattle.hc_regset.proofs.Common.{◌+◌, ◌<◌, Accepts, kept, product_of, Form, form_of, put_of}
use Rattle.std.specs.List.{fold}
use Rattle.std.specs.Option.{option_or}
use Rattle.std.proofs.lemmas.Bool.{and_from, and_parts, both_ways, false_from_ne_true, not-true, not_from_false}
use Rattle.std.proofs.lemmas.Bool.{or_cases, or_left, or_right}
use Rattle.hc_base.specs.declared.fault.AtByte.{AtByte}
use Rattle.hc_base.specs.declared.fault.Fault.{Fault}
use Rattle.hc_base.specs.declared.fault.Fault.TheVariants.{NoMemory, Refused}
use Rattle.hc_dfa.specs.Automata.{Automaton, accepts}
use Rattle.hc_dfa.specs.declared.products.Keep.{Keep}
use Rattle.hc_dfa.specs.declared.products.Keep.TheVariants.{Both, Either, FirstOnly}
use Rattle.hc_scope.specs.declared.form.SetForm.{SetForm}
use Rattle.std.proofs.lemmas.List.{drop_more}
use Rattle.hc_regset.specs.Sets.{GivesSet, Has, IsSetOf, refusal}

kept_is : (keep : Keep) (F G : Form) (text : List ℕ) (x y z : Bool) → IsTrue x ↔ Has F text → IsTrue y
    ↔ Has G text
    → z ≡ kept keep x y → IsTrue z ↔ Has (put_of keep F G) text
kept_is Both F G text x y z h k e =
    ((λ t. let p = and_parts x y (sym e ∙ t) in (h.0 p.0, k.0 p.1)), (λ p. e ∙ and_from x y (h.1 p.0) (k.1 p.1)))
kept_is Either F G text x y z h k e = (
  (λ t. ⊎_elim (λ p. inl (h.0 p)) (λ p. inr (k.0 p)) (or_cases x y (sym e ∙ t))),
  (λ s. e ∙ ⊎_elim (λ p. or_left x y (h.1 p)) (λ p. or_right x y (k.1 p)) s),
)
kept_is FirstOnly F G text x y z h k e = (
  (λ t. let p = and_parts x (not y) (sym e ∙ t) in (h.0 p.0, λ q. both_ways y (not-true y p.1) (k.1 q))),
  (λ p. e ∙ and_from x (not y) (h.1 p.0) (not_from_false y (false_from_ne_true y (λ t. p.1 (k.0 t))))),
)

-- Refusals come in their order, whatever is kept.
refusal_put : (keep : Keep) (F G : Form) → refusal (put_of keep F G) ≡ option_or (refusal F) (refusal G)
refusal_put Both F G = refl
refusal_put Either F G = refl
refusal_put FirstOnly F G = refl

pub put_set : (keep : Keep) (F G : Form) (a b made : Automaton) → IsSetOf F a → IsSetOf G b
    → Accepts made (product_of keep a b) → IsSetOf (put_of keep F G) made
put_set keep F G a b made f g h =
    record {
      is_read = refusal_put keep F G ∙ (rw (f.is_read, g.is_read) refl);
      accepts = λ text bytes. kept_is keep F G text (accepts a text) (accepts b text) (accepts made text)
          (f.accepts text bytes) (g.accepts text bytes) (h text bytes);
    }

refused_put : (keep : Keep) (F G : Form) (r : AtByte) → refusal F ≡ Some r → refusal (put_of keep F G) ≡ Some r
refused_put keep F G r e = refusal_put keep F G ∙ (rw e refl)

refused_next : (keep : Keep) (F G : Form) (r : AtByte) → refusal F ≡ None → refusal G ≡ Some r
    → refusal (put_of keep F G) ≡ Some r
refused_next keep F G r e f = refusal_put keep F G ∙ (rw (e, f) refl)

-- A refusal stays where more sets are put.
refused_fold : (keep : Keep) (F : Form) (forms : List Form) (r : AtByte) → refusal F ≡ Some r
    → refusal (fold (put_of keep) F forms) ≡ Some r
refused_fold keep F [] r e = e
refused_fold keep F (G ∷ forms) r e = refused_fold keep (put_of keep F G) forms r (refused_put keep F G r e)

-- The automaton is that of some set, which with the sets that are left makes the whole one.
pub record IsSoFar (keep : Keep) (a : Automaton) (left : List Form) (whole : Form) : Type 0 where
  pub form : Form
  pub set : IsSetOf form a
  pub makes : fold (put_of keep) form left ≡ whole

pub so_far_put : (keep : Keep) (a b made : Automaton) (G : Form) (left : List Form) (whole : Form)
    → IsSoFar keep a (G ∷ left) whole → IsSetOf G b → Accepts made (product_of keep a b)
    → IsSoFar keep made left whole
so_far_put keep a b made G left whole h g is =
    record { form = put_of keep h.form G; set = put_set keep h.form G a b made h.set g is; makes = h.makes }

-- Where a set is refused, so is the whole one.
pub so_far_fault : (keep : Keep) (a : Automaton) (G : Form) (left : List Form) (whole : Form) (fault : Fault AtByte)
    → IsSoFar keep a (G ∷ left) whole → GivesSet (Err fault) G → GivesSet (Err fault) whole
so_far_fault keep a G left whole NoMemory h e = tt
so_far_fault keep a G left whole (Refused r) h e =
    ap refusal (sym h.makes)
    ∙ refused_fold keep (put_of keep h.form G) left r (refused_next keep h.form G r h.set.is_read e)

pub so_far_at : (keep : Keep) (a : Automaton) (forms : List SetForm) (i : ℕ) (form : SetForm) (whole : Form)
    → i < length forms → form ≡ get_or forms i form → IsSoFar keep a (map form_of (drop i forms)) whole
    → IsSoFar keep a (form_of form ∷ map form_of (drop (i + 1) forms)) whole
so_far_at keep a forms i form whole l e h =
    subst (λ rest. IsSoFar keep a (map form_of rest) whole)
    (drop_more forms i form l ∙ ap (λ f. f ∷ drop (i + 1) forms) (sym e)) h
