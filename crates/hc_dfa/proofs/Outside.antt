-- Inclusion by the least text outside.
use Rattle.hc_dfa.proofs.Common.{◌≡◌, ℕ, List, Bool, true, false, not, ◌&&◌, Option, None, Some, sym}
use Rattle.hc_dfa.proofs.Common.{◌∙◌, refl, Automaton, accepts, Accepts, product_of, Includes, inclusion_of}
use Rattle.hc_dfa.proofs.Common.{TextSet, IsLeast, IsLeastOf, FirstOnly}

-- What an automaton's least text is, its set's is.
pub least_of : (made : Automaton) (set : TextSet) (text : List ℕ) → Accepts made set → IsLeast (accepts made) text
    → IsLeast set text
least_of made set text same least = record {
  bytes = least.bytes;
  member = sym (same text least.bytes) ∙ least.member;
  first = λ other bytes member. least.first other bytes (same other bytes ∙ member);
}

none_outside : (a b : Bool) → (a && not b) ≡ false → a ≡ true → b ≡ true
none_outside true true outside is = refl
none_outside true false outside is = sym outside
none_outside false b outside is = absurd (cc)

pub included : (a b outside : Automaton) (found : Option (List ℕ)) → Accepts outside (product_of FirstOnly a b)
    → IsLeastOf (accepts outside) found
    → Includes a b (inclusion_of found)
included a b outside None same empty = λ text bytes is. none_outside (accepts a text) (accepts b text)
    (sym (same text bytes) ∙ empty text bytes) is
included a b outside (Some least) same is = least_of outside (product_of FirstOnly a b) least same is
