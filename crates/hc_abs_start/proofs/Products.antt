-- Texts of two sets.
use Rattle.std.proofs.Common.{◌∙◌, ◌&&◌}
use Rattle.hc_dfa.specs.Automata.{Automaton, accepts}
use Rattle.hc_dfa.specs.Built.{Accepts, product_of}
use Rattle.hc_dfa.specs.Texts.{TextSet}
use Rattle.hc_dfa.specs.declared.products.Keep.TheVariants.{Both}

pub both_sets : (a b made : Automaton) (one other : TextSet) → Accepts a one → Accepts b other
    → Accepts made (product_of Both a b) → Accepts made (λ text. one text && other text)
both_sets a b made one other of_a of_b is text bytes =
    is text bytes ∙ (λ i. of_a text bytes i && of_b text bytes i)

pub both_reduced : (a b both made : Automaton) (one other : TextSet) → Accepts a one → Accepts b other
    → Accepts both (product_of Both a b) → Accepts made (accepts both)
    → Accepts made (λ text. one text && other text)
both_reduced a b both made one other of_a of_b is same text bytes =
    same text bytes ∙ both_sets a b both one other of_a of_b is text bytes
