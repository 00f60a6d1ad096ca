-- The automaton of pairs of states.
use Rattle.hc_dfa.proofs.Common.{◌≡◌, ℕ, ◌<◌, List, [], ◌∷◌, Bool, refl, ◌∙◌, ap}
use Rattle.hc_dfa.proofs.Common.{Automaton, next_state, is_final, accepts_from, accepts, kept, product_of}
use Rattle.hc_dfa.proofs.Common.{IsPair, pair_step, Classing, Tells, class_of}
use Rattle.hc_dfa.specs.Readings.{reading_from}
use Rattle.hc_dfa.specs.declared.products.Keep.{Keep}

module _ (a b : Automaton) (keep : Keep) where
  -- Whether a pair of states is final.
  abbrev pub pair_mark : (ℕ × ℕ) → Bool
  pair_mark pair = kept keep (is_final a pair.0) (is_final b pair.1)

  pub pairs_tell : (c : Classing) → Tells c a → Tells c b
      → (from to : ℕ × ℕ) (byte other : ℕ) → IsPair a b from → byte < 256 → other < 256
      → class_of c byte ≡ class_of c other → to ≡ pair_step a b from byte → to ≡ pair_step a b from other
  pairs_tell c first second from to byte other is below within same step =
      step ∙ (ap (λ s. (s, next_state b from.1 byte)) (first from.0 byte other is.0 below within same)
      ∙ ap (λ s. (next_state a from.0 other, s)) (second from.1 byte other is.1 below within same))

  pairs_read : (pair : ℕ × ℕ) (text : List ℕ) → reading_from (pair_step a b) pair_mark pair text
      ≡ kept keep (accepts_from a pair.0 text) (accepts_from b pair.1 text)
  pairs_read pair [] = refl
  pairs_read pair (byte ∷ text) = pairs_read (pair_step a b pair byte) text

  pub pairs_accept : (text : List ℕ) → reading_from (pair_step a b) pair_mark (0, 0) text
      ≡ product_of keep a b text
  unfolding accepts
  pairs_accept text = pairs_read (0, 0) text
