-- The graph of what is left of an automaton's texts without their first bytes.
use Rattle.hc_pat_lang.proofs.Common.{◌≡◌, ℕ, zero, suc, ◌-◌, List, [], ◌∷◌, drop, true, false, arith}
use Rattle.hc_pat_lang.proofs.Common.{refl, sym, nat_eq}
use Rattle.hc_pat_lang.proofs.Common.{Automaton, next_state, accepts_from, accepts, IsText, AcceptsOnly, IsBehind}
use Rattle.hc_dfa.specs.Graphs.{Way, AcceptsWays, IsChoice}
use Rattle.hc_dfa.specs.Graphs.Way.{ends}
use Rattle.hc_dfa.specs.declared.graphs.Choice.{Choice}
use Rattle.hc_dfa.specs.declared.graphs.Choice.TheVariants.{Byte, One, Other}
use Rattle.hc_pat_lang.proofs.Moving.{Keeps, each_way, led, read_before}
use Rattle.hc_pat_lang.specs.Graphs.{tail_graph, tail_moves, read_past}
use Rattle.hc_pat_lang.specs.declared.tails.Cut.{Cut}
use Rattle.std.proofs.Math.Seq.{drop-nil}
use Rattle.std.proofs.lemmas.Bool.Decides.{nat_tests}

-- A byte in front is passed over, or is read.
past : (left byte : ℕ) (rest : List ℕ)
    → read_before (read_past left byte) (drop (left - 1) rest) ≡ drop left (byte ∷ rest)
past zero byte rest = refl
past (suc left) byte rest =
    let less : suc left - 1 ≡ left = omega arith in
    let some : nat_eq (suc left) 0 ≡ false = grind (arith, nat_tests) in
    rw (less, some) refl

module _ (set : Automaton) where
  abbrev TailAt : Cut → List ℕ → Type 0
  TailAt cut text = IsBehind (accepts_from set cut.state) cut.left text

  tail_keeps : (cut : Cut) (choice : Choice) → IsChoice choice → Keeps TailAt cut (tail_moves set cut choice)
  tail_keeps cut (Byte byte) small = λ text later.
      (byte ∷ later.0, (small, later.1), later.2, rw later.3 (past cut.left byte later.0))
  tail_keeps cut One is = tt
  tail_keeps cut Other is = tt

  tail_way : (text : List ℕ) (left state : ℕ) → IsText text → accepts_from set state text ≡ true
      → Way (tail_graph set) (record { left = left; state = state }) (drop left text)
  tail_way [] left state bytes member = rw (drop-nil left) (ends member)
  tail_way (byte ∷ text) left state bytes member =
      rw (← past left byte text)
      (led _ _ (record { choice = Byte byte; is = bytes.0; move = refl })
      (tail_way text (left - 1) (next_state set state byte) bytes.1 member))

  pub tails_accepted : (count : ℕ) (made : Automaton)
      → AcceptsWays (tail_graph set) (record { left = count; state = 0 }) made
      → AcceptsOnly (IsBehind (accepts set) count) made
  unfolding accepts
  tails_accepted count made same text bytes = (
    (λ accepted.
        each_way (tail_graph set) TailAt (λ cut final. ([], tt, final, sym (drop-nil cut.left))) tail_keeps
        ((same text bytes).0 accepted)),
    (λ is. (same text bytes).1 (rw is.3 (tail_way is.0 count 0 is.1 is.2))),
  )
