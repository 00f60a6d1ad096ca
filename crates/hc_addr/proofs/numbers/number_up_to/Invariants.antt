use Rattle.hc_addr.proofs.Common.{◌≡◌, ◌≤◌, drop, Some, None, cond, list_all, is_digit, digits_value_after}
use Rattle.hc_addr.proofs.Common.{at_most}
use Rattle.hc_addr.proofs.numbers.number_up_to.Given as goal

abbrev pub invariant-loop-byte : goal.invariant-loop-byte
invariant-loop-byte l = record {
  small : l.value ≤ l.highest;
  rest : at_most l.highest
      (cond (list_all (λ b. is_digit b 10) (drop l.byte-index l.text))
      (Some (digits_value_after 10 l.value (drop l.byte-index l.text))) None)
      ≡ at_most l.highest (cond (list_all (λ b. is_digit b 10) l.text) (Some (digits_value_after 10 0 l.text)) None);
}
