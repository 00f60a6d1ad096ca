use Rattle.hc_addr.proofs.Common.{◌≡◌, ◌^◌, ◌<◌, drop, Some, None, cond, list_all, is_digit}
use Rattle.hc_addr.proofs.Common.{digits_value_after}
use Rattle.hc_addr.proofs.numbers.digits_value.Given as goal

abbrev pub invariant-loop-byte : goal.invariant-loop-byte
invariant-loop-byte l = record {
  small : l.value < 16 ^ l.byte-index;
  rest : cond (list_all (λ b. is_digit b l.radix) (drop l.byte-index l.text))
      (Some (digits_value_after l.radix l.value (drop l.byte-index l.text))) None
      ≡ cond (list_all (λ b. is_digit b l.radix) l.text) (Some (digits_value_after l.radix 0 l.text)) None;
}
