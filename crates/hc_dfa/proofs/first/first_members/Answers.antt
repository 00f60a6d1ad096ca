use Rattle.std.proofs.Common.{refl, inl, inr, arith, length-append}
use Rattle.hc_dfa.proofs.Found.{found_none, found_more, found_first}
use Rattle.hc_dfa.proofs.first.first_members.Goals as goal

pub loop-taken-init : goal.loop-taken-init
loop-taken-init c =
    record { len = rw c.new-found.ensures refl; found = rw c.new-found.ensures (found_none _ _ c.in_ok-rest.ensures) }

pub returns-in_default : goal.returns-in_default
returns-in_default c = found_first _ _ _ _ c.loop-taken.invariant.found (omega arith)
    (inr (rw c.in_default.is at c.in_ok-text.ensures))

pub loop-taken-preserved : goal.loop-taken-preserved
loop-taken-preserved c =
    let least = rw c.in-Some.is at c.in_ok-text.ensures in
    record {
      len = rw (c.in_ok-push.ensures.ok, length-append) (omega arith);
      found = rw c.in_ok-push.ensures.ok
          (found_more _ _ _ _ _ c.in-Some.text c.loop-taken.invariant.found least
          (rw c.as_bytes.ensures at c.in_ok-only.ensures) c.in_ok-rest-2.ensures);
    }

pub returns : goal.returns
returns c = found_first _ _ _ _ c.loop-taken.invariant.found (omega arith) (inl (omega arith))
