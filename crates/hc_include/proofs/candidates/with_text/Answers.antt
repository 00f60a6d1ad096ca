use Rattle.hc_include.proofs.Common.{ap, refl, AtByte, text_at, ran_leaves, ran_off, ran_on, with_text}
use Rattle.hc_include.proofs.candidates.with_text.Goals as goal

pub returns-in_err-found : goal.returns-in_err-found
unfolding with_text
returns-in_err-found c = ran_off _ _ _ _ _ _ _ _ c.from_residual.ensures.1 c.in_err-found.ensures
    (ap text_at c.as_bytes.ensures)

pub returns : goal.returns
unfolding with_text
returns c = ran_on _ _ _ _ _ _ _ _ _ _ c.in_ok-found.ensures (ap text_at c.as_bytes.ensures)
    (ran_leaves AtByte _ _ _ _ c.in_ok-with_found.ensures) refl
