use Rattle.hc_include.proofs.Common.{ap, refl, AtByte, names_at, ran_leaves, ran_off, ran_on, with_names}
use Rattle.hc_include.proofs.candidates.with_names.Goals as goal

pub returns-in_err-names : goal.returns-in_err-names
unfolding with_names
returns-in_err-names c = ran_off _ _ _ _ _ _ _ _ c.from_residual.ensures.1 c.in_err-names.ensures
    (ap names_at c.as_bytes.ensures)

pub returns : goal.returns
unfolding with_names
returns c = ran_on _ _ _ _ _ _ _ _ _ _ c.in_ok-names.ensures (ap names_at c.as_bytes.ensures)
    (ran_leaves AtByte _ _ _ _ c.in_ok-with_matching.ensures) refl
