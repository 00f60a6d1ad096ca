use Rattle.hc_abs_map.proofs.Common.{None, refl, subst}
use Rattle.hc_dfa.specs.Automata.{accepts}
use Rattle.hc_plan.specs.Ways.{IsHandSet}
use Rattle.hc_abs_map.proofs.Names.{made_tidy, stays_tidy}
use Rattle.hc_abs_map.specs.Names.{MeetsDoubled}
use Rattle.hc_abs_map.proofs.tidied.tidied.Goals as goal

pub returns-then-not-branch : goal.returns-then-not-branch
returns-then-not-branch c =
    let named = c.args.named in
    let texts = c.in_ok-texts.texts in
    stays_tidy named texts
    (subst (λ items. IsHandSet named.tied.cell items 0 named.side texts) c.deref.ensures.value c.in_ok-texts.ensures)
    (subst (MeetsDoubled (accepts texts)) c.if-not-branch.true c.in_ok-meets_doubled.ensures)

pub returns : goal.returns
returns c =
    let named = c.args.named in
    let texts = c.in_ok-texts.texts in
    made_tidy named texts
    (subst (λ items. IsHandSet named.tied.cell items 0 named.side texts) c.deref.ensures.value c.in_ok-texts.ensures)
    c.in_ok-merged.merged (record { tied = named.tied; text = c.in_ok-text.text; side = None })
    (subst (MeetsDoubled (accepts texts)) c.if-not-branch.false c.in_ok-meets_doubled.ensures)
    c.in_ok-merged.ensures refl c.in_ok-text.ensures refl
