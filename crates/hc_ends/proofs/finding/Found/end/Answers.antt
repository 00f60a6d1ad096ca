use Rattle.std.proofs.Common.{◌-◌, ◌∷◌, [], arith, refl, subst, sym}
use Rattle.hc_ends.specs.Chains.{end_at}
use Rattle.hc_ends.specs.Finding.{Adds}
use Rattle.hc_ends.specs.declared.finding.Found.{Found}
use Rattle.hc_ends.proofs.Adding.{adds_bad, adds_good}
use Rattle.hc_ends.proofs.finding.Found.end.Goals as goal

pub returns-then-not-bad : goal.returns-then-not-bad
returns-then-not-bad c earlier client caller own fits leaf_fits cut =
    let old = c.args.self.now in
    let new : Found = record { bad = old.bad; left = old.left - 1 } in (
      end_at earlier own c.args.bad ∷ [],
      refl,
      subst (λ bad. Adds (end_at earlier own bad ∷ []) old new) (sym c.if-not-bad.true)
          (adds_good c.args.before earlier client caller c.args.leaf.now own fits leaf_fits old new refl
          (omega (arith, c.if-self-eq0.false))),
    )

pub returns : goal.returns
returns c earlier client caller own fits leaf_fits cut =
    let old = c.args.self.now in
    let new : Found = record { bad = c.push.new.self; left = old.left - 1 } in (
      end_at earlier own c.args.bad ∷ [],
      refl,
      subst (λ bad. Adds (end_at earlier own bad ∷ []) old new) (sym c.if-not-bad.false)
          (adds_bad c.args.before earlier client caller c.args.leaf.now own fits leaf_fits old new c.in_ok-end.end
          c.in_ok-end.ensures.0 c.in_ok-end.ensures.1 c.in_ok-push.ensures.items
          (omega (arith, c.if-self-eq0.false))),
    )
