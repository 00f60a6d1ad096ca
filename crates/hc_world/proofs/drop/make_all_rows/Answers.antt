use Rattle.hc_world.proofs.Common.{◌∙◌, IsSome, get, subst}
use Rattle.hc_world.proofs.Drops.{HasRows-more}
use Rattle.hc_world.proofs.drop.make_all_rows.Goals as goal

pub loop-path-preserved : goal.loop-path-preserved
loop-path-preserved c =
    let before = c.loop-path.invariant in
    let made = c.in_ok-make_row.ensures in
    let there = subst (λ p. IsSome (get c.make_row.new.self p)) c.deref.ensures.value made.there in (
      λ q. made.same q ∙ before.0 q,
      λ q at. made.kept q (before.1 q at),
      HasRows-more _ _ c.args.paths.now c.loop-path.path-index c.path-item.result c.loop-path-test.true c.path-item.is
          made.kept there before.2,
    )
