use Rattle.std.proofs.Common.{◌≡◌, refl, rules}
use Rattle.hc_dfa.specs.Automata.{accepts}
use Rattle.hc_sent.proofs.MadeSets.{asks_are, target_is}
use Rattle.hc_sent.proofs.making.redirect_parts.Goals as goal

pub returns : goal.returns
returns c =
    let pieces : c.as_slice.result.now ≡ c.args.redirect.now.to = search rules in
    let filled = rw pieces at c.in_ok-filled.ensures in (
      c.in_ok-target.ensures.1,
      filled.1,
      (
        _,
        _,
        _,
        c.in_ok-parts.ensures,
        (
          target_is c.args.caller.now c.args.redirect.now (accepts c.args.paths.now) _ _ filled.0
              c.in_ok-target.ensures.0,
          refl,
        ),
        (c.in_ok-follows.ensures, refl),
        (
          asks_are c.args.redirect.now (accepts c.args.paths.now) (accepts c.args.queries.now) _ _ filled.0
              c.in_ok-asks.ensures,
          refl,
        ),
      ),
    )
