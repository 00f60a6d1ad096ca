use Rattle.hc_world.proofs.Common.{rules, ◌≡◌, sym, ap, ◌∙◌, ◌++◌, ◌∷◌, [], take, drop, length}
use Rattle.hc_world.proofs.Common.{ended}
use Rattle.hc_world.proofs.Walks.{walk_goes, walk_stops, name_ends}
use Rattle.hc_world.proofs.walk.follow.Goals as goal

pub returns-in_default-kind : goal.returns-in_default-kind
returns-in_default-kind c = walk_stops _ _ _ _ _ _ _ _ _ _ _ c.loop-slash.invariant c.in-Some.ensures.some
    c.in_ok-kind.ensures c.in_default-kind.not-Dir c.in_ok-ended.ensures

pub loop-slash-preserved : goal.loop-slash-preserved
loop-slash-preserved c =
    let pushed : c.push-in-Some.new.self ≡ c.loop-slash.dirs ++ take c.in-Some.slash c.args.name.now ∷ [] =
    search rules in
    walk_goes _ _ _ _ _ _ _ _ _ _ _ c.loop-slash.invariant c.in-Some.ensures.some c.in_ok-kind.ensures c.in-Dir.is
    pushed

pub returns : goal.returns
returns c =
    name_ends _ _ _ _ _ _ _ _ _ _ c.loop-slash.invariant c.in_default.ensures.none
    (sym c.if-ends_with_slash.false ∙ c.ends_with_slash.ensures) c.in_ok-kind-2.ensures
    (c.in_ok-ended-3.ensures
    ∙ ap (λ dirs. ended (take (length c.args.name.now) c.args.name.now)
    (drop (length c.args.name.now) c.args.name.now) c.in_ok-kind-2.kind dirs) c.in_ok-dirs.ensures)
