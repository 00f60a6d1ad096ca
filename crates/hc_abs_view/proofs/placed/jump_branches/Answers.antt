use Rattle.std.proofs.Common.{◌≡◌, ◌∙◌, ◌+◌, ◌∷◌, [], arith, drop, map, sym, ap}
use Rattle.std.proofs.lemmas.List.{drop_all, drop_more}
use Rattle.hc_abs_view.specs.Tokens.{fork_of}
use Rattle.hc_abs_view.proofs.Placing.{forks_begin, forks_go_on, forks_over}
use Rattle.hc_abs_view.proofs.placed.jump_branches.Goals as goal

pub loop-jump-init : goal.loop-jump-init
loop-jump-init c = λ found are.
    forks_begin c.args.scene (map fork_of c.args.jumps.now) c.args.tied c.new-placed.result.items c.push.new.self.items
    found c.new-placed.ensures.items c.in_ok-push.ensures.items are

pub loop-jump-preserved : goal.loop-jump-preserved
loop-jump-preserved c = λ found are.
    let jumps = c.args.jumps.now in
    let i = c.loop-jump.jump-index in
    let next : drop i jumps ≡ c.jump-item.result ∷ drop (i + 1) jumps =
    drop_more jumps i c.jump-item.result c.loop-jump-test.true ∙ ap (λ jump. jump ∷ drop (i + 1) jumps) (sym c.jump-item.is) in
    c.loop-jump.invariant found
    (forks_go_on c.args.scene (map fork_of (drop i jumps)) (map fork_of (drop (i + 1) jumps)) (fork_of c.jump-item.result)
    c.loop-jump.placed.items c.in_ok-placed.placed.items found (ap (map fork_of) next) c.in_ok-placed.ensures are)

pub returns : goal.returns
returns c =
    let none : drop c.loop-jump.jump-index c.args.jumps.now ≡ [] = grind (arith, drop_all) in
    c.loop-jump.invariant c.in_ok-found.found.items
    (forks_over c.args.scene (map fork_of (drop c.loop-jump.jump-index c.args.jumps.now)) c.loop-jump.placed.items
    c.in_ok-found.found.items (ap (map fork_of) none) c.in_ok-found.ensures)
