use Rattle.hc_abs_rw.proofs.Common.{◌≡◌, ◌∙◌, ◌+◌, ◌∷◌, ◌++◌, [], arith, drop, false, refl, subst, sym, ap}
use Rattle.std.proofs.lemmas.List.{drop_all, drop_more}
use Rattle.hc_abs_rw.specs.declared.conds.Trial.{Trial}
use Rattle.hc_abs_rw.specs.Known.{frame_at}
use Rattle.hc_abs_rw.proofs.Chains.{InGroup, group_begins, group_ends, group_goes_on}
use Rattle.hc_abs_rw.proofs.conds.group_trials.Goals as goal

pub loop-cond-init : goal.loop-cond-init
loop-cond-init g c = λ found are.
    let frame = frame_at g.S.Surroundings.kind g.S.Surroundings.values c.args.frame.now in
    let begun : Trial =
    record { known = c.args.trial.known; decisions = c.args.trial.decisions; holds = false } in
    group_begins c.args.frame.now.client frame c.args.trial begun c.args.group.now found refl refl refl
    (subst (λ trials. InGroup c.args.frame.now.client frame c.args.group.now trials found)
    (c.in_ok-push.ensures.items ∙ ap (λ front. front ++ begun ∷ []) c.new-trials.ensures.items) are)

pub loop-cond-preserved : goal.loop-cond-preserved
loop-cond-preserved g c = λ found are.
    let frame = frame_at g.S.Surroundings.kind g.S.Surroundings.values c.args.frame.now in
    let client = c.args.frame.now.client in
    let group = c.args.group.now in
    let i = c.loop-cond.cond-index in
    let next : drop i group ≡ c.cond-item.result ∷ drop (i + 1) group =
    drop_more group i c.cond-item.result c.loop-cond-test.true ∙ ap (λ cond. cond ∷ drop (i + 1) group) (sym c.cond-item.is) in
    c.loop-cond.invariant found
    (subst (λ conds. InGroup client frame conds c.loop-cond.trials.items found) (sym next)
    (group_goes_on client frame c.cond-item.result (drop (i + 1) group) c.loop-cond.trials.items
    c.in_ok-trials.trials.items found c.in_ok-trials.ensures are))

pub returns : goal.returns
returns g c =
    let frame = frame_at g.S.Surroundings.kind g.S.Surroundings.values c.args.frame.now in
    let client = c.args.frame.now.client in
    let none : drop c.loop-cond.cond-index c.args.group.now ≡ [] = grind (arith, drop_all) in
    c.loop-cond.invariant c.loop-cond.trials.items
    (subst (λ conds. InGroup client frame conds c.loop-cond.trials.items c.loop-cond.trials.items) (sym none)
    (group_ends client frame c.loop-cond.trials.items))
