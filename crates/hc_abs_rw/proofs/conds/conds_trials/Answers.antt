use Rattle.hc_abs_rw.proofs.Common.{◌≡◌, ◌∙◌, ◌∷◌, ◌++◌, [], arith, drop, true, refl, subst, sym, ap}
use Rattle.std.proofs.Common.{take}
use Rattle.hc_rw_eval.proofs.Groups.{first_group, no_groups}
use Rattle.hc_rw_eval.specs.Conditions.{or_groups}
use Rattle.hc_abs_rw.specs.Known.{frame_at}
use Rattle.hc_abs_rw.specs.declared.conds.Trial.{Trial}
use Rattle.hc_abs_rw.proofs.Chains.{InGroups, groups_begin, groups_end, groups_go_on, some_left}
use Rattle.hc_abs_rw.proofs.conds.conds_trials.Goals as goal

pub loop-rest-init : goal.loop-rest-init
loop-rest-init g c = λ found are.
    let frame = frame_at g.S.Surroundings.kind g.S.Surroundings.values c.args.frame.now in
    let begun : Trial =
    record { known = c.args.trial.known; decisions = c.args.trial.decisions; holds = true } in
    groups_begin c.args.frame.now.client frame c.args.trial begun (or_groups c.args.conds.now) found refl refl refl
    (subst (λ trials. InGroups c.args.frame.now.client frame (or_groups c.args.conds.now) trials found)
    (c.in_ok-push.ensures.items ∙ ap (λ front. front ++ begun ∷ []) c.new-trials.ensures.items) are)

pub loop-rest-smaller : goal.loop-rest-smaller
loop-rest-smaller g c =
    let some = c.group_length.ensures.some (some_left c.loop-rest.rest.now (sym c.loop-rest-test.ensures)) in
    omega (arith, c.split_at.ensures.back_len, c.group_length.ensures.within, some)

pub loop-rest-preserved : goal.loop-rest-preserved
loop-rest-preserved g c = λ found are.
    let frame = frame_at g.S.Surroundings.kind g.S.Surroundings.values c.args.frame.now in
    let client = c.args.frame.now.client in
    let rest = c.loop-rest.rest.now in
    let n = c.group_length.ensures.length in
    let split : or_groups rest ≡ c.split_at.result.0.now ∷ or_groups c.split_at.result.1.now =
    first_group rest (sym c.loop-rest-test.ensures) ∙ (λ i. take (sym n i) rest ∷ or_groups (drop (sym n i) rest))
    ∙ (λ i. sym c.split_at.ensures.front i ∷ or_groups (sym c.split_at.ensures.back i)) in
    c.loop-rest.invariant found
    (subst (λ groups. InGroups client frame groups c.loop-rest.trials.items found) (sym split)
    (groups_go_on client frame c.split_at.result.0.now (or_groups c.split_at.result.1.now) c.loop-rest.trials.items
    c.in_ok-trials.trials.items found c.in_ok-trials.ensures are))

pub returns : goal.returns
returns g c =
    let frame = frame_at g.S.Surroundings.kind g.S.Surroundings.values c.args.frame.now in
    let client = c.args.frame.now.client in
    c.loop-rest.invariant c.loop-rest.trials.items
    (subst (λ groups. InGroups client frame groups c.loop-rest.trials.items c.loop-rest.trials.items)
    (sym (no_groups c.loop-rest.rest.now (sym c.loop-rest-test.ensures)))
    (groups_end client frame c.loop-rest.trials.items))
