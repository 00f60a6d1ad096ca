use Rattle.std.proofs.Common.{◌∙◌, ◌+◌, ◌++◌, ◌∷◌, [], map, take, ap, sym}
use Rattle.std.proofs.lemmas.List.{map-append, take_more}
use Rattle.hc_abs_view.specs.Tokens.{fork_of}
use Rattle.hc_abs_view.proofs.Leading.{one_before}
use Rattle.hc_abs_view.proofs.leads.chain_jumps.Goals as goal

pub loop-one-preserved : goal.loop-one-preserved
loop-one-preserved c =
    let chain = c.args.chain.now in
    let i = c.loop-one.one-index in
    one_before (map (λ one. one.now) (take i chain)) (map (λ one. one.now) (take (i + 1) chain)) c.one-item.result.now
    (map fork_of c.loop-one.jumps.items) (map fork_of c.add_jumps.new.jumps.items)
    (ap (map (λ one. one.now)) (take_more chain i c.one-item.result c.loop-one-test.true
    ∙ ap (λ one. take i chain ++ one ∷ []) (sym c.one-item.is))
    ∙ map-append (λ one. one.now) (take i chain) (c.one-item.result ∷ []))
    c.loop-one.invariant c.in_ok-add_jumps.ensures
