use Rattle.std.proofs.Common.{◌∙◌, ap, arith, subst, sym, [], take, take_all, ◌++◌, ◌∷◌, ◌≡◌}
use Rattle.std.proofs.lemmas.List.{take_more}
use Rattle.hc_abs_pass.proofs.Trying.{tried_more}
use Rattle.hc_abs_pass.specs.Walking.{AreTried}
use Rattle.hc_abs_pass.proofs.walk.tried.Goals as goal

pub loop-end-init : goal.loop-end-init
loop-end-init c = c.new-found.ensures.items

pub loop-end-preserved : goal.loop-end-preserved
loop-end-preserved c =
    let named = c.args.named.now in
    let ends = c.args.ends.now in
    let at = c.loop-end.end-index in
    subst (λ front. AreTried named front c.add_tried.new.found.items)
    (sym (take_more ends at c.end-item.result c.loop-end-test.true
    ∙ ap (λ end. take at ends ++ end ∷ []) (sym c.end-item.is)))
    (tried_more named (take at ends) _ c.loop-end.found.items c.add_tried.new.found.items c.loop-end.invariant
    c.in_ok-add_tried.ensures)

pub returns : goal.returns
returns c =
    let all : take c.loop-end.end-index c.args.ends.now ≡ c.args.ends.now = grind (arith, take_all) in
    subst (λ ends. AreTried c.args.named.now ends c.loop-end.found.items) all c.loop-end.invariant
