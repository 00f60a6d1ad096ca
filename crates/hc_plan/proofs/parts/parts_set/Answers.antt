use Rattle.std.proofs.Common.{◌∙◌, ◌++◌, ◌≡◌, [], ◌∷◌, ap, arith, subst, sym, take, take_all}
use Rattle.std.proofs.lemmas.List.{take_more}
use Rattle.hc_dfa.specs.Automata.{accepts}
use Rattle.hc_pat_lang.specs.Sets.{AcceptsOnly}
use Rattle.std.proofs.Common.{map}
use Rattle.hc_pat_lang.specs.Sets.{AreJoined}
use Rattle.hc_plan.proofs.Elements.{AcceptEach, all_sets, one_set_more}
use Rattle.hc_plan.proofs.parts.parts_set.Goals as goal

pub loop-element-init : goal.loop-element-init
loop-element-init c = c.new-sets.ensures.items

pub loop-element-preserved : goal.loop-element-preserved
loop-element-preserved c =
    let sets = c.args.cell.now in
    let elements = c.args.elements.now in
    let i = c.loop-element.element-index in
    subst (λ front. AcceptEach sets front c.push.new.self.items)
    (sym (take_more elements i c.element-item.result c.loop-element-test.true
    ∙ ap (λ element. take i elements ++ element ∷ []) (sym c.element-item.is)))
    (subst (AcceptEach sets _) (sym c.in_ok-push.ensures.items)
    (one_set_more sets (take i elements) _ c.loop-element.sets.items c.in_ok-element_set.field-0
    c.loop-element.invariant c.in_ok-element_set.ensures))

pub returns : goal.returns
returns c =
    let all : take c.loop-element.element-index c.args.elements.now ≡ c.args.elements.now = grind (arith, take_all) in
    all_sets c.args.cell.now c.args.elements.now c.loop-element.sets.items
    (subst (λ elements. AcceptEach c.args.cell.now elements c.loop-element.sets.items) all c.loop-element.invariant)
    c.in_ok-made.made
    (subst (λ made. AcceptsOnly (AreJoined (map accepts made)) c.in_ok-made.made) c.deref.ensures.value
    c.in_ok-made.ensures)
