use Rattle.std.proofs.Common.{◌≡◌, ◌∙◌, length, ap, sym, subst, [], ◌∷◌, ◌++◌, take, arith}
use Rattle.std.proofs.lemmas.List.{take_more}
use Rattle.hc_pat_lang.proofs.Joining.{only_more}
use Rattle.hc_pat_lang.specs.Sets.{AreOnly}
use Rattle.hc_pat_lang.proofs.joined.front_of.Goals as goal

pub loop-count-init : goal.loop-count-init
loop-count-init c = c.new-text.ensures.items

pub loop-count-preserved : goal.loop-count-preserved
loop-count-preserved c =
    let sets = c.args.sets.now in
    let at = c.loop-count.count in
    let own = rw c.in-Some.is at c.in_ok-only.ensures in
    rw (c.in_ok-extend_from_slice.ensures.items, c.as_bytes.ensures)
    (subst (λ front. AreOnly front (c.loop-count.text.items ++ c.in-Some.only)) (sym (take_more sets at c.index-sets-count.result c.loop-count-test.true
    ∙ ap (λ set. take at sets ++ set ∷ []) (sym c.index-sets-count.is)))
    (only_more (take at sets) c.index-sets-count.result c.loop-count.text.items c.in-Some.only c.loop-count.invariant
    own))

pub returns-clause-only : goal.returns-clause-only
returns-clause-only c =
    let all : c.loop-count.count ≡ length c.args.sets.now =
    (let ended = c.loop-count-test.false in let within = c.loop-count.auto.count-end in omega arith) in
    subst (λ count. AreOnly (take count c.args.sets.now) c.loop-count.text.items) all c.loop-count.invariant
