use Rattle.std.proofs.Common.{◌≡◌, ◌∙◌, ◌∷◌, ◌+◌, List, [], None, Some, ap, drop, subst, sym}
use Rattle.std.proofs.lemmas.List.{drop_all, drop_more}
use Rattle.hc_abs_left.specs.declared.segment.Segment.{Segment}
use Rattle.hc_cert.proofs.Faulty.{FirstFrom, none_first, one_here, one_over}
use Rattle.hc_cert.specs.Coded.{IsFaultOf}
use Rattle.hc_cert.specs.declared.verdict.Found.{Found}
use Rattle.hc_cert.proofs.faults.first_in.Goals as goal

pub returns-in-Some : goal.returns-in-Some
returns-in-Some c =
    let scene = c.args.scene in
    let of = c.args.condition in
    let from = c.args.own.now.own.now in
    let at = c.loop-segment.segment-index in
    let segment = c.segment-item.result in
    let items = c.as_slice-segment-items.result.now in
    let next = subst (λ (items : List Segment). drop at items ≡ segment ∷ drop (at + 1) items)
    c.as_slice-segment-items.ensures.value (drop_more items at segment c.loop-segment-test.true
    ∙ ap (λ one. one ∷ drop (at + 1) items) (sym c.segment-item.is)) in
    let text = c.in-Some.text in
    let found : Found = record { branch = c.in_ok-branch.branch; text = text } in
    c.loop-segment.invariant (Some found)
    (subst (λ segments. FirstFrom scene of from segments (Some found)) (sym next)
    (subst (λ branch. FirstFrom scene of from (segment ∷ drop (at + 1) c.args.own.now.branches.items)
    (Some (record { branch = branch; text = text }))) (sym c.in_ok-branch.ensures)
    (one_here scene of from segment (drop (at + 1) c.args.own.now.branches.items) text
    (subst (IsFaultOf scene of from segment) c.in-Some.is c.in_ok-text.ensures))))

pub loop-segment-preserved : goal.loop-segment-preserved
loop-segment-preserved c found later =
    let scene = c.args.scene in
    let of = c.args.condition in
    let from = c.args.own.now.own.now in
    let at = c.loop-segment.segment-index in
    let segment = c.segment-item.result in
    let items = c.as_slice-segment-items.result.now in
    let next = subst (λ (items : List Segment). drop at items ≡ segment ∷ drop (at + 1) items)
    c.as_slice-segment-items.ensures.value (drop_more items at segment c.loop-segment-test.true
    ∙ ap (λ one. one ∷ drop (at + 1) items) (sym c.segment-item.is)) in
    c.loop-segment.invariant found
    (subst (λ segments. FirstFrom scene of from segments found) (sym next)
    (one_over scene of from segment (drop (at + 1) c.args.own.now.branches.items) found
    (subst (IsFaultOf scene of from segment) c.in_default.is c.in_ok-text.ensures) later))

pub returns : goal.returns
returns c =
    let scene = c.args.scene in
    let of = c.args.condition in
    let from = c.args.own.now.own.now in
    let at = c.loop-segment.segment-index in
    let none = subst (λ (items : List Segment). drop at items ≡ []) c.as_slice-segment-items.ensures.value
    (drop_all at c.as_slice-segment-items.result.now c.loop-segment-test.false) in
    c.loop-segment.invariant None
    (subst (λ segments. FirstFrom scene of from segments None) (sym none) (none_first scene of from))
