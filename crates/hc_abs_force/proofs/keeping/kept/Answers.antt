use Rattle.std.proofs.Common.{◌≡◌, ◌∙◌, ◌+◌, ◌∷◌, [], arith, drop, map, sym, ap}
use Rattle.std.proofs.lemmas.List.{drop_all, drop_more, nil_from_length}
use Rattle.hc_merge.specs.CandidateView.{candidate_of}
use Rattle.hc_abs_force.proofs.Marks.{no_marks, no_more, one_kept, one_left_out, map_more}
use Rattle.hc_abs_force.proofs.keeping.kept.Goals as goal

pub returns-in_default : goal.returns-in_default
returns-in_default c =
    no_marks c.args.marks.now c.loop-candidate.left.now (map candidate_of c.args.candidates.now)
    (map candidate_of c.loop-candidate.kept.items)
    (map candidate_of (drop c.loop-candidate.candidate-index c.args.candidates.now)) c.loop-candidate.invariant
    (nil_from_length c.loop-candidate.left.now c.in_default.ensures.cases)

pub loop-candidate-preserved-then-not-mark : goal.loop-candidate-preserved-then-not-mark
loop-candidate-preserved-then-not-mark c =
    let all = c.args.candidates.now in
    let at = c.loop-candidate.candidate-index in
    one_left_out c.args.marks.now c.loop-candidate.left.now (map candidate_of all)
    (map candidate_of c.loop-candidate.kept.items) (map candidate_of (drop at all)) c.loop-candidate.invariant
    c.in-Some.mark.now c.in-Some.rest.now (candidate_of c.candidate-item.result) (map candidate_of (drop (at + 1) all))
    c.in-Some.ensures.cases.0
    (ap (map candidate_of) (drop_more all at c.candidate-item.result c.loop-candidate-test.true
    ∙ ap (λ one. one ∷ drop (at + 1) all) (sym c.candidate-item.is)))
    c.if-not-mark.true

pub loop-candidate-preserved : goal.loop-candidate-preserved
loop-candidate-preserved c =
    let all = c.args.candidates.now in
    let at = c.loop-candidate.candidate-index in
    one_kept c.args.marks.now c.loop-candidate.left.now (map candidate_of all)
    (map candidate_of c.loop-candidate.kept.items) (map candidate_of (drop at all)) c.loop-candidate.invariant
    c.in-Some.mark.now c.in-Some.rest.now (candidate_of c.candidate-item.result) (map candidate_of (drop (at + 1) all))
    c.in-Some.ensures.cases.0
    (ap (map candidate_of) (drop_more all at c.candidate-item.result c.loop-candidate-test.true
    ∙ ap (λ one. one ∷ drop (at + 1) all) (sym c.candidate-item.is)))
    c.if-not-mark.false (map candidate_of c.push.new.self.items)
    (ap (map candidate_of) c.in_ok-push.ensures.items
    ∙ map_more candidate_of c.loop-candidate.kept.items c.candidate-item.result)

pub returns : goal.returns
returns c =
    let none : drop c.loop-candidate.candidate-index c.args.candidates.now ≡ [] = grind (arith, drop_all) in
    no_more c.args.marks.now c.loop-candidate.left.now (map candidate_of c.args.candidates.now)
    (map candidate_of c.loop-candidate.kept.items)
    (map candidate_of (drop c.loop-candidate.candidate-index c.args.candidates.now)) c.loop-candidate.invariant
    (ap (map candidate_of) none)
