use Rattle.std.proofs.Common.{◌≡◌, ◌∙◌, ◌+◌, ◌∷◌, ◌++◌, [], List, arith, ap, drop, map, refl, subst, sym, take, take_all}
use Rattle.std.proofs.lemmas.List.{drop_all, drop_more, take_more}
use Rattle.hc_merge.specs.CandidateView.{candidate_of}
use Rattle.hc_merge.specs.Candidates.{Candidate}
use Rattle.hc_merge.specs.Reaching.{Chain, chain_behind}
use Rattle.hc_abs_force.specs.Asking.{exprs}
use Rattle.hc_abs_force.specs.Steps.{ArePast}
use Rattle.hc_abs_force.specs.declared.forcing.Forced.{Forced}
use Rattle.hc_abs_force.proofs.Marks.{map_more}
use Rattle.hc_abs_force.proofs.Stepping.{InSections, sections_begin, sections_go_on, sections_over}
use Rattle.hc_abs_force.proofs.forcing.section_branches.Goals as goal

pub loop-candidate-init : goal.loop-candidate-init
loop-candidate-init c found are =
    let first : Forced = record { tied = c.args.tied; marks = c.new.result } in
    sections_begin c.args.scene (map candidate_of c.args.candidates.now) c.args.tied first c.new-found.result.items
    c.push.new.self.items found (exprs c.new-chain.result.items) refl c.new.ensures.items c.new-found.ensures.items
    c.in_ok-push.ensures.items (ap exprs c.new-chain.ensures.items) are

pub loop-candidate-preserved : goal.loop-candidate-preserved
loop-candidate-preserved c found are =
    let scene = c.args.scene in
    let lent = c.args.candidates.now in
    let all : List Candidate = map candidate_of lent in
    let at = c.loop-candidate.candidate-index in
    let one = c.candidate-item.result in
    let chain : Chain = exprs c.loop-candidate.chain.items in
    let later = c.in_ok-found.found.items in
    let next : map candidate_of (drop at lent) ≡ candidate_of one ∷ map candidate_of (drop (at + 1) lent) =
    ap (map candidate_of) (drop_more lent at one c.loop-candidate-test.true
    ∙ ap (λ one. one ∷ drop (at + 1) lent) (sym c.candidate-item.is)) in
    let more : map candidate_of (take (at + 1) lent) ≡ map candidate_of (take at lent) ++ candidate_of one ∷ [] =
    ap (map candidate_of) (take_more lent at one c.loop-candidate-test.true
    ∙ ap (λ one. take at lent ++ one ∷ []) (sym c.candidate-item.is)) ∙ map_more candidate_of (take at lent) one in
    c.loop-candidate.invariant found
    (subst (λ rest. InSections scene all (map candidate_of (take at lent)) chain rest c.loop-candidate.found.items found)
    (sym next)
    (sections_go_on scene all (map candidate_of (take at lent)) (map candidate_of (drop (at + 1) lent)) chain
    (candidate_of one) c.loop-candidate.found.items later found
    (subst (λ chain. ArePast scene (exprs chain) (candidate_of one) c.loop-candidate.found.items later)
    c.deref.ensures.value c.in_ok-found.ensures)
    (subst (λ before. InSections scene all before (chain_behind chain (candidate_of one).reach)
    (map candidate_of (drop (at + 1) lent)) later found) more
    (subst (λ chain. InSections scene all (map candidate_of (take (at + 1) lent)) chain
    (map candidate_of (drop (at + 1) lent)) later found) c.in_ok-chain.ensures are))))

pub returns-clause-branches : goal.returns-clause-branches
returns-clause-branches c =
    let scene = c.args.scene in
    let lent = c.args.candidates.now in
    let all : List Candidate = map candidate_of lent in
    let at = c.loop-candidate.candidate-index in
    let forced = c.loop-candidate.found.items in
    let chain : Chain = exprs c.loop-candidate.chain.items in
    let taken : take at lent ≡ lent = grind (arith, take_all) in
    let none : drop at lent ≡ [] = grind (arith, drop_all) in
    c.loop-candidate.invariant forced
    (subst (λ before. InSections scene all (map candidate_of before) chain (map candidate_of (drop at lent)) forced forced)
    (sym taken)
    (subst (λ rest. InSections scene all all chain (map candidate_of rest) forced forced) (sym none)
    (sections_over scene all chain forced)))
