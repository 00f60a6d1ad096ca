use Rattle.std.proofs.Common.{◌∙◌, subst, sym, true≢false}
use Rattle.std.proofs.lemmas.Result.{IfOk-weaker}
use Rattle.hc_abs_cuts.specs.Coded.{AreCut}
use Rattle.hc_cert.proofs.Branching.{empty_branches, filled_branches}
use Rattle.hc_cert.specs.Coded.{AreBranchesIn}
use Rattle.hc_cert.proofs.walking.branches_from.Goals as goal

pub returns-then-none-clause-branches : goal.returns-then-none-clause-branches
returns-then-none-clause-branches g c asked names fits =
    let ground = c.args.ground in
    let own = c.args.own.now in
    subst (AreBranchesIn ground asked names own.named.now) (sym c.new.ensures.items)
    (empty_branches asked names ground fits own.named.now own.tied c.requires.ready
    (c.in_ok-none.ensures.0 c.if-none.true))

pub returns-clause-branches : goal.returns-clause-branches
returns-clause-branches g c asked names fits =
    let ground = c.args.ground in
    let own = c.args.own.now in
    IfOk-weaker c.cut_branches.result (λ found. AreCut ground own.named.now.at c.in_ok-tied.tied found.items) _
    (λ found are. filled_branches asked names ground fits own.named.now own.tied c.requires.ready c.requires.ground
    c.requires.last (λ none. true≢false (sym (c.in_ok-none.ensures.1 none) ∙ c.if-none.false)) found.items
    (subst (λ tied. AreCut ground own.named.now.at tied found.items) c.in_ok-tied.ensures are))
    c.cut_branches.ensures.branches
