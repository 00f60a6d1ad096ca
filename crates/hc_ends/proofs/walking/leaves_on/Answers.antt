use Rattle.std.proofs.Common.{Global, Vec, subst}
use Rattle.std.proofs.lemmas.Result.{IfOk-weaker}
use Rattle.std.specs.Prelude.{option_map}
use Rattle.hc_abs_leaves.specs.declared.leaf.Leaf.{Leaf}
use Rattle.hc_abs_start.specs.Starts.{IsStart}
use Rattle.hc_claim.specs.Trying.{asked_in}
use Rattle.hc_ends.proofs.Gathering.{gathered_for}
use Rattle.hc_ends.specs.Walking.{IsGathered}
use Rattle.hc_ends.proofs.walking.leaves_on.Goals as goal

pub returns-clause-found : goal.returns-clause-found
returns-clause-found g c =
    let asked = asked_in c.args.question in
    let names = c.args.names.now in
    let tied = c.in_ok-tied.tied in
    IfOk-weaker c.gather.result
    (λ found. IsGathered c.args.ground tied c.args.limit (option_map (λ (leaves : Vec Leaf Global). leaves.items)
    found)) _
    (λ found. gathered_for asked names c.args.ground c.requires.fits tied c.args.limit
    (option_map (λ (leaves : Vec Leaf Global). leaves.items) found)
    (subst (λ variables. IsStart asked.scope variables names.headers tied) c.as_slice-variables.ensures
    (subst (λ headers. IsStart asked.scope c.as_slice-variables.result.now headers tied) c.as_slice.ensures
    c.in_ok-tied.ensures))) c.gather.ensures.leaves
