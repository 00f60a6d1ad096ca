use Rattle.std.proofs.lemmas.Result.{IfOk-weaker}
use Rattle.hc_abs_cuts.proofs.Common.{subst, sym}
use Rattle.hc_abs_cuts.proofs.Going.{directory_fits}
use Rattle.hc_abs_cuts.specs.Coded.{AreCut}
use Rattle.hc_abs_cuts.proofs.from.cut_branches.Goals as goal

pub returns-in-Pass-clause-branches : goal.returns-in-Pass-clause-branches
returns-in-Pass-clause-branches g c =
    IfOk-weaker c.pass_branches.result _ _
    (λ found are. subst (λ cut. AreCut c.args.ground cut c.args.tied found.items) (sym c.in-Pass.is)
    (λ levels state listed rests clients. are levels state listed clients rests)) c.pass_branches.ensures.branches

pub returns-in-Server-clause-branches : goal.returns-in-Server-clause-branches
returns-in-Server-clause-branches g c =
    IfOk-weaker c.server_branches.result _ _
    (λ found are. subst (λ cut. AreCut c.args.ground cut c.args.tied found.items) (sym c.in-Server.is) are)
    c.server_branches.ensures.branches

pub returns-in_ok-places-in-Dir-clause-branches : goal.returns-in_ok-places-in-Dir-clause-branches
returns-in_ok-places-in-Dir-clause-branches g c =
    IfOk-weaker c.from_places.result _ _
    (λ found are. subst (λ cut. AreCut c.args.ground cut c.args.tied found.items) (sym c.in-Dir.is)
    (directory_fits c.args.ground c.in-Dir.dir c.args.tied c.in_ok-places-in-Dir.places.items found.items
    c.in_ok-places-in-Dir.ensures.places are)) c.from_places.ensures
