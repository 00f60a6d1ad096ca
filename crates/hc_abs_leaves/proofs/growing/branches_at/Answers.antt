use Rattle.std.proofs.lemmas.Result.{IfOk-weaker}
use Rattle.hc_abs_leaves.proofs.Places.{at_directory, at_pass, at_server}
use Rattle.hc_abs_leaves.proofs.growing.branches_at.Goals as goal

pub returns-in-Pass-clause-branches : goal.returns-in-Pass-clause-branches
returns-in-Pass-clause-branches g c =
    IfOk-weaker c.pass_branches.result _ _ (λ found are.
    at_pass c.args.ground c.most_passes.result c.from.result c.args.number c.requires.ground c.most_passes.ensures
    c.from.ensures c.args.at c.args.tied found.items c.in-Pass.is are) c.pass_branches.ensures.branches

pub returns-in-Server-clause-branches : goal.returns-in-Server-clause-branches
returns-in-Server-clause-branches g c =
    IfOk-weaker c.server_round_branches.result _ _ (λ found are.
    at_server c.args.ground c.most_passes.result c.from.result c.args.number c.requires.ground c.most_passes.ensures
    c.from.ensures c.args.at c.args.tied found.items c.in-Server.round c.in-Server.so_far c.in-Server.is are)
    c.server_round_branches.ensures.branches

pub returns-in-Directory-clause-branches : goal.returns-in-Directory-clause-branches
returns-in-Directory-clause-branches g c =
    IfOk-weaker c.directory_branches.result _ _ (λ found are.
    at_directory c.args.ground c.most_passes.result c.from.result c.args.number c.requires.ground c.most_passes.ensures
    c.from.ensures c.args.at c.args.tied found.items c.in-Directory.round c.in-Directory.settings c.in-Directory.so_far
    c.in-Directory.is are) c.directory_branches.ensures
