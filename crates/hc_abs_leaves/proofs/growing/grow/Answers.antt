use Rattle.std.proofs.lemmas.Result.{on_ok_weaker}
use Rattle.hc_abs_leaves.proofs.Common.{refl}
use Rattle.hc_abs_leaves.proofs.Growth.{node_grows}
use Rattle.hc_abs_leaves.proofs.growing.grow.Goals as goal

pub returns-clause-grown : goal.returns-clause-grown
returns-clause-grown g c =
    let node = c.args.node in
    on_ok_weaker c.push_all.result (λ same. node_grows c.args.ground node (record {
      number = node.number;
      server = c.server_in.result;
      directory = c.directory_in.result;
      decided = c.as_slice.result;
    }) c.in_ok-branches.branches.items c.args.pending.now.items c.push_all.new.pending.items refl c.server_in.ensures
    c.directory_in.ensures c.as_slice.ensures c.in_ok-branches.ensures.branches same) c.push_all.ensures
