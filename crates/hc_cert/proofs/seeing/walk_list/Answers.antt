use Rattle.std.proofs.Common.{◌∙◌}
use Rattle.hc_cert.proofs.Bytes.{bytes_of_list}
use Rattle.hc_cert.proofs.seeing.walk_list.Goals as goal

pub returns : goal.returns
returns c =
    bytes_of_list c.args.ground c.root_of.result c.as_slice.result.now c.begun-so_far.result c.args.tied
    c.in_ok-_listed._listed.items c.requires c.root_of.ensures (c.as_slice.ensures ∙ c.in_ok-rules.ensures)
    c.begun-so_far.ensures c.in_ok-_listed.ensures.branches
