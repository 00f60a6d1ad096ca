use Rattle.hc_nodes.proofs.Texts.{name_boundary}
use Rattle.hc_nodes.proofs.section.split_name.Goals as goal

pub split_at-requires : goal.split_at-requires
split_at-requires c = rw (c.name_len.ensures, c.as_bytes.ensures.value) (name_boundary c.args.text.now)
