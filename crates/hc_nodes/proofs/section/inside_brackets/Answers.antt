use Rattle.std.proofs.lemmas.Bool.{and_parts}
use Rattle.hc_nodes.proofs.Texts.{start_boundary, end_boundary}
use Rattle.hc_nodes.proofs.section.inside_brackets.Goals as goal

pub range-requires-clause-start_boundary : goal.range-requires-clause-start_boundary
range-requires-clause-start_boundary c some =
    let parts = and_parts _ _ c.requires in
    start_boundary _ c.as_str-text.utf8 (rw c.as_str-text.ensures (and_parts _ _ parts.0).0)

pub range-requires-clause-end_boundary : goal.range-requires-clause-end_boundary
range-requires-clause-end_boundary c =
    let parts = and_parts _ _ c.requires in
    rw c.as_str-text.ensures (end_boundary _ (and_parts _ _ parts.0).0 parts.1)
