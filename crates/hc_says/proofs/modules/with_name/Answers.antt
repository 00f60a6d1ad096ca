use Rattle.std.proofs.Common.{string_bytes, ◌∙◌}
use Rattle.std.specs.BTreeSet.{contains_text}
use Rattle.std.specs.Str.{bytes_eq}
use Rattle.std.proofs.lemmas.Map.Text.{btree_set_updates_text}
use Rattle.hc_says.proofs.Known.{name_set}
use Rattle.hc_says.proofs.modules.with_name.Goals as goal

pub returns : goal.returns
returns c q =
    rw (← c.in_ok-from_str.ensures.ok)
    (btree_set_updates_text (string_bytes c.in_ok-from_str.field-0) c.args.names c.insert.new.self _
    c.in_ok-insert.ensures.updates q
    ∙ name_set (bytes_eq (string_bytes c.in_ok-from_str.field-0) q) (contains_text c.args.names q))
