use Rattle.std.proofs.Common.{ap, option_map, string_bytes, ◌∙◌}
use Rattle.std.specs.BTreeMap.{get_by_text}
use Rattle.std.specs.Str.{bytes_eq}
use Rattle.std.proofs.lemmas.Map.Text.{btree_map_updates_text}
use Rattle.hc_says.proofs.Known.{text_set}
use Rattle.hc_says.proofs.defines.with_value.Goals as goal

pub returns : goal.returns
returns c q =
    rw (← c.in_ok-name.ensures.ok, ← c.in_ok-from_str.ensures.ok)
    (ap (option_map string_bytes)
    (btree_map_updates_text (string_bytes c.in_ok-name.name) c.args.values c.insert.new.self _
    c.in_ok-insert.ensures.updates q)
    ∙ text_set (bytes_eq (string_bytes c.in_ok-name.name) q) c.in_ok-from_str.field-0 (get_by_text c.args.values q))
