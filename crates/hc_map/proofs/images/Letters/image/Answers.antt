use Rattle.hc_map.specs.Gathered.{changed}
use Rattle.hc_map.proofs.Gathering.{changed_keys}
use Rattle.hc_map.proofs.images.Letters.image.Goals as goal

pub returns : goal.returns
returns c = changed_keys c.args.keys.now _ c.table.result (changed c.args.self) c.table.ensures c.in_ok-values.ensures
