-- Entries that are still to be lent.
use Rattle.std.specs.Prelude.{List, drop}
use Rattle.hc_model.specs.declared.entry.Entry.{Entry}
use Rattle.hc_flat.specs.declared.iter.Iter.{Iter}

abbrev pub left : Iter → List Entry
left iter = drop iter.at iter.entries.now
