-- An entry among the others of its list.
use Rattle.std.specs.Prelude.{◌+◌, Bool, List, Option, take, drop}
use Rattle.hc_flat.specs.EntriesView.{entry_of}
use Rattle.hc_model.specs.declared.entry.Entry.{Entry}
use Rattle.hc_config.specs.declared.among.Among as code
use Rattle.hc_config.specs.declared.containers.Container.{Container}

-- A rule may look at the entries before one, and at those behind it.
pub record Among : Type 0 where
  pub before : List Entry
  pub entry : Entry
  pub behind : List Entry
  -- the innermost RequireAll, RequireAny or RequireNone that it stands in
  pub container : Option Container
  -- an If or ElseIf is closed right before it
  pub chained : Bool
  -- it stands right in a Directory with wildcards
  pub wild : Bool

abbrev pub among_of : code.Among → Among
among_of among = record {
  before = take among.place among.entries.now;
  entry = entry_of among.entry;
  behind = drop (among.place + 1) among.entries.now;
  container = among.container;
  chained = among.chained;
  wild = among.wild;
}
