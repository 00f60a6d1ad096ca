-- What a `Pat` is seen as.
use Rattle.std.specs.Prelude.{ℕ, Bool, Option}
use Rattle.hc_pattern.specs.declared.set.ByteSet.{ByteSet}
use Rattle.hc_pattern.specs.declared.pat.Pat.{Pat, fold-Pat}
use Rattle.hc_pattern.specs.declared.pat.Pat.TheOpen.{Pat-F}

-- A pattern.
pub data Pattern : Type 0 where
  empty : Pattern
  byte : ℕ → Pattern
  class : ByteSet → Pattern
  start : Pattern
  finish : Pattern
  cat : Pattern → Pattern → Pattern
  alt : Pattern → Pattern → Pattern
  group : ℕ → Pattern → Pattern
  repeat : Pattern → ℕ → Option ℕ → Bool → Pattern

-- One node, with what stands below it already seen.
abbrev pub node_view : Pat-F Pattern → Pattern
node_view Pat-F.Empty = empty
node_view (Pat-F.Byte b) = byte b
node_view (Pat-F.Class set) = class set
node_view Pat-F.Start = start
node_view Pat-F.Finish = finish
node_view (Pat-F.Cat first second) = cat first.value second.value
node_view (Pat-F.Alt first second) = alt first.value second.value
node_view (Pat-F.Group number body) = group number body.value
node_view (Pat-F.Repeat body least most greedy) = repeat body.value least most greedy

abbrev pub pattern_of : Pat → Pattern
pattern_of = fold-Pat Pattern node_view
