-- What the classes of `src/` are seen as.
use Rattle.std.specs.Prelude.{map}
use Rattle.hc_pattern.specs.Classes.{Class, ClassPart, Placed, range, set, broken}
use Rattle.hc_pattern.specs.MemberViews.{member_view}
use Rattle.hc_pattern.specs.declared.class.Class.{Class as ClassOfBytes}
use Rattle.hc_pattern.specs.declared.class.ClassPart.{ClassPart as PartOfBytes}
use Rattle.hc_pattern.specs.declared.class.ClassPart.TheVariants.{Range, Set, Broken}
use Rattle.hc_pattern.specs.declared.class.Placed.{Placed as PlacedOfBytes}

abbrev pub placed_view : PlacedOfBytes → Placed
placed_view placed = record { at = placed.at; member = member_view placed.member }

abbrev pub class_view : ClassOfBytes → Class
class_view c = record { members = map placed_view c.members.items; closed = c.closed; length = c.length }

abbrev pub part_view : PartOfBytes → ClassPart
part_view (Range at first last) = range at first last
part_view (Set ranges) = set ranges.now
part_view (Broken refusal) = broken refusal
