-- Patterns whose ways take a byte.
use Rattle.std.specs.Prelude.{◌&&◌, ◌||◌, nat_lt, Bool, true, false}
use Rattle.hc_pattern.specs.Pattern.{Pattern, empty, byte, class, start, finish, cat, alt, group, repeat}

-- As far as its form tells, each way takes at least one byte.
abbrev pub takes_a_byte : Pattern → Bool
takes_a_byte empty = false
takes_a_byte (byte b) = true
takes_a_byte (class set) = true
takes_a_byte start = false
takes_a_byte finish = false
takes_a_byte (cat first second) = takes_a_byte first || takes_a_byte second
takes_a_byte (alt first second) = takes_a_byte first && takes_a_byte second
takes_a_byte (group number body) = takes_a_byte body
takes_a_byte (repeat body least most greedy) = nat_lt 0 least && takes_a_byte body
