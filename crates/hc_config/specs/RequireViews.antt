-- What the code keeps of a Require line, and of its networks.
use Rattle.std.specs.Prelude.{List, ◌++◌, Result, Ok, Err}
use Rattle.hc_addr.specs.declared.net.Net.{Net}
use Rattle.hc_base.specs.declared.fault.AtByte.{AtByte}
use Rattle.hc_config.specs.Requires as definition
use Rattle.hc_config.specs.declared.requiring.Line.{Line}

abbrev pub line_view : Line → definition.Line
line_view line = record { negated = line.negated; words = line.words.now }

abbrev pub with_nets : List Net → Result (List Net) AtByte → Result (List Net) AtByte
with_nets nets (Ok more) = Ok (nets ++ more)
with_nets nets (Err broken) = Err broken
