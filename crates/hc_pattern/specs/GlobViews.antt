-- What the classes and pieces of `src/` are seen as.
use Rattle.std.specs.Prelude.{◌≡◌, List, map, Result, Ok, Err, Vec}
use Rattle.std.specs.declared.alloc.Global.{Global}
use Rattle.hc_base.specs.declared.fault.AtByte.{AtByte}
use Rattle.hc_base.specs.declared.fault.Fault.{Fault}
use Rattle.hc_base.specs.declared.fault.Fault.TheVariants.{NoMemory, Refused}
use Rattle.hc_pattern.specs.Globs.{Class, GlobPiece, plain, any_byte, any_bytes, one_of}
use Rattle.hc_pattern.specs.Pattern.{Pattern, pattern_of}
use Rattle.hc_pattern.specs.declared.glob.GlobPiece.{GlobPiece as PieceOfMarks}
use Rattle.hc_pattern.specs.declared.glob.GlobPiece.TheVariants.{Plain, AnyByte, AnyBytes, OneOf}
use Rattle.hc_pattern.specs.declared.mark.Class.{Class as ClassOfMarks}
use Rattle.hc_pattern.specs.declared.pat.Pat.{Pat}

abbrev pub class_view : ClassOfMarks → Class
class_view c = record { complement = c.complement; members = c.members.now }

abbrev pub piece_view : PieceOfMarks → GlobPiece
piece_view (Plain b) = plain b
piece_view AnyByte = any_byte
piece_view AnyBytes = any_bytes
piece_view (OneOf c) = one_of (class_view c)

-- The answer is the patterns or the refusal that is wanted, unless memory was refused.
abbrev pub GivesPatterns : Result (Vec Pat Global) (Fault AtByte) → Result (List Pattern) AtByte → Type 0
GivesPatterns (Ok pats) wanted = wanted ≡ Ok (map pattern_of pats.items)
GivesPatterns (Err (Refused refusal)) wanted = wanted ≡ Err refusal
GivesPatterns (Err NoMemory) wanted = Unit {0}
