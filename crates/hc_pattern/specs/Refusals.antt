-- How a pattern or a glob is read, or refused.
use Rattle.std.specs.Prelude.{◌≡◌, ℕ, Result, Ok, Err}
use Rattle.hc_base.specs.declared.codes.TheConstants.{PATTERN_UNSUPPORTED, PATTERN_SYNTAX, PATTERN_TOO_LARGE}
use Rattle.hc_base.specs.declared.codes.TheConstants.{EMPTY_LOOP}
use Rattle.hc_base.specs.declared.fault.AtByte.{AtByte}
use Rattle.hc_base.specs.declared.fault.Fault.{Fault}
use Rattle.hc_base.specs.declared.fault.Fault.TheVariants.{NoMemory, Refused}
use Rattle.hc_pattern.specs.Pattern.{Pattern, pattern_of}
use Rattle.hc_pattern.specs.declared.pat.Pat.{Pat}

-- A pattern has at most so many nodes.
abbrev pub most_nodes : ℕ
most_nodes = 4096

-- A form of PCRE that is not read.
abbrev pub unsupported : ℕ → AtByte
unsupported at = record { code = PATTERN_UNSUPPORTED; at = at }

abbrev pub wrong_syntax : ℕ → AtByte
wrong_syntax at = record { code = PATTERN_SYNTAX; at = at }

-- It is of the pattern as a whole, so it has no byte of its own.
abbrev pub too_large : AtByte
too_large = record { code = PATTERN_TOO_LARGE; at = 0 }

abbrev pub empty_loop : ℕ → AtByte
empty_loop at = record { code = EMPTY_LOOP; at = at }

-- The answer is the pattern or the refusal that is wanted, unless memory was refused.
abbrev pub GivesPattern : Result Pat (Fault AtByte) → Result Pattern AtByte → Type 0
GivesPattern (Ok pat) wanted = wanted ≡ Ok (pattern_of pat)
GivesPattern (Err (Refused refusal)) wanted = wanted ≡ Err refusal
GivesPattern (Err NoMemory) wanted = Unit {0}
