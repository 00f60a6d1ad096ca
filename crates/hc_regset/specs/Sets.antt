-- What a form means, or the pattern in it that is not read.
use Rattle.std.specs.Prelude.{◌≡◌, ℕ, ⊤, ◌⊎◌, List, Option, None, Some, Result, Ok, Err, false}
use Rattle.std.specs.Option.{option_or}
use Rattle.std.specs.Result.{result_err}
use Rattle.hc_base.specs.declared.fault.AtByte.{AtByte}
use Rattle.hc_base.specs.declared.fault.Fault.{Fault}
use Rattle.hc_base.specs.declared.fault.Fault.TheVariants.{NoMemory, Refused}
use Rattle.hc_dfa.specs.Automata.{Automaton}
use Rattle.hc_pat_lang.specs.Found.{IsFound}
use Rattle.hc_pat_lang.specs.Sets.{AcceptsOnly}
use Rattle.hc_pattern.specs.Pattern.{Pattern}
use Rattle.hc_pattern.specs.Reading.{parse_pattern}
use Rattle.hc_regset.specs.Forms.{Form, both, either, every, found, none, only, without}

-- How a pattern in a form is read: bytes are compared as they are.
abbrev pub reading : List ℕ → Result Pattern AtByte
reading pattern = parse_pattern pattern false

-- A pattern that is read is found in the text.
abbrev pub FoundIn : Result Pattern AtByte → List ℕ → Type 0
FoundIn (Ok pattern) text = IsFound pattern text
FoundIn (Err refusal) text = ⊥

-- The text is in the set.
abbrev pub Has : Form → List ℕ → Type 0
Has every text = ⊤
Has none text = ⊥
Has (only this) text = text ≡ this
Has (found pattern) text = FoundIn (reading pattern) text
Has (both a b) text = Has a text × Has b text
Has (either a b) text = Has a text ⊎ Has b text
Has (without a b) text = Has a text × (Has b text → ⊥)

-- Why the first pattern that is not read isn't, in the order in which the form is written.
abbrev pub refusal : Form → Option AtByte
refusal every = None
refusal none = None
refusal (only this) = None
refusal (found pattern) = result_err (reading pattern)
refusal (both a b) = option_or (refusal a) (refusal b)
refusal (either a b) = option_or (refusal a) (refusal b)
refusal (without a b) = option_or (refusal a) (refusal b)

-- Each pattern is read, and the automaton accepts exactly the texts of the set.
pub record IsSetOf (form : Form) (a : Automaton) : Type 0 where
  pub is_read : refusal form ≡ None
  pub accepts : AcceptsOnly (Has form) a

-- The answer is the set, or the first refusal, unless memory was refused.
abbrev pub GivesSet : Result Automaton (Fault AtByte) → Form → Type 0
GivesSet (Ok a) form = IsSetOf form a
GivesSet (Err (Refused refused)) form = refusal form ≡ Some refused
GivesSet (Err NoMemory) form = ⊤
