-- What the words of the command line ask for. Our own choice.
use Rattle.std.specs.Prelude.{◌≡◌, ℕ, ◌^◌, ◌-◌, List, true, Option, Some, None, Result, Ok, Err}
use Rattle.std.specs.Prelude.{if◌then◌else◌, codes, option_map}
use Rattle.clap.specs.Faults.{fault_of}
use Rattle.clap.specs.Walk.{Rule, first_of, is_empty}
use Rattle.clap.specs.Simple.{App, matches_of, new_app, new_rule, on_top, with_rule}
use Rattle.clap.specs.declared.builder.action.ArgAction.TheVariants.{Set}
use Rattle.clap.specs.declared.error.kind.ErrorKind.{ErrorKind}
use Rattle.clap.specs.declared.error.kind.ErrorKind.TheVariants.{OutOfMemory}
use Rattle.hc_words.specs.Decimal.{decimal_within}
use Rattle.hc_words.specs.declared.words.Words.{Words}
use Rattle.hc_words.specs.declared.words.WordsFault.{WordsFault}
use Rattle.hc_words.specs.declared.words.WordsFault.TheVariants.{NoMemory, Refused}
use Rattle.hc_words.specs.declared.words.TheConstants.{DEFAULT_CELLS, MOST_CELLS}

-- ---- the command, as clap reads it

-- An option that takes a text, at most once: in the next word, or after `=`.
abbrev pub option_rule : List ℕ → Rule
option_rule name = record (new_rule name) { long = Some name; action = Some Set }

-- A command without flags of its own. Its words begin behind the program's name.
abbrev pub bare : App
bare = on_top (λ shape. record shape { no_binary_name = true; disable_help_flag = true; disable_version_flag = true })
    (new_app (codes "hc"))

-- It has two options.
abbrev pub command : App
command = with_rule (with_rule bare (option_rule (codes "cells"))) (option_rule (codes "generate"))

-- ---- what the values ask for

abbrev pub cells_of : Option (List ℕ) → Option ℕ
cells_of None = Some DEFAULT_CELLS
cells_of (Some text) = decimal_within 1 MOST_CELLS text

abbrev pub seed_of : Option (List ℕ) → Option (Option ℕ)
seed_of None = Some None
seed_of (Some text) = option_map (λ n. Some n) (decimal_within 0 (2 ^ 64 - 1) text)

abbrev pub both : Option ℕ → Option (Option ℕ) → Option Words
both (Some cells) (Some seed) = Some (record { cells = cells; generate = seed })
both (Some cells) None = None
both None seed = None

-- What the values of the two options ask for, where each has its form.
abbrev pub words_from : Option (List ℕ) → Option (List ℕ) → Option Words
words_from cells generate = both (cells_of cells) (seed_of generate)

-- The text that the words give an option of this name.
abbrev pub text_of : List (List ℕ) → List ℕ → Option (List ℕ)
text_of words name = first_of name (matches_of command words)

-- The words ask for something where the command has no fault at them, and each value its form.
abbrev pub words_of : List (List ℕ) → Option Words
words_of words =
    if is_empty (fault_of command words) then words_from (text_of words (codes "cells"))
    (text_of words (codes "generate"))
    else None

-- A parse fails for want of memory, or at a fault of the words.
abbrev pub fault_by : ErrorKind → WordsFault
fault_by OutOfMemory = NoMemory
fault_by other = Refused

-- A call that finds memory answers just that.
abbrev pub Reads : Result Words WordsFault → Option Words → Type 0
Reads (Ok words) wanted = wanted ≡ Some words
Reads (Err Refused) wanted = wanted ≡ None
Reads (Err NoMemory) wanted = Unit {0}
