-- The two forms of rows, for the functions that read both.
use Rattle.std.specs.Prelude.{ℕ, ◌==◌, ◌+◌, ◌*◌, List, nat_lt, Option, Some, None, if◌then◌else◌}
use Rattle.std.specs.List.{slice_split}
use Rattle.hc_base.specs.Bytes.{colon, dot}
use Rattle.hc_addr.specs.declared.numbers.Form.{Form}
use Rattle.hc_addr.specs.declared.numbers.Form.TheVariants.{Dotted, Coloned}
use Rattle.hc_addr.specs.declared.numbers.NumberRow.{NumberRow}
use Rattle.hc_addr.specs.declared.sizes.TheConstants.{BYTES, BYTE_VALUES, GROUPS, GROUP_VALUES}
use Rattle.hc_addr.specs.Numbers.{byte_of, group_of, numbers_of, row_of}

-- What a form has: its separator, how it writes a number, how many values a number has, and how many
-- numbers stand in a row at most.
abbrev pub separator_of : Form → ℕ
separator_of Dotted = dot
separator_of Coloned = colon

abbrev pub number_in : Form → List ℕ → Option ℕ
number_in Dotted text = byte_of text
number_in Coloned text = group_of text

abbrev pub base_of : Form → ℕ
base_of Dotted = BYTE_VALUES
base_of Coloned = GROUP_VALUES

abbrev pub most_of : Form → ℕ
most_of Dotted = BYTES
most_of Coloned = GROUPS

abbrev pub row_in : Form → List ℕ → Option NumberRow
row_in form text =
    row_of (base_of form) (most_of form) (numbers_of (number_in form) (slice_split (λ b. b == separator_of form) text))

-- The row with one number more, if there is room.
abbrev pub row_with : ℕ → ℕ → NumberRow → Option ℕ → Option NumberRow
row_with base most row None = None
row_with base most row (Some n) = if nat_lt row.count most
    then Some (record { value = row.value * base + n; count = row.count + 1 }) else None
