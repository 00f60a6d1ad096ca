-- An edit of physical lines, and how much of the text that it leaves is made of new logical lines.
use Rattle.std.specs.Prelude.{ℕ, ◌+◌, ◌-◌, List, [], ◌∷◌, ◌++◌, length, take, drop, map}
use Rattle.std.specs.Prelude.{Bool, not, ◌&&◌, ◌||◌, if◌then◌else◌, nat_le, nat_lt}
use Rattle.std.specs.List.{concat, flat_map}
use Rattle.hc_base.specs.Bytes.{ends_with, lf}
use Rattle.hc_base.specs.Lines.{pieces}
use Rattle.hc_lines.specs.Logical.{is_nothing, joins, runs}

-- Of so many physical lines, counted from 1, these are some, or none before the first of them.
abbrev pub is_range : ℕ → ℕ → ℕ → Bool
is_range lines from to = nat_le 1 from && nat_le from (lines + 1) && nat_le (from - 1) to && nat_le to lines

-- The physical lines up to one, and those behind it, as texts.
abbrev pub up_to : ℕ → List ℕ → List ℕ
up_to line text = flat_map (λ piece. piece) (take line (pieces text))

abbrev pub behind : ℕ → List ℕ → List ℕ
behind line text = flat_map (λ piece. piece) (drop line (pieces text))

-- The physical lines from one to another are replaced, with their LFs, by a text as it stands.
abbrev pub spliced : List ℕ → ℕ → ℕ → List ℕ → List ℕ
spliced text from to new = up_to (from - 1) text ++ new ++ behind to text

-- ---- where logical lines end

-- No logical line goes on behind the text: it is empty, or ends in an LF that no backslash stands before.
abbrev pub is_ended : List ℕ → Bool
is_ended text = is_nothing text || (ends_with lf text && not (joins text))

-- The logical lines of a text, each with all its bytes.
abbrev pub logical : List ℕ → List (List ℕ)
logical text = map concat (runs (pieces text))

abbrev pub last_of : List (List ℕ) → List ℕ
last_of [] = []
last_of (line ∷ []) = line
last_of (line ∷ next ∷ lines) = last_of (next ∷ lines)

-- The last logical line of a text, where it isn't ended and goes on with what follows the text.
abbrev pub open_line : List ℕ → List ℕ
open_line text = if is_ended text then [] else last_of (logical text)

-- ---- what an edit touches

-- The bytes of the text behind an edit that stand before the first place at which a logical line ends both in the old
-- text and in the new one, where it stands behind these two texts.
abbrev pub touched : List ℕ → List ℕ → List ℕ → List ℕ
touched was now [] = []
touched was now (b ∷ bs) =
    if is_ended was && is_ended now then [] else b ∷ touched (was ++ b ∷ []) (now ++ b ∷ []) bs

-- The open line in front of an edit, the new text, and what is touched behind it, in bytes.
abbrev pub bytes_made : List ℕ → ℕ → ℕ → List ℕ → ℕ
bytes_made text from to new =
    length (open_line (up_to (from - 1) text)) + length new
    + length (touched (up_to to text) (up_to (from - 1) text ++ new) (behind to text))

-- Nothing is replaced by nothing.
abbrev pub is_idle : ℕ → ℕ → List ℕ → Bool
is_idle from to new = is_nothing new && nat_lt to from

-- How many bytes the logical lines have that an edit makes: those that aren't made of the same unreplaced physical
-- lines as one before.
abbrev pub anew : List ℕ → ℕ → ℕ → List ℕ → ℕ
anew text from to new = if is_idle from to new then 0 else bytes_made text from to new
