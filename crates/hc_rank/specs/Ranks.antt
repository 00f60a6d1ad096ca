-- Rules whose form makes the text shorter. Our own choice.
use Rattle.std.specs.Prelude.{ℕ, ◌+◌, ◌*◌, ◌&&◌, ◌||◌, not, min, nat_lt, nat_le, nat_eq, Bool, true}
use Rattle.std.specs.Prelude.{false, List, [], ◌∷◌, length, Option, None, Some, if◌then◌else◌}
use Rattle.std.specs.List.{list_all, list_any, sum_by, flat_map}
use Rattle.hc_pattern.specs.Pattern.{Pattern, empty, byte, class, start, finish, cat, alt, group, repeat}
use Rattle.hc_model.specs.declared.rewrite.Flags.{Flags}
use Rattle.hc_model.specs.declared.rewrite.Rule.{Rule}
use Rattle.hc_model.specs.declared.template.Piece.{Piece}
use Rattle.hc_model.specs.declared.template.Piece.TheVariants.{Bytes, Group}

-- ---- patterns

abbrev pub is_used : List ℕ → ℕ → Bool
is_used used number = list_any (nat_eq number) used

-- The least number of bytes that a match takes outside the used groups.
abbrev pub least_rest : List ℕ → Pattern → ℕ
least_rest used empty = 0
least_rest used (byte b) = 1
least_rest used (class set) = 1
least_rest used start = 0
least_rest used finish = 0
least_rest used (cat first second) = least_rest used first + least_rest used second
least_rest used (alt first second) = min (least_rest used first) (least_rest used second)
least_rest used (group number body) = if is_used used number then 0 else least_rest used body
least_rest used (repeat body least most greedy) = least * least_rest used body

-- A count stops growing at the greatest number of 32 bits.
abbrev pub counted : ℕ → ℕ
counted = min 4294967295

-- Whether a used group stands in the pattern.
abbrev pub has_used : List ℕ → Pattern → Bool
has_used used empty = false
has_used used (byte b) = false
has_used used (class set) = false
has_used used start = false
has_used used finish = false
has_used used (cat first second) = has_used used first || has_used used second
has_used used (alt first second) = has_used used first || has_used used second
has_used used (group number body) = is_used used number || has_used used body
has_used used (repeat body least most greedy) = has_used used body

-- Whether a used group lies inside another one.
abbrev pub nests : List ℕ → Pattern → Bool
nests used empty = false
nests used (byte b) = false
nests used (class set) = false
nests used start = false
nests used finish = false
nests used (cat first second) = nests used first || nests used second
nests used (alt first second) = nests used first || nests used second
nests used (group number body) = (is_used used number && has_used used body) || nests used body
nests used (repeat body least most greedy) = nests used body

-- ---- templates

-- Bytes and groups of the rule's pattern alone, but not the whole match.
abbrev pub is_plain_piece : Piece → Bool
is_plain_piece (Bytes text) = true
is_plain_piece (Group number) = nat_lt 0 number
is_plain_piece other = false

abbrev pub group_in : Piece → List ℕ
group_in (Group number) = number ∷ []
group_in other = []

-- The groups of a template, in order.
abbrev pub groups_in : List Piece → List ℕ
groups_in = flat_map group_in

abbrev pub has_twice : List ℕ → Bool
has_twice [] = false
has_twice (number ∷ numbers) = is_used numbers number || has_twice numbers

-- A template that holds each used part of a match once.
abbrev pub is_plain : Pattern → List Piece → Bool
is_plain pattern template =
    list_all is_plain_piece template && not (has_twice (groups_in template)) && not (nests (groups_in template) pattern)

abbrev pub bytes_in : Piece → ℕ
bytes_in (Bytes text) = length text
bytes_in other = 0

-- How many bytes a template adds.
abbrev pub added : List Piece → ℕ
added = sum_by bytes_in

-- ---- rules

-- The text behind such a substitution is at least so many bytes shorter than the one that was matched.
abbrev pub shortens_by : ℕ → Rule → Bool
shortens_by less rule = shortens less rule.pat rule.subst
  where
    shortens : ℕ → Pattern → Option (List Piece) → Bool
    shortens less pattern None = false
    shortens less pattern (Some template) = is_plain pattern template
        && nat_le (added template + less) (least_rest (groups_in template) pattern)

abbrev pub is_shorter : Rule → Bool
is_shorter rule = not rule.negated && shortens_by 1 rule

abbrev pub is_not_longer : Rule → Bool
is_not_longer rule = not rule.negated && shortens_by 0 rule

-- Behind the rule no other one of the list sees the text.
abbrev pub stops_list : Flags → Bool
stops_list flags = flags.forbid || flags.gone || flags.pass || flags.end || flags.last

abbrev pub redirects : Flags → Bool
redirects flags = nat_lt 0 flags.redirect

abbrev pub has_substitution : Rule → Bool
has_substitution rule = is_there rule.subst
  where
    is_there : Option (List Piece) → Bool
    is_there None = false
    is_there (Some template) = true

-- Rounds that get shorter end before this many: no text has more than 8,190 bytes.
abbrev pub enough_rounds : ℕ
enough_rounds = 8192

-- A rule that begins a round. In a directory's list it discards the path information, too.
abbrev pub begins_shorter : Bool → Rule → Bool
begins_shorter directory rule = is_shorter rule && nat_le enough_rounds rule.flags.rounds
    && (not directory || rule.flags.discard)

abbrev pub fits : Bool → Rule → Bool
fits directory rule = if stops_list rule.flags then true
    else if rule.flags.next then begins_shorter directory rule
    else if redirects rule.flags || not (has_substitution rule) then true
    else is_not_longer rule

-- All rules of a list have the form.
abbrev pub shrinks : Bool → List Rule → Bool
shrinks directory = list_all (fits directory)
