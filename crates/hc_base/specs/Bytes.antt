-- Bytes by their names, and the bytes at the ends of a text.
use Rattle.std.specs.Prelude.{ℕ, ◌==◌, ◌||◌, List, [], ◌∷◌, Bool, false, nat_lt}

abbrev pub nul : ℕ
nul = 0

abbrev pub backspace : ℕ
backspace = 8

abbrev pub tab : ℕ
tab = 9

abbrev pub lf : ℕ
lf = 10

abbrev pub cr : ℕ
cr = 13

abbrev pub shift_out : ℕ
shift_out = 14

abbrev pub unit_separator : ℕ
unit_separator = 31

abbrev pub space : ℕ
space = 32

abbrev pub exclamation : ℕ
exclamation = 33

abbrev pub double_quote : ℕ
double_quote = 34

abbrev pub hash : ℕ
hash = 35

abbrev pub dollar : ℕ
dollar = 36

abbrev pub percent : ℕ
percent = 37

abbrev pub ampersand : ℕ
ampersand = 38

abbrev pub single_quote : ℕ
single_quote = 39

abbrev pub parenthesis_open : ℕ
parenthesis_open = 40

abbrev pub parenthesis_close : ℕ
parenthesis_close = 41

abbrev pub star : ℕ
star = 42

abbrev pub plus : ℕ
plus = 43

abbrev pub comma : ℕ
comma = 44

abbrev pub dash : ℕ
dash = 45

abbrev pub dot : ℕ
dot = 46

abbrev pub slash : ℕ
slash = 47

abbrev pub digit_zero : ℕ
digit_zero = 48

abbrev pub digit_nine : ℕ
digit_nine = 57

abbrev pub colon : ℕ
colon = 58

abbrev pub less : ℕ
less = 60

abbrev pub equals : ℕ
equals = 61

abbrev pub greater : ℕ
greater = 62

abbrev pub question : ℕ
question = 63

abbrev pub at_sign : ℕ
at_sign = 64

abbrev pub capital_a : ℕ
capital_a = 65

abbrev pub capital_d : ℕ
capital_d = 68

abbrev pub capital_f : ℕ
capital_f = 70

abbrev pub capital_s : ℕ
capital_s = 83

abbrev pub capital_w : ℕ
capital_w = 87

abbrev pub capital_z : ℕ
capital_z = 90

abbrev pub bracket_open : ℕ
bracket_open = 91

abbrev pub backslash : ℕ
backslash = 92

abbrev pub bracket_close : ℕ
bracket_close = 93

abbrev pub caret : ℕ
caret = 94

abbrev pub underscore : ℕ
underscore = 95

abbrev pub grave : ℕ
grave = 96

abbrev pub letter_a : ℕ
letter_a = 97

abbrev pub letter_d : ℕ
letter_d = 100

abbrev pub letter_f : ℕ
letter_f = 102

abbrev pub letter_s : ℕ
letter_s = 115

abbrev pub letter_w : ℕ
letter_w = 119

abbrev pub letter_x : ℕ
letter_x = 120

abbrev pub letter_z : ℕ
letter_z = 122

abbrev pub brace_open : ℕ
brace_open = 123

abbrev pub bar : ℕ
bar = 124

abbrev pub brace_close : ℕ
brace_close = 125

abbrev pub tilde : ℕ
tilde = 126

abbrev pub delete : ℕ
delete = 127

abbrev pub last_byte : ℕ
last_byte = 255

-- A control byte: one below the space, or the delete byte.
abbrev pub is_control : ℕ → Bool
is_control b = nat_lt b space || (b == delete)

abbrev pub is_question : ℕ → Bool
is_question b = b == question

abbrev pub begins_with : ℕ → List ℕ → Bool
begins_with byte [] = false
begins_with byte (b ∷ bs) = b == byte

abbrev pub ends_with : ℕ → List ℕ → Bool
ends_with byte [] = false
ends_with byte (b ∷ []) = b == byte
ends_with byte (b ∷ c ∷ bs) = ends_with byte (c ∷ bs)
