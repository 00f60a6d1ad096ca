-- What a line says to those behind it: variables, modules and the server root.
-- Apache manual, core, Define, IfDefine, IfModule and ServerRoot; mod_so, LoadModule. The list of the
-- modules that are always there is our own choice.
use Rattle.std.specs.Prelude.{ℕ, ◌==◌, List, [], ◌∷◌, ◌++◌, drop, length, map, Bool, true, false, not}
use Rattle.std.specs.Prelude.{◌&&◌, ◌||◌, Option, Some, None, Result, Ok, Err, if◌then◌else◌, is_some}
use Rattle.std.specs.Prelude.{codes}
use Rattle.std.specs.List.{flat_map, fold, list_any}
use Rattle.std.specs.Str.{bytes_eq, str_eq_ignore_ascii_case}
use Rattle.hc_base.specs.Bytes.{begins_with, exclamation}
use Rattle.hc_base.specs.Lines.{between_blanks}
use Rattle.hc_base.specs.Paths.{begins_with_slash}
use Rattle.hc_base.specs.Rules.{rule}
use Rattle.hc_base.specs.declared.codes.TheConstants.{BAD_DEFINE_NAME}
use Rattle.hc_base.specs.declared.fault.AtByte.{AtByte}
use Rattle.hc_lines.specs.Words.{conf_spelling, read_words}
use Rattle.hc_model.specs.declared.config.Define as model
use Rattle.hc_says.specs.declared.says.Says.{Says}
use Rattle.hc_says.specs.declared.says.Says.TheVariants.{Nothing, Define, Loads, Roots, Includes}
use Rattle.hc_says.specs.Variables.{ends_name}

abbrev pub is_named : List ℕ → List ℕ → Bool
is_named wanted name = str_eq_ignore_ascii_case wanted name

-- ---- by the name and the words of a directive

abbrev pub define_said : List (List ℕ) → Says
define_said (name ∷ []) = Define name None
define_said (name ∷ value ∷ []) = Define name (Some value)
define_said words = Nothing

abbrev pub module_said : List (List ℕ) → Says
module_said [] = Nothing
module_said (name ∷ words) = Loads name

abbrev pub root_said : List (List ℕ) → Says
root_said (path ∷ []) = if begins_with_slash path then Roots path else Nothing
root_said words = Nothing

-- An Include of any other number of words is left to the configuration to refuse.
abbrev pub include_said : Bool → List (List ℕ) → Says
include_said optional (path ∷ []) = Includes optional path
include_said optional words = Nothing

abbrev pub said_by : List ℕ → List (List ℕ) → Says
said_by name words =
    if is_named (codes "Define") name then define_said words
    else if is_named (codes "Include") name then include_said false words
    else if is_named (codes "IncludeOptional") name then include_said true words
    else if is_named (codes "LoadModule") name then module_said words
    else if is_named (codes "ServerRoot") name then root_said words
    else Nothing

-- ---- refusals

-- The reading needs the words of these.
abbrev pub needs_words : List ℕ → Bool
needs_words name =
    is_named (codes "Define") name || is_named (codes "Include") name || is_named (codes "IncludeOptional") name
    || is_named (codes "LoadModule") name || is_named (codes "ServerRoot") name

abbrev pub is_define_name : List ℕ → Bool
is_define_name name = not (length name == 0) && not (list_any ends_name name)

abbrev pub unless_bad_name : Says → Result Says AtByte
unless_bad_name (Define name value) = if is_define_name name then Ok (Define name value) else Err (rule BAD_DEFINE_NAME)
unless_bad_name says = Ok says

abbrev pub said_unless : List ℕ → Result (List (List ℕ)) AtByte → Result Says AtByte
said_unless name (Err broken) = Err broken
said_unless name (Ok words) = unless_bad_name (said_by name words)

-- What a directive of this name says, with this behind the name.
abbrev pub said_of : List ℕ → List ℕ → Result Says AtByte
said_of name rest = if needs_words name then said_unless name (read_words conf_spelling rest) else Ok Nothing

-- ---- what was said so far

abbrev pub with_define : List model.Define → Says → List model.Define
with_define defines (Define name value) = defines ++ record { name = name; value = value } ∷ []
with_define defines says = defines

abbrev pub with_module : List (List ℕ) → Says → List (List ℕ)
with_module modules (Loads name) = modules ++ name ∷ []
with_module modules says = modules

abbrev pub with_root : Option (List ℕ) → Says → Option (List ℕ)
with_root root (Roots path) = Some path
with_root root says = root

abbrev pub is_among : List (List ℕ) → List ℕ → Bool
is_among names name = list_any (λ other. bytes_eq other name) names

abbrev pub is_defined : List model.Define → List ℕ → Bool
is_defined defines name = is_among (map (λ define. define.name) defines) name

-- The value of the last Define of a name that has one.
abbrev pub or_value : List ℕ → Option (List ℕ) → model.Define → Option (List ℕ)
or_value name before define = if bytes_eq define.name name && is_some define.value then define.value else before

abbrev pub value_of : List model.Define → List ℕ → Option (List ℕ)
value_of defines name = fold (or_value name) None defines

-- The modules that are there without LoadModule, each as the file and as the module.
abbrev pub standard_modules : List (List ℕ)
standard_modules =
    between_blanks (codes "so alias rewrite authz_core authz_host dir mime log_config headers expires")
    ++ between_blanks (codes "setenvif env deflate filter autoindex negotiation status ssl unixd")

abbrev pub built_in : List (List ℕ)
built_in =
    codes "core.c" ∷ codes "core_module"
    ∷ flat_map (λ name. (codes "mod_" ++ name ++ codes ".c") ∷ (name ++ codes "_module") ∷ []) standard_modules

-- ---- IfDefine and IfModule

abbrev pub is_condition : List ℕ → Bool
is_condition name = is_named (codes "IfDefine") name || is_named (codes "IfModule") name

-- What a condition of this name tests a word for.
abbrev pub holds : List model.Define → List (List ℕ) → List ℕ → List ℕ → Bool
holds defines modules name word = if is_named (codes "IfDefine") name then is_defined defines word
    else is_among modules word

-- A `!` before the word reverses the test.
abbrev pub tested : (List ℕ → Bool) → List ℕ → Bool
tested test word = if begins_with exclamation word then not (test (drop 1 word)) else test word

-- Another number of words than one keeps nothing.
abbrev pub one_word : (List ℕ → Bool) → List (List ℕ) → Bool
one_word test (word ∷ []) = tested test word
one_word test words = false

abbrev pub kept_by : (List ℕ → Bool) → Result (List (List ℕ)) AtByte → Result Bool AtByte
kept_by test (Err broken) = Err broken
kept_by test (Ok words) = Ok (one_word test words)

-- A section of this name, with this behind the name, keeps its body.
abbrev pub body_kept : List model.Define → List (List ℕ) → List ℕ → List ℕ → Result Bool AtByte
body_kept defines modules name rest =
    if is_condition name then kept_by (holds defines modules name) (read_words conf_spelling rest) else Ok true
