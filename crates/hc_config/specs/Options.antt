-- The words of Options and of AllowOverride.
-- Apache manual, core: Options, AllowOverride. That `+None` and `-None` do nothing, and that a line without
-- signs is the union of its words, is our own choice.
use Rattle.std.specs.Prelude.{ℕ, ◌==◌, List, [], ◌∷◌, ◌++◌, Bool, true, false, not, ◌&&◌, filter}
use Rattle.std.specs.Prelude.{Option, Some, None}
use Rattle.std.specs.Prelude.{option_map, Result, Ok, Err, codes, if◌then◌else◌}
use Rattle.std.specs.List.{fold, list_all, list_any}
use Rattle.std.specs.Str.{str_eq_ignore_ascii_case}
use Rattle.hc_base.specs.Bytes.{dash, plus}
use Rattle.hc_base.specs.Rules.{rule}
use Rattle.hc_base.specs.declared.codes.TheConstants.{MIXED_OPTIONS}
use Rattle.hc_base.specs.declared.fault.AtByte.{AtByte}
use Rattle.hc_model.specs.declared.section.Allowed.{Allowed}
use Rattle.hc_model.specs.declared.section.OptStep.{OptStep}
use Rattle.hc_table.specs.Options.{class_rows, is_option, option_rows}
use Rattle.hc_table.specs.Table.{find_in}
use Rattle.hc_table.specs.declared.directive.Class.{Class}
use Rattle.hc_table.specs.declared.directive.Class.TheVariants as class
use Rattle.hc_table.specs.declared.option_name.OptionName.{OptionName}
use Rattle.hc_table.specs.declared.option_name.OptionName.TheVariants.{ExecCgi, FollowSymLinks, Includes}
use Rattle.hc_table.specs.declared.option_name.OptionName.TheVariants.{IncludesNoExec, Indexes, SymLinksIfOwnerMatch}
use Rattle.hc_table.specs.declared.option_name.OptionWord.{OptionWord}
use Rattle.hc_table.specs.declared.option_name.OptionWord.TheVariants.{All, Nothing, One}
use Rattle.hc_config.specs.Targets.{wrong}
use Rattle.hc_config.specs.declared.options.Sign.{Sign}
use Rattle.hc_config.specs.declared.options.Sign.TheVariants.{Add, Take, Unsigned}
use Rattle.hc_config.specs.declared.options.Signed.{Signed}

-- ---- options

-- `None` is no option, and `All` stands for all but MultiViews.
abbrev pub options_of : OptionWord → List OptionName
options_of Nothing = []
options_of All = Indexes ∷ Includes ∷ IncludesNoExec ∷ FollowSymLinks ∷ SymLinksIfOwnerMatch ∷ ExecCgi ∷ []
options_of (One option) = option ∷ []

-- A word's option, with its sign.
abbrev pub with_sign : Sign → Option OptionWord → Option Signed
with_sign sign None = None
with_sign sign (Some option) = Some (record { sign = sign; option = option })

abbrev pub signed_of : List ℕ → Option Signed
signed_of [] = None
signed_of (b ∷ name) =
    if b == plus then with_sign Add (find_in option_rows name)
    else if b == dash then with_sign Take (find_in option_rows name)
    else with_sign Unsigned (find_in option_rows (b ∷ name))

abbrev pub has_none : Sign → Bool
has_none Add = false
has_none Take = false
has_none Unsigned = true

abbrev pub is_unsigned : Signed → Bool
is_unsigned word = has_none word.sign

-- Options without these.
abbrev pub is_apart : List OptionName → OptionName → Bool
is_apart options option = not (list_any (is_option option) options)

abbrev pub without : List OptionName → List OptionName → List OptionName
without options held = filter (is_apart options) held

-- Words take effect in their order.
abbrev pub added : OptStep → List OptionName → OptStep
added step options = record step { add = step.add ++ options; take = without options step.take }

abbrev pub taken : OptStep → List OptionName → OptStep
taken step options = record step { add = without options step.add; take = step.take ++ options }

abbrev pub with_options : OptStep → Sign → List OptionName → OptStep
with_options step Add options = added step options
with_options step Take options = taken step options
with_options step Unsigned options = added step options

abbrev pub with_word : OptStep → Signed → OptStep
with_word step word = with_options step word.sign (options_of word.option)

-- Words without signs replace what was in force.
abbrev pub step_of : List Signed → OptStep
step_of words = fold with_word (record { replace = list_any is_unsigned words; add = []; take = [] }) words

abbrev pub is_mixed : List Signed → Bool
is_mixed words = list_any is_unsigned words && not (list_all is_unsigned words)

abbrev pub unless_mixed : List Signed → Result OptStep AtByte
unless_mixed words = if is_mixed words then Err (rule MIXED_OPTIONS) else Ok (step_of words)

-- All words behind these, or none where one is no option.
abbrev pub signed_next : Option Signed → (Signed → Option (List Signed)) → Option (List Signed)
signed_next None more = None
signed_next (Some word) more = more word

abbrev pub signed_from : List Signed → List (List ℕ) → Option (List Signed)
signed_from signed [] = Some signed
signed_from signed (word ∷ words) = signed_next (signed_of word) (λ next. signed_from (signed ++ next ∷ []) words)

abbrev pub all_signed : List (List ℕ) → Option (List Signed)
all_signed words = signed_from [] words

abbrev pub step_by : Option (List Signed) → Result OptStep AtByte
step_by None = Err wrong
step_by (Some words) = unless_mixed words

abbrev pub options_step : List (List ℕ) → Result OptStep AtByte
options_step [] = Err wrong
options_step (word ∷ words) = step_by (all_signed (word ∷ words))

-- ---- classes

abbrev pub nothing_allowed : Allowed
nothing_allowed = record { auth = false; file_info = false; indexes = false; limit = false; options = false }

abbrev pub all_allowed : Allowed
all_allowed = record { auth = true; file_info = true; indexes = true; limit = true; options = true }

abbrev pub allowing : Allowed → Class → Allowed
allowing allowed class.AuthConfig = record allowed { auth = true }
allowing allowed class.FileInfo = record allowed { file_info = true }
allowing allowed class.Indexes = record allowed { indexes = true }
allowing allowed class.Limit = record allowed { limit = true }
allowing allowed class.Options = record allowed { options = true }

abbrev pub with_class : Allowed → List ℕ → Option Allowed
with_class allowed word = option_map (allowing allowed) (find_in class_rows word)

abbrev pub classes_next : Option Allowed → (Allowed → Result Allowed AtByte) → Result Allowed AtByte
classes_next None more = Err wrong
classes_next (Some allowed) more = more allowed

-- One or more classes.
abbrev pub classes_from : Allowed → List (List ℕ) → Result Allowed AtByte
classes_from allowed [] = Ok allowed
classes_from allowed (word ∷ words) = classes_next (with_class allowed word) (λ later. classes_from later words)

-- A word alone may be `All` or `None`.
abbrev pub allowed_alone : List ℕ → Result Allowed AtByte
allowed_alone word =
    if str_eq_ignore_ascii_case (codes "All") word then Ok all_allowed
    else if str_eq_ignore_ascii_case (codes "None") word then Ok nothing_allowed
    else classes_from nothing_allowed (word ∷ [])

abbrev pub allowed_by : List (List ℕ) → Result Allowed AtByte
allowed_by [] = Err wrong
allowed_by (word ∷ []) = allowed_alone word
allowed_by (word ∷ other ∷ words) = classes_from nothing_allowed (word ∷ other ∷ words)
