-- The numbers of the rules that a refusal names, and their names as they are printed. Our own choice.
use Rattle.std.specs.Prelude.{ℕ, ◌==◌, List, [], ◌∷◌, if◌then◌else◌, codes}
use Rattle.hc_base.specs.declared.codes.TheConstants.{UNSUPPORTED_DIRECTIVE, WRONG_CONTEXT, WRONG_ARGUMENTS}
use Rattle.hc_base.specs.declared.codes.TheConstants.{UNCLOSED_SECTION, UNMATCHED_CLOSE, UNCLOSED_QUOTE, LINE_TOO_LONG}
use Rattle.hc_base.specs.declared.codes.TheConstants.{INCLUDE_MISSING, INCLUDE_CYCLE, INCLUDE_TOO_DEEP, NO_SERVER_ROOT}
use Rattle.hc_base.specs.declared.codes.TheConstants.{BAD_DEFINE_NAME, PATTERN_UNSUPPORTED, PATTERN_SYNTAX}
use Rattle.hc_base.specs.declared.codes.TheConstants.{PATTERN_TOO_LARGE, EMPTY_LOOP, BAD_FLAG, UNSUPPORTED_FLAG}
use Rattle.hc_base.specs.declared.codes.TheConstants.{UNSUPPORTED_VARIABLE, UNSUPPORTED_CONDITION, NEGATED_IN_ANY}
use Rattle.hc_base.specs.declared.codes.TheConstants.{NEGATED_IN_NONE, ONLY_NEGATIVE, EMPTY_CONTAINER, MIXED_OPTIONS}
use Rattle.hc_base.specs.declared.codes.TheConstants.{BAD_ADDRESS, NO_DOCUMENT_ROOT, VHOST_ADDRESS}
use Rattle.hc_base.specs.declared.codes.TheConstants.{OVERRIDE_NOT_ALLOWED, NESTED_TOO_DEEP, CONTROL_BYTE}
use Rattle.hc_base.specs.declared.codes.TheConstants.{BAD_EXPRESSION, REDIRECT_WITHOUT_LAST, REWRITE_CONTEXT}
use Rattle.hc_base.specs.declared.codes.TheConstants.{CONTENT_MISSING, MAP_FORM, NO_SUCH_PATH, PATH_FORM, UNDER_FILE}
use Rattle.hc_base.specs.declared.codes.TheConstants.{BAD_RANGE, SET_SYNTAX, BAD_JSON, BAD_COMMAND, IS_DIRECTORY}
use Rattle.hc_base.specs.declared.codes.TheConstants.{NO_SUCH_PLACE}

-- Each rule with its name.
abbrev pub named_codes : List (ℕ × List ℕ)
named_codes =
    (UNSUPPORTED_DIRECTIVE, codes "UnsupportedDirective") ∷
    (WRONG_CONTEXT, codes "WrongContext") ∷
    (WRONG_ARGUMENTS, codes "WrongArguments") ∷
    (UNCLOSED_SECTION, codes "UnclosedSection") ∷
    (UNMATCHED_CLOSE, codes "UnmatchedClose") ∷
    (UNCLOSED_QUOTE, codes "UnclosedQuote") ∷
    (LINE_TOO_LONG, codes "LineTooLong") ∷
    (INCLUDE_MISSING, codes "IncludeMissing") ∷
    (INCLUDE_CYCLE, codes "IncludeCycle") ∷
    (INCLUDE_TOO_DEEP, codes "IncludeTooDeep") ∷
    (NO_SERVER_ROOT, codes "NoServerRoot") ∷
    (BAD_DEFINE_NAME, codes "BadDefineName") ∷
    (PATTERN_UNSUPPORTED, codes "PatternUnsupported") ∷
    (PATTERN_SYNTAX, codes "PatternSyntax") ∷
    (PATTERN_TOO_LARGE, codes "PatternTooLarge") ∷
    (EMPTY_LOOP, codes "EmptyLoop") ∷
    (BAD_FLAG, codes "BadFlag") ∷
    (UNSUPPORTED_FLAG, codes "UnsupportedFlag") ∷
    (UNSUPPORTED_VARIABLE, codes "UnsupportedVariable") ∷
    (UNSUPPORTED_CONDITION, codes "UnsupportedCondition") ∷
    (NEGATED_IN_ANY, codes "NegatedInAny") ∷
    (NEGATED_IN_NONE, codes "NegatedInNone") ∷
    (ONLY_NEGATIVE, codes "OnlyNegative") ∷
    (EMPTY_CONTAINER, codes "EmptyContainer") ∷
    (MIXED_OPTIONS, codes "MixedOptions") ∷
    (BAD_ADDRESS, codes "BadAddress") ∷
    (NO_DOCUMENT_ROOT, codes "NoDocumentRoot") ∷
    (VHOST_ADDRESS, codes "VhostAddress") ∷
    (OVERRIDE_NOT_ALLOWED, codes "OverrideNotAllowed") ∷
    (NESTED_TOO_DEEP, codes "NestedTooDeep") ∷
    (CONTROL_BYTE, codes "ControlByte") ∷
    (BAD_EXPRESSION, codes "BadExpression") ∷
    (REDIRECT_WITHOUT_LAST, codes "RedirectWithoutLast") ∷
    (REWRITE_CONTEXT, codes "RewriteContext") ∷
    (CONTENT_MISSING, codes "ContentMissing") ∷
    (MAP_FORM, codes "MapForm") ∷
    (NO_SUCH_PATH, codes "NoSuchPath") ∷
    (PATH_FORM, codes "PathForm") ∷
    (UNDER_FILE, codes "UnderFile") ∷
    (BAD_RANGE, codes "BadRange") ∷
    (SET_SYNTAX, codes "SetSyntax") ∷
    (BAD_JSON, codes "BadJson") ∷
    (BAD_COMMAND, codes "BadCommand") ∷
    (IS_DIRECTORY, codes "IsDirectory") ∷
    (NO_SUCH_PLACE, codes "NoSuchPlace") ∷
    []

-- The name that a table gives a number; empty where it gives none.
abbrev pub name_among : List (ℕ × List ℕ) → ℕ → List ℕ
name_among [] code = []
name_among (row ∷ rows) code = if row.0 == code then row.1 else name_among rows code

abbrev pub name_of_code : ℕ → List ℕ
name_of_code code = name_among named_codes code
