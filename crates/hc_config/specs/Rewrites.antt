-- The words of the directives of rewriting, and of LimitInternalRecursion.
-- Apache manual, mod_rewrite: RewriteEngine, RewriteBase, RewriteCond, RewriteRule, RewriteOptions, RewriteMap; core,
-- LimitInternalRecursion. Which sources of maps there are, the range of a limit, and that a rule which redirects has L
-- or
-- END where another follows, is our own choice.
use Rattle.std.specs.Prelude.{ℕ, ◌==◌, List, [], ◌∷◌, length, take, drop, Bool, true, false, not, ◌&&◌}
use Rattle.std.specs.Prelude.{◌||◌, nat_le, if◌then◌else◌, codes}
use Rattle.std.specs.Prelude.{Option, Some, None, Result, Ok, Err}
use Rattle.std.specs.Str.{str_eq_ignore_ascii_case}
use Rattle.hc_addr.specs.Numbers.{at_most, decimal_of}
use Rattle.hc_base.specs.Paths.{begins_with_slash}
use Rattle.hc_base.specs.Rules.{rule}
use Rattle.hc_base.specs.declared.codes.TheConstants.{MAP_FORM, REDIRECT_WITHOUT_LAST}
use Rattle.hc_base.specs.declared.fault.AtByte.{AtByte}
use Rattle.hc_model.specs.declared.entry.Entry.{Entry}
use Rattle.hc_model.specs.declared.entry.EntryForm.{EntryForm}
use Rattle.hc_model.specs.declared.entry.EntryForm.TheVariants.{Close, Directive, Opening}
use Rattle.hc_model.specs.declared.mapping.Map.{Map}
use Rattle.hc_model.specs.declared.mapping.MapKind.{MapKind}
use Rattle.hc_model.specs.declared.mapping.MapKind.TheVariants as kind
use Rattle.hc_model.specs.declared.rewrite.Flags.{Flags}
use Rattle.hc_model.specs.declared.rewrite.Rule.{Rule}
use Rattle.hc_model.specs.declared.section.Inherit.{Inherit}
use Rattle.hc_model.specs.declared.section.Inherit.TheVariants.{After, Before}
use Rattle.hc_model.specs.declared.spot.Spot.{Spot}
use Rattle.hc_rw_parse.specs.Rules.{rule_of}
use Rattle.hc_table.specs.Directives.{meaning_of}
use Rattle.hc_table.specs.declared.directive.Directive.TheVariants as directive
use Rattle.hc_table.specs.declared.directive.Meaning.{Meaning}
use Rattle.hc_table.specs.declared.directive.Meaning.TheVariants as meaning
use Rattle.hc_target.specs.Urls.{is_url}
use Rattle.hc_template.specs.MapNames.{is_map_name}
use Rattle.hc_config.specs.Kinds.{is_transparent}
use Rattle.hc_config.specs.Targets.{wrong}
use Rattle.hc_config.specs.declared.rewriting.TheConstants.{MOST_RECURSIONS}

-- ---- words

abbrev pub named : {A : Type 0} → List (List ℕ × A) → List ℕ → Result A AtByte
named [] word = Err wrong
named (row ∷ rows) word = if str_eq_ignore_ascii_case row.0 word then Ok row.1 else named rows word

abbrev pub one_named : {A : Type 0} → List (List ℕ × A) → List (List ℕ) → Result A AtByte
one_named rows (word ∷ []) = named rows word
one_named rows words = Err wrong

abbrev pub engine_of : List (List ℕ) → Result Bool AtByte
engine_of words = one_named ((codes "On", true) ∷ (codes "Off", false) ∷ []) words

abbrev pub inherit_of : List (List ℕ) → Result Inherit AtByte
inherit_of words = one_named ((codes "Inherit", After) ∷ (codes "InheritBefore", Before) ∷ []) words

-- One path, which begins with a slash.
abbrev pub base_of : List (List ℕ) → Result (List ℕ) AtByte
base_of (path ∷ []) = if begins_with_slash path then Ok path else Err wrong
base_of words = Err wrong

-- A decimal number from 1 to 1,000.
abbrev pub in_limits : Option ℕ → Result ℕ AtByte
in_limits None = Err wrong
in_limits (Some number) = if nat_le 1 number then Ok number else Err wrong

abbrev pub limit_of : List ℕ → Result ℕ AtByte
limit_of word = in_limits (at_most MOST_RECURSIONS (decimal_of word))

-- Of subrequests there are none.
abbrev pub before_limit : Result ℕ AtByte → Result ℕ AtByte → Result ℕ AtByte
before_limit (Err broken) second = Err broken
before_limit (Ok first) (Err broken) = Err broken
before_limit (Ok first) (Ok second) = Ok first

-- One limit or two, of which the first counts.
abbrev pub recursion_of : List (List ℕ) → Result ℕ AtByte
recursion_of (first ∷ []) = limit_of first
recursion_of (first ∷ second ∷ []) = before_limit (limit_of first) (limit_of second)
recursion_of words = Err wrong

-- ---- maps

abbrev pub text_front : List ℕ
text_front = codes "txt:"

-- `txt:` and a path that begins with a slash, `int:toupper` or `int:tolower`.
abbrev pub map_kind : List ℕ → Option MapKind
map_kind source =
    if str_eq_ignore_ascii_case (codes "int:toupper") source then Some kind.Upper
    else (if str_eq_ignore_ascii_case (codes "int:tolower") source then Some kind.Lower
    else (if str_eq_ignore_ascii_case text_front (take (length text_front) source) && begins_with_slash
    (drop (length text_front) source)
    then Some (kind.File (drop (length text_front) source)) else None))

abbrev pub map_with : List ℕ → Option MapKind → Result Map AtByte
map_with name None = Err (rule MAP_FORM)
map_with name (Some kind) = if is_map_name name then Ok (record { name = name; kind = kind }) else Err (rule MAP_FORM)

abbrev pub map_of : List (List ℕ) → Result Map AtByte
map_of (name ∷ source ∷ []) = map_with name (map_kind source)
map_of words = Err wrong

-- ---- a rule that redirects

abbrev pub is_rewrite_rule : Option Meaning → Bool
is_rewrite_rule (Some (meaning.Directive directive.RewriteRule)) = true
is_rewrite_rule meaning = false

abbrev pub is_directive : EntryForm → Bool
is_directive Directive = true
is_directive Opening = false
is_directive Close = false

abbrev pub is_rule : Entry → Bool
is_rule entry = is_directive entry.form && is_rewrite_rule (meaning_of entry.name)

-- A section other than IfDefine, IfModule and the containers of Require begins or ends.
abbrev pub ends_look : Entry → Bool
ends_look entry = not (is_directive entry.form) && not (is_transparent (meaning_of entry.name))

-- Another RewriteRule follows, before any other section begins or the one around ends.
abbrev pub rule_follows : List Entry → Bool
rule_follows [] = false
rule_follows (entry ∷ entries) = is_rule entry || (not (ends_look entry) && rule_follows entries)

-- R, or a substitution that is a URL.
abbrev pub may_redirect : Flags → List ℕ → Bool
may_redirect flags substitution = not (flags.redirect == 0) || is_url substitution

-- It redirects without L and END.
abbrev pub goes_on_behind : Rule → List ℕ → Bool
goes_on_behind rule substitution =
    may_redirect rule.flags substitution && not (rule.flags.last || rule.flags.end)

abbrev pub unless_followed : List ℕ → List Entry → Rule → Result Rule AtByte
unless_followed substitution behind made =
    if goes_on_behind made substitution && rule_follows behind then Err (rule REDIRECT_WITHOUT_LAST) else Ok made

abbrev pub substitution_of : List (List ℕ) → List ℕ
substitution_of (pattern ∷ substitution ∷ words) = substitution
substitution_of words = []

abbrev pub checked : List (List ℕ) → List Entry → Result Rule AtByte → Result Rule AtByte
checked words behind (Err broken) = Err broken
checked words behind (Ok made) = unless_followed (substitution_of words) behind made

abbrev pub rule_read : Spot → List Entry → List (List ℕ) → Result Rule AtByte
rule_read spot behind words = checked words behind (rule_of spot words)
