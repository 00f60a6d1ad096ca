-- The rules that an entry of the flat list may break. The refusals and their order are our own
-- choice; docs/RULES.md says for each which page of the manual it rests on.
use Rattle.std.specs.Prelude.{ℕ, List, Bool, true, false, not, ◌&&◌, ◌||◌, if◌then◌else◌}
use Rattle.std.specs.Prelude.{Option, Some, None, Result, Ok, Err}
use Rattle.hc_base.specs.Rules.{rule}
use Rattle.hc_base.specs.declared.codes.TheConstants.{REWRITE_CONTEXT, UNSUPPORTED_DIRECTIVE, WRONG_CONTEXT}
use Rattle.hc_base.specs.declared.fault.AtByte.{AtByte}
use Rattle.hc_lines.specs.Words.{Spelling, conf_spelling, read_words, rewrite_spelling}
use Rattle.hc_model.specs.declared.entry.EntryForm.{EntryForm}
use Rattle.hc_model.specs.declared.entry.EntryForm.TheVariants.{Close, Directive, Opening}
use Rattle.hc_table.specs.Directives.{directive_rows, meaning_of}
use Rattle.hc_table.specs.Table.{find_in}
use Rattle.hc_table.specs.declared.context.Context.{Context}
use Rattle.hc_table.specs.declared.context.Context.TheVariants as context
use Rattle.hc_table.specs.declared.directive.Directive.TheVariants as directive
use Rattle.hc_table.specs.declared.directive.Meaning.{Meaning}
use Rattle.hc_table.specs.declared.directive.Meaning.TheVariants as meaning
use Rattle.hc_table.specs.declared.directive.SectionName.TheVariants as named
use Rattle.hc_table.specs.declared.directive.Wording.{Wording}
use Rattle.hc_table.specs.declared.directive.Wording.TheVariants.{Configuration, Rewriting}
use Rattle.hc_table.specs.declared.table.DirectiveKind.{DirectiveKind}
use Rattle.hc_config.specs.Among.{Among}
use Rattle.hc_config.specs.Directives.{Giving, giving}
use Rattle.hc_expr.specs.Reading.{lesser}
use Rattle.hc_config.specs.Requires.{has_unknown_kind, line_of}
use Rattle.hc_config.specs.Sources.{is_forbidden, may_stand, unless_forbidden}
use Rattle.hc_config.specs.declared.source.Source.{Source}
use Rattle.hc_config.specs.declared.effect.Effect.{Effect}
use Rattle.hc_config.specs.declared.effect.Effect.TheVariants.{Closes, Nothing, Releases}

-- ---- what an entry is

abbrev pub is_closing : EntryForm → Bool
is_closing Directive = false
is_closing Opening = false
is_closing Close = true

-- Only a container opens a section, and only another name is a directive.
abbrev pub is_of_form : EntryForm → Meaning → Bool
is_of_form Directive (meaning.Directive directive) = true
is_of_form Opening (meaning.Section section) = true
is_of_form form meaning = false

-- The row of a name, where it is one of this form.
abbrev pub supported : EntryForm → Option DirectiveKind → Option DirectiveKind
supported form None = None
supported form (Some kind) = if is_of_form form kind.meaning then Some kind else None

abbrev pub spelling_of : Wording → Spelling
spelling_of Configuration = conf_spelling
spelling_of Rewriting = rewrite_spelling

-- ---- what it gives, or the rule that it is refused for

-- Each rule is looked at only where it may be the smallest that is broken; that it is the smallest is Broken.antt.

-- Where the words are not read, what rests on them is not looked at.
abbrev pub if_read : Result (List (List ℕ)) AtByte → Giving → Among → Result Effect AtByte
if_read (Err broken) gives among = Err broken
if_read (Ok words) gives among = gives among words

abbrev pub unknown_kind : Result (List (List ℕ)) AtByte → Bool
unknown_kind (Err broken) = false
unknown_kind (Ok words) = has_unknown_kind (line_of words).words

-- ElseIf and Else stand right behind a section of their chain.
abbrev pub is_later_branch : Meaning → Bool
is_later_branch (meaning.Section named.ElseIf) = true
is_later_branch (meaning.Section named.Else) = true
is_later_branch meaning = false

abbrev pub follows_its_chain : DirectiveKind → Among → Bool
follows_its_chain kind among = not (is_later_branch kind.meaning) || among.chained

abbrev pub is_require : Meaning → Bool
is_require (meaning.Directive directive.Require) = true
is_require meaning = false

-- A Require line of a kind that is not known is refused for this first.
abbrev pub misplaced : DirectiveKind → Among → ℕ
misplaced kind among =
    if is_require kind.meaning && unknown_kind (read_words (spelling_of kind.wording) among.entry.rest)
    then UNSUPPORTED_DIRECTIVE else WRONG_CONTEXT

-- What its words give, wherever it stands.
unfoldable pub read_given : DirectiveKind → Among → Result Effect AtByte
read_given kind among = if_read (read_words (spelling_of kind.wording) among.entry.rest) (giving kind.meaning) among

-- A place where it may not stand.
abbrev pub if_placed : Source → Bool → DirectiveKind → Among → Result Effect AtByte
if_placed source false kind among = Err (rule (misplaced kind among))
if_placed source true kind among =
    unless_forbidden (is_forbidden source kind) (read_given kind among)

-- ---- rewriting, which stands in servers, in plain directories and in a `.htaccess`

-- The directives of rewriting that directories may have.
abbrev pub is_of_directories : Meaning → Bool
is_of_directories (meaning.Directive directive.RewriteEngine) = true
is_of_directories (meaning.Directive directive.RewriteBase) = true
is_of_directories (meaning.Directive directive.RewriteCond) = true
is_of_directories (meaning.Directive directive.RewriteRule) = true
is_of_directories (meaning.Directive directive.RewriteOptions) = true
is_of_directories meaning = false

abbrev pub is_of_rewriting : Meaning → Bool
is_of_rewriting (meaning.Directive directive.RewriteMap) = true
is_of_rewriting meaning = is_of_directories meaning

-- Sections that no directory stands for.
abbrev pub is_apart : Context → Bool
is_apart context.DirectoryMatch = true
is_apart context.Files = true
is_apart context.Location = true
is_apart context.IfSection = true
is_apart place = false

abbrev pub in_wild_directory : Context → Among → Bool
in_wild_directory context.Directory among = among.wild
in_wild_directory place among = false

abbrev pub stands_apart : Context → DirectiveKind → Among → Bool
stands_apart place kind among =
    (is_of_rewriting kind.meaning && is_apart place)
    || (is_of_directories kind.meaning && in_wild_directory place among)

-- The smaller number counts (Broken.antt).
abbrev pub refused_behind : AtByte → Result Effect AtByte → Result Effect AtByte
refused_behind broken (Ok effect) = Err broken
refused_behind broken (Err earlier) = Err (lesser earlier broken)

abbrev pub judged_apart : Source → DirectiveKind → Among → Result Effect AtByte
judged_apart source kind among =
    unless_forbidden (is_forbidden source kind) (refused_behind (rule REWRITE_CONTEXT) (read_given kind among))

-- ---- where it stands

abbrev pub if_known : Source → Context → DirectiveKind → Among → Result Effect AtByte
if_known source place kind among =
    if stands_apart place kind among then judged_apart source kind among
    else if_placed source (may_stand source place kind && follows_its_chain kind among) kind among

-- A name that is not supported.
abbrev pub if_supported : Source → Context → Option DirectiveKind → Among → Result Effect AtByte
if_supported source place None among = Err (rule UNSUPPORTED_DIRECTIVE)
if_supported source place (Some kind) among = if_known source place kind among

-- A close breaks no rule of its own.
abbrev pub closing : Option Meaning → Effect
closing (Some (meaning.Section named.IfDefine)) = Nothing
closing (Some (meaning.Section named.IfModule)) = Nothing
closing (Some (meaning.Section named.RequireAll)) = Releases
closing (Some (meaning.Section named.RequireAny)) = Releases
closing (Some (meaning.Section named.RequireNone)) = Releases
closing (Some (meaning.Section section)) = Closes
closing meaning = Nothing

-- By whose text it is and by the context in which the entry stands.
unfoldable pub judged : Source → Context → Among → Result Effect AtByte
judged source context among =
    if is_closing among.entry.form then Ok (closing (meaning_of among.entry.name))
    else if_supported source context (supported among.entry.form (find_in directive_rows among.entry.name)) among
