-- The directives and sections: what words each takes, and what it gives.
-- Apache manual: core; mod_alias, Alias; mod_rewrite; mod_so, LoadModule; mod_userdir, UserDir.
use Rattle.std.specs.Prelude.{ℕ, List, [], ◌∷◌, length, Bool, ◌&&◌, true, false, nat_le}
use Rattle.std.specs.Prelude.{if◌then◌else◌}
use Rattle.std.specs.Prelude.{Option, Some, None, Result, Ok, Err, codes}
use Rattle.std.specs.Str.{str_eq_ignore_ascii_case}
use Rattle.hc_base.specs.Paths.{begins_with_slash, without_final_slash}
use Rattle.hc_base.specs.declared.fault.AtByte.{AtByte}
use Rattle.hc_expr.specs.Reading.{parse_expr}
use Rattle.hc_model.specs.declared.authorization.Merging.{Merging}
use Rattle.hc_model.specs.declared.authorization.Need.{Need}
use Rattle.hc_model.specs.declared.authorization.ReqTree.TheVariants.{Leaf}
use Rattle.hc_model.specs.declared.expression.Expr.{Expr}
use Rattle.hc_model.specs.declared.expression.Expr.TheVariants.{Yes}
use Rattle.hc_model.specs.declared.mapping.PathTest.{PathTest}
use Rattle.hc_model.specs.declared.section.Reach.{Reach}
use Rattle.hc_model.specs.declared.section.Reach.TheVariants.{DirSearch, Files, LocationSearch, Otherwise, When}
use Rattle.hc_model.specs.declared.spot.Spot.{Spot}
use Rattle.hc_model.specs.declared.template.Piece.{Piece}
use Rattle.hc_table.specs.declared.directive.Directive.{Directive}
use Rattle.hc_table.specs.declared.directive.Directive.TheVariants as directive
use Rattle.hc_table.specs.declared.directive.Meaning.{Meaning}
use Rattle.hc_table.specs.declared.directive.Meaning.TheVariants as meaning
use Rattle.hc_table.specs.declared.directive.SectionName.{SectionName}
use Rattle.hc_table.specs.declared.directive.SectionName.TheVariants as named
use Rattle.hc_pattern.specs.Globs.{has_wildcard}
use Rattle.hc_rw_parse.specs.Rules.{cond_of}
use Rattle.hc_config.specs.Among.{Among}
use Rattle.hc_config.specs.Hosts.{host_addrs, name_without_port}
use Rattle.hc_config.specs.Options.{allowed_by, options_step}
use Rattle.hc_config.specs.Requires.{Line, asked_by, is_none_of, line_of, merging_named, negated_rule, unless_broken}
use Rattle.hc_config.specs.Rewrites.{base_of, engine_of, inherit_of, map_of, recursion_of, rule_read}
use Rattle.hc_config.specs.Sections.{directory, location, name_glob, pattern_alone, plain_or_tilde}
use Rattle.hc_config.specs.Statuses.{first_status, has_url}
use Rattle.hc_config.specs.Targets.{own_target_by, target_by, test_by, wrong}
use Rattle.hc_config.specs.declared.effect.Effect.{Effect}
use Rattle.hc_config.specs.declared.effect.Effect.TheVariants.{Nothing, Gives, Holds, Opens}
use Rattle.hc_config.specs.declared.gathered.Given.TheVariants as given
use Rattle.hc_config.specs.declared.gathered.Opened.{Opened}
use Rattle.hc_config.specs.declared.gathered.Opened.TheVariants.{Host, Reached}
use Rattle.hc_config.specs.declared.containers.Container.{Container}
use Rattle.hc_config.specs.declared.containers.Container.TheVariants.{All, Any, NoneOf}
use Rattle.hc_config.specs.declared.status.TheConstants.{PERMANENT, TEMPORARY}
use Rattle.hc_config.specs.declared.targets.PathForm.{PathForm}
use Rattle.hc_config.specs.declared.targets.PathForm.TheVariants.{Plain, Match}

-- What an entry gives with these words, or the rule that they break.
abbrev pub Giving : Type 0
Giving = Among → List (List ℕ) → Result Effect AtByte

-- What the words alone decide.
abbrev pub by_words : (List (List ℕ) → Result Effect AtByte) → Giving
by_words gives among words = gives words

abbrev pub if_fits : Bool → Effect → Result Effect AtByte
if_fits fits effect = if fits then Ok effect else Err wrong

-- ---- forms of words

abbrev pub any_arguments : List (List ℕ) → Result Effect AtByte
any_arguments words = Ok Nothing

-- At least and at most so many words.
abbrev pub counted : ℕ → ℕ → List (List ℕ) → Result Effect AtByte
counted least most words = if_fits (nat_le least (length words) && nat_le (length words) most) Nothing

-- Just this word, without case.
abbrev pub this_argument : List ℕ → List (List ℕ) → Result Effect AtByte
this_argument wanted (word ∷ []) = if_fits (str_eq_ignore_ascii_case wanted word) Nothing
this_argument wanted words = Err wrong

-- One path, which begins with a slash.
abbrev pub server_root : List (List ℕ) → Result Effect AtByte
server_root (path ∷ []) = if_fits (begins_with_slash path) Nothing
server_root words = Err wrong

abbrev pub document_root : List (List ℕ) → Result Effect AtByte
document_root (path ∷ []) = if_fits (begins_with_slash path) (Gives (given.Root (without_final_slash path)))
document_root words = Err wrong

-- ---- aliases and redirects

-- A target and a test of paths. What is wrong with the target comes first: no number is smaller.
abbrev pub aimed : Result (List Piece) AtByte → Result PathTest AtByte → (List Piece → PathTest → Effect)
    → Result Effect AtByte
aimed (Err broken) from gives = Err broken
aimed (Ok to) (Err broken) gives = Err broken
aimed (Ok to) (Ok from) gives = Ok (gives to from)

-- Which paths, and where their files are.
abbrev pub mapped : Spot → List Piece → PathTest → Effect
mapped spot to from = Gives (given.Map (record { place = spot.place; span = spot.span; from = from; to = to }))

abbrev pub alias_by : PathForm → Giving
alias_by form among (from ∷ to ∷ []) = aimed (own_target_by form to) (test_by form from) (mapped among.entry.spot)
alias_by form among words = Err wrong

abbrev pub sent : Spot → ℕ → List Piece → PathTest → Effect
sent spot status to from =
    Gives (given.Send (record { place = spot.place; span = spot.span; from = from; to = to; status = status }))

-- Which paths, and the URL.
abbrev pub sent_to_url : PathForm → ℕ → Giving
sent_to_url form status among (from ∷ url ∷ []) =
    aimed (target_by form url) (test_by form from) (sent among.entry.spot status)
sent_to_url form status among words = Err wrong

-- Which paths alone.
abbrev pub sent_alone : PathForm → ℕ → Giving
sent_alone form status among (from ∷ []) = aimed (Ok []) (test_by form from) (sent among.entry.spot status)
sent_alone form status among words = Err wrong

abbrev pub sent_with : PathForm → ℕ → Giving
sent_with form status among words =
    if has_url status then sent_to_url form status among words else sent_alone form status among words

-- A status may come first.
abbrev pub sent_behind : PathForm → Result (Option ℕ) AtByte → List ℕ → Giving
sent_behind form (Err broken) word among words = Err broken
sent_behind form (Ok (Some status)) word among words = sent_with form status among words
sent_behind form (Ok None) word among words = sent_with form TEMPORARY among (word ∷ words)

abbrev pub redirect_by : PathForm → Giving
redirect_by form among [] = Err wrong
redirect_by form among (word ∷ words) = sent_behind form (first_status word) word among words

-- ---- servers and what is in force

-- What is read gives this.
abbrev pub given_by : {A : Type 0} → (A → Effect) → Result A AtByte → Result Effect AtByte
given_by gives (Err broken) = Err broken
given_by gives (Ok read) = Ok (gives read)

abbrev pub server_name : List (List ℕ) → Result Effect AtByte
server_name (name ∷ []) = Ok (Gives (given.Name (name_without_port name)))
server_name words = Err wrong

-- One name or more.
abbrev pub server_alias : List (List ℕ) → Result Effect AtByte
server_alias [] = Err wrong
server_alias (name ∷ names) = Ok (Gives (given.Names (name ∷ names)))

abbrev pub options : List (List ℕ) → Result Effect AtByte
options words = given_by (λ step. Gives (given.Options step)) (options_step words)

abbrev pub allow_override : List (List ℕ) → Result Effect AtByte
allow_override words = given_by (λ allowed. Gives (given.Allow allowed)) (allowed_by words)

-- ---- authorization

abbrev pub member : Spot → Bool → Need → Effect
member spot negated need = Gives (given.Member (Leaf spot.place negated need))

abbrev pub require_line : Line → Giving
require_line line among words = given_by (member among.entry.spot line.negated) (asked_by among.container line)

abbrev pub require : Giving
require among words = require_line (line_of words) among words

-- A RequireNone is negated.
abbrev pub holds : Among → Container → Effect
holds among container = Holds (record { place = among.entry.spot.place; container = container })

abbrev pub require_container : Container → Giving
require_container container among [] = unless_broken (negated_rule (is_none_of container) among.container)
    (Ok (holds among container))
require_container container among (word ∷ words) = Err wrong

abbrev pub merges : Option Merging → Result Effect AtByte
merges None = Err wrong
merges (Some merging) = Ok (Gives (given.Merges merging))

abbrev pub auth_merging : List (List ℕ) → Result Effect AtByte
auth_merging (word ∷ []) = merges (merging_named word)
auth_merging words = Err wrong

-- ---- sections

abbrev pub opens_as : Bool → Among → Opened → Effect
opens_as wild among opened = Opens (record { spot = among.entry.spot; opened = opened; chained = false; wild = wild })

abbrev pub opens : Among → Opened → Effect
opens among opened = opens_as false among opened

-- One address or more.
abbrev pub virtual_host : Giving
virtual_host among [] = Err wrong
virtual_host among (word ∷ words) =
    given_by (λ addresses. opens among (Host addresses)) (host_addrs (word ∷ words))

abbrev pub section : (List (List ℕ) → Result Reach AtByte) → Giving
section reach among words = given_by (λ reach. opens among (Reached reach)) (reach words)

-- A path with wildcards is no directory of its own.
abbrev pub has_wildcards : List (List ℕ) → Bool
has_wildcards (word ∷ []) = has_wildcard (without_final_slash word)
has_wildcards words = false

abbrev pub directory_section : Giving
directory_section among words =
    given_by (λ reach. opens_as (has_wildcards words) among (Reached reach)) (plain_or_tilde directory DirSearch words)

-- ---- rewriting

abbrev pub rewrite_engine : List (List ℕ) → Result Effect AtByte
rewrite_engine words = given_by (λ on. Gives (given.Engine on)) (engine_of words)

abbrev pub rewrite_base : List (List ℕ) → Result Effect AtByte
rewrite_base words = given_by (λ path. Gives (given.Base path)) (base_of words)

abbrev pub rewrite_options : List (List ℕ) → Result Effect AtByte
rewrite_options words = given_by (λ inherit. Gives (given.Inherits inherit)) (inherit_of words)

abbrev pub rewrite_cond : Giving
rewrite_cond among words = given_by (λ cond. Gives (given.Condition cond)) (cond_of among.entry.spot words)

abbrev pub rewrite_rule : Giving
rewrite_rule among words =
    given_by (λ made. Gives (given.Rewrite made)) (rule_read among.entry.spot among.behind words)

abbrev pub rewrite_map : List (List ℕ) → Result Effect AtByte
rewrite_map words = given_by (λ map. Gives (given.Values map)) (map_of words)

abbrev pub recursion : List (List ℕ) → Result Effect AtByte
recursion words = given_by (λ limit. Gives (given.Recursion limit)) (recursion_of words)

-- ---- sections that apply under a condition

-- Behind an If or ElseIf the chain may go on.
abbrev pub branch : Among → Bool → Reach → Effect
branch among goes_on reach =
    Opens (record { spot = among.entry.spot; opened = Reached reach; chained = goes_on; wild = false })

-- One word, which is an expression.
abbrev pub branch_by : (Expr → Reach) → Giving
branch_by reach among (text ∷ []) = given_by (λ expr. branch among true (reach expr)) (parse_expr text)
branch_by reach among words = Err wrong

-- No word: where none of the chain before it applies.
abbrev pub last_branch : Giving
last_branch among [] = Ok (branch among false (Otherwise Yes))
last_branch among words = Err wrong

-- ---- by meaning

abbrev pub directive_giving : Directive → Giving
directive_giving directive.ServerRoot = by_words server_root
directive_giving directive.DocumentRoot = by_words document_root
directive_giving directive.Define = by_words (counted 1 2)
directive_giving directive.Include = by_words (counted 1 1)
directive_giving directive.IncludeOptional = by_words (counted 1 1)
directive_giving directive.Alias = alias_by Plain
directive_giving directive.ScriptAlias = alias_by Plain
directive_giving directive.AliasMatch = alias_by Match
directive_giving directive.Redirect = redirect_by Plain
directive_giving directive.RedirectMatch = redirect_by Match
directive_giving directive.RedirectPermanent = sent_to_url Plain PERMANENT
directive_giving directive.RedirectTemp = sent_to_url Plain TEMPORARY
directive_giving directive.UseCanonicalName = by_words (this_argument (codes "Off"))
directive_giving directive.UserDir = by_words (this_argument (codes "disabled"))
directive_giving directive.AccessFileName = by_words (this_argument (codes ".htaccess"))
directive_giving directive.LoadModule = by_words any_arguments
directive_giving directive.Inert = by_words any_arguments
directive_giving directive.ServerName = by_words server_name
directive_giving directive.ServerAlias = by_words server_alias
directive_giving directive.Options = by_words options
directive_giving directive.AllowOverride = by_words allow_override
directive_giving directive.Require = require
directive_giving directive.AuthMerging = by_words auth_merging
directive_giving directive.RewriteEngine = by_words rewrite_engine
directive_giving directive.RewriteBase = by_words rewrite_base
directive_giving directive.RewriteCond = rewrite_cond
directive_giving directive.RewriteRule = rewrite_rule
directive_giving directive.RewriteOptions = by_words rewrite_options
directive_giving directive.RewriteMap = by_words rewrite_map
directive_giving directive.LimitInternalRecursion = by_words recursion

abbrev pub section_giving : SectionName → Giving
section_giving named.IfDefine = by_words (counted 1 1)
section_giving named.IfModule = by_words (counted 1 1)
section_giving named.VirtualHost = virtual_host
section_giving named.Directory = directory_section
section_giving named.DirectoryMatch = section (pattern_alone DirSearch)
section_giving named.Files = section (plain_or_tilde name_glob Files)
section_giving named.FilesMatch = section (pattern_alone Files)
section_giving named.Location = section (plain_or_tilde location LocationSearch)
section_giving named.LocationMatch = section (pattern_alone LocationSearch)
section_giving named.RequireAll = require_container All
section_giving named.RequireAny = require_container Any
section_giving named.RequireNone = require_container NoneOf
section_giving named.If = branch_by When
section_giving named.ElseIf = branch_by Otherwise
section_giving named.Else = last_branch

-- What a directive or section of this meaning gives.
abbrev pub giving : Meaning → Giving
giving (meaning.Directive directive) = directive_giving directive
giving (meaning.Section section) = section_giving section
