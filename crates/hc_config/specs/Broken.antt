-- The rules that an entry breaks, and of these the one with the smallest number, for which it is refused. Our choice.
use Rattle.std.specs.Prelude.{◌≡◌, ℕ, List, [], ◌∷◌, ◌++◌, Bool, ◌&&◌, ◌||◌}
use Rattle.std.specs.Prelude.{if◌then◌else◌, Option, Some, None, Result, Ok, Err}
use Rattle.std.specs.Result.{result_err}
use Rattle.hc_base.specs.Rules.{rule}
use Rattle.hc_base.specs.declared.codes.TheConstants.{OVERRIDE_NOT_ALLOWED, REWRITE_CONTEXT, UNSUPPORTED_DIRECTIVE}
use Rattle.hc_base.specs.declared.codes.TheConstants.{WRONG_CONTEXT}
use Rattle.hc_base.specs.declared.fault.AtByte.{AtByte}
use Rattle.hc_expr.specs.Reading.{lesser}
use Rattle.hc_lines.specs.Words.{read_words}
use Rattle.hc_table.specs.Directives.{directive_rows}
use Rattle.hc_table.specs.Table.{find_in}
use Rattle.hc_table.specs.declared.context.Context.{Context}
use Rattle.hc_table.specs.declared.table.DirectiveKind.{DirectiveKind}
use Rattle.hc_config.specs.Among.{Among}
use Rattle.hc_config.specs.Rules.{follows_its_chain, is_closing, is_require, judged, read_given, spelling_of}
use Rattle.hc_config.specs.Rules.{stands_apart, supported, unknown_kind}
use Rattle.hc_config.specs.Sources.{is_forbidden, may_stand}
use Rattle.hc_config.specs.declared.source.Source.{Source}

-- Of broken rules the one with the smallest number, and of equal ones the first.
abbrev pub least_from : AtByte → List AtByte → AtByte
least_from found [] = found
least_from found (broken ∷ more) = least_from (lesser found broken) more

abbrev pub least : List AtByte → Option AtByte
least [] = None
least (broken ∷ more) = Some (least_from broken more)

abbrev pub broken_if : Bool → ℕ → List AtByte
broken_if broken code = if broken then rule code ∷ [] else []

abbrev pub broken_in : {A : Type 0} → Result A AtByte → List AtByte
broken_in (Ok made) = []
broken_in (Err broken) = broken ∷ []

-- The kind of a Require line is as its name: it is looked at wherever the line stands.
abbrev pub is_unknown : DirectiveKind → Among → Bool
is_unknown kind among = is_require kind.meaning && unknown_kind (read_words (spelling_of kind.wording) among.entry.rest)

-- Rewriting where no directory of its own stands is read, and breaks another rule.
abbrev pub is_placed : Source → Context → DirectiveKind → Among → Bool
is_placed source place kind among =
    stands_apart place kind among || may_stand source place kind && follows_its_chain kind among

-- A directive that may not stand where it stands is not read further: its words break no rule there. Elsewhere they
-- break one, that for which they are refused (Directives.antt), whatever else may be wrong with them.
abbrev pub place_breaks : Bool → DirectiveKind → Among → List AtByte
place_breaks placed kind among =
    if placed then broken_in (read_given kind among)
    else broken_if (is_unknown kind among) UNSUPPORTED_DIRECTIVE ++ rule WRONG_CONTEXT ∷ []

-- A name that is not supported tells nothing more.
abbrev pub named_breaks : Source → Context → Option DirectiveKind → Among → List AtByte
named_breaks source place None among = rule UNSUPPORTED_DIRECTIVE ∷ []
named_breaks source place (Some kind) among =
    place_breaks (is_placed source place kind among) kind among
    ++ broken_if (stands_apart place kind among) REWRITE_CONTEXT
    ++ broken_if (is_forbidden source kind) OVERRIDE_NOT_ALLOWED

-- A close breaks none; what its container lacks is looked at with all members (Levels.antt).
abbrev pub breaks : Source → Context → Among → List AtByte
breaks source place among =
    if is_closing among.entry.form then []
    else named_breaks source place (supported among.entry.form (find_in directive_rows among.entry.name)) among

-- An entry is refused for the smallest of the rules that it breaks, and gives something where it breaks none.
abbrev pub SmallestCounts : Type 0
SmallestCounts =
    (source : Source) (place : Context) (among : Among)
    → result_err (judged source place among) ≡ least (breaks source place among)
