-- The smallest of the rules that an entry breaks counts: each case computes.
use Rattle.std.proofs.Common.{◌≡◌, List, [], ◌∷◌, ◌++◌, Bool, true, false, ◌&&◌, ◌||◌}
use Rattle.std.proofs.Common.{if◌then◌else◌, Option, Some, None, Result, Ok, Err, refl}
use Rattle.std.specs.Result.{result_err}
use Rattle.hc_base.specs.Rules.{rule}
use Rattle.hc_base.specs.declared.codes.TheConstants.{OVERRIDE_NOT_ALLOWED, REWRITE_CONTEXT, UNSUPPORTED_DIRECTIVE}
use Rattle.hc_base.specs.declared.codes.TheConstants.{WRONG_CONTEXT}
use Rattle.hc_base.specs.declared.fault.AtByte.{AtByte}
use Rattle.hc_table.specs.Directives.{directive_rows}
use Rattle.hc_table.specs.Table.{find_in}
use Rattle.hc_table.specs.declared.context.Context.{Context}
use Rattle.hc_table.specs.declared.table.DirectiveKind.{DirectiveKind}
use Rattle.hc_config.specs.Among.{Among}
use Rattle.hc_config.specs.Broken.{SmallestCounts, broken_if, broken_in, is_unknown, least, named_breaks, place_breaks}
use Rattle.hc_config.specs.Rules.{follows_its_chain, if_placed, if_supported, is_closing, judged, judged_apart}
use Rattle.hc_config.specs.Rules.{read_given, refused_behind, stands_apart, supported}
use Rattle.hc_config.specs.Sources.{is_forbidden, may_stand, unless_forbidden}
use Rattle.hc_config.specs.declared.effect.Effect.{Effect}
use Rattle.hc_config.specs.declared.source.Source.{Source}

apart_is : (forbidden : Bool) (read : Result Effect AtByte)
    → result_err (unless_forbidden forbidden (refused_behind (rule REWRITE_CONTEXT) read))
    ≡ least (broken_in read ++ (rule REWRITE_CONTEXT ∷ []) ++ broken_if forbidden OVERRIDE_NOT_ALLOWED)
apart_is false (Ok effect) = refl
apart_is false (Err broken) = refl
apart_is true (Ok effect) = refl
apart_is true (Err broken) = refl

stands_is : (forbidden : Bool) (read : Result Effect AtByte)
    → result_err (unless_forbidden forbidden read)
    ≡ least (broken_in read ++ [] ++ broken_if forbidden OVERRIDE_NOT_ALLOWED)
stands_is false (Ok effect) = refl
stands_is false (Err broken) = refl
stands_is true (Ok effect) = refl
stands_is true (Err broken) = refl

misplaced_is : (forbidden unknown : Bool)
    → Some (rule (if unknown then UNSUPPORTED_DIRECTIVE else WRONG_CONTEXT))
    ≡ least ((broken_if unknown UNSUPPORTED_DIRECTIVE ++ rule WRONG_CONTEXT ∷ [])
    ++ [] ++ broken_if forbidden OVERRIDE_NOT_ALLOWED)
misplaced_is false false = refl
misplaced_is false true = refl
misplaced_is true false = refl
misplaced_is true true = refl

known_is : (source : Source) (kind : DirectiveKind) (among : Among) (apart stands : Bool)
    → result_err (if apart then judged_apart source kind among else if_placed source stands kind among)
    ≡ least (place_breaks (apart || stands) kind among ++ broken_if apart REWRITE_CONTEXT
    ++ broken_if (is_forbidden source kind) OVERRIDE_NOT_ALLOWED)
known_is source kind among true stands = apart_is (is_forbidden source kind) (read_given kind among)
known_is source kind among false true = stands_is (is_forbidden source kind) (read_given kind among)
known_is source kind among false false = misplaced_is (is_forbidden source kind) (is_unknown kind among)

supported_is : (source : Source) (place : Context) (kind : Option DirectiveKind) (among : Among)
    → result_err (if_supported source place kind among) ≡ least (named_breaks source place kind among)
supported_is source place None among = refl
supported_is source place (Some kind) among =
    known_is source kind among (stands_apart place kind among)
    (may_stand source place kind && follows_its_chain kind among)

unless_closing : (closing : Bool) (effect : Effect) (answer : Result Effect AtByte) (broken : List AtByte)
    → result_err answer ≡ least broken
    → result_err (if closing then Ok effect else answer) ≡ least (if closing then [] else broken)
unless_closing true effect answer broken is = refl
unless_closing false effect answer broken is = is

pub smallest_counts : SmallestCounts
unfolding judged
smallest_counts source place among =
    let kind = supported among.entry.form (find_in directive_rows among.entry.name) in
    unless_closing (is_closing among.entry.form) _ (if_supported source place kind among)
    (named_breaks source place kind among) (supported_is source place kind among)
