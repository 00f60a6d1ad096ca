-- What an entry gives keeps document roots and aliases that begin with a slash.
use Rattle.std.proofs.Common.{◌≡◌, ◌∷◌, ◌&&◌, ℕ, List, [], Bool, true, false, Option, Some, None}
use Rattle.std.proofs.Common.{Result, Ok, Err, if◌then◌else◌, refl, subst}
use Rattle.std.specs.Result.{IfOk}
use Rattle.hc_base.specs.Paths.{begins_with_slash}
use Rattle.hc_base.specs.declared.fault.AtByte.{AtByte}
use Rattle.hc_config.specs.Among.{Among}
use Rattle.hc_config.specs.Directives.{aimed, given_by, giving, if_fits, mapped, merges, redirect_by, sent, sent_alone}
use Rattle.hc_config.specs.Directives.{sent_behind, sent_to_url}
use Rattle.hc_config.specs.Hosts.{host_addrs}
use Rattle.hc_config.specs.Requires.{unless_broken}
use Rattle.hc_config.specs.Rules.{closing, follows_its_chain, if_placed, if_read, if_supported, is_closing, judged}
use Rattle.hc_config.specs.Rules.{judged_apart, read_given, refused_behind, spelling_of, stands_apart, supported}
use Rattle.hc_config.specs.Sources.{is_forbidden, may_stand, unless_forbidden}
use Rattle.hc_config.specs.Statuses.{first_status, has_url}
use Rattle.hc_config.specs.Targets.{test_by}
use Rattle.hc_lines.specs.Words.{read_words}
use Rattle.hc_model.specs.declared.authorization.Merging.{Merging}
use Rattle.hc_model.specs.declared.mapping.PathTest.{PathTest}
use Rattle.hc_model.specs.declared.spot.Spot.{Spot}
use Rattle.hc_model.specs.declared.template.Piece.{Piece}
use Rattle.hc_table.specs.Directives.{directive_rows, meaning_of}
use Rattle.hc_table.specs.Table.{find_in}
use Rattle.hc_table.specs.declared.context.Context.{Context}
use Rattle.hc_table.specs.declared.directive.Directive.TheVariants as directive
use Rattle.hc_table.specs.declared.directive.Meaning.{Meaning}
use Rattle.hc_table.specs.declared.directive.Meaning.TheVariants as meaning
use Rattle.hc_table.specs.declared.directive.SectionName.TheVariants as named
use Rattle.hc_table.specs.declared.table.DirectiveKind.{DirectiveKind}
use Rattle.hc_absolute.specs.Absolute.{IsAbsolute}
use Rattle.hc_absolute.proofs.Standing.{Effect, IsServer, Keeps, all_both, close_keeps, opened_keeps, release_keeps}
use Rattle.hc_absolute.proofs.Targets.{Leads, match_leads, plain_leads, root_begins}

-- ---- by the form of words

fits_so : (fits : Bool) (effect : Effect) → (fits ≡ true → Keeps effect) → IfOk (if_fits fits effect) Keeps
fits_so true effect each = each refl
fits_so false effect each = tt

given_so : {A : Type 0} (gives : A → Effect) (answer : Result A AtByte) → ((read : A) → Keeps (gives read))
    → IfOk (given_by gives answer) Keeps
given_so gives (Err broken) each = tt
given_so gives (Ok read) each = each read

aimed_so : (to : Result (List Piece) AtByte) (from : Result PathTest AtByte)
    (gives : List Piece → PathTest → Effect)
    → ((pieces : List Piece) (from : PathTest) → to ≡ Ok pieces → Keeps (gives pieces from))
    → IfOk (aimed to from gives) Keeps
aimed_so (Err broken) from gives each = tt
aimed_so (Ok to) (Err broken) gives each = tt
aimed_so (Ok to) (Ok from) gives each = each to from refl

mapped_so : (spot : Spot) (to : Result (List Piece) AtByte) (from : Result PathTest AtByte) → IfOk to Leads
    → IfOk (aimed to from (mapped spot)) Keeps
mapped_so spot to from leads = aimed_so to from (mapped spot) (λ pieces from is standing are. (
  (
    are.0.0,
    all_both IsAbsolute standing.so_far.aliases _ are.0.1 (subst (λ to. IfOk to Leads) is leads, tt),
    are.0.2,
  ),
  are.1,
))

-- ---- redirects

module _ (form : _) (among : Among) where
  url_so : (status : ℕ) (words : List (List ℕ)) → IfOk (sent_to_url form status among words) Keeps
  url_so status (from ∷ url ∷ []) = aimed_so _ _ _ (λ _ _ _ _ are. are)
  url_so status words = tt

  sent_so : (status : ℕ) (url : Bool) (words : List (List ℕ))
      → IfOk (if url then sent_to_url form status among words else sent_alone form status among words) Keeps
  sent_so status true words = url_so status words
  sent_so status false (from ∷ []) =
      aimed_so (Ok []) (test_by form from) (sent among.entry.spot status) (λ _ _ _ _ are. are)
  sent_so status false words = tt

  -- Without a status it is 302.
  behind_so : (status : Result (Option ℕ) AtByte) (word : List ℕ) (words : List (List ℕ))
      → IfOk (sent_behind form status word among words) Keeps
  behind_so (Err broken) word words = tt
  behind_so (Ok (Some status)) word words = sent_so status (has_url status) words
  behind_so (Ok None) word words = sent_so 302 (has_url 302) (word ∷ words)

  redirect_so : (words : List (List ℕ)) → IfOk (redirect_by form among words) Keeps
  redirect_so [] = tt
  redirect_so (word ∷ words) = behind_so (first_status word) word words

-- ---- by meaning

merges_so : (merging : Option Merging) → IfOk (merges merging) Keeps
merges_so None = tt
merges_so (Some merging) = λ standing are. are

unless_broken_so : (refused : Option ℕ) (effect : Effect) → Keeps effect
    → IfOk (unless_broken refused (Ok effect)) Keeps
unless_broken_so None effect is = is
unless_broken_so (Some code) effect is = tt

ruleset shapes = (
  fits_so,
  given_so,
  merges_so,
  redirect_so,
  unless_broken_so,
  opened_keeps,
  close_keeps,
  release_keeps,
)

meaning_so : (meaning : Meaning) (among : Among) (words : List (List ℕ)) → IfOk (giving meaning among words) Keeps
meaning_so (meaning.Directive directive.DocumentRoot) among (path ∷ []) =
    fits_so (begins_with_slash path) _ (λ is standing are. ((root_begins path is, are.0.1, are.0.2), are.1))
meaning_so (meaning.Directive directive.Alias) among (from ∷ to ∷ []) =
    mapped_so among.entry.spot _ _ (plain_leads to)
meaning_so (meaning.Directive directive.ScriptAlias) among (from ∷ to ∷ []) =
    mapped_so among.entry.spot _ _ (plain_leads to)
meaning_so (meaning.Directive directive.AliasMatch) among (from ∷ to ∷ []) =
    mapped_so among.entry.spot _ _ (match_leads to)
meaning_so (meaning.Section named.VirtualHost) among (word ∷ words) =
    given_so _ (host_addrs (word ∷ words)) (λ _. opened_keeps _
    (λ inner outer is are. (are.0, are.1, all_both IsServer outer.hosts _ are.2 ((is.0, is.1), tt))))
meaning_so (meaning.Directive directive.RedirectPermanent) among words = search url_so
meaning_so (meaning.Directive directive.RedirectTemp) among words = search url_so
meaning_so (meaning.Section named.Else) among [] = search shapes
meaning_so other among [] = search shapes
meaning_so other among (word ∷ []) = search shapes
meaning_so other among (word ∷ next ∷ words) = search shapes

-- ---- behind the rules of an entry

read_so : (words : Result (List (List ℕ)) AtByte) (meaning : Meaning) (among : Among)
    → IfOk (if_read words (giving meaning) among) Keeps
read_so (Err broken) meaning among = tt
read_so (Ok words) meaning among = meaning_so meaning among words

forbidden_so : (forbidden : Bool) (answer : Result Effect AtByte) → IfOk answer Keeps
    → IfOk (unless_forbidden forbidden answer) Keeps
forbidden_so false answer is = is
forbidden_so true (Ok effect) is = tt
forbidden_so true (Err broken) is = tt

refused_so : (broken : AtByte) (answer : Result Effect AtByte) → IfOk (refused_behind broken answer) Keeps
refused_so broken (Ok effect) = tt
refused_so broken (Err earlier) = tt

known_so : (source : _) (kind : DirectiveKind) (among : Among) (apart stands : Bool)
    → IfOk (if apart then judged_apart source kind among else if_placed source stands kind among) Keeps
unfolding read_given
known_so source kind among true stands =
    forbidden_so (is_forbidden source kind) _ (refused_so _ (read_given kind among))
known_so source kind among false false = tt
known_so source kind among false true =
    forbidden_so (is_forbidden source kind) (read_given kind among)
    (read_so (read_words (spelling_of kind.wording) among.entry.rest) kind.meaning among)

supported_so : (source : _) (place : Context) (kind : Option DirectiveKind) (among : Among)
    → IfOk (if_supported source place kind among) Keeps
supported_so source place None among = tt
supported_so source place (Some kind) among =
    known_so source kind among (stands_apart place kind among)
    (may_stand source place kind && follows_its_chain kind among)

closing_so : (meaning : Option Meaning) → Keeps (closing meaning)
closing_so (Some (meaning.Section named.IfDefine)) = λ standing are. are
closing_so meaning = search shapes

unless_closing : (closes : Bool) (effect : Effect) (answer : Result Effect AtByte) → Keeps effect
    → IfOk answer Keeps → IfOk (if closes then Ok effect else answer) Keeps
unless_closing true effect answer first second = first
unless_closing false effect answer first second = second

pub judged_so : (source : _) (place : Context) (among : Among) → IfOk (judged source place among) Keeps
unfolding judged
judged_so source place among =
    unless_closing (is_closing among.entry.form) _ _ (closing_so (meaning_of among.entry.name))
    (supported_so source place (supported among.entry.form (find_in directive_rows among.entry.name)) among)
