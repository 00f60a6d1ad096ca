-- Where aliases and redirects look, and where they lead.
-- Apache manual, mod_alias: AliasMatch, Redirect, RedirectMatch. What is kept for other signs is our
-- own choice.
use Rattle.std.specs.Prelude.{ℕ, ◌==◌, List, [], ◌∷◌, ◌||◌, Bool, true, false}
use Rattle.std.specs.Prelude.{if◌then◌else◌, Result, Ok, Err}
use Rattle.std.specs.List.{list_any}
use Rattle.hc_base.specs.Bytes.{ampersand, backslash}
use Rattle.hc_base.specs.Paths.{begins_with_slash}
use Rattle.hc_base.specs.Rules.{rule}
use Rattle.hc_base.specs.declared.codes.TheConstants.{WRONG_ARGUMENTS}
use Rattle.hc_base.specs.declared.fault.AtByte.{AtByte}
use Rattle.hc_model.specs.declared.mapping.PathTest.{PathTest}
use Rattle.hc_model.specs.declared.mapping.PathTest.TheVariants.{Prefix, Search}
use Rattle.hc_model.specs.declared.template.Piece.{Piece}
use Rattle.hc_model.specs.declared.template.Piece.TheVariants.{Bytes}
use Rattle.hc_pattern.specs.Reading.{parse_pattern}
use Rattle.hc_template.specs.Reading.{template}
use Rattle.hc_template.specs.declared.signs.Names.TheVariants.{NoName}
use Rattle.hc_template.specs.declared.signs.Signs.{Signs}
use Rattle.hc_config.specs.declared.targets.PathForm.{PathForm}
use Rattle.hc_config.specs.declared.targets.PathForm.TheVariants.{Plain, Match}

abbrev pub wrong : AtByte
wrong = rule WRONG_ARGUMENTS

-- ---- which paths

abbrev pub prefix_test : List ℕ → Result PathTest AtByte
prefix_test word = if begins_with_slash word then Ok (Prefix word) else Err wrong

unfoldable pub search_test : List ℕ → Result PathTest AtByte
search_test word = elim (parse_pattern word false) [ Ok pattern ↦ Ok (Search pattern) | Err broken ↦ Err broken ]

-- A word as a test of paths, or the rule that it breaks.
abbrev pub test_by : PathForm → List ℕ → Result PathTest AtByte
test_by Plain word = prefix_test word
test_by Match word = search_test word

-- ---- targets

-- `$0` to `$9` stand for groups, and all other bytes for themselves.
abbrev pub groups_alone : Signs
groups_alone = record { groups = true; conditions = false; names = NoName; escapes = false; lookups = false }

-- Signs of what is not supported.
abbrev pub is_other_sign : ℕ → Bool
is_other_sign b = (b == ampersand) || (b == backslash)

abbrev pub group_target : List ℕ → Result (List Piece) AtByte
group_target word = if list_any is_other_sign word then Err wrong else template groups_alone word

-- A word as a target, or the rule that it breaks: as it stands, or with groups.
abbrev pub target_by : PathForm → List ℕ → Result (List Piece) AtByte
target_by Plain word = Ok (Bytes word ∷ [])
target_by Match word = group_target word

-- One of the server's own.
abbrev pub own_target_by : PathForm → List ℕ → Result (List Piece) AtByte
own_target_by form word = if begins_with_slash word then target_by form word else Err wrong
