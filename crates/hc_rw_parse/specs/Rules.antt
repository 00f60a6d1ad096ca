-- The words of RewriteRule and RewriteCond.
-- Apache manual, mod_rewrite: RewriteRule, RewriteCond. What is not supported, and the order of refusals, is our own
-- choice.
use Rattle.std.specs.Prelude.{ℕ, ◌==◌, ◌||◌, List, [], ◌∷◌, drop, Bool, false, if◌then◌else◌}
use Rattle.std.specs.Prelude.{codes, Option, Some, None, Result, Ok, Err}
use Rattle.std.specs.Str.{bytes_eq, str_eq_ignore_ascii_case}
use Rattle.hc_base.specs.Bytes.{begins_with, dash, equals, exclamation, greater, less}
use Rattle.hc_base.specs.Rules.{rule}
use Rattle.hc_base.specs.declared.codes.TheConstants.{UNSUPPORTED_CONDITION, WRONG_ARGUMENTS}
use Rattle.hc_base.specs.declared.fault.AtByte.{AtByte}
use Rattle.hc_expr.specs.Reading.{made_of_two}
use Rattle.hc_model.specs.declared.rewrite.Cond.{Cond}
use Rattle.hc_model.specs.declared.rewrite.CondKind.{CondKind}
use Rattle.hc_model.specs.declared.rewrite.CondKind.TheVariants.{Equals, IsDir, IsFile, Search}
use Rattle.hc_model.specs.declared.rewrite.Flags.{Flags}
use Rattle.hc_model.specs.declared.rewrite.Rule.{Rule}
use Rattle.hc_model.specs.declared.spot.Spot.{Spot}
use Rattle.hc_model.specs.declared.template.Piece.{Piece}
use Rattle.hc_pattern.specs.Pattern.{Pattern}
use Rattle.hc_pattern.specs.Reading.{parse_pattern}
use Rattle.hc_template.specs.Reading.{template}
use Rattle.hc_rw_parse.specs.CondFlags.{cond_flags_in, no_cond_flags}
use Rattle.hc_rw_parse.specs.RuleFlags.{flags_in, nothing_flagged}
use Rattle.hc_rw_parse.specs.Templates.{rewriting}
use Rattle.hc_rw_parse.specs.declared.cond_flags.CondFlags.{CondFlags}
use Rattle.hc_rw_parse.specs.declared.flags.Flagged.{Flagged}

abbrev pub wrong : AtByte
wrong = rule WRONG_ARGUMENTS

-- ---- a leading `!`

abbrev pub is_negated : List ℕ → Bool
is_negated word = begins_with exclamation word

abbrev pub without_sign : List ℕ → List ℕ
without_sign word = if is_negated word then drop 1 word else word

-- ---- RewriteRule

-- A substitution; none is `-`.
abbrev pub some_template : Result (List Piece) AtByte → Result (Option (List Piece)) AtByte
some_template (Err broken) = Err broken
some_template (Ok pieces) = Ok (Some pieces)

abbrev pub substitution : List ℕ → Result (Option (List Piece)) AtByte
substitution word = if bytes_eq word (codes "-") then Ok None else some_template (template rewriting word)

abbrev pub flags_of : Flagged → Result Flags AtByte
flags_of flagged = elim flagged.broken [ None ↦ Ok flagged.flags | Some broken ↦ Err broken ]

-- The rule has no conditions yet.
abbrev pub rule_at : Spot → Bool → Pattern → Flags → Option (List Piece) → Rule
rule_at spot negated pattern flags subst = record {
  place = spot.place;
  span = spot.span;
  pat = pattern;
  negated = negated;
  conds = [];
  subst = subst;
  flags = flags;
}

-- Of what is refused the smallest number counts.
abbrev pub rule_with : Spot → List ℕ → List ℕ → Flagged → Result Rule AtByte
rule_with spot pattern subst flagged =
    made_of_two (λ made. made)
    (made_of_two (rule_at spot (is_negated pattern)) (parse_pattern (without_sign pattern) flagged.nocase)
    (flags_of flagged))
    (substitution subst)

unfoldable pub rule_of : Spot → List (List ℕ) → Result Rule AtByte
rule_of spot (pattern ∷ subst ∷ []) = rule_with spot pattern subst nothing_flagged
rule_of spot (pattern ∷ subst ∷ flags ∷ []) = rule_with spot pattern subst (flags_in flags)
rule_of spot words = Err wrong

-- ---- RewriteCond

abbrev pub nocase_of : Result CondFlags AtByte → Bool
nocase_of (Ok flags) = flags.nocase
nocase_of (Err broken) = false

abbrev pub searched : Result Pattern AtByte → Result CondKind AtByte
searched (Err broken) = Err broken
searched (Ok pattern) = Ok (Search pattern)

-- `=""` is the empty text.
abbrev pub equals_text : List ℕ → List ℕ
equals_text text = if bytes_eq text (codes "\"\"") then [] else text

-- Tests that are not supported begin with these.
abbrev pub is_other_test : ℕ → Bool
is_other_test b = (b == dash) || ((b == less) || (b == greater))

abbrev pub other_kind : Bool → List ℕ → Result CondKind AtByte
other_kind nocase [] = searched (parse_pattern [] nocase)
other_kind nocase (b ∷ bs) =
    if b == equals then Ok (Equals (equals_text bs))
    else (if is_other_test b then Err (rule UNSUPPORTED_CONDITION) else searched (parse_pattern (b ∷ bs) nocase))

-- `-f`, `-d`, `=text`, or a pattern.
abbrev pub kind_of : Bool → List ℕ → Result CondKind AtByte
kind_of nocase text =
    if bytes_eq text (codes "-f") then Ok IsFile
    else (if bytes_eq text (codes "-d") then Ok IsDir else other_kind nocase text)

-- An expression is not supported, and no pattern is read.
abbrev pub kind_behind : List ℕ → Bool → List ℕ → Result CondKind AtByte
kind_behind test nocase text =
    if str_eq_ignore_ascii_case test (codes "expr") then Err (rule UNSUPPORTED_CONDITION) else kind_of nocase text

abbrev pub cond_at : Spot → Bool → CondKind → CondFlags → List Piece → Cond
cond_at spot negated kind flags test = record {
  place = spot.place;
  span = spot.span;
  test = test;
  kind = kind;
  negated = negated;
  nocase = flags.nocase;
  or_next = flags.or_next;
}

abbrev pub cond_with : Spot → List ℕ → List ℕ → Result CondFlags AtByte → Result Cond AtByte
cond_with spot test text flags =
    made_of_two (λ made. made)
    (made_of_two (cond_at spot (is_negated text)) (kind_behind test (nocase_of flags) (without_sign text)) flags)
    (template rewriting test)

unfoldable pub cond_of : Spot → List (List ℕ) → Result Cond AtByte
cond_of spot (test ∷ text ∷ []) = cond_with spot test text (Ok no_cond_flags)
cond_of spot (test ∷ text ∷ flags ∷ []) = cond_with spot test text (cond_flags_in flags)
cond_of spot words = Err wrong
