-- Require lines, and the containers that they stand in.
-- Apache manual, mod_authz_core: Require, RequireAll, RequireAny, RequireNone, AuthMerging; mod_authz_host. What may
-- be negated where, and the order of refusals, are our own choice.
use Rattle.std.specs.Prelude.{ℕ, List, [], ◌∷◌, Bool, true, false, not, ◌||◌, is_some, Option, Some, None}
use Rattle.std.specs.Prelude.{Result, Ok, Err, codes, if◌then◌else◌}
use Rattle.std.specs.List.{list_all, list_any}
use Rattle.std.specs.Str.{str_eq_ignore_ascii_case}
use Rattle.hc_addr.specs.Networks.{net_of}
use Rattle.hc_addr.specs.declared.net.BadAddress.{BadAddress}
use Rattle.hc_addr.specs.declared.net.Net.{Net}
use Rattle.hc_base.specs.Rules.{rule}
use Rattle.hc_base.specs.declared.codes.TheConstants.{BAD_ADDRESS, EMPTY_CONTAINER, NEGATED_IN_ANY, NEGATED_IN_NONE}
use Rattle.hc_base.specs.declared.codes.TheConstants.{ONLY_NEGATIVE, UNSUPPORTED_DIRECTIVE}
use Rattle.hc_base.specs.declared.fault.AtByte.{AtByte}
use Rattle.hc_model.specs.declared.authorization.Merging.{Merging}
use Rattle.hc_model.specs.declared.authorization.Merging.TheVariants as merging
use Rattle.hc_model.specs.declared.authorization.Need.{Need}
use Rattle.hc_model.specs.declared.authorization.Need.TheVariants as need
use Rattle.hc_model.specs.declared.authorization.ReqTree.{ReqTree, out-ReqTree}
use Rattle.hc_model.specs.declared.authorization.ReqTree.TheOpen.{ReqTree-F}
use Rattle.hc_model.specs.declared.authorization.ReqTree.TheVariants as tree
use Rattle.hc_config.specs.Targets.{wrong}
use Rattle.hc_config.specs.declared.containers.Container.{Container}
use Rattle.hc_config.specs.declared.containers.Container.TheVariants.{All, Any, NoneOf}
use Rattle.hc_config.specs.declared.requiring.Kind.{Kind}
use Rattle.hc_config.specs.declared.requiring.Kind.TheVariants as kind

abbrev pub is_word : List ℕ → List ℕ → Bool
is_word fixed word = str_eq_ignore_ascii_case fixed word

-- ---- the words of a line

-- Behind `not` stands what is negated.
pub record Line : Type 0 where
  pub negated : Bool
  pub words : List (List ℕ)

abbrev pub line_of : List (List ℕ) → Line
line_of [] = record { negated = false; words = [] }
line_of (word ∷ words) =
    if is_word (codes "not") word then record { negated = true; words = words }
    else record { negated = false; words = word ∷ words }

abbrev pub kind_named : List ℕ → Option Kind
kind_named word =
    if is_word (codes "all") word then Some kind.All
    else (if is_word (codes "method") word then Some kind.Method
    else (if is_word (codes "ip") word then Some kind.Ip
    else (if is_word (codes "local") word then Some kind.Local
    else None)))

-- ---- what a line asks for

abbrev pub has_words : List (List ℕ) → Bool
has_words [] = false
has_words (word ∷ words) = true

-- The words behind a kind are of its form.
abbrev pub is_form : Kind → List (List ℕ) → Bool
is_form kind.All (word ∷ []) = is_word (codes "granted") word || is_word (codes "denied") word
is_form kind.All words = false
is_form kind.Method words = has_words words
is_form kind.Ip words = has_words words
is_form kind.Local words = not (has_words words)

abbrev pub all_need : List (List ℕ) → Need
all_need words = if list_any (is_word (codes "granted")) words then need.Granted else need.Denied

-- A text that is no network breaks a rule of its own.
abbrev pub with_net : Result Net BadAddress → Result (List Net) AtByte → Result (List Net) AtByte
with_net (Err bad) nets = Err (rule BAD_ADDRESS)
with_net (Ok net) (Err broken) = Err broken
with_net (Ok net) (Ok nets) = Ok (net ∷ nets)

abbrev pub nets_of : List (List ℕ) → Result (List Net) AtByte
nets_of [] = Ok []
nets_of (word ∷ words) = with_net (net_of word) (nets_of words)

abbrev pub ip_need : Result (List Net) AtByte → Result Need AtByte
ip_need (Err broken) = Err broken
ip_need (Ok nets) = Ok (need.Ip nets)

abbrev pub need_of : Kind → List (List ℕ) → Result Need AtByte
need_of kind.All words = Ok (all_need words)
need_of kind.Method words = Ok (need.Method words)
need_of kind.Ip words = ip_need (nets_of words)
need_of kind.Local words = Ok need.Local

-- ---- what may be negated

-- What is negated says nothing by itself: it may stand in a RequireAll alone. The Require lines of a
-- section stand in a RequireAny.
abbrev pub negation_rule : Option Container → Option ℕ
negation_rule None = Some NEGATED_IN_ANY
negation_rule (Some All) = None
negation_rule (Some Any) = Some NEGATED_IN_ANY
negation_rule (Some NoneOf) = Some NEGATED_IN_NONE

abbrev pub negated_rule : Bool → Option Container → Option ℕ
negated_rule negated container = if negated then negation_rule container else None

abbrev pub is_none_of : Container → Bool
is_none_of All = false
is_none_of Any = false
is_none_of NoneOf = true

abbrev pub unless_broken : {A : Type 0} → Option ℕ → Result A AtByte → Result A AtByte
unless_broken None answer = answer
unless_broken (Some code) answer = Err (rule code)

-- ---- a line in a container, or in none

abbrev pub asked_as : Option Container → Bool → Option Kind → List (List ℕ) → Result Need AtByte
asked_as container negated None words = Err (rule UNSUPPORTED_DIRECTIVE)
asked_as container negated (Some kind) words =
    if is_form kind words then unless_broken (negated_rule negated container) (need_of kind words) else Err wrong

abbrev pub asked : Option Container → Bool → List (List ℕ) → Result Need AtByte
asked container negated [] = Err wrong
asked container negated (word ∷ words) = asked_as container negated (kind_named word) words

abbrev pub asked_by : Option Container → Line → Result Need AtByte
asked_by container line = asked container line.negated line.words

-- A kind that is not known.
abbrev pub has_unknown_kind : List (List ℕ) → Bool
has_unknown_kind [] = false
has_unknown_kind (word ∷ words) = not (is_some (kind_named word))

-- ---- trees

abbrev pub tree_of : Container → List ReqTree → ReqTree
tree_of All members = tree.All members
tree_of Any members = tree.AnyOf members
tree_of NoneOf members = tree.NoneOf members

abbrev pub is_negative : ReqTree → Bool
is_negative member = elim (out-ReqTree member) [
  | ReqTree-F.Leaf place negated need ↦ negated
  | ReqTree-F.All members ↦ false
  | ReqTree-F.AnyOf members ↦ false
  | ReqTree-F.NoneOf members ↦ true
]

-- A container has a member, and a RequireAll one that is not negated.
abbrev pub container_rule : Container → List ReqTree → Option ℕ
container_rule container [] = Some EMPTY_CONTAINER
container_rule All (member ∷ members) = if list_all is_negative (member ∷ members) then Some ONLY_NEGATIVE else None
container_rule Any (member ∷ members) = None
container_rule NoneOf (member ∷ members) = None

-- Those of a section.
abbrev pub section_tree : List ReqTree → Option ReqTree
section_tree [] = None
section_tree (member ∷ members) = Some (tree.AnyOf (member ∷ members))

-- ---- AuthMerging

abbrev pub merging_named : List ℕ → Option Merging
merging_named word =
    if is_word (codes "Off") word then Some merging.Off
    else (if is_word (codes "And") word then Some merging.And
    else (if is_word (codes "Or") word then Some merging.Or
    else None))
