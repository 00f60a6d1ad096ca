-- The conditions of a rule.
-- Apache manual, mod_rewrite, RewriteCond. What `-f` and `-d` look at is our own choice.
use Rattle.std.specs.Prelude.{ℕ, List, [], ◌∷◌, Bool, true, false, not, ◌&&◌, if◌then◌else◌, Option}
use Rattle.std.specs.Prelude.{Some, None}
use Rattle.std.specs.Str.{bytes_eq, str_eq_ignore_ascii_case}
use Rattle.hc_base.specs.Paths.{begins_with_slash, has_dots, merge_slashes, without_final_slash}
use Rattle.hc_model.specs.declared.event.Event.TheVariants as event
use Rattle.hc_model.specs.declared.outcome.Outcome.{Outcome}
use Rattle.hc_model.specs.declared.rewrite.Cond.{Cond}
use Rattle.hc_model.specs.declared.rewrite.CondKind.{CondKind}
use Rattle.hc_model.specs.declared.rewrite.CondKind.TheVariants.{Equals, IsDir, IsFile, Search}
use Rattle.hc_model.specs.declared.spot.Spot.{Spot}
use Rattle.hc_model.specs.declared.walk.Kind.{Kind}
use Rattle.hc_model.specs.declared.walk.Kind.TheVariants as kind
use Rattle.hc_pattern.specs.Pattern.{Pattern}
use Rattle.hc_rw_expand.specs.Contexts.{Context}
use Rattle.hc_rw_expand.specs.Groups.{matched_in, newer}
use Rattle.hc_rw_expand.specs.Lookups.{Looks, expanded}
use Rattle.hc_rw_expand.specs.Values.{filling_in}
use Rattle.hc_rw_expand.specs.declared.groups.Matched.{Matched}
use Rattle.hc_rw_expand.specs.declared.state.RwState.{RwState}
use Rattle.hc_rw_eval.specs.declared.conditions.Seen.{Seen}
use Rattle.hc_rw_eval.specs.declared.conditions.Tested.{Tested}
use Rattle.hc_steps.specs.Step.{Step, in_order, kind_at, leaves, told, ◌>>=◌}
use Rattle.hc_ways.specs.Kept.{Held, first_match}

-- ---- the tests of a text

-- A text in which the pattern of a condition or a rule is found.
abbrev pub matched_of : List ℕ → Option Held → Option Matched
matched_of text None = None
matched_of text (Some held) = Some (matched_in text held)

abbrev pub searched : List ℕ → Pattern → Option Matched
searched text pattern = matched_of text (first_match text pattern)

-- NC compares without case.
abbrev pub is_text : Bool → List ℕ → List ℕ → Bool
is_text true wanted text = str_eq_ignore_ascii_case wanted text
is_text false wanted text = bytes_eq wanted text

-- The path that a text names: none where it does not begin with a slash, or has a segment of dots.
abbrev pub path_named : List ℕ → Option (List ℕ)
path_named text = if begins_with_slash text && not (has_dots text) then Some (merge_slashes text) else None

-- `-d` drops a final slash.
abbrev pub dir_named : List ℕ → Option (List ℕ)
dir_named text =
    if begins_with_slash text && not (has_dots text) then Some (without_final_slash (merge_slashes text)) else None

abbrev pub is_file : Kind → Bool
is_file kind.Absent = false
is_file kind.Dir = false
is_file kind.File = true

abbrev pub is_dir : Kind → Bool
is_dir kind.Absent = false
is_dir kind.Dir = true
is_dir kind.File = false

unfoldable pub stands_there : (Kind → Bool) → Option (List ℕ) → Step Outcome Bool
stands_there wanted None = leaves false
stands_there wanted (Some path) = kind_at path >>= λ kind. leaves (wanted kind)

-- ---- one condition

abbrev pub is_found : Option Matched → Bool
is_found None = false
is_found (Some matched) = true

abbrev pub by_pattern : Option Matched → Seen
by_pattern found = record { holds = is_found found; found = found }

abbrev pub without_groups : Bool → Seen
without_groups holds = record { holds = holds; found = None }

unfoldable pub seen_by : CondKind → Bool → List ℕ → Step Outcome Seen
seen_by (Search pattern) nocase text = leaves (by_pattern (searched text pattern))
seen_by (Equals wanted) nocase text = leaves (without_groups (is_text nocase wanted text))
seen_by IsFile nocase text = stands_there is_file (path_named text) >>= λ holds. leaves (without_groups holds)
seen_by IsDir nocase text = stands_there is_dir (dir_named text) >>= λ holds. leaves (without_groups holds)

abbrev pub counted : Bool → Bool → Bool
counted true holds = not holds
counted false holds = holds

abbrev pub cond_spot : Cond → Spot
cond_spot cond = record { place = cond.place; span = cond.span }

-- Whether it holds, negation counted, with the groups that it leaves.
abbrev pub tested_by : Cond → RwState → Seen → Tested
tested_by cond state seen = record {
  holds = counted cond.negated seen.holds;
  state = record state { cond_groups = newer cond.negated seen.found state.cond_groups };
}

unfoldable pub cond_told : Cond → Tested → Step Outcome Tested
cond_told cond tested = told (event.Cond (cond_spot cond) tested.holds) tested

unfoldable pub text_tested : Cond → RwState → List ℕ → Step Outcome Tested
text_tested cond state text = seen_by cond.kind cond.nocase text >>= λ seen. cond_told cond (tested_by cond state seen)

unfoldable pub cond_tried : Context → Looks → RwState → Cond → Step Outcome Tested
cond_tried context looks state cond =
    expanded looks (filling_in context state) cond.test >>= text_tested cond state

-- ---- all conditions

-- A condition with OR stands in one group with what follows it.
abbrev pub into_group : Cond → List (List Cond) → List (List Cond)
into_group cond [] = (cond ∷ []) ∷ []
into_group cond (group ∷ groups) = (cond ∷ group) ∷ groups

abbrev pub or_groups : List Cond → List (List Cond)
or_groups [] = []
or_groups (cond ∷ conds) =
    if cond.or_next then into_group cond (or_groups conds) else (cond ∷ []) ∷ or_groups conds

abbrev pub tested_so_far : Bool → RwState → Tested
tested_so_far holds state = record { holds = holds; state = state }

-- Once a member of a group holds the others are skipped.
unfoldable pub unless_held : Context → Looks → Tested → Cond → Step Outcome Tested
unless_held context looks tested cond =
    if tested.holds then leaves tested else cond_tried context looks tested.state cond

unfoldable pub group_tried : Context → Looks → RwState → List Cond → Step Outcome Tested
group_tried context looks state group = in_order (unless_held context looks) (tested_so_far false state) group

-- All groups have to hold. Behind one that does not none is tried.
unfoldable pub while_held : Context → Looks → Tested → List Cond → Step Outcome Tested
while_held context looks tested group =
    if tested.holds then group_tried context looks tested.state group else leaves tested

unfoldable pub conds_tried : Context → Looks → RwState → List Cond → Step Outcome Tested
conds_tried context looks state conds = in_order (while_held context looks) (tested_so_far true state) (or_groups conds)
