-- Conditions and variables leave the text, the path information and the groups of the rule.
use Rattle.std.proofs.Common.{◌≡◌, List, true, false, Option, Some, None}
use Rattle.hc_model.specs.declared.rewrite.Cond.{Cond}
use Rattle.hc_model.specs.declared.rewrite.EnvSet.{EnvSet}
use Rattle.hc_model.specs.declared.template.Piece.{Piece}
use Rattle.hc_rounds.proofs.Steps.{Any, Gives, gives_any, gives_each, gives_if, gives_then}
unfoldable use Rattle.hc_rw_eval.specs.Conditions.{cond_told, cond_tried, conds_tried, group_tried, text_tested}
unfoldable use Rattle.hc_rw_eval.specs.Conditions.{unless_held, while_held}
use Rattle.hc_rw_eval.specs.Conditions.{or_groups, seen_by, tested_so_far}
unfoldable use Rattle.hc_rw_eval.specs.Substitutions.{set_by, set_to, variables_set, with_set}
use Rattle.hc_rw_eval.specs.Substitutions.{is_long}
use Rattle.hc_rw_eval.specs.declared.conditions.Tested.{Tested}
use Rattle.hc_rw_expand.specs.Contexts.{Context}
use Rattle.hc_rw_expand.specs.Lookups.{Looks, expanded}
use Rattle.hc_rw_expand.specs.Values.{filling_in}
use Rattle.hc_rw_expand.specs.declared.state.RwState.{RwState}
use Rattle.hc_steps.specs.Step.{leaves}

abbrev pub IsLike : RwState → RwState → Type 0
IsLike one other = (other.text ≡ one.text) × (other.info ≡ one.info) × (other.groups ≡ one.groups)

abbrev pub IsTestedLike : RwState → Tested → Type 0
IsTestedLike one tested = IsLike one tested.state

module _ (context : Context) (looks : Looks) (one : RwState) where
  set_like : (state : RwState) (set : EnvSet) → IsLike one state → Gives (IsLike one) (with_set context looks state set)
  unfolding with_set set_by set_to
  set_like state set like = by set.value
    where
      by : (value : Option (List Piece)) → Gives (IsLike one) (set_by context looks state set.name value)
      by None = like
      by (Some value) =
          gives_then Any (IsLike one) (expanded looks (filling_in context state) value) (set_to state set.name)
          (gives_any (expanded looks (filling_in context state) value))
          (λ text any. gives_if (IsLike one) (is_long text) _ _ (λ long. tt) (λ short. like))

  pub variables_like : (sets : List EnvSet) (state : RwState) → IsLike one state
      → Gives (IsLike one) (variables_set context looks state sets)
  unfolding variables_set
  variables_like sets state like = gives_each (IsLike one) (with_set context looks) set_like sets state like

  cond_like : (state : RwState) (cond : Cond) → IsLike one state
      → Gives (IsTestedLike one) (cond_tried context looks state cond)
  unfolding cond_tried text_tested cond_told
  cond_like state cond like =
      gives_then Any (IsTestedLike one) (expanded looks (filling_in context state) cond.test) (text_tested cond state)
      (gives_any (expanded looks (filling_in context state) cond.test))
      (λ text any.
      gives_then Any (IsTestedLike one) (seen_by cond.kind cond.nocase text) _
      (gives_any (seen_by cond.kind cond.nocase text)) (λ seen any. like))

  group_like : (group : List Cond) (state : RwState) → IsLike one state
      → Gives (IsTestedLike one) (group_tried context looks state group)
  unfolding group_tried unless_held
  group_like group state like =
      gives_each (IsTestedLike one) (unless_held context looks)
      (λ tested cond like.
      gives_if (IsTestedLike one) tested.holds (leaves tested) (cond_tried context looks tested.state cond)
      (λ holds. like) (λ fails. cond_like tested.state cond like)) group (tested_so_far false state) like

  pub conds_like : (conds : List Cond) (state : RwState) → IsLike one state
      → Gives (IsTestedLike one) (conds_tried context looks state conds)
  unfolding conds_tried while_held
  conds_like conds state like =
      gives_each (IsTestedLike one) (while_held context looks)
      (λ tested group like.
      gives_if (IsTestedLike one) tested.holds (group_tried context looks tested.state group) (leaves tested)
      (λ holds. group_like group tested.state like) (λ fails. like)) (or_groups conds) (tested_so_far true state) like
