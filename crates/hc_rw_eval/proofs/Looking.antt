-- What maps give in one world is all that a run in that world knows of them.
use Rattle.hc_rw_eval.proofs.Common.{◌≡◌, ◌∙◌, ℕ, zero, suc, ◌+◌, List, [], ◌∷◌, Bool, true}
use Rattle.hc_rw_eval.proofs.Common.{false, Option, Some, None, refl, sym, ap, if◌then◌else◌, Outcome, Context}
use Rattle.hc_rw_eval.proofs.Common.{Looks, run, Shown, Step, leaves, in_order, ◌>>=◌, Rule, Attempt, Rewritten}
use Rattle.hc_rw_eval.proofs.Common.{Finished, Round, Again, Over}
use Rattle.hc_model.specs.declared.read.Read.TheVariants.{TextOf}
use Rattle.hc_model.specs.declared.rewrite.Cond.{Cond}
use Rattle.hc_model.specs.declared.rewrite.EnvSet.{EnvSet}
use Rattle.hc_model.specs.declared.rewrite.Flags.{Flags}
use Rattle.hc_model.specs.declared.template.Piece.{Piece, out-Piece}
use Rattle.hc_model.specs.declared.template.Piece.TheOpen.{Piece-F, Lookup}
use Rattle.hc_rw_eval.specs.Attempts.{attempt, found_in, if_tested, matched, pattern_held, pattern_tried}
use Rattle.hc_rw_eval.specs.Conditions.{cond_tried, conds_tried, counted, group_tried, or_groups, is_found}
use Rattle.hc_rw_eval.specs.Conditions.{tested_so_far, unless_held, while_held}
use Rattle.hc_rw_eval.specs.Frames.{looks_in}
use Rattle.hc_rw_eval.specs.Lists.{begun, behind_attempt, behind_match, from_place, is_followed, most_rounds}
use Rattle.hc_rw_eval.specs.Lists.{next_round, rounds_from, run_rules, stops_run}
use Rattle.hc_rw_eval.specs.Substitutions.{applied, set_by, status_of, substituted, unless_answered, with_set}
use Rattle.hc_rw_eval.specs.Substitutions.{variables_set, with_state}
use Rattle.hc_rw_eval.specs.declared.conditions.Tested.{Tested}
use Rattle.hc_rw_expand.specs.Lookups.{Stands, Values, expanded, open_expanded, text_of_map, text_shown, valued}
use Rattle.hc_rw_expand.specs.Values.{filling_in}
use Rattle.hc_rw_expand.specs.declared.state.RwState.{RwState}
use Rattle.hc_steps.specs.Run.{goes_on, run_then, saying}
use Rattle.hc_steps.proofs.Running.{in_turn}
use Rattle.hc_template.specs.Filled.{Filling, filled}

-- ---- steps that run the same

Same : {E A : Type 0} → Shown → Step E A → Step E A → Type 0
Same w one other = run one w ≡ run other w

module _ (w : Shown) where
  same_then : {E A B : Type 0} (s t : Step E A) (f g : A → Step E B) → run s w ≡ run t w
      → ((a : A) → run (f a) w ≡ run (g a) w) → run (s >>= f) w ≡ run (t >>= g) w
  same_then s t f g first next =
      in_turn s f w ∙ ap (λ r. run_then r (λ a. run (f a) w)) first ∙ ap (run_then (run t w)) (λ i a. next a i)
      ∙ sym (in_turn t g w)

  same_if : {E A : Type 0} (is : Bool) (s t s' t' : Step E A) → run s w ≡ run s' w → run t w ≡ run t' w
      → run (if is then s else t) w ≡ run (if is then s' else t') w
  same_if true s t s' t' then_same else_same = then_same
  same_if false s t s' t' then_same else_same = else_same

  same_in_order : {E A B : Type 0} (f g : B → A → Step E B)
      → ((b : B) (a : A) → run (f b a) w ≡ run (g b a) w) → (b : B) (items : List A)
      → run (in_order f b items) w ≡ run (in_order g b items) w
  same_in_order f g each b [] = refl
  same_in_order f g each b (a ∷ items) =
      same_then (f b a) (g b a) _ _ (each b a) (λ b. same_in_order f g each b items)

  same_text : {E : Type 0} (file : Option (List ℕ)) (one other : Option (List ℕ) → Option (List ℕ))
      → one (text_shown w file) ≡ other (text_shown w file)
      → run {E = E} (text_of_map file >>= λ text. leaves (one text)) w
      ≡ run {E = E} (text_of_map file >>= λ text. leaves (other text)) w
  unfolding text_of_map ◌>>=◌ run
  same_text None one other is = ap (λ value. record { events = []; reads = []; way = goes_on value }) is
  same_text (Some path) one other is =
      ap (λ value. record { events = []; reads = TextOf path ∷ []; way = goes_on value }) is

-- ---- each definition, with what the maps give here and with what the looks say

module _ (files : List ℕ → Option (List ℕ)) (values : Values) (looks : Looks) (w : Shown)
    (stands : Stands files values looks w) where
  same_value : {E : Type 0} (name key : List ℕ) → run {E = E} (valued (looks_in files values) name key) w
      ≡ run {E = E} (valued looks name key) w
  unfolding valued
  same_value name key =
      ap (λ file. run (text_of_map file >>= λ text. leaves (values name key)) w) (stands.same_files name)
      ∙ same_text w (looks.file name) (λ text. values name key) (looks.value name key) (stands.same_values name key)

  same_piece : {E : Type 0} (filling : Filling) (piece : Piece) (part : Piece-F Piece)
      → run {E = E} (open_expanded (looks_in files values) filling piece part) w
      ≡ run {E = E} (open_expanded looks filling piece part) w
  same_piece filling piece (Lookup name key fallback) =
      same_then w (valued (looks_in files values) name (filled filling key)) (valued looks name (filled filling key)) _
      _ (same_value name (filled filling key)) (λ value. refl)
  same_piece filling piece other = refl

  same_expanded : {E : Type 0} (filling : Filling) (pieces : List Piece)
      → run {E = E} (expanded (looks_in files values) filling pieces) w
      ≡ run {E = E} (expanded looks filling pieces) w
  unfolding expanded
  same_expanded filling [] = refl
  same_expanded filling (piece ∷ pieces) =
      same_then w _ _ _ _ (same_piece filling piece (out-Piece piece))
      (λ front. same_then w _ _ _ _ (same_expanded filling pieces) (λ rest. refl))

  module _ (context : Context) where
    same_cond : (state : RwState) (cond : Cond) → run (cond_tried context (looks_in files values) state cond) w
        ≡ run (cond_tried context looks state cond) w
    unfolding cond_tried
    same_cond state cond = same_then w _ _ _ _ (same_expanded (filling_in context state) cond.test) (λ text. refl)

    same_unless : (tested : Tested) (cond : Cond) → run (unless_held context (looks_in files values) tested cond) w
        ≡ run (unless_held context looks tested cond) w
    unfolding unless_held
    same_unless tested cond = same_if w tested.holds _ _ _ _ refl (same_cond tested.state cond)

    same_group : (state : RwState) (group : List Cond)
        → run (group_tried context (looks_in files values) state group) w
        ≡ run (group_tried context looks state group) w
    unfolding group_tried
    same_group state group = same_in_order w _ _ same_unless (tested_so_far false state) group

    same_while : (tested : Tested) (group : List Cond)
        → run (while_held context (looks_in files values) tested group) w
        ≡ run (while_held context looks tested group) w
    unfolding while_held
    same_while tested group = same_if w tested.holds _ _ _ _ (same_group tested.state group) refl

    same_conds : (state : RwState) (conds : List Cond)
        → run (conds_tried context (looks_in files values) state conds) w
        ≡ run (conds_tried context looks state conds) w
    unfolding conds_tried
    same_conds state conds = same_in_order w _ _ same_while (tested_so_far true state) (or_groups conds)

    same_set_by : (state : RwState) (name : List ℕ) (value : Option (List Piece))
        → run (set_by context (looks_in files values) state name value) w
        ≡ run (set_by context looks state name value) w
    unfolding set_by
    same_set_by state name None = refl
    same_set_by state name (Some value) = same_then w _ _ _ _ (same_expanded (filling_in context state) value)
        (λ value. refl)

    same_set : (state : RwState) (set : EnvSet)
        → run (with_set context (looks_in files values) state set) w ≡ run (with_set context looks state set) w
    unfolding with_set
    same_set state set = same_set_by state set.name set.value

    same_sets : (state : RwState) (sets : List EnvSet)
        → run (variables_set context (looks_in files values) state sets) w
        ≡ run (variables_set context looks state sets) w
    unfolding variables_set
    same_sets state sets = same_in_order w _ _ same_set state sets

    same_substituted : (flags : Flags) (followed : Bool) (before : Rewritten) (subst : Option (List Piece))
        → run (substituted context (looks_in files values) flags followed before subst) w
        ≡ run (substituted context looks flags followed before subst) w
    unfolding substituted
    same_substituted flags followed before None = refl
    same_substituted flags followed before (Some template) =
        same_then w _ _ _ _ (same_expanded (filling_in context before.state) template) (λ text. refl)

    module _ (rule : Rule) (followed : Bool) where
      same_unless_answered : (before : Rewritten) (status : Option ℕ)
          → run (unless_answered context (looks_in files values) rule followed before status) w
          ≡ run (unless_answered context looks rule followed before status) w
      unfolding unless_answered
      same_unless_answered before (Some status) = refl
      same_unless_answered before None = same_substituted rule.flags followed before rule.subst

      same_applied : (before : Rewritten) → run (applied context (looks_in files values) rule followed before) w
          ≡ run (applied context looks rule followed before) w
      unfolding applied
      same_applied before = same_then w _ _ _ _ (same_sets before.state rule.flags.sets)
          (λ state. same_unless_answered (with_state before state) (status_of rule.flags))

      same_matched : (before : Rewritten) → run (matched context (looks_in files values) rule followed before) w
          ≡ run (matched context looks rule followed before) w
      unfolding matched run
      same_matched before = ap (saying _) (same_then w _ _ _ _ (same_applied before) (λ left. refl))

      same_tested : (before : Rewritten) (tested : Tested)
          → run (if_tested context (looks_in files values) rule followed before tested) w
          ≡ run (if_tested context looks rule followed before tested) w
      unfolding if_tested
      same_tested before tested = same_if w tested.holds _ _ _ _ (same_matched (with_state before tested.state)) refl

      same_held : (before : Rewritten) → run (pattern_held context (looks_in files values) rule followed before) w
          ≡ run (pattern_held context looks rule followed before) w
      unfolding pattern_held
      same_held before = same_then w _ _ _ _ (same_conds before.state rule.conds) (same_tested before)

      same_attempt : (before : Rewritten) → run (attempt context (looks_in files values) rule followed before) w
          ≡ run (attempt context looks rule followed before) w
      unfolding attempt pattern_tried
      same_attempt before = same_if w (counted rule.negated (is_found (found_in context rule before.state))) _ _ _ _
          (same_held _) refl

    same_behind_match : (f g : ℕ → Rewritten → Step Outcome Round)
        → ((skipped : ℕ) (left : Rewritten) → run (f skipped left) w ≡ run (g skipped left) w)
        → (rule : Rule) (round : ℕ) (left : Rewritten)
        → run (behind_match f rule round left) w ≡ run (behind_match g rule round left) w
    unfolding behind_match
    same_behind_match f g further rule round left =
        same_if w (stops_run rule.flags) _ _ _ _ refl
        (same_if w rule.flags.next _ _ _ _ refl (further rule.flags.skip left))

    same_behind : (f g : ℕ → Rewritten → Step Outcome Round)
        → ((skipped : ℕ) (left : Rewritten) → run (f skipped left) w ≡ run (g skipped left) w)
        → (rule : Rule) (rules : List Rule) (round : ℕ) (attempt : Attempt)
        → run (behind_attempt f rule rules round attempt) w ≡ run (behind_attempt g rule rules round attempt) w
    unfolding behind_attempt
    same_behind f g further rule rules round attempt =
        same_if w attempt.matched _ _ _ _ (same_behind_match f g further rule round attempt.left)
        (further _ attempt.left)

    same_from_place : (round skipped : ℕ) (rules : List Rule) (left : Rewritten)
        → run (from_place context (looks_in files values) round skipped rules left) w
        ≡ run (from_place context looks round skipped rules left) w
    unfolding from_place
    same_from_place round skipped [] left = refl
    same_from_place round (suc skipped) (rule ∷ rules) left = same_from_place round skipped rules left
    same_from_place round zero (rule ∷ rules) left =
        same_then w _ _ _ _ (same_attempt rule (is_followed rules) left)
        (same_behind _ _ (λ skipped left. same_from_place round skipped rules left) rule rules round)

    same_next : (f g : ℕ → Rewritten → Step Outcome Finished)
        → ((round : ℕ) (left : Rewritten) → run (f round left) w ≡ run (g round left) w)
        → (round : ℕ) (left : Round) → run (next_round f round left) w ≡ run (next_round g round left) w
    unfolding next_round run
    same_next f g further round (Over finished) = refl
    same_next f g further round (Again next) = ap (saying _) (further (round + 1) next.left)

    same_rounds : (most : ℕ) (rules : List Rule) (round : ℕ) (left : Rewritten)
        → run (rounds_from most context (looks_in files values) rules round left) w
        ≡ run (rounds_from most context looks rules round left) w
    unfolding rounds_from
    same_rounds zero rules round left = refl
    same_rounds (suc more) rules round left =
        same_then w _ _ _ _ (same_from_place round 0 rules left)
        (same_next _ _ (λ round left. same_rounds more rules round left) round)

    pub same_run : (rules : List Rule) (state : RwState)
        → run (rounds_from (most_rounds rules) context (looks_in files values) rules 1 (begun state)) w
        ≡ run (run_rules context looks rules state) w
    unfolding run_rules
    same_run rules state = same_rounds (most_rounds rules) rules 1 (begun state)
