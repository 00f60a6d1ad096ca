-- Whether the rules of a directory run.
use Rattle.hc_abs_dir.proofs.Common.{◌≡◌, ◌∙◌, ℕ, List, [], ◌∷◌, ◌++◌, Bool, true, false, not, ◌&&◌, None, Some}
use Rattle.hc_abs_dir.proofs.Common.{refl, sym, ap, subst, Automaton, Accepts, Decision, Tied}
use Rattle.hc_abs_dir.proofs.Common.{ground_in, Are, LentGround, LentSettings, Segment, Ground}
use Rattle.std.proofs.lemmas.Slice.Eq.{bytes_eq-Decides}
use Rattle.std.specs.Str.{bytes_eq}
use Rattle.hc_base.specs.Paths.{ends_with_slash}
use Rattle.hc_dfa.specs.Singles.{is_among, single}
use Rattle.hc_abs_left.specs.Segments.{AreLeft}
use Rattle.hc_abs_pass.specs.Passing.{directory_plan, follow_plan, is_itself, left_plan, ruled_in}
use Rattle.hc_abs_pass.specs.Walks.{is_empty}
use Rattle.hc_cells.specs.declared.slot.Slot.TheVariants as slot
use Rattle.hc_abs_dir.specs.Begun.{named_plan}
use Rattle.hc_abs_dir.specs.Behind.{AreBy}
use Rattle.hc_abs_dir.specs.Sides.{AreSides}
use Rattle.hc_abs_dir.specs.declared.sides.Sides.{Sides}

-- ---- sets

empty_same : (x : List ℕ) → single [] x ≡ is_empty x
empty_same [] = refl
empty_same (b ∷ x) = refl

-- A directory whose name ends in a slash is no file name.
itself_by : (ground : Ground) (dir : List ℕ) (slashed : Bool) → ends_with_slash dir ≡ slashed → (x : List ℕ)
    → is_itself ground dir x ≡ (bytes_eq x dir && not slashed)
itself_by ground dir slashed is x = by (bytes_eq x dir) refl
  where
    by : (v : Bool) → bytes_eq x dir ≡ v → (v && not (ends_with_slash x)) ≡ (v && not slashed)
    by true same =
        ap (λ x. not (ends_with_slash x)) ((bytes_eq-Decides x dir).0 same) ∙ ap not is
    by false apart = refl

pub none_itself : (ground : Ground) (dir : List ℕ) (none : Automaton) → ends_with_slash dir ≡ true
    → Accepts none (is_among []) → Accepts none (is_itself ground dir)
none_itself ground dir none slashed is x text =
    is x text ∙ sym (itself_by ground dir true slashed x ∙ by (bytes_eq x dir))
  where
    by : (v : Bool) → (v && false) ≡ false
    by true = refl
    by false = refl

pub one_itself : (ground : Ground) (dir : List ℕ) (own : Automaton) → ends_with_slash dir ≡ false
    → Accepts own (single dir) → Accepts own (is_itself ground dir)
one_itself ground dir own plain is x text = is x text ∙ sym (itself_by ground dir false plain x ∙ by (bytes_eq x dir))
  where
    by : (v : Bool) → (v && true) ≡ v
    by true = refl
    by false = refl

-- ---- plans

module _ (ground : LentGround) (lent : LentSettings) (decisions : List Decision) (tied : Tied) (found : List Segment)
  where
    pub undirected : lent.force.dir ≡ None → AreLeft ground lent decisions false tied found
        → AreBy ground lent (λ own settings. directory_plan own settings decisions settings.force.dir) (Some tied) found
    undirected none are levels merges settings fit state ends =
        let own = ground_in levels merges ground in
        subst (λ dir. Are ground (directory_plan own settings decisions dir) state found)
        (sym ((λ i. (fit.force i).dir) ∙ none)) (are levels merges settings state fit ends)

    module _ (dir : List ℕ) (there : lent.force.dir ≡ Some dir) where
      directed : (engine : Bool) → lent.force.engine ≡ engine
          → AreBy ground lent (λ own settings. elim engine [
            | true ↦ ruled_in own settings dir decisions
            | false ↦ left_plan own settings decisions false
          ]) (Some tied) found
          → AreBy ground lent (λ own settings. directory_plan own settings decisions settings.force.dir) (Some tied)
          found
      directed engine is are levels merges settings fit state ends =
          let own = ground_in levels merges ground in
          subst (λ dir. Are ground (directory_plan own settings decisions dir) state found)
          (sym ((λ i. (fit.force i).dir) ∙ there))
          (subst (λ engine. Are ground (elim engine [
            | true ↦ ruled_in own settings dir decisions
            | false ↦ left_plan own settings decisions false
          ]) state found) (sym ((λ i. (fit.force i).engine) ∙ is)) (are levels merges settings fit state ends))

      pub switched_off : lent.force.engine ≡ false → AreLeft ground lent decisions false tied found
          → AreBy ground lent (λ own settings. directory_plan own settings decisions settings.force.dir) (Some tied)
          found
      switched_off off are =
          directed false off (λ levels merges settings fit state ends. are levels merges settings state fit ends)

      pub switched_on : lent.force.engine ≡ true
          → AreBy ground lent (λ own settings. ruled_in own settings dir decisions) (Some tied) found
          → AreBy ground lent (λ own settings. directory_plan own settings decisions settings.force.dir) (Some tied)
          found
      switched_on on are = directed true on are

-- ---- both tests

module _ (ground : LentGround) (lent : LentSettings) (decisions : List Decision) (dir : List ℕ) (set : Automaton)
    (tied : Tied) (sides : Sides) (first rest found : List Segment) (all : found ≡ first ++ rest) where
  -- Whether END was met.
  pub ruled_fits : Accepts set (single []) → AreSides slot.End set tied sides
      → AreBy ground lent (λ own settings. named_plan own settings dir decisions) sides.held first
      → AreBy ground lent (λ own settings. left_plan own settings decisions false) sides.failed rest
      → AreBy ground lent (λ own settings. ruled_in own settings dir decisions) (Some tied) found
  ruled_fits is are on off levels merges settings fit state ends =
      let own = ground_in levels merges ground in
      subst (Are ground (ruled_in own settings dir decisions) state) (sym all)
      (are ground.client ground.tests.now is_empty (λ fresh. elim fresh [
        | true ↦ named_plan own settings dir decisions
        | false ↦ left_plan own settings decisions false
      ]) state first rest (λ x text. is x text ∙ empty_same x) ends (on levels merges settings fit)
      (off levels merges settings fit))

  -- Whether the name is the directory itself.
  pub named_fits : ((own : Ground) → Accepts set (is_itself own dir)) → AreSides slot.Name set tied sides
      → AreBy ground lent (λ own settings. left_plan own settings decisions false) sides.held first
      → AreBy ground lent (λ own settings. follow_plan own settings dir decisions) sides.failed rest
      → AreBy ground lent (λ own settings. named_plan own settings dir decisions) (Some tied) found
  named_fits is are on off levels merges settings fit state ends =
      let own = ground_in levels merges ground in
      subst (Are ground (named_plan own settings dir decisions) state) (sym all)
      (are ground.client ground.tests.now (is_itself own dir) (λ itself. elim itself [
        | true ↦ left_plan own settings decisions false
        | false ↦ follow_plan own settings dir decisions
      ]) state first rest (is own) ends (on levels merges settings fit) (off levels merges settings fit))
