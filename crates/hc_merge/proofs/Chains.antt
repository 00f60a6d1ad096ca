-- A chain of conditions by one bit: whether one of it holds so far.
use Rattle.std.proofs.Common.{◌≡◌, List, [], ◌∷◌, ◌++◌, Bool, true, false, not, ◌&&◌, ◌||◌}
use Rattle.std.proofs.Common.{Option, Some, None, if◌then◌else◌, refl, sym, ap, ◌∙◌}
use Rattle.std.specs.List.{list_any}
use Rattle.std.specs.Option.{option_map}
use Rattle.hc_expr.proofs.StepsHeld.{and_holds, not_holds}
use Rattle.hc_expr.specs.Values.{holds}
use Rattle.hc_model.specs.declared.expression.Expr.{Expr}
use Rattle.hc_model.specs.declared.expression.Expr.TheVariants.{And, Not}
use Rattle.hc_model.specs.declared.request.View.{View}
use Rattle.hc_model.specs.declared.section.Reach.{Reach}
use Rattle.hc_model.specs.declared.section.Reach.TheVariants.{Dir, DirSearch, Files, Location, LocationGlob}
use Rattle.hc_model.specs.declared.section.Reach.TheVariants.{LocationSearch, Otherwise, When}
use Rattle.hc_merge.specs.Candidates.{Candidate}
use Rattle.hc_merge.specs.Chains.{held_behind, is_chained}
use Rattle.hc_merge.specs.Reaching.{Chain, applies, behind_each, chain_behind, chained, holds_at, kept_behind, kept_by}
use Rattle.hc_merge.specs.Reaching.{resolved}

module _ (view : View) where
  abbrev passes : Bool → Option Reach → Bool
  passes held reach = applies view reach && not (held && is_chained reach)

  abbrev kept_now : List Bool → Bool → Candidate → Bool
  kept_now marks held candidate = holds_at marks candidate.parent && passes held candidate.reach

  abbrev pub kept_when : List Bool → Bool → List Candidate → List Candidate
  kept_when marks held [] = []
  kept_when marks held (candidate ∷ candidates) =
      (if kept_now marks held candidate then candidate ∷ [] else [])
      ++ kept_when (marks ++ kept_now marks held candidate ∷ [])
      (held_behind held (applies view candidate.reach) candidate.reach) candidates

  abbrev any_holds : Chain → Bool
  any_holds chain = list_any (holds view) chain

  and_true : (b : Bool) → b && true ≡ b
  and_true true = refl
  and_true false = refl

  or_false : (b : Bool) → b || false ≡ b
  or_false true = refl
  or_false false = refl

  or_assoc : (a b c : Bool) → (a || b) || c ≡ a || (b || c)
  or_assoc true b c = refl
  or_assoc false b c = refl

  neither : (none first rest : Bool) → ((none && not first) && not rest) ≡ none && not (first || rest)
  neither true true rest = refl
  neither true false rest = refl
  neither false first rest = refl

  behind_holds : (none : Expr) (chain : Chain) (expr : Expr)
      → holds view (behind_each none chain expr) ≡ (holds view none && not (any_holds chain)) && holds view expr
  behind_holds none [] expr = and_holds view none expr
      ∙ ap (λ b. b && holds view expr) (sym (and_true (holds view none)))
  behind_holds none (before ∷ chain) expr =
      behind_holds (And none (Not before)) chain expr
      ∙ ap (λ b. (b && not (any_holds chain)) && holds view expr)
      (and_holds view none (Not before) ∙ ap (λ b. holds view none && b) (not_holds view before))
      ∙ ap (λ b. b && holds view expr) (neither (holds view none) (holds view before) (any_holds chain))

  turned : (held is : Bool) → not held && is ≡ is && not (held && true)
  turned true true = refl
  turned true false = refl
  turned false true = refl
  turned false false = refl

  first_turned : (first rest is : Bool) → (not first && not rest) && is ≡ is && not ((first || rest) && true)
  first_turned true rest true = refl
  first_turned true rest false = refl
  first_turned false rest is = turned rest is

  chained_holds : (chain : Chain) (expr : Expr) → holds view (chained chain expr) ≡ holds view expr
      && not (any_holds chain && true)
  chained_holds [] expr = sym (and_true (holds view expr))
  chained_holds (first ∷ chain) expr =
      behind_holds (Not first) chain expr ∙ ap (λ b. (b && not (any_holds chain)) && holds view expr)
      (not_holds view first)
      ∙ first_turned (holds view first) (any_holds chain) (holds view expr)

  own : (held is : Bool) → is ≡ is && not (held && false)
  own true true = refl
  own true false = refl
  own false true = refl
  own false false = refl

  passes_resolved : (before : Chain) (reach : Option Reach) → applies view (option_map (resolved before) reach)
      ≡ passes (any_holds before) reach
  passes_resolved before None = own (any_holds before) true
  passes_resolved before (Some (Otherwise test)) = chained_holds before test
  passes_resolved before (Some (When test)) = own (any_holds before) _
  passes_resolved before (Some (Dir pattern)) = own (any_holds before) _
  passes_resolved before (Some (DirSearch pattern)) = own (any_holds before) _
  passes_resolved before (Some (Files pattern)) = own (any_holds before) _
  passes_resolved before (Some (Location path)) = own (any_holds before) _
  passes_resolved before (Some (LocationGlob pattern)) = own (any_holds before) _
  passes_resolved before (Some (LocationSearch pattern)) = own (any_holds before) _

  any_more : (chain : Chain) (test : Expr) → any_holds (chain ++ test ∷ []) ≡ any_holds chain || holds view test
  any_more [] test = or_false (holds view test)
  any_more (first ∷ chain) test = ap (λ b. holds view first || b) (any_more chain test)
      ∙ sym (or_assoc (holds view first) (any_holds chain) (holds view test))

  behind_held : (before : Chain) (reach : Option Reach) → any_holds (chain_behind before reach)
      ≡ held_behind (any_holds before) (applies view reach) reach
  behind_held before None = refl
  behind_held before (Some (When test)) = or_false (holds view test)
  behind_held before (Some (Otherwise test)) = any_more before test
  behind_held before (Some (Dir pattern)) = refl
  behind_held before (Some (DirSearch pattern)) = refl
  behind_held before (Some (Files pattern)) = refl
  behind_held before (Some (Location path)) = refl
  behind_held before (Some (LocationGlob pattern)) = refl
  behind_held before (Some (LocationSearch pattern)) = refl

  by_bit : (marks : List Bool) (before : Chain) (candidates : List Candidate)
      → kept_behind view marks before candidates ≡ kept_when marks (any_holds before) candidates
  by_bit marks before [] = refl
  by_bit marks before (candidate ∷ candidates) =
      let mark = kept_now marks (any_holds before) candidate in
      ap (λ passed. (if holds_at marks candidate.parent && passed then candidate ∷ [] else []) ++ kept_behind view
      (marks ++ (holds_at marks candidate.parent && passed) ∷ []) (chain_behind before candidate.reach)
      candidates)
      (passes_resolved before candidate.reach)
      ∙ ap (λ later. (if mark then candidate ∷ [] else []) ++ later)
      (by_bit (marks ++ mark ∷ []) (chain_behind before candidate.reach) candidates
      ∙ ap (λ held. kept_when (marks ++ mark ∷ []) held candidates) (behind_held before candidate.reach))

  pub kept_by_bit : (candidates : List Candidate) → kept_by view candidates ≡ kept_when [] false candidates
  kept_by_bit candidates = by_bit [] [] candidates
