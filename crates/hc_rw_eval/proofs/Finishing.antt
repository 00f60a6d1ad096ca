-- What a list of rules comes to is what its rounds come to.
use Rattle.hc_rw_eval.proofs.Common.{◌≡◌, ◌∙◌, ℕ, zero, suc, ◌+◌, ◌-◌, ◌<◌, ◌≤◌, List}
use Rattle.hc_rw_eval.proofs.Common.{[], ◌∷◌, refl, sym, ap, subst, arith, Outcome, Context, Looks, Run, run}
use Rattle.hc_rw_eval.proofs.Common.{Shown, Step, leaves, ends, Rule, Rewritten, NextRound, Round, Finished, Again}
use Rattle.hc_rw_eval.proofs.Common.{Over}
use Rattle.std.proofs.Common.{append-nil}
use Rattle.std.specs.Prelude.{max}
use Rattle.std.specs.List.{AllByRecursion, fold}
use Rattle.hc_model.specs.declared.event.Event.TheVariants as event
use Rattle.hc_rw_eval.specs.Lists.{begun, from_place, most_rounds, next_round, rounds_from, run_rules}
use Rattle.hc_rw_eval.specs.Relation.{Comes, Finishes, ListIsRelated, OneEnd}
use Rattle.hc_rw_eval.specs.Relation.Comes.{no_rule, skipped_rule, answered, unmatched, stopped, again, at_bound}
use Rattle.hc_rw_eval.specs.Relation.Comes.{onward}
use Rattle.hc_rw_eval.specs.Relation.Finishes.{request_over, rules_over, next_round as round_more}
use Rattle.hc_rw_eval.proofs.Relating.{only, related}
use Rattle.hc_steps.specs.Run.{Way, goes_on, is_over, on_way, saying}
use Rattle.hc_steps.specs.Run as steps
use Rattle.hc_steps.proofs.Running.{in_turn}

-- No rule has a greater bound.
abbrev Below : ℕ → List Rule → Type 0
Below top rules = AllByRecursion (λ rule. rule.flags.rounds ≤ top) rules

abbrev greatest : ℕ → List Rule → ℕ
greatest start rules = fold (λ most rule. max most rule.flags.rounds) start rules

all_below : (start : ℕ) (rules : List Rule) → (start ≤ greatest start rules) × Below (greatest start rules) rules
all_below start [] = (omega arith, tt)
all_below start (rule ∷ rest) =
    let behind = all_below (max start rule.flags.rounds) rest in
    (omega (arith, behind.0), (omega (arith, behind.0), behind.1))

module _ (context : Context) (looks : Looks) (w : Shown) where
  begun_below : (round top : ℕ) {rules : List Rule} {skipped : ℕ} {left : Rewritten} {next : NextRound}
      {once : Run Outcome Round} → Below top rules
      → Comes context looks w round rules skipped left once → once.way ≡ goes_on (Again next) → round < top
  unfolding run
  begun_below round top bound no_rule is = cc
  begun_below round top bound (skipped_rule further) is = begun_below round top bound.1 further is
  begun_below round top bound (answered at) is = cc
  begun_below round top bound (unmatched at further) is = begun_below round top bound.1 further is
  begun_below round top bound (stopped at s) is = cc
  begun_below round top bound (again at s n lt) is = omega (arith, lt, bound.0)
  begun_below round top bound (at_bound at s n le) is = cc
  begun_below round top bound (onward at s n further) is = begun_below round top bound.1 further is

  module _ (rules : List Rule) where
    abbrev once : ℕ → Rewritten → Run Outcome Round
    once round left = run (from_place context looks round 0 rules left) w

    abbrev from : ℕ → ℕ → Rewritten → Run Outcome Finished
    from more round left = run (rounds_from more context looks rules round left) w

    abbrev after : ℕ → ℕ → Round → Step Outcome Finished
    after more round = next_round (λ round left. rounds_from more context looks rules round left) round

    goes_again : {round : ℕ} {left : Rewritten} {next : NextRound} {first : Run Outcome Round}
        → Comes context looks w round rules 0 left first → first.way ≡ goes_on (Again next)
        → round < most_rounds rules
    goes_again {round} is way = begun_below round (most_rounds rules) (all_below 1 rules).1 is way

    module _ (more round : ℕ) (left : Rewritten) where
      at_round : (way : Way Outcome Round) → (once round left).way ≡ way
          → on_way (once round left) way (λ leads. run (after more round leads) w) ≡ from (suc more) round left
      unfolding rounds_from
      at_round way is =
          ap (λ way. on_way (once round left) way (λ leads. run (after more round leads) w)) (sym is)
          ∙ sym (in_turn (from_place context looks round 0 rules left) (after more round) w)

      over_at : (end : Outcome) → (once round left).way ≡ is_over end
          → steps.behind (once round left) (run (ends end) w) ≡ from (suc more) round left
      unfolding run
      over_at end is =
          (λ i. record {
            events = append-nil (once round left).events i;
            reads = append-nil (once round left).reads i;
            way = is_over end;
          })
          ∙ at_round (is_over end) is

      done_at : (finished : Finished) → (once round left).way ≡ goes_on (Over finished)
          → steps.behind (once round left) (run (leaves finished) w) ≡ from (suc more) round left
      unfolding next_round
      done_at finished is = at_round (goes_on (Over finished)) is

      again_at : (next : NextRound) (further : Run Outcome Finished) → (once round left).way ≡ goes_on (Again next)
          → further ≡ from more (round + 1) next.left
          → steps.behind (once round left) (saying (event.Round (round + 1)) further) ≡ from (suc more) round left
      unfolding next_round run
      again_at next further is same =
          ap (λ further. steps.behind (once round left) (saying (event.Round (round + 1)) further)) same
          ∙ at_round (goes_on (Again next)) is

    only_end : (more : ℕ) {round : ℕ} {left : Rewritten} {one : Run Outcome Finished}
        → most_rounds rules ≤ round + more
        → Finishes context looks w rules round left one → one ≡ from (suc more) round left
    only_end more {round} {left} bound (request_over {end = end} comes is) =
        let same = only context looks w round comes in
        ap (λ first. steps.behind first (run (ends end) w)) same
        ∙ over_at more round left end (ap (λ first. first.way) (sym same) ∙ is)
    only_end more {round} {left} bound (rules_over {finished = finished} comes is) =
        let same = only context looks w round comes in
        ap (λ first. steps.behind first (run (leaves finished) w)) same
        ∙ done_at more round left finished (ap (λ first. first.way) (sym same) ∙ is)
    only_end zero bound (round_more comes is further) =
        let less = goes_again comes is in
        absurd (omega (arith, bound, less))
    only_end (suc more) {round} {left} bound (round_more {next = next} {further = rest} comes is further) =
        let same = only context looks w round comes in
        ap (λ first. steps.behind first (saying (event.Round (round + 1)) rest)) same
        ∙ again_at (suc more) round left next rest (ap (λ first. first.way) (sym same) ∙ is)
        (only_end more (omega (arith, bound)) further)

    abbrev Known : ℕ → ℕ → Rewritten → Type 0
    Known more round left = Finishes context looks w rules round left (from (suc more) round left)

    made : (more : ℕ) {round : ℕ} {left : Rewritten} {one : Run Outcome Finished}
        → most_rounds rules ≤ round + more
        → Finishes context looks w rules round left one → Known more round left
    made more {round} {left} bound is = subst (Finishes context looks w rules round left) (only_end more bound is) is

    by_way : (more round : ℕ) (left : Rewritten) → most_rounds rules ≤ round + more → (way : Way Outcome Round)
        → (once round left).way ≡ way
        → Known more round left
    by_way more round left bound (is_over end) is =
        made more bound (request_over (related context looks w round rules 0 left) is)
    by_way more round left bound (goes_on (Over finished)) is =
        made more bound (rules_over (related context looks w round rules 0 left) is)
    by_way zero round left bound (goes_on (Again next)) is =
        let less = goes_again (related context looks w round rules 0 left) is in
        absurd (omega (arith, bound, less))
    by_way (suc more) round left bound (goes_on (Again next)) is =
        made (suc more) bound
        (round_more (related context looks w round rules 0 left) is
        (by_way more (round + 1) next.left (omega (arith, bound)) _ refl))

-- A further round is within the greatest bound, and that is at least one.
pub begins_below : (context : Context) (looks : Looks) (w : Shown) (rules : List Rule) (round : ℕ) (left : Rewritten)
    (next : NextRound)
    → (run (from_place context looks round 0 rules left) w).way ≡ goes_on (Again next) → round < most_rounds rules
begins_below context looks w rules round left next is =
    goes_again context looks w rules (related context looks w round rules 0 left) is

pub some_rounds : (rules : List Rule) → most_rounds rules ≡ suc (most_rounds rules - 1)
some_rounds rules = omega (arith, (all_below 1 rules).0)

pub list_related : ListIsRelated
unfolding run_rules
list_related context looks w rules state =
    let from = λ (most : ℕ). run (rounds_from most context looks rules 1 (begun state)) w in
    subst (λ most. Finishes context looks w rules 1 (begun state) (from most)) (sym (some_rounds rules))
    (by_way context looks w rules (most_rounds rules - 1) 1 (begun state) (omega arith) _ refl)

pub one_end : OneEnd
one_end context looks w rules round left one other is also =
    let bound : most_rounds rules ≤ round + most_rounds rules = omega arith in
    only_end context looks w rules (most_rounds rules) bound is
    ∙ sym (only_end context looks w rules (most_rounds rules) bound also)
