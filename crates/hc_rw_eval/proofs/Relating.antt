-- A round from a place is the one that the rules come to.
use Rattle.hc_rw_eval.proofs.Common.{◌≡◌, ◌∙◌, ℕ, zero, suc, List, [], ◌∷◌, Bool, true, false, refl}
use Rattle.hc_rw_eval.proofs.Common.{sym, ap, subst, if◌then◌else◌, Outcome, Context, Looks, Run, run, Shown}
use Rattle.hc_rw_eval.proofs.Common.{Step, leaves, ends, Rule, Attempt, Rewritten, Round, Again, Limit}
use Rattle.std.proofs.Common.{append-nil, nat_le}
use Rattle.std.proofs.lemmas.Bool.{le-leb, leb-false, leb-true, lt-leb}
use Rattle.hc_model.specs.declared.outcome.LimitKind.TheVariants.{Rounds}
use Rattle.hc_rw_eval.specs.Attempts.{attempt, attempted}
use Rattle.hc_rw_eval.specs.Lists.{begun_again, behind_attempt, behind_match, from_place, is_followed, next_by, over}
use Rattle.hc_rw_eval.specs.Lists.{skipped_chain, stops_run, with_end}
use Rattle.hc_rw_eval.specs.Relation.{Comes, OneRun, tried}
use Rattle.hc_rw_eval.specs.Relation.Comes.{no_rule, skipped_rule, answered, unmatched, stopped, again, at_bound}
use Rattle.hc_rw_eval.specs.Relation.Comes.{onward}
use Rattle.hc_steps.specs.Run.{Way, goes_on, is_over, on_way}
use Rattle.hc_steps.specs.Run as steps
use Rattle.hc_steps.proofs.Running.{in_turn}

module _ (context : Context) (looks : Looks) (w : Shown) (round : ℕ) where
  abbrev Led : List Rule → ℕ → Rewritten → Run Outcome Round → Type 0
  Led = Comes context looks w round

  abbrev from : List Rule → ℕ → Rewritten → Run Outcome Round
  from rules skipped left = run (from_place context looks round skipped rules left) w

  module _ (rule : Rule) (rest : List Rule) (left : Rewritten) where
    abbrev first : Run Outcome Attempt
    first = tried context looks w rule rest left

    -- What follows the attempt; and where the rule matches, by its flags.
    abbrev after : Attempt → Step Outcome Round
    after = behind_attempt (λ skipped left. from_place context looks round skipped rest left) rule rest round

    abbrev flagged : Bool → Bool → Bool → Rewritten → Step Outcome Round
    flagged stop next late left =
        if stop then leaves (over rule.flags.pass (with_end rule.flags.end left))
        else
        (if next then (if late then ends (Limit Rounds) else leaves (Again (next_by rule left)))
        else from_place context looks round rule.flags.skip rest left)

    at_rule : (way : Way Outcome Attempt) → first.way ≡ way → on_way first way (λ attempt. run (after attempt) w)
        ≡ from (rule ∷ rest) zero left
    unfolding from_place
    at_rule way is =
        ap (λ way. on_way first way (λ attempt. run (after attempt) w)) (sym is)
        ∙ sym (in_turn (attempt context looks rule (is_followed rest) left) after w)

    ended : (end : Outcome) → first.way ≡ is_over end → steps.behind first (run (ends end) w)
        ≡ from (rule ∷ rest) zero left
    unfolding run
    ended end is =
        (λ i. record { events = append-nil first.events i; reads = append-nil first.reads i; way = is_over end })
        ∙ at_rule (is_over end) is

    gone : (attempt : Attempt) (further : Run Outcome Round) → first.way ≡ goes_on attempt
        → further ≡ run (after attempt) w
        → steps.behind first further ≡ from (rule ∷ rest) zero left
    gone attempt further is next = ap (steps.behind first) next ∙ at_rule (goes_on attempt) is

    matched : (stop next late : Bool) (left_by : Rewritten) (further : Run Outcome Round)
        → first.way ≡ goes_on (attempted true left_by)
        → stops_run rule.flags ≡ stop → rule.flags.next ≡ next → nat_le rule.flags.rounds round ≡ late
        → further ≡ run (flagged stop next late left_by) w → steps.behind first further
        ≡ from (rule ∷ rest) zero left
    unfolding behind_attempt behind_match begun_again
    matched stop next late left_by further is s n l on =
        gone (attempted true left_by) further is (on ∙ λ i. run (flagged (sym s i) (sym n i) (sym l i) left_by) w)

  pub only : {rules : List Rule} {skipped : ℕ} {left : Rewritten} {one : Run Outcome Round}
      → Led rules skipped left one → one ≡ from rules skipped left
  unfolding from_place behind_attempt
  only no_rule = refl
  only (skipped_rule further) = only further
  only (answered is) = ended _ _ _ _ is
  only (unmatched is further) = gone _ _ _ _ _ is (only further)
  only (stopped is s) = matched _ _ _ true _ _ _ _ is s refl refl refl
  only (again is s n lt) = matched _ _ _ false true false _ _ is s n (lt-leb _ _ lt) refl
  only (at_bound is s n le) = matched _ _ _ false true true _ _ is s n (le-leb _ _ le) refl
  only (onward is s n further) = matched _ _ _ false false _ _ _ is s n refl (only further)

  abbrev Known : List Rule → ℕ → Rewritten → Type 0
  Known rules skipped left = Led rules skipped left (from rules skipped left)

  made : {rules : List Rule} {skipped : ℕ} {left : Rewritten} {one : Run Outcome Round} → Led rules skipped left one
      → Known rules skipped left
  made {rules} {skipped} {left} is = subst (Led rules skipped left) (only is) is

  module _ (rule : Rule) (rest : List Rule) (left : Rewritten) (on : (skipped : ℕ) (left : Rewritten)
      → Known rest skipped left) where
    by_flags : (matched stop begins late : Bool) (next : Rewritten) → (first rule rest left).way
        ≡ goes_on (attempted matched next)
        → stops_run rule.flags ≡ stop → rule.flags.next ≡ begins → nat_le rule.flags.rounds round ≡ late
        → Known (rule ∷ rest) zero left
    by_flags false _ _ _ next is s n l = made (unmatched is (on (skipped_chain rule rest) next))
    by_flags true true _ _ next is s n l = made (stopped is s)
    by_flags true false true true next is s n l = made (at_bound is s n (leb-true _ _ l))
    by_flags true false true false next is s n l = made (again is s n (leb-false _ _ l))
    by_flags true false false _ next is s n l = made (onward is s n (on rule.flags.skip next))

    by_way : (way : Way Outcome Attempt) → (first rule rest left).way ≡ way → Known (rule ∷ rest) zero left
    by_way (is_over end) is = made (answered is)
    by_way (goes_on attempt) is = by_flags attempt.matched _ _ _ attempt.left is refl refl refl

  pub related : (rules : List Rule) (skipped : ℕ) (left : Rewritten) → Known rules skipped left
  related [] skipped left = made no_rule
  related (rule ∷ rest) (suc skipped) left = made (skipped_rule (related rest skipped left))
  related (rule ∷ rest) zero left = by_way rule rest left (related rest) _ refl

pub one_run : OneRun
one_run context looks w round rules skipped left one other is also = only context looks w round is
    ∙ sym (only context looks w round also)
