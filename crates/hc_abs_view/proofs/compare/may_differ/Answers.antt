use Rattle.std.proofs.Common.{subst}
use Rattle.hc_dfa.specs.Automata.{accepts}
use Rattle.hc_dfa.specs.Texts.{IsLeastOf}
use Rattle.hc_plan.specs.Hands.{set_in}
use Rattle.hc_abs_view.specs.Seen.{HasOther, IsAnswer}
use Rattle.hc_abs_view.proofs.Members.{first_other, least_none, no_others, none_first, none_second, second_other}
use Rattle.hc_abs_view.proofs.compare.may_differ.Goals as goal

pub returns-in_default : goal.returns-in_default
returns-in_default c =
    none_first c.args.one.now c.args.other.now
    (least_none (accepts c.args.one.now) c.in_ok-first.field-0 c.in_default.not-Some c.in_ok-first.ensures)

pub returns-in_default-2 : goal.returns-in_default-2
returns-in_default-2 c =
    none_second c.args.one.now c.args.other.now
    (least_none (accepts c.args.other.now) c.in_ok-second.field-0 c.in_default-2.not-Some c.in_ok-second.ensures)

pub returns-then-branch : goal.returns-then-branch
returns-then-branch c =
    first_other c.args.one.now c.args.other.now c.in-Some-2.second
    (subst (IsLeastOf (accepts c.args.other.now)) c.in-Some-2.is c.in_ok-second.ensures)
    (subst (HasOther (set_in c.args.one.now)) c.as_bytes.ensures
    (subst (IsAnswer (HasOther (set_in c.args.one.now) c.as_bytes.result.now)) c.if-branch.true
    c.in_ok-has_other.ensures))

pub returns-then-branch-2 : goal.returns-then-branch-2
returns-then-branch-2 c =
    second_other c.args.one.now c.args.other.now c.in-Some.first
    (subst (IsLeastOf (accepts c.args.one.now)) c.in-Some.is c.in_ok-first.ensures)
    (subst (HasOther (set_in c.args.other.now)) c.as_bytes-2.ensures
    (subst (IsAnswer (HasOther (set_in c.args.other.now) c.as_bytes-2.result.now)) c.if-branch-2.true
    c.in_ok-has_other-2.ensures))

pub returns : goal.returns
returns c =
    no_others c.args.one.now c.args.other.now c.in-Some.first c.in-Some-2.second
    (subst (IsLeastOf (accepts c.args.one.now)) c.in-Some.is c.in_ok-first.ensures)
    (subst (λ text. HasOther (set_in c.args.one.now) text → ⊥) c.as_bytes.ensures
    (subst (IsAnswer (HasOther (set_in c.args.one.now) c.as_bytes.result.now)) c.if-branch.false
    c.in_ok-has_other.ensures))
    (subst (λ text. HasOther (set_in c.args.other.now) text → ⊥) c.as_bytes-2.ensures
    (subst (IsAnswer (HasOther (set_in c.args.other.now) c.as_bytes-2.result.now)) c.if-branch-2.false
    c.in_ok-has_other-2.ensures))
