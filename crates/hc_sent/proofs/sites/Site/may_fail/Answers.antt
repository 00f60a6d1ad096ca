use Rattle.std.proofs.Common.{inl, inr}
use Rattle.hc_sent.proofs.Texts.{none_before}
use Rattle.hc_sent.proofs.sites.Site.may_fail.Goals as goal

pub returns-then-branch : goal.returns-then-branch
returns-then-branch c parts before origin site =
    let has = c.in_ok-has_path_byte.ensures parts before origin site in inl (rw c.if-branch.true at has)

pub returns-then-branch-2 : goal.returns-then-branch-2
returns-then-branch-2 c parts before origin site =
    let hides = c.in_ok-hides_question.ensures parts before origin site in
    inr (inl (rw c.if-branch-2.true at hides))

pub returns-then-branch-3 : goal.returns-then-branch-3
returns-then-branch-3 c parts before origin site =
    let stays = c.in_ok-may_stay.ensures parts before origin site in
    inr (inr (inl (rw c.if-branch-3.true at stays)))

pub returns : goal.returns
returns c parts before origin site =
    let path = c.in_ok-has_path_byte.ensures parts before origin site in
    let hides = c.in_ok-hides_question.ensures parts before origin site in
    let stays = c.in_ok-may_stay.ensures parts before origin site in
    none_before _ c.in_ok-high.high (rw c.if-branch.false at path)
    (none_before _ c.in_ok-high.high (rw c.if-branch-2.false at hides)
    (none_before _ c.in_ok-high.high (rw c.if-branch-3.false at stays)
    (c.in_ok-high.ensures parts before origin site)))
