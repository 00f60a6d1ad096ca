use Rattle.std.proofs.Common.{◌∙◌, ◌∷◌, ◌+◌, ◌++◌, [], ap, drop, length, subst, sym, take}
use Rattle.std.proofs.lemmas.List.{drop_more, length_push, map-append, take_all, take_more}
use Rattle.hc_cert.proofs.Branching.{one_walked}
use Rattle.hc_cert.specs.Coded.{AreReady, AreWalkedIn, named_in}
use Rattle.hc_cert.specs.declared.ready.Ready.{Ready}
use Rattle.hc_cert.specs.declared.walking.Walked.{Walked}
use Rattle.hc_cert.proofs.walking.branches_of_each.Goals as goal

pub returns-in_err-branches-clause-over : goal.returns-in_err-branches-clause-over
returns-in_err-branches-clause-over g c =
    let inv = c.loop-own.invariant in
    let over = c.in_err-branches.ensures.over in (over.0 ∙ inv.2, λ each is. over.1 each (inv.3 each is))

pub returns-in_err-push-clause-over : goal.returns-in_err-push-clause-over
returns-in_err-push-clause-over g c =
    let inv = c.loop-own.invariant in
    let over = c.in_ok-branches.ensures.over in (over.0 ∙ inv.2, λ each is. over.1 each (inv.3 each is))

pub loop-own-preserved : goal.loop-own-preserved
loop-own-preserved g c =
    let inv = c.loop-own.invariant in
    let at = c.loop-own.own-index in
    let cells = c.args.cells.now in
    let ground = c.args.ground in
    let own = c.own-item.result in
    let over = c.in_ok-branches.ensures.over in
    let last : Walked = record { own = own.named; branches = c.in_ok-branches.branches } in
    let next = drop_more cells at own c.loop-own-test.true ∙ ap (λ one. one ∷ drop (at + 1) cells) (sym c.own-item.is) in
    let more = ap named_in (take_more cells at own c.loop-own-test.true
    ∙ ap (λ (one : Ready). take at cells ++ one ∷ []) (sym c.own-item.is))
    ∙ map-append (λ (own : Ready). own.named.now) (take at cells) (own ∷ []) in (
      (subst AreReady next inv.0).1,
      λ asked names fits. subst (λ own. AreWalkedIn ground asked names own c.push.new.self.items) (sym more)
          (subst (AreWalkedIn ground asked names (named_in (take at cells) ++ own.named.now ∷ []))
          (sym c.in_ok-push.ensures.items)
          (one_walked ground asked names (named_in (take at cells)) c.loop-own.found.items last (inv.1 asked names fits)
          (c.in_ok-branches.ensures.branches asked names fits))),
      over.0 ∙ inv.2,
      λ each is. over.1 each (inv.3 each is),
      ap length c.in_ok-push.ensures.items ∙ length_push c.loop-own.found.items last ∙ ap (λ count. count + 1) inv.4,
    )

pub returns-clause-walked : goal.returns-clause-walked
returns-clause-walked g c asked names fits =
    let cells = c.args.cells.now in
    subst (λ cells. AreWalkedIn c.args.ground asked names (named_in cells) c.loop-own.found.items)
    (take_all c.loop-own.own-index cells c.loop-own-test.false) (c.loop-own.invariant.1 asked names fits)
