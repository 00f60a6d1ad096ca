use Rattle.std.proofs.Common.{◌≤◌, ◌∙◌, IfOk, ap, length, subst, sym}
use Rattle.std.proofs.lemmas.List.{length-map}
use Rattle.std.proofs.lemmas.Result.{IfOk-weaker}
use Rattle.hc_claim.specs.Trying.{asked_in}
use Rattle.hc_cert.specs.Coded.{AreWalkedIn, IsSaidFor, LeaveBytesIn, named_in}
use Rattle.hc_cert.specs.declared.ready.Ready.{Ready}
use Rattle.hc_cert.specs.declared.verdict.TheConstants.{MOST_CELLS}
use Rattle.hc_cert.proofs.checking.said_on.Goals as goal

pub said_of-requires-clause-few : goal.said_of-requires-clause-few
said_of-requires-clause-few g c =
    subst (λ count. count ≤ MOST_CELLS) (sym (ap length c.as_slice-found.ensures.value
    ∙ c.in_ok-walked.ensures.as_many ∙ ap length c.as_slice-lent.ensures.value
    ∙ sym (length-map c.in_ok-ready.ready.items (λ (own : Ready). own.named.now))
    ∙ ap length c.in_ok-ready.ensures.named)) c.requires.few

pub said_of-requires-clause-walked : goal.said_of-requires-clause-walked
said_of-requires-clause-walked g c =
    let asked = asked_in c.args.question in
    let names = c.args.names.now in
    subst (AreWalkedIn c.args.ground asked names (named_in c.as_slice-lent.result.now))
    (sym c.as_slice-found.ensures.value) (c.in_ok-walked.ensures.walked asked names c.requires.fits)

pub returns-clause-said : goal.returns-clause-said
returns-clause-said g c =
    let asked = asked_in c.args.question in
    let names = c.args.names.now in
    subst (λ cells. IfOk c.said_of.result (IsSaidFor asked names cells))
    (ap named_in c.as_slice-lent.ensures.value ∙ c.in_ok-ready.ensures.named) c.said_of.ensures

pub returns-clause-bytes : goal.returns-clause-bytes
returns-clause-bytes g c =
    let asked = asked_in c.args.question in
    let names = c.args.names.now in
    IfOk-weaker c.said_of.result (IsSaidFor asked names (named_in c.as_slice-lent.result.now)) _
    (λ said is. subst (LeaveBytesIn asked names)
    (ap named_in c.as_slice-lent.ensures.value ∙ c.in_ok-ready.ensures.named)
    (c.in_ok-leave_bytes.ensures asked names c.requires.fits)) c.said_of.ensures
