use Rattle.std.proofs.Common.{◌∙◌, ap, refl, subst}
use Rattle.std.proofs.lemmas.Result.{IfOk-weaker}
use Rattle.hc_claim.specs.Trying.{asked_in}
use Rattle.hc_cert.proofs.Said.{branches_said, many_said, start_said}
use Rattle.hc_cert.specs.Coded.{BeginsIn, IsSaidOf, IsTooManyOf, named_in}
use Rattle.hc_cert.specs.Conditions.{bounds_of}
use Rattle.hc_cert.specs.declared.faults.Scene.{Scene}
use Rattle.hc_cert.proofs.checking.said_of.Goals as goal

pub returns-in-Some : goal.returns-in-Some
returns-in-Some c =
    let walked = c.args.walked.now in
    many_said c.args.ground (asked_in c.args.question) c.args.names.now (named_in c.args.cells.now) walked
    c.requires.walked c.in-Some.said (subst (IsTooManyOf walked) c.in-Some.is c.too_many.ensures)

pub returns-in-Some-2 : goal.returns-in-Some-2
returns-in-Some-2 c =
    let walked = c.args.walked.now in
    let asked = asked_in c.args.question in
    let names = c.args.names.now in
    let cells = named_in c.args.cells.now in
    start_said c.args.ground asked names cells walked c.requires.walked
    (subst (IsTooManyOf walked) c.in_default.is c.too_many.ensures) c.in-Some-2.said
    (subst (BeginsIn asked.scope names cells) c.in-Some-2.is c.in_ok-said.ensures)

pub returns : goal.returns
returns c =
    let walked = c.args.walked.now in
    let ground = c.args.ground in
    let asked = asked_in c.args.question in
    let names = c.args.names.now in
    let cells = named_in c.args.cells.now in
    let scene : Scene = record { claim = c.args.question.claim; cells = c.args.cells; bounds = c.in_ok-bounds.bounds } in
    IfOk-weaker c.by_branches.result (IsSaidOf scene walked) _
    (λ said is. branches_said ground asked names cells walked c.requires.walked
    (subst (IsTooManyOf walked) c.in_default.is c.too_many.ensures) scene said
    (subst (BeginsIn asked.scope names cells) c.in_default-2.is c.in_ok-said.ensures) refl refl
    (c.in_ok-bounds.ensures ground.tests.now ∙ ap bounds_of c.requires.fits.site) is) c.by_branches.ensures
