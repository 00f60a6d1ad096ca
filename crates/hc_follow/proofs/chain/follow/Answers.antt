use Rattle.std.proofs.Common.{◌≡◌, ◌∙◌, ◌∷◌, ap, sym, arith}
use Rattle.std.proofs.lemmas.Bool.Decides.{nat_tests}
use Rattle.hc_follow.proofs.Nexts.{begins}
use Rattle.hc_follow.specs.Next.{next_request}
use Rattle.hc_follow.specs.declared.next.Next.TheVariants.{Go}
use Rattle.hc_follow.proofs.chain.follow.Goals as goal

pub loop-asked-preserved : goal.loop-asked-preserved
loop-asked-preserved g c =
    let was = c.loop-asked.invariant in
    let hosts = c.args.hosts.now in
    let asked = c.loop-asked.asked in
    let goes : Go c.in-Go.field-0 ≡ next_request hosts asked c.in_ok-last.last.outcome =
    sym c.in-Go.is ∙ c.in_ok-stop.ensures in
    record {
      few = grind (arith, nat_tests, was.few, c.if-steps-eq-MOST_STEPS.false);
      slash = begins hosts asked c.in-Go.field-0 c.in_ok-last.last.outcome goes;
      steps = (
        asked ∷ was.steps.0,
        (
          was.steps.1,
          sym (goes ∙ ap (next_request hosts asked) c.in_ok-last.ensures.answer.outcome),
        ),
        omega (arith, was.steps.2),
      );
      evals = omega (arith, was.evals, c.in_ok-last.ensures.evals);
      fixed = c.in_ok-last.ensures.over.0 ∙ was.fixed;
      kept = λ each before. c.in_ok-last.ensures.over.1 each (was.kept each before);
    }
