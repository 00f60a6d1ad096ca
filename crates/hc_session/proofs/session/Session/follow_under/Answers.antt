use Rattle.std.proofs.Common.{◌≡◌, ◌∙◌, ◌∷◌, ap, sym, subst, refl, arith}
use Rattle.std.proofs.lemmas.Bool.Decides.{nat_tests}
use Rattle.hc_follow.proofs.Nexts.{begins}
use Rattle.hc_follow.specs.Chains.{Halts}
use Rattle.hc_follow.specs.Next.{next_request}
use Rattle.hc_follow.specs.declared.next.Next.TheVariants.{Go}
use Rattle.hc_follow.specs.declared.next.Stop.TheVariants.{TooMany}
use Rattle.hc_kept.specs.Files.{AreFilesOf}
use Rattle.hc_session.proofs.Chained.{all_asked, asked_more, asked_still, chain_ends, is_answer, same_world}
use Rattle.hc_session.specs.Asking.{answer_of}
use Rattle.hc_session.specs.State.{State}
use Rattle.hc_session.proofs.session.Session.follow_under.Goals as goal

pub serve-requires-clause-files : goal.serve-requires-clause-files
serve-requires-clause-files g c =
    subst (λ (state : State). AreFilesOf state.world c.args.config.now c.loop-asked.files)
    (sym c.loop-asked.invariant.stays) c.loop-asked.invariant.files

pub returns-in_err-last-clause-files : goal.returns-in_err-last-clause-files
returns-in_err-last-clause-files g c =
    subst (λ (state : State). AreFilesOf state.world c.args.config.now c.serve.new.files)
    c.loop-asked.invariant.stays c.serve.ensures.files

pub returns-in_err-stop-clause-files : goal.returns-in_err-stop-clause-files
returns-in_err-stop-clause-files g c =
    subst (λ (state : State). AreFilesOf state.world c.args.config.now c.serve.new.files)
    c.loop-asked.invariant.stays c.serve.ensures.files

pub returns-in-Halt-clause-files : goal.returns-in-Halt-clause-files
returns-in-Halt-clause-files g c =
    subst (λ (state : State). AreFilesOf state.world c.args.config.now c.serve.new.files)
    c.loop-asked.invariant.stays c.serve.ensures.files

pub returns-in-Go-clause-files : goal.returns-in-Go-clause-files
returns-in-Go-clause-files g c =
    subst (λ (state : State). AreFilesOf state.world c.args.config.now c.serve.new.files)
    c.loop-asked.invariant.stays c.serve.ensures.files

pub returns-in-Halt-clause-chain : goal.returns-in-Halt-clause-chain
returns-in-Halt-clause-chain g c =
    let was = c.loop-asked.invariant in
    let steps = c.loop-asked.steps in
    let halts =
    subst (λ next. Halts c.args.self.now.world.files c.args.config.now c.args.hosts.now steps next c.in-Halt.stop)
    (sym c.in-Halt.is ∙ c.in_ok-stop.ensures) refl in
    chain_ends c.args.self.now c.loop-asked.self c.serve.new.self c.args.config.now c.args.hosts.now c.args.request
    c.loop-asked.asked was.steps.0 was.stays was.steps.3 steps c.in_ok-last.last c.in-Halt.stop was.steps.1
    was.steps.2 was.few c.in_ok-last.ensures.asked c.in_ok-last.ensures.answer halts

pub returns-in-Go-clause-chain : goal.returns-in-Go-clause-chain
returns-in-Go-clause-chain g c =
    let was = c.loop-asked.invariant in
    let steps = c.loop-asked.steps in
    let halts =
    subst (λ next. Halts c.args.self.now.world.files c.args.config.now c.args.hosts.now steps next TooMany)
    (sym c.in-Go.is ∙ c.in_ok-stop.ensures)
    (refl, c.if-steps-eq-MOST_STEPS.true) in
    chain_ends c.args.self.now c.loop-asked.self c.serve.new.self c.args.config.now c.args.hosts.now c.args.request
    c.loop-asked.asked was.steps.0 was.stays was.steps.3 steps c.in_ok-last.last TooMany was.steps.1
    was.steps.2 was.few c.in_ok-last.ensures.asked c.in_ok-last.ensures.answer halts

pub loop-asked-preserved : goal.loop-asked-preserved
loop-asked-preserved g c =
    let was = c.loop-asked.invariant in
    let old = c.args.self.now in
    let mid = c.loop-asked.self in
    let new = c.serve.new.self in
    let config = c.args.config.now in
    let hosts = c.args.hosts.now in
    let asked = c.loop-asked.asked in
    let before = was.steps.0 in
    let goes : Go c.in-Go.field-0 ≡ next_request hosts asked c.in_ok-last.last.outcome =
    sym c.in-Go.is ∙ c.in_ok-stop.ensures in
    let more = asked_more mid new asked _ c.in_ok-last.ensures.asked in
    let world = same_world old mid new config hosts c.args.request asked before was.stays was.steps.3 in
    let is = is_answer old.world.files config asked c.in_ok-last.last
    (c.in_ok-last.ensures.answer ∙ ap (λ world. answer_of world config asked) world) in
    record {
      few = grind (arith, nat_tests, was.few, c.if-steps-eq-MOST_STEPS.false);
      slash = begins hosts asked c.in-Go.field-0 c.in_ok-last.last.outcome goes;
      steps = (
        asked ∷ before,
        (was.steps.1, sym (goes ∙ ap (next_request hosts asked) is.outcome)),
        omega (arith, was.steps.2),
        all_asked old mid new config hosts c.args.request asked before was.stays was.steps.3
            c.in_ok-last.ensures.asked,
      );
      asks = omega (arith, was.asks, more.asks);
      evaluations = omega (arith, was.evaluations, more.evaluations);
      rises = omega (arith, was.rises, c.in_ok-last.ensures.evals.0);
      most = omega (arith, was.most, c.in_ok-last.ensures.evals.1);
      evals = omega (arith, was.evals, c.in_ok-last.ensures.evals.2);
      stays = asked_still old mid new was.stays more.stays;
      files = subst (λ (state : State). AreFilesOf state.world config c.serve.new.files) was.stays
          c.serve.ensures.files;
    }
