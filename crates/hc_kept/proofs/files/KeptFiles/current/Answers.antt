use Rattle.hc_kept.proofs.Current.{current_answers}
use Rattle.hc_kept.proofs.files.KeptFiles.current.Goals as goal

pub returns-clause-some : goal.returns-clause-some
returns-clause-some c =
    rw (← c.self.view_is) (current_answers (λ found. found.now) c.args.world.now c.args.allowed c.args.dir.now _
    c.self.invariant c.current_in.result c.current_in.ensures).0

pub returns-clause-none : goal.returns-clause-none
returns-clause-none c =
    rw (← c.self.view_is) (current_answers (λ found. found.now) c.args.world.now c.args.allowed c.args.dir.now _
    c.self.invariant c.current_in.result c.current_in.ensures).1
