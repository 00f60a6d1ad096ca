use Rattle.hc_dfa.proofs.Common.{◌≡◌, [], ◌∷◌, ◌++◌, ◌∙◌, append-nil}
use Rattle.hc_dfa.proofs.Steps.{adds_one, adds_to_last}
use Rattle.hc_dfa.proofs.machine.add_step.Goals as goal

pub returns-in_default : goal.returns-in_default
returns-in_default c =
    let before = c.pop.new.self.items in
    let none : c.args.steps.now.items ≡ before = c.in_default.ensures.items ∙ append-nil before in
    rw (c.in_ok-push.ensures.items, none) (adds_one before c.by.result c.args.byte c.args.to c.by.ensures)

pub returns-in_default-with : goal.returns-in_default-with
returns-in_default-with c =
    rw (c.in_ok-push-3.ensures.items, c.in_ok-push-2.ensures.items, c.in-Some.ensures.items)
    (adds_one (c.pop.new.self.items ++ c.in-Some.last ∷ []) c.by-in_default-with.result c.args.byte c.args.to
    c.by-in_default-with.ensures)

pub returns : goal.returns
returns c =
    rw (c.in_ok-push-4.ensures.items, c.in-Some.ensures.items)
    (adds_to_last c.pop.new.self.items c.in-Some.last c.in-Some-with.more c.args.byte c.args.to c.in-Some-with.ensures)
