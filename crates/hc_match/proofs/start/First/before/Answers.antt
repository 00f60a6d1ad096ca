use Rattle.hc_match.proofs.Common.{◌∙◌, get_or, has_byte}
use Rattle.std.specs.Prelude.{not}
use Rattle.hc_match.proofs.Fronts.{same_front}
use Rattle.hc_match.proofs.start.First.before.Goals as goal

pub returns-in-Class : goal.returns-in-Class
returns-in-Class c =
    let text = c.args.text.now in let set = c.in-Class.set in
    rw c.in-Class.is
    (c.of_set.ensures
    ∙ same_front (has_byte c.complement.result) (λ byte. not (has_byte set byte)) text
    (λ place within. c.complement.ensures (get_or text place 0) (c.type_inv.text place).fits))
