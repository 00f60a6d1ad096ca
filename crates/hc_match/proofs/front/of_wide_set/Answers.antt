use Rattle.hc_match.proofs.Common.{◌∙◌, ap, sym, get_or, has_byte}
use Rattle.std.specs.Prelude.{◌==◌, ◌||◌, not}
use Rattle.hc_match.proofs.Fronts.{all_fit, same_front, same_sets}
use Rattle.hc_match.proofs.front.of_wide_set.Goals as goal

pub returns-then-is_full : goal.returns-then-is_full
returns-then-is_full c =
    let text = c.args.text.now in
    all_fit (has_byte c.args.set.now) text
    (λ place within. c.is_full.ensures c.if-is_full.true (get_or text place 0) (c.type_inv.text place).fits)

pub returns : goal.returns
returns c =
    let text = c.args.text.now in let missing = c.trailing_ones-missing.result in
    c.before_byte.ensures
    ∙ same_front (λ byte. not (byte == missing)) (has_byte c.args.set.now) text
    (λ place within.
    let byte = get_or text place 0 in
    sym (same_sets c.args.set.now c.complement.result (sym c.ne.ensures ∙ c.if-ne.false) byte
    ∙ c.complement.ensures byte (c.type_inv.text place).fits
    ∙ ap not (c.with.ensures byte ∙ ap (λ has. has || (byte == missing)) (c.empty.ensures byte))))
