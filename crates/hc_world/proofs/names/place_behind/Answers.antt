use Rattle.hc_world.proofs.Common.{◌≡◌, true, sym, ◌∙◌, subst, Some, rules, GoesOn, is_before}
use Rattle.hc_world.proofs.Order.{is_before-lt}
use Rattle.hc_world.proofs.Places.{GoesOn-behind, GoesOn-child, GoesOn-end, GoesOn-front}
use Rattle.hc_world.proofs.names.place_behind.Goals as goal

pub returns-then-lt : goal.returns-then-lt
returns-then-lt c =
    let front = c.args.front.now in
    let before : is_before c.args.path.now front ≡ true = sym (is_before-lt c.args.path.now front) ∙ search rules in
    let same : c.in_ok-to_vec.field-0.items ≡ front = search rules in
    subst (λ p. GoesOn front c.args.path.now (Some p)) (sym same) (GoesOn-front front c.args.path.now before)

pub returns-then-not-starts_with : goal.returns-then-not-starts_with
returns-then-not-starts_with c =
    let front = c.args.front.now in
    let path = c.args.path.now in
    GoesOn-end front path (sym (is_before-lt path front) ∙ search rules) (search rules)

pub returns-in_ok-with_byte-in-None : goal.returns-in_ok-with_byte-in-None
returns-in_ok-with_byte-in-None c =
    GoesOn-behind c.args.front.now c.args.path.now c.in_ok-with_byte-in-None.field-0.items (search rules)

pub returns-in_ok-with_byte-in-Some : goal.returns-in_ok-with_byte-in-Some
returns-in_ok-with_byte-in-Some c =
    let place = c.in_ok-with_byte-in-Some.field-0.items in
    GoesOn-child c.args.front.now c.args.path.now place c.in-Some.slash (search rules) (search rules)
