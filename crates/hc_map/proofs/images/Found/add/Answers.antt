use Rattle.std.proofs.Common.{◌≡◌, ◌∙◌, ◌<◌, sym, true, false}
use Rattle.std.proofs.lemmas.List.{get_or_default}
use Rattle.std.proofs.lemmas.Bool.{not-false, not-true}
use Rattle.std.proofs.lemmas.List.Elements.{recursion_from_All}
use Rattle.hc_dfa.specs.Automata.{accepts}
use Rattle.hc_dfa.specs.Singles.{is_among}
use Rattle.hc_map.specs.Maps.{Row}
use Rattle.hc_map.proofs.Gathering.{known_row, row_inside, row_outside}
use Rattle.hc_map.proofs.images.Found.add.Goals as goal

pub returns-then-not-accepts : goal.returns-then-not-accepts
returns-then-not-accepts c before is =
    row_outside before (accepts c.args.set.now) (c.args.key.now, c.args.value.now) _ _ is
    (sym c.accepts.ensures ∙ c.if-not-accepts.true)

pub returns-then-not-branch : goal.returns-then-not-branch
returns-then-not-branch c before is =
    let row : Row = (c.args.key.now, c.args.value.now) in
    let known : is_among c.args.self.now.keys.keys row.0 ≡ true =
    rw c.in_ok-copy_of.ensures at (not-false _ (sym c.in_ok-insert.ensures.added ∙ c.if-not-branch.true)) in
    rw (c.in_ok-insert.ensures.keys, c.in_ok-copy_of.ensures, known)
    (known_row before (accepts c.args.set.now) row _ _ is (sym c.accepts.ensures ∙ c.if-not-accepts.false) known)

pub returns : goal.returns
returns c before is =
    let row : Row = (c.args.key.now, c.args.value.now) in
    let new : is_among c.args.self.now.keys.keys row.0 ≡ false =
    rw c.in_ok-copy_of.ensures at (not-true _ (sym c.in_ok-insert.ensures.added ∙ c.if-not-branch.false)) in
    rw (c.in_ok-insert.ensures.keys, c.in_ok-copy_of.ensures, new)
    (rw (c.in_ok-push.ensures.items, c.in_ok-copy_of-2.ensures)
    (row_inside before (accepts c.args.set.now) row _ _ is (sym c.accepts.ensures ∙ c.if-not-accepts.false) new
    (recursion_from_All (λ byte. byte < 256) row.0
    (λ k d within. rw (get_or_default row.0 k d 0 within) (c.type_inv.key k).fits))))
