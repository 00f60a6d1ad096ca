use Rattle.hc_abs_rw.proofs.Stored.{one_stored, text_stored}
use Rattle.hc_abs_rw.proofs.storing.push_text.Goals as goal

pub returns : goal.returns
returns c =
    one_stored c.args.draft.now _ _ _ _ (text_stored c.args.draft.now c.args.slot c.in_ok-set.set c.in_ok-set.ensures)
    c.in_ok-push.ensures.items
