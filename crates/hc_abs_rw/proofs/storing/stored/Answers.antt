use Rattle.std.proofs.lemmas.Result.{IfOk-weaker}
use Rattle.hc_abs_rw.proofs.Stored.{stored_all}
use Rattle.hc_abs_rw.proofs.storing.stored.Goals as goal

pub returns : goal.returns
returns c =
    IfOk-weaker c.store.result _ _ (λ tied. stored_all c.args.draft c.args.slot c.args.discards _ _ _ _
    _ tied
    c.new-stored.ensures.items c.in_ok-push_text.ensures c.in_ok-push_query.ensures
    (c.in_ok-push_info.ensures c.args.draft)
    c.deref.ensures.value) c.store.ensures
