use Rattle.std.proofs.lemmas.Result.{IfOk-weaker}
use Rattle.hc_abs_rw.specs.Known.{frame_at}
use Rattle.hc_abs_pass.proofs.Listing.{rule_tried}
use Rattle.hc_abs_pass.proofs.list.tried.Goals as goal

pub returns : goal.returns
returns g c =
    IfOk-weaker c.all_behind.result _ _ (λ found.
    rule_tried (frame_at g.S.Surroundings.kind g.S.Surroundings.values c.args.frame.now) c.args.frame.now.client
    c.args.rule.now c.args.behind.now c.args.tied c.args.left (record { followed = c.is_followed.result })
    c.in_ok-branches.branches.items found.items (λ i. record { followed = c.is_followed.ensures i })
    c.in_ok-branches.ensures.branches) c.all_behind.ensures
