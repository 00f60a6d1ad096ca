use Rattle.std.proofs.lemmas.Result.{IfOk-weaker}
use Rattle.hc_abs_left.proofs.Common.{◌∙◌, ◌++◌, ◌∷◌, [], ap, refl}
use Rattle.hc_abs_left.proofs.Leaving.{found_here, restarted_fit}
use Rattle.hc_abs_left.proofs.left.unsent.Goals as goal

pub returns-then-not-ran : goal.returns-then-not-ran
returns-then-not-ran c =
    found_here c.args.ground c.args.settings.now c.args.decisions.now c.args.ran c.args.tied c.push.new.self.items
    c.new-found.result.items c.if-not-ran.true c.new-found.ensures.items
    (c.in_ok-push.ensures.items
    ∙ ap (λ segment. c.new-found.result.items ++ segment ∷ []) c.in_ok-stopped.ensures)

pub returns : goal.returns
returns c =
    IfOk-weaker c.all_stopped.result _ _ (λ found.
    restarted_fit c.args.ground c.args.settings.now c.args.decisions.now c.args.ran (record {
      kind = c.args.settings.now.kind;
      last = c.args.ground.last;
      root = c.root_of.result;
      engine = c.engine_in.result;
      names = c.args.ground.names;
      room = c.args.ground.room;
    }) c.args.tied c.in_ok-restarted.restarted.items found.items c.if-not-ran.false refl refl refl c.root_of.ensures
    c.engine_in.ensures c.in_ok-restarted.ensures.branches) c.all_stopped.ensures
