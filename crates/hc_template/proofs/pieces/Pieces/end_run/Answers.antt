use Rattle.std.proofs.Common.{◌≡◌, [], ◌∷◌, ◌++◌, arith, ap, sym, ◌∙◌}
use Rattle.std.proofs.lemmas.Result.{on_ok_weaker}
use Rattle.hc_model.specs.declared.template.Piece.TheVariants.{Bytes}
use Rattle.hc_template.proofs.Runs.{one_piece}
use Rattle.hc_template.proofs.pieces.Pieces.end_run.Goals as goal

pub returns-clause-done : goal.returns-clause-done
returns-clause-done c =
    let text : c.from.result ≡ c.args.self.now.run.items = cc in
    on_ok_weaker c.push.result
    (λ ok. ok ∙ ap (λ more. c.args.self.now.done ++ more)
    (ap (λ text. Bytes text ∷ []) text ∙ sym (one_piece c.args.self.now.run.items (grind (arith)))))
    c.push.ensures.ok
