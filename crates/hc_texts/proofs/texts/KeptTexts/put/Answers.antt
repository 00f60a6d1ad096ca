use Rattle.std.proofs.Common.{◌≡◌, ◌∙◌, ap, rules}
use Rattle.std.specs.FinMap.{insert}
use Rattle.hc_texts.proofs.Entries.{inserted}
use Rattle.hc_texts.proofs.texts.KeptTexts.put.Goals as goal

pub returns-clause-ok : goal.returns-clause-ok
returns-clause-ok c =
    let copied : c.in_ok-to_vec.field-0.items ≡ c.args.path.now = search rules in
    inserted c.self.inside.by_path.entries c.insert.new.self.entries c.in_ok-to_vec.field-0 c.args.path.now c.args.lines
    copied c.in_ok-insert.ensures.entries
    ∙ ap (λ texts. insert texts c.args.path.now c.args.lines) c.self.view_is
