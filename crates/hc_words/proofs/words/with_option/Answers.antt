use Rattle.std.proofs.Common.{rules, ap, ◌≡◌, ◌∙◌}
use Rattle.std.proofs.lemmas.Result.{IfOk-weaker}
use Rattle.clap.specs.Words.{app_of, rule_of, with_rule}
use Rattle.hc_words.specs.Words.{option_rule}
use Rattle.hc_words.proofs.words.with_option.Goals as goal

pub returns : goal.returns
returns c =
    let rule : rule_of c.action-option.result ≡ option_rule c.args.name.now = search rules in
    IfOk-weaker c.arg.result _ _
    (λ made added. added.shape (search rules) ∙ ap (with_rule (app_of c.args.command)) rule) c.arg.ensures
