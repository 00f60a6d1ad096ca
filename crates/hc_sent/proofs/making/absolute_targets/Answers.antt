use Rattle.std.proofs.Common.{◌≡◌, rules}
use Rattle.hc_template.specs.Variables.{origin}
use Rattle.hc_sent.proofs.making.absolute_targets.Goals as goal

pub returns : goal.returns
returns c =
    let front : c.deref.result.now ≡ origin c.args.caller.now = search rules in rw front at c.in_ok-made.ensures
