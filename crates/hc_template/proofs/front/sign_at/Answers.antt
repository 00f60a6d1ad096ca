use Rattle.hc_template.proofs.Cutting.{at_escape, at_percent}
use Rattle.hc_template.proofs.front.sign_at.Goals as goal

pub returns-in-92 : goal.returns-in-92
returns-in-92 c braced = rw (c.in-92.is, at_escape braced c.args.signs c.args.rest.now c.if-signs.true)
    (c.escape_sign.ensures braced)

pub returns-in-37 : goal.returns-in-37
returns-in-37 c braced = rw (c.in-37.is, at_percent braced c.args.signs c.args.rest.now) (c.percent_sign.ensures braced)
