use Rattle.std.proofs.Common.{refl}
use Rattle.hc_template.proofs.Cutting.{percent_named, percent_unnamed, same_signs}
use Rattle.hc_template.proofs.front.braced_name.Goals as goal

pub returns-in-NoName : goal.returns-in-NoName
returns-in-NoName c braced =
    rw (percent_unnamed c.args.signs c.args.rest.now c.args.named.now c.requires c.in-NoName.is)
    (record { is = refl; left = same_signs c.args.signs _ })

pub returns-in-Expression : goal.returns-in-Expression
returns-in-Expression c braced =
    rw (percent_named c.args.signs c.args.rest.now c.args.named.now c.requires c.in-Expression.is)
    (c.name_sign.ensures braced)
