use Rattle.std.proofs.Common.{refl, sym, ◌∙◌}
use Rattle.hc_template.proofs.Cutting.{named_cut, same_signs}
use Rattle.hc_template.proofs.Unclosed.{unclosed_brace}
use Rattle.hc_template.proofs.UpTo.{up_to_brace}
use Rattle.hc_template.proofs.front.name_sign.Goals as goal

pub returns-in-Some : goal.returns-in-Some
returns-in-Some c braced =
    let named = c.args.named.now in
    record {
      is = named_cut c.args.signs.names _ named c.args.rest.now _ c.requires
          (c.in-Some.ensures.before ∙ up_to_brace named) c.in-Some.ensures.behind;
      left = same_signs c.args.signs _;
    }

pub returns-in-None : goal.returns-in-None
returns-in-None c braced =
    let named = c.args.named.now in
    let none = sym (c.in-None.ensures.before ∙ up_to_brace named) in
    rw (none, c.requires, c.without_names.ensures) (record { is = refl; left = unclosed_brace c.args.signs named none })
