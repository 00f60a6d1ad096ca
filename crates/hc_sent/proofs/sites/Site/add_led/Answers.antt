use Rattle.std.proofs.Common.{◌∙◌, ◌++◌, ap, append_assoc}
use Rattle.std.specs.Option.{option_to_list}
use Rattle.hc_sent.proofs.Meeting.{led_to}
use Rattle.hc_sent.proofs.sites.Site.add_led.Goals as goal

pub returns : goal.returns
returns c parts before origin site =
    let said = c.in_ok-escapes.ensures parts before origin site in
    let on = c.in_ok-onward.field-0 in
    let out = c.in_ok-outward.field-0 in (
      option_to_list on ++ option_to_list out,
      c.in_ok-add-2.ensures ∙ ap (λ found. found ++ option_to_list out) c.in_ok-add.ensures
          ∙ append_assoc c.args.found.now.items (option_to_list on) (option_to_list out),
      led_to parts before origin on out (c.in_ok-onward.ensures parts before origin site said)
          (c.in_ok-outward.ensures parts before origin site),
    )
