use Rattle.std.proofs.Common.{append-nil, refl, sym, []}
use Rattle.hc_sent.proofs.Meeting.{nothing_led}
use Rattle.hc_sent.proofs.Texts.{parts_text}
use Rattle.hc_sent.proofs.leading.add_led.Goals as goal

pub returns-then-not-branch : goal.returns-then-not-branch
returns-then-not-branch c parts before joints leads =
    let none = rw c.if-not-branch.true at c.in_ok-has_text.ensures in (
      [],
      sym (append-nil c.args.found.now.items),
      nothing_led parts before c.args.origin.now
          (λ text is. let bytes = parts_text parts text is.0 in none (text, bytes, (leads text bytes).1 is)),
    )

pub returns : goal.returns
returns c parts before joints leads =
    c.in_ok-add_led.ensures parts before c.args.origin.now
    (record { joints = joints; way = c.in_ok-way.ensures parts before leads; own = refl })
