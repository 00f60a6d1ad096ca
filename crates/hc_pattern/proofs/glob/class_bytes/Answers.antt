use Rattle.hc_pattern.proofs.Common.{not, ap, ◌∙◌, ◌&&◌, if◌then◌else◌, sym, set_where, is_among}
use Rattle.hc_pattern.proofs.Common.{may_be, ranges_of}
use Rattle.hc_pattern.proofs.glob.class_bytes.Goals as goal

pub returns-then-class : goal.returns-then-class
returns-then-class c =
    let among = λ (b : _). is_among b (ranges_of c.args.class.members.now) in
    c.without_slash.ensures (λ b. not (among b))
    (λ b within. c.complement.ensures b within ∙ ap not (c.bytes_among-among.ensures b))
    ∙ ap (λ complement. set_where
    (λ b. may_be c.args.keeps_slash b && (if complement then not (among b) else among b))) (sym c.if-class.true)

pub returns-else-class : goal.returns-else-class
returns-else-class c =
    let among = λ (b : _). is_among b (ranges_of c.args.class.members.now) in
    c.without_slash-else-class.ensures among (λ b within. c.bytes_among-among.ensures b)
    ∙ ap (λ complement. set_where
    (λ b. may_be c.args.keeps_slash b && (if complement then not (among b) else among b))) (sym c.if-class.false)
