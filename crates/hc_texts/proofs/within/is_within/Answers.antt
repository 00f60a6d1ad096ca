use Rattle.std.proofs.Common.{◌∙◌, ◌&&◌, ap, sym, drop, length}
use Rattle.hc_texts.specs.Texts.{begins_below}
use Rattle.hc_texts.proofs.Below.{within}
use Rattle.hc_texts.proofs.within.is_within.Goals as goal

pub returns-in-Some : goal.returns-in-Some
returns-in-Some c =
    let path = c.args.path.now in
    let other = c.args.other.now in
    c.begins_below.ensures ∙ ap begins_below c.in-Some.ensures.cases.1
    ∙ ap (λ b. b && begins_below (drop (length path) other)) (sym c.in-Some.ensures.cases.0) ∙ within path other

pub returns-in-None : goal.returns-in-None
returns-in-None c =
    let path = c.args.path.now in
    let other = c.args.other.now in
    ap (λ b. b && begins_below (drop (length path) other)) (sym c.in-None.ensures.cases) ∙ within path other
