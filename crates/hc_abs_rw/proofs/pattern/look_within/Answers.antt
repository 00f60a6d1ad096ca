use Rattle.hc_abs_rw.proofs.Common.{◌≡◌, ◌∙◌, None, false, ap, arith, length, subst}
use Rattle.std.specs.Prelude.{nat_eq}
use Rattle.std.specs.List.{starts_with}
use Rattle.hc_dfa.specs.Automata.{accepts}
use Rattle.hc_rw_eval.specs.Directories.{with_slash}
use Rattle.hc_abs_rw.specs.Looking.{AddsFoundOn}
use Rattle.hc_abs_rw.specs.Trials.{AreWays}
use Rattle.hc_abs_rw.proofs.Looking.{within_adds}
use Rattle.hc_abs_rw.proofs.pattern.look_within.Goals as goal

pub returns : goal.returns
returns c =
    let rule = c.args.rule.now in
    let ties = c.args.ties in
    let begins = accepts c.in_ok-begins.begins in
    let ways = c.in_ok-ways.ways in
    let found = c.args.found.now.items in
    let mid = c.find_on.new.found.items in
    let front : c.in_ok-front.front.items ≡ with_slash c.args.engine.dir.now =
    c.in_ok-front.ensures ∙ ap with_slash c.as_bytes.ensures in
    let off : c.len.result ≡ length c.in_ok-front.front.items = (let l = c.len.ensures in omega (arith, l)) in
    within_adds c.args.engine rule c.args.cell ties begins ways found mid c.find_on-2.new.found.items
    (λ x text. c.in_ok-begins.ensures x text
    ∙ ap (λ front. starts_with nat_eq x front) (c.deref.ensures.value ∙ front))
    (subst (λ elements. AreWays c.args.cell ties elements 0 None false begins ways)
    (c.deref-2.ensures.value ∙ c.in_ok-elements.ensures) c.in_ok-ways.ensures)
    (subst (λ elements. AddsFoundOn rule ties elements (length (with_slash c.args.engine.dir.now)) ways.held found mid)
    c.in_ok-elements.ensures
    (subst (λ off. AddsFoundOn rule ties c.in_ok-elements.elements.items off ways.held found mid)
    (off ∙ ap length front) c.in_ok-find_on.ensures))
    (subst (λ elements. AddsFoundOn rule ties elements 0 ways.failed mid c.find_on-2.new.found.items)
    c.in_ok-text_and_info.ensures c.in_ok-find_on-2.ensures)
