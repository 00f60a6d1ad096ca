use Rattle.hc_abs_map.proofs.Common.{◌≡◌, ◌∙◌, ◌+◌, ◌++◌, ◌∷◌, [], Some, ap, arith, refl, subst, sym, take}
use Rattle.std.proofs.Common.{take_all}
use Rattle.std.proofs.lemmas.List.{take_more}
use Rattle.hc_abs_pass.specs.Mapping.{sent_away}
use Rattle.hc_abs_map.proofs.Along.{entries_more, no_entries}
use Rattle.hc_abs_map.specs.Entries.{GoesRedirects}
use Rattle.hc_abs_map.specs.Mapped.{RedirectedFits}
use Rattle.hc_abs_map.proofs.redirects.past_redirects.Goals as goal

pub loop-redirect-init : goal.loop-redirect-init
loop-redirect-init c =
    no_entries RedirectedFits (λ redirect. redirect.from) (sent_away Some) c.args.before c.args.before
    c.args.found.now.items c.args.found.now.items refl refl

pub loop-redirect-preserved : goal.loop-redirect-preserved
loop-redirect-preserved c =
    let redirects = c.args.redirects.now in
    let at = c.loop-redirect.redirect-index in
    entries_more RedirectedFits (λ redirect. redirect.from) (sent_away Some) (take at redirects) (take (at + 1) redirects)
    (c.redirect-item.result ∷ []) c.args.before c.loop-redirect.rest c.in_ok-rest.rest c.args.found.now.items
    c.loop-redirect.found.items c.past_redirect.new.found.items
    (take_more redirects at c.redirect-item.result c.loop-redirect-test.true
    ∙ ap (λ redirect. take at redirects ++ redirect ∷ []) (sym c.redirect-item.is))
    c.loop-redirect.invariant c.in_ok-rest.ensures

pub returns : goal.returns
returns c =
    let all : take c.loop-redirect.redirect-index c.args.redirects.now ≡ c.args.redirects.now = grind (arith, take_all) in
    subst (λ redirects. GoesRedirects redirects c.args.before c.loop-redirect.rest c.args.found.now.items
    c.loop-redirect.found.items) all c.loop-redirect.invariant
