use Rattle.hc_abs_map.proofs.Common.{◌≡◌, ◌∙◌, ◌+◌, ◌++◌, ◌∷◌, [], ap, arith, refl, subst, sym, take}
use Rattle.std.proofs.Common.{take_all}
use Rattle.std.proofs.lemmas.List.{take_more}
use Rattle.hc_abs_pass.specs.Mapping.{alias_named}
use Rattle.hc_abs_map.proofs.Along.{entries_more, no_entries}
use Rattle.hc_abs_map.specs.Aliases.{GoesAliases}
use Rattle.hc_abs_map.specs.Mapped.{MappedFits}
use Rattle.hc_abs_map.proofs.aliases.past_aliases.Goals as goal

pub loop-alias-init : goal.loop-alias-init
loop-alias-init c =
    no_entries MappedFits (λ alias. alias.from) alias_named c.args.before c.args.before c.args.found.now.items
    c.args.found.now.items refl refl

pub loop-alias-preserved : goal.loop-alias-preserved
loop-alias-preserved c =
    let aliases = c.args.aliases.now in
    let at = c.loop-alias.alias-index in
    entries_more MappedFits (λ alias. alias.from) alias_named (take at aliases) (take (at + 1) aliases)
    (c.alias-item.result ∷ []) c.args.before c.loop-alias.rest c.in_ok-rest.rest c.args.found.now.items
    c.loop-alias.found.items c.past_alias.new.found.items
    (take_more aliases at c.alias-item.result c.loop-alias-test.true
    ∙ ap (λ alias. take at aliases ++ alias ∷ []) (sym c.alias-item.is))
    c.loop-alias.invariant c.in_ok-rest.ensures

pub returns : goal.returns
returns c =
    let all : take c.loop-alias.alias-index c.args.aliases.now ≡ c.args.aliases.now = grind (arith, take_all) in
    subst (λ aliases. GoesAliases aliases c.args.before c.loop-alias.rest c.args.found.now.items
    c.loop-alias.found.items) all c.loop-alias.invariant
