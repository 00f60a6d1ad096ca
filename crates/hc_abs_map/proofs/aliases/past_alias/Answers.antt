use Rattle.hc_abs_pass.specs.Mapping.{alias_named}
use Rattle.hc_abs_map.proofs.Along.{entry_goes}
use Rattle.hc_abs_map.specs.Mapped.{MappedFits}
use Rattle.hc_abs_map.proofs.aliases.past_alias.Goals as goal

pub returns : goal.returns
returns c =
    entry_goes MappedFits (λ alias. alias.from) alias_named c.args.alias.now c.args.before c.tied_on.result
    c.in-Some.tied c.in_ok-ways.ways c.args.found.now.items c.add_aliased.new.found.items c.in-Some.is
    c.in_ok-ways.ensures c.in_ok-add_aliased.ensures c.tied_on.ensures
