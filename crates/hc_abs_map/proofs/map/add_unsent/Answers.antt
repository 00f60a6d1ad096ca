use Rattle.hc_abs_map.proofs.Common.{Some, subst}
use Rattle.hc_alias.specs.Mapping.{maps_of, root_of}
use Rattle.hc_cells.specs.declared.slot.Slot.TheVariants as slot
use Rattle.hc_vhost.specs.Servers.{servers_of}
use Rattle.hc_abs_pass.specs.Mapping.{alias_named, aliases_plan, under_root_plan}
use Rattle.hc_abs_map.proofs.Along.{entries_more}
use Rattle.hc_abs_map.proofs.Going.{goes_added}
use Rattle.hc_abs_map.specs.Along.{Adds, AreOn}
use Rattle.hc_abs_map.specs.Aliases.{GoesAliases}
use Rattle.hc_abs_map.specs.Mapped.{MappedFits}
use Rattle.hc_abs_map.proofs.map.add_unsent.Goals as goal

pub returns : goal.returns
returns c =
    let config = c.args.config.now in
    let servers = servers_of config c.args.host in
    let aliases = maps_of servers in
    goes_added (AreOn MappedFits (Some c.args.tied)) (AreOn MappedFits c.in_ok-rest.rest) (aliases_plan aliases)
    (under_root_plan (root_of servers) slot.Path) c.args.found.now.items c.past_aliases-2.new.found.items
    c.add_under_root.new.found.items
    (entries_more MappedFits (λ alias. alias.from) alias_named c.host_aliases-own.result.now aliases config.main.aliases
    (Some c.args.tied) c.in_ok-mid.mid c.in_ok-rest.rest c.args.found.now.items c.past_aliases.new.found.items
    c.past_aliases-2.new.found.items c.host_aliases-own.ensures c.in_ok-mid.ensures
    (subst (λ more. GoesAliases more c.in_ok-mid.mid c.in_ok-rest.rest c.past_aliases.new.found.items
    c.past_aliases-2.new.found.items) c.as_slice.ensures c.in_ok-rest.ensures))
    (subst (λ root. Adds (AreOn MappedFits c.in_ok-rest.rest (under_root_plan root slot.Path))
    c.past_aliases-2.new.found.items c.add_under_root.new.found.items) c.root_of.ensures c.in_ok-add_under_root.ensures)
