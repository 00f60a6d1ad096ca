use Rattle.hc_abs_map.proofs.Common.{◌∙◌, None, done, false, subst, true}
use Rattle.hc_alias.specs.Mapping.{root_of}
use Rattle.hc_cells.specs.declared.slot.Slot.TheVariants as slot
use Rattle.hc_dfa.specs.Automata.{accepts}
use Rattle.hc_steps.specs.Shown.{shown_by}
use Rattle.hc_vhost.specs.Servers.{servers_of}
use Rattle.hc_abs_rw.specs.Trials.{AreWays}
use Rattle.hc_abs_pass.specs.Mapping.{under_root_plan}
use Rattle.hc_abs_pass.specs.Mapping.{named as in_hand}
use Rattle.hc_abs_map.proofs.Placing.{file_fits}
use Rattle.hc_abs_map.specs.Along.{Adds, AreNamed, AreOn}
use Rattle.hc_abs_map.specs.Mapped.{MappedFits}
use Rattle.hc_abs_map.proofs.placed.add_file.Goals as goal

pub returns : goal.returns
returns c =
    let tied = c.args.tied in
    let servers = servers_of c.args.config.now c.args.host in
    file_fits tied c.in_ok-set.set c.in_ok-ways.ways
    (subst (λ items. AreWays tied.cell tied.ties items 0 None false (accepts c.in_ok-set.set) c.in_ok-ways.ways)
    (c.deref.ensures.value ∙ c.in_ok-text.ensures) c.in_ok-ways.ensures)
    (shown_by c.args.world.now.files) servers c.in_ok-text.text c.args.found.now.items c.add_named.new.found.items
    c.add_under_root.new.found.items c.in_ok-set.ensures c.in_ok-text.ensures
    (subst (λ named. Adds (AreNamed MappedFits named (done (in_hand true))) c.args.found.now.items
    c.add_named.new.found.items) c.named_on.ensures c.in_ok-add_named.ensures)
    (subst (λ rest. Adds (AreOn MappedFits rest (under_root_plan (root_of servers) slot.Text))
    c.add_named.new.found.items c.add_under_root.new.found.items) c.tied_on.ensures
    (subst (λ root. Adds (AreOn MappedFits c.tied_on.result (under_root_plan root slot.Text))
    c.add_named.new.found.items c.add_under_root.new.found.items) c.root_of.ensures c.in_ok-add_under_root.ensures))
