use Rattle.std.proofs.Common.{rules}
use Rattle.hc_abs_map.proofs.Common.{◌≡◌, None, refl, subst}
use Rattle.hc_plan.specs.declared.storing.Tied.{Tied}
use Rattle.hc_abs_map.proofs.Targets.{aliased_is}
use Rattle.hc_abs_map.specs.Aliases.{AreTargetsBy}
use Rattle.hc_abs_map.specs.Names.{tied_by}
use Rattle.hc_abs_map.proofs.aliases.aliased_name.Goals as goal

pub returns : goal.returns
returns c =
    let tied : Tied = record { cell = c.in_ok-cell.cell; ties = c.args.ties } in
    let same : c.in_ok-cell.cell ≡ c.args.way.cell = search rules in
    let also : tied ≡ tied_by c.args.ties c.args.way = (λ i. record { cell = same i; ties = c.args.ties }) in
    aliased_is c.args.alias.now c.args.ties c.args.way c.in_ok-held.held c.in_ok-text.text.items
    (record { tied = tied; text = c.push_rest.new.text; side = None }) c.in_ok-held.ensures
    (subst (λ pieces. AreTargetsBy c.in_ok-held.held pieces c.in_ok-text.text.items) c.as_slice.ensures
    c.in_ok-text.ensures) c.in_ok-push_rest.ensures also refl
