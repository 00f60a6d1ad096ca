use Rattle.std.proofs.Common.{◌≡◌, ◌∙◌, sym, subst, true, false, rules}
use Rattle.std.specs.List.{list_any}
use Rattle.hc_base.specs.Paths.{is_slash}
use Rattle.hc_dfa.specs.Built.{Accepts}
use Rattle.hc_rw_sets.proofs.Roots.{no_root, root_accepts}
use Rattle.hc_rw_sets.specs.Roots.{begins_before}
use Rattle.hc_rw_sets.proofs.locations.own_roots.Goals as goal

pub returns-then-contains : goal.returns-then-contains
returns-then-contains c text bytes =
    let some : list_any is_slash c.args.caller.now.name ≡ true = search rules in
    c.in_ok-none.ensures text bytes ∙ sym (no_root c.args.caller.now text some)

pub returns : goal.returns
returns c =
    let caller = c.args.caller.now in
    let clear : list_any is_slash caller.name ≡ false = search rules in
    root_accepts caller c.in_ok-ports.ports c.in_ok-authorities.authorities c.in_ok-made.made clear c.in_ok-ports.ensures
    (subst (λ name. Accepts c.in_ok-authorities.authorities (begins_before name c.in_ok-ports.ports))
    c.as_bytes-name.ensures c.in_ok-authorities.ensures)
    (subst (λ front. Accepts c.in_ok-made.made (begins_before front c.in_ok-authorities.authorities)) c.own_front.ensures
    c.in_ok-made.ensures)
