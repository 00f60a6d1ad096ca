use Rattle.std.proofs.Common.{◌≤◌, length}
use Rattle.std.proofs.lemmas.Option.{slice_get_past, slice_get_read}
use Rattle.std.specs.List.{slice_get}
use Rattle.hc_abs_pass.proofs.Common.{◌∙◌, refl, sym, ap, subst}
use Rattle.hc_model.specs.declared.read.Read.TheVariants.{KindOf}
use Rattle.hc_steps.specs.Shown.{shown_by}
use Rattle.hc_abs_pass.proofs.Finding.{none_added, some_added}
use Rattle.hc_abs_pass.proofs.walk_ends.add_next.Goals as goal

pub returns-in_default : goal.returns-in_default
returns-in_default c =
    let frame = c.args.frame in
    let past = subst (λ names. length names ≤ frame.next) c.as_slice.ensures c.in_default.ensures.lookup.3 in
    none_added (shown_by c.args.world.now.files) frame _ _ _ _ (slice_get_past frame.names frame.next past)
    c.in_ok-other_named.ensures c.in_ok-push.ensures.items

pub returns : goal.returns
returns c =
    let frame = c.args.frame in
    let names = c.as_slice.result.now in
    let is = c.in-Some.ensures.lookup in
    some_added (shown_by c.args.world.now.files) frame _ c.in-Some.name.now _ _ c.args.ends.now.items
    c.add_by.new.ends.items c.args.frames.now.items c.add_by.new.frames.items
    (ap (λ names. slice_get names frame.next) (sym c.as_slice.ensures)
    ∙ slice_get_read names (length names) frame.next c.in-Some.name.now refl is.3.0 is.1)
    c.in_ok-path.ensures
    (c.kind-kind.ensures ∙ ap (λ path. shown_by c.args.world.now.files (KindOf path)) c.as_bytes.ensures) refl
    c.in_ok-add_by.ensures
