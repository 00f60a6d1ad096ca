use Rattle.std.proofs.Common.{◌≡◌, ◌∙◌, None, Some, ap, option_map, subst, sym}
use Rattle.std.specs.List.{Contains}
use Rattle.hc_model.specs.Overrides.{Loaded, file_of}
use Rattle.hc_htaccess.specs.Loading.{kept_for, loaded_of, reading_of}
use Rattle.hc_htaccess.specs.Reading.{reading_in}
use Rattle.hc_htaccess.proofs.Kept.{got}
use Rattle.hc_htaccess.proofs.plain.PlainFiles.get.Goals as goal

pub returns-in_err-kept_for : goal.returns-in_err-kept_for
returns-in_err-kept_for c = λ has.
    let pair : Loaded = record { dir = c.args.dir.now; allowed = c.args.allowed } in
    let reading = reading_in c.self.inside.world.now.files c.self.inside.config.now in
    subst (λ plain. option_map (λ file. file.now) c.from_residual.result
    ≡ file_of (reading_of plain c.args.dir.now c.args.allowed)) c.self.view_is
    (got reading c.args.dir.now c.args.allowed c.self.inside.kept.items None _ c.self.invariant
    (subst (λ plain. Contains (loaded_of plain) pair) (sym c.self.view_is) has)
    (c.in_err-kept_for.ensures ∙ ap (kept_for c.args.dir.now c.args.allowed) c.deref.ensures.value)
    (ap (option_map (λ file. file.now)) c.from_residual.ensures))

pub returns : goal.returns
returns c = λ has.
    let pair : Loaded = record { dir = c.args.dir.now; allowed = c.args.allowed } in
    let reading = reading_in c.self.inside.world.now.files c.self.inside.config.now in
    subst (λ plain. option_map (λ file. file.now) c.as_ref.result
    ≡ file_of (reading_of plain c.args.dir.now c.args.allowed)) c.self.view_is
    (got reading c.args.dir.now c.args.allowed c.self.inside.kept.items (Some c.in_ok-kept_for.field-0.now) _
    c.self.invariant
    (subst (λ plain. Contains (loaded_of plain) pair) (sym c.self.view_is) has)
    (c.in_ok-kept_for.ensures ∙ ap (kept_for c.args.dir.now c.args.allowed) c.deref.ensures.value)
    c.as_ref.ensures.value)
