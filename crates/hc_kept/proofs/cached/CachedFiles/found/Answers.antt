use Rattle.std.proofs.Common.{None, Some, map}
use Rattle.std.proofs.lemmas.List.Elements.{Contains-append_left, Contains-append_right}
use Rattle.hc_htaccess.specs.Reading.{reading_in}
use Rattle.hc_kept.specs.Files.{fresh_as_loaded}
use Rattle.hc_kept.proofs.Fresh.{is_found}
use Rattle.hc_kept.proofs.Loaded.{not_loaded, to_loaded}
use Rattle.hc_kept.proofs.cached.CachedFiles.found.Goals as goal

pub returns-in-Some-clause-there : goal.returns-in-Some-clause-there
returns-in-Some-clause-there c =
    let current = c.in-Some.ensures.some in
    rw (← c.self.view_is)
    (Contains-append_left _ _ _
    (to_loaded c.self.inside.world.now c.self.inside.kept.now _ current.there current.stays))

pub returns-in_err-fresh_for-in-None-clause-none : goal.returns-in_err-fresh_for-in-None-clause-none
returns-in_err-fresh_for-in-None-clause-none c =
    let o = c.self.inside in
    let unread = is_found (reading_in o.world.now.files o.config.now) c.args.dir.now c.args.allowed _ o.fresh.items None
    c.self.invariant.fresh c.deref.ensures.value c.in_err-fresh_for-in-None.ensures in
    rw (c.from_residual.ensures, ← c.self.view_is)
    (not_loaded o.world.now c.args.dir.now c.args.allowed o.kept.now (map fresh_as_loaded o.fresh.items)
    c.in-None.ensures.none unread)

pub returns-in_ok-fresh_for-in-None-clause-some : goal.returns-in_ok-fresh_for-in-None-clause-some
returns-in_ok-fresh_for-in-None-clause-some c =
    let o = c.self.inside in
    rw (← c.self.view_is)
    (is_found (reading_in o.world.now.files o.config.now) c.args.dir.now c.args.allowed _ o.fresh.items
    (Some c.in_ok-fresh_for-in-None.field-0.now) c.self.invariant.fresh c.deref.ensures.value
    c.in_ok-fresh_for-in-None.ensures).1

pub returns-in_ok-fresh_for-in-None-clause-there : goal.returns-in_ok-fresh_for-in-None-clause-there
returns-in_ok-fresh_for-in-None-clause-there c =
    let o = c.self.inside in
    rw (← c.self.view_is) (Contains-append_right _ _ _
    (is_found (reading_in o.world.now.files o.config.now) c.args.dir.now c.args.allowed _ o.fresh.items
    (Some c.in_ok-fresh_for-in-None.field-0.now) c.self.invariant.fresh c.deref.ensures.value
    c.in_ok-fresh_for-in-None.ensures).0)
