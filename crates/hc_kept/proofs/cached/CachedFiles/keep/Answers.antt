use Rattle.std.proofs.Common.{sym, subst}
use Rattle.std.specs.List.{Contains}
use Rattle.hc_kept.specs.Files.{Cached, loaded_of}
use Rattle.hc_kept.proofs.Loaded.{now_loaded, still_loaded}
use Rattle.hc_kept.proofs.cached.CachedFiles.keep.Goals as goal

pub returns-clause-kept : goal.returns-clause-kept
returns-clause-kept c = λ each has.
    still_loaded _ c.self.inside.fresh.items _ c.in_ok-push.ensures.items each
    (subst (λ (o : Cached). Contains (loaded_of o) each) (sym c.self.view_is) has)

pub returns-clause-loads : goal.returns-clause-loads
returns-clause-loads c =
    rw (← c.in_ok-dir.ensures) (now_loaded _ c.self.inside.fresh.items _ c.in_ok-push.ensures.items)
