use Rattle.std.proofs.Common.{subst, sym}
use Rattle.std.specs.List.{Contains}
use Rattle.hc_htaccess.specs.Loading.{loaded_of}
use Rattle.hc_htaccess.proofs.Kept.{still_loaded}
use Rattle.hc_htaccess.proofs.plain.PlainFiles.keep.Goals as goal

pub returns-clause-kept : goal.returns-clause-kept
returns-clause-kept c = λ each has.
    still_loaded c.self.inside.kept.items c.push.new.self.items _ c.in_ok-push.ensures.items each
    (subst (λ plain. Contains (loaded_of plain) each) (sym c.self.view_is) has)
