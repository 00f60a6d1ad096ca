use Rattle.hc_include.proofs.Common.{refl, item_faults, item_more, with_names}
use Rattle.hc_include.proofs.candidates.names_of.Goals as goal

pub returns-in_err-paths : goal.returns-in_err-paths
returns-in_err-paths c =
    item_faults (with_names c.args.glob.now) c.loop-directory.paths c.directory-item.result c.args.directories.now
    c.loop-directory.directory-index _ _ _ _ _ _ _ _ c.loop-directory.invariant c.loop-directory-test.true
    c.directory-item.is c.in_err-paths.ensures refl c.from_residual.ensures.1

pub loop-directory-preserved : goal.loop-directory-preserved
loop-directory-preserved c =
    item_more (with_names c.args.glob.now) c.loop-directory.paths _ c.directory-item.result c.args.directories.now
    c.loop-directory.directory-index _ _ _ _ _ _ c.loop-directory.invariant c.loop-directory-test.true
    c.directory-item.is c.in_ok-paths.ensures refl
