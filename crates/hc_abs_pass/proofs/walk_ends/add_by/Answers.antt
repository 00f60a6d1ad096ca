use Rattle.hc_steps.specs.Shown.{shown_by}
use Rattle.hc_abs_pass.proofs.Finding.{directory_added}
use Rattle.hc_abs_pass.proofs.walk_ends.add_by.Goals as goal

pub returns-in_ok-enter-in-Dir : goal.returns-in_ok-enter-in-Dir
returns-in_ok-enter-in-Dir c =
    directory_added (shown_by c.args.world.now.files) c.args.frame c.args.path c.args.kind _ _ _ _ _ _ _ _ c.in-Dir.is
    c.in_ok-at-in-Dir.ensures c.in_ok-unslashed-in-Dir.ensures c.in_ok-push-in-Dir-2.ensures.items
    c.in_ok-push-in-Dir.ensures.items c.in_ok-enter-in-Dir.ensures
