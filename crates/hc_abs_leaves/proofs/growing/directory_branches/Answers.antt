use Rattle.std.proofs.lemmas.Result.{IfOk-weaker}
use Rattle.std.specs.Rc.{rc_value}
use Rattle.hc_abs_leaves.proofs.Common.{◌∙◌, sym, ap}
use Rattle.hc_abs_left.specs.declared.ground.Settings.{Settings}
use Rattle.hc_abs_leaves.proofs.Places.{in_directory, in_none}
use Rattle.hc_abs_leaves.proofs.growing.directory_branches.Goals as goal

pub returns-in-Some : goal.returns-in-Some
returns-in-Some c =
    IfOk-weaker c.dir_round_branches.result _ _ (λ found are.
    in_directory c.args.ground (rc_value c.args.settings.now) c.args.so_far c.args.tied found.items c.in-Some.dir
    (ap (λ (own : Settings). own.force.dir) (sym c.as_ref-own.ensures) ∙ c.in-Some.is) are) c.dir_round_branches.ensures

pub returns-in-None : goal.returns-in-None
returns-in-None c =
    in_none c.args.ground (rc_value c.args.settings.now) c.args.so_far c.args.tied c.new.result.items
    (ap (λ (own : Settings). own.force.dir) (sym c.as_ref-own.ensures) ∙ c.in-None.is) c.new.ensures.items
