use Rattle.hc_world.proofs.Common.{sym}
use Rattle.hc_world.proofs.Worlds.{IsEdit-written, file_from_text}
use Rattle.hc_world.proofs.lines.edit_lines.Goals as goal

pub returns-in-Some-2-clause-kept : goal.returns-in-Some-2-clause-kept
returns-in-Some-2-clause-kept c =
    IsEdit-written c.replace.result _ _ c.args.path.now _ c.requires (sym c.if-not-is_path.ensures)
    (file_from_text _ c.in-Some.old.now c.in-Some.ensures) c.replace.ensures.edit
