use Rattle.hc_world.proofs.Common.{refl, subst, sym, EditsFiles}
use Rattle.hc_world.proofs.Worlds.{dir_from_kind, file_from_kind, list_dir-absent, list_dir-dir, list_dir-file}
use Rattle.hc_world.proofs.Worlds.{none_from_kind}
use Rattle.hc_world.proofs.entries.make_dir.Goals as goal

pub returns-in-Dir-clause-edit : goal.returns-in-Dir-clause-edit
returns-in-Dir-clause-edit c =
    list_dir-dir _ c.args.path.now c.requires (sym c.if-not-is_path.ensures) (dir_from_kind _ (sym c.in-Dir.ensures))

pub returns-in-Absent-clause-edit : goal.returns-in-Absent-clause-edit
returns-in-Absent-clause-edit c =
    let world = c.args.files.now.nodes in
    subst (EditsFiles c.make.result world c.make.new.files.nodes)
    (sym (list_dir-absent world c.args.path.now (sym c.if-not-is_path.ensures)
    (none_from_kind _ (sym c.in-Absent.ensures)))) c.make.ensures.edit

pub returns-in-File-clause-edit : goal.returns-in-File-clause-edit
returns-in-File-clause-edit c =
    (list_dir-file _ c.args.path.now (sym c.if-not-is_path.ensures) (file_from_kind _ (sym c.in-File.ensures)), refl)
