use Rattle.hc_world.proofs.Common.{refl, subst, sym, ap, is_dir, EditsFiles, node_of}
use Rattle.hc_world.proofs.Worlds.{IsEdit-written, dir_from_kind, file_from_kind, put-is_dir, put-is_file}
use Rattle.hc_world.proofs.entries.put_file.Goals as goal

pub returns-in-Dir-clause-edit : goal.returns-in-Dir-clause-edit
returns-in-Dir-clause-edit c = (
  put-is_dir _ c.args.path.now (node_of c.args.file) c.requires.world (sym c.if-not-is_path.ensures)
      (ap is_dir (dir_from_kind _ (sym c.in-Dir.ensures))),
  refl,
)

pub replace-requires-clause-there : goal.replace-requires-clause-there
replace-requires-clause-there c = file_from_kind _ (sym c.in-File.ensures)

pub returns-in-File-clause-edit : goal.returns-in-File-clause-edit
returns-in-File-clause-edit c =
    let world = c.args.files.now.nodes in
    subst (EditsFiles c.replace.result world c.replace.new.files.nodes)
    (sym (put-is_file world c.args.path.now (node_of c.args.file) c.requires.world (sym c.if-not-is_path.ensures)
    (file_from_kind _ (sym c.in-File.ensures)))) c.replace.ensures.edit

pub returns-in-File-clause-kept : goal.returns-in-File-clause-kept
returns-in-File-clause-kept c =
    IsEdit-written c.replace.result _ _ c.args.path.now _ c.requires.world (sym c.if-not-is_path.ensures)
    (file_from_kind _ (sym c.in-File.ensures)) c.replace.ensures.edit
