use Rattle.hc_world.proofs.Common.{ap, is_dir, node_of}
use Rattle.hc_world.proofs.Grown.{FilesMarked-from_grown, IsPlace-first}
use Rattle.hc_world.proofs.Worlds.{EditsFiles-from_add, IsEdit-from_Edits}
use Rattle.hc_world.proofs.entries.make.Goals as goal

pub add-requires : goal.add-requires
add-requires c = IsPlace-first _ c.args.path.now c.requires.world c.requires.formed c.requires.free

pub returns : goal.returns
returns c =
    let no_dir = ap is_dir c.requires.free in
    let edit = EditsFiles-from_add c.add.result _ _ c.args.path.now (node_of c.args.entry) c.requires.world
    c.requires.formed no_dir c.add.ensures.edit in
    record {
      edit = edit;
      kept = IsEdit-from_Edits c.add.result _ _ c.args.path.now (node_of c.args.entry) c.requires.world
          c.requires.formed no_dir edit;
      marked = FilesMarked-from_grown c.add.result c.args.number _ _ _ _ c.add.ensures.marked;
    }
