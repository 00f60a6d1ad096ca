use Rattle.hc_world.proofs.Common.{◌≡◌, ◌+◌, true, None, Err, sym, ap, ◌∙◌, subst, take, refl, arith}
use Rattle.hc_world.proofs.Common.{get, remove, dir, EditsFiles, node_of, add_in, fronts_from}
use Rattle.hc_world.specs.Marks.{Grows, IsPlace}
use Rattle.hc_world.specs.Rows.{KeepsRows}
use Rattle.hc_world.proofs.Rows.{KeepsRows-made}
use Rattle.hc_world.proofs.Grown.{IsPlace-made, IsPlace-next, IsStep-front, IsStep-path, Grows-around}
use Rattle.hc_world.proofs.Slashes.{fronts_from-none, fronts_from-some}
use Rattle.hc_world.proofs.Worlds.{dir_from_kind, none_from_kind, file_from_kind, add_in-file, add_in-dir}
use Rattle.hc_world.proofs.Worlds.{add_in-absent, Edits_undone, remove_inserted}
use Rattle.hc_world.proofs.entries.+add.Goals as goal

pub add_last-requires : goal.add_last-requires
add_last-requires t c = IsStep-path _ c.args.directory.now c.args.path.now c.args.from c.requires
    c.in_default.ensures.none

pub returns-in_default-clause-edit : goal.returns-in_default-clause-edit
returns-in_default-clause-edit t c =
    let w = c.args.files.now.nodes in
    let path = c.args.path.now in
    subst (EditsFiles c.add_last.result w c.add_last.new.files.nodes)
    (sym (ap (λ ps. add_in w ps path (node_of c.args.entry))
    (fronts_from-none path c.args.from c.in_default.ensures.none)))
    c.add_last.ensures.edit

pub returns-in-File-clause-edit : goal.returns-in-File-clause-edit
returns-in-File-clause-edit t c =
    let w = c.args.files.now.nodes in
    let path = c.args.path.now in
    let above = take c.in-Some.slash path in (
      ap (λ ps. add_in w ps path (node_of c.args.entry))
          (fronts_from-some path c.args.from c.in-Some.slash c.in-Some.ensures.some)
          ∙ add_in-file w above (fronts_from path (c.in-Some.slash + 1)) path (node_of c.args.entry)
          (file_from_kind _ (sym c.in-File.ensures)),
      refl,
    )

pub add-requires : goal.add-requires
add-requires t c =
    let next = c.in-Some.ensures.some in
    let from_on = next.from_on in
    let room = next.within in (
      omega arith,
      IsPlace-next _ c.args.directory.now c.args.path.now c.args.from c.in-Some.slash c.requires next
          (dir_from_kind _ (sym c.in-Dir.ensures)),
    )

pub returns-in-Dir-clause-edit : goal.returns-in-Dir-clause-edit
returns-in-Dir-clause-edit t c =
    let w = c.args.files.now.nodes in
    let path = c.args.path.now in
    let above = take c.in-Some.slash path in
    let same : add_in w (fronts_from path c.args.from) path (node_of c.args.entry)
    ≡ add_in w (fronts_from path (c.in-Some.slash + 1)) path (node_of c.args.entry) =
    ap (λ ps. add_in w ps path (node_of c.args.entry))
    (fronts_from-some path c.args.from c.in-Some.slash c.in-Some.ensures.some)
    ∙ add_in-dir w above (fronts_from path (c.in-Some.slash + 1)) path (node_of c.args.entry)
    (dir_from_kind _ (sym c.in-Dir.ensures)) in
    subst (EditsFiles c.add.result w c.add.new.files.nodes) (sym same) c.add.ensures.edit

pub add-requires-in-Absent : goal.add-requires-in-Absent
add-requires-in-Absent t c =
    let next = c.in-Some.ensures.some in
    let from_on = next.from_on in
    let room = next.within in
    let w = c.args.files.now.nodes in
    let path = c.args.path.now in
    let above = take c.in-Some.slash path in
    let made = c.in_ok-insert-in-Absent.ensures.put in (
      omega arith,
      subst (λ v. IsPlace v above path (c.in-Some.slash + 1)) (sym made)
          (IsPlace-made w c.args.directory.now path c.args.from c.in-Some.slash c.requires next),
    )

pub returns-in-Ok : goal.returns-in-Ok
returns-in-Ok t c =
    let w = c.args.files.now.nodes in
    let made = c.insert.new.self in
    let new = c.add-in-Absent.new.files.nodes in
    let rows = c.args.files.now.rows in
    let first = c.make_rows.new.self in
    let after = c.add-in-Absent.new.files.rows in
    let directory = c.args.directory.now in
    let path = c.args.path.now in
    let slash = c.in-Some.slash in
    let above = take slash path in
    let next = c.in-Some.ensures.some in
    let ready = c.in_ok-make_rows-in-Absent.ensures in
    let none : get w above ≡ None = none_from_kind _ (sym c.in-Absent.ensures) in
    let is_made = c.in_ok-insert-in-Absent.ensures.put in
    let grown = subst (λ v. Grows c.args.number v new first after) is_made c.in-Ok.ensures.marked in
    record {
      edit = add_in-absent w made path c.args.from slash (node_of c.args.entry) next none is_made
          ∙ c.in-Ok.ensures.edit;
      rows = subst (KeepsRows rows) (sym c.mark_made.ensures)
          (λ q there. KeepsRows-made after directory above true c.args.number q
          (c.in-Ok.ensures.rows q (ready.kept q there)));
      marked = subst (Grows c.args.number w new rows) (sym c.mark_made.ensures)
          (Grows-around c.args.number w new rows first after directory above dir
          (IsStep-front w directory path c.args.from slash c.requires next none)
          (c.in-Ok.ensures.rows directory ready.directory) (c.in-Ok.ensures.rows above ready.path) ready.same grown);
    }

pub returns-in-Err-clause-edit : goal.returns-in-Err-clause-edit
returns-in-Err-clause-edit t c =
    let w = c.args.files.now.nodes in
    let made = c.insert.new.self in
    let left = c.add-in-Absent.new.files.nodes in
    let after = c.remove.new.self in
    let path = c.args.path.now in
    let slash = c.in-Some.slash in
    let above = take slash path in
    let none : get w above ≡ None = none_from_kind _ (sym c.in-Absent.ensures) in
    let is_made = c.in_ok-insert-in-Absent.ensures.put in
    let undone = λ (same : left ≡ made). c.remove.ensures ∙ ap (λ v. remove v above) (same ∙ is_made)
    ∙ remove_inserted w above dir none in
    subst (EditsFiles (Err c.in-Err.fault) w after)
    (sym (add_in-absent w made path c.args.from slash (node_of c.args.entry) c.in-Some.ensures.some none is_made))
    (Edits_undone (Err c.in-Err.fault) w made left after _ refl undone c.in-Err.ensures.edit)
