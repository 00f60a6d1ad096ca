use Rattle.hc_world.proofs.Common.{◌≡◌, ◌∙◌, Ok, Some, inl, subst, sym, ap, refl, insert, is_dir, node_of}
use Rattle.hc_world.specs.Marks.{Grows}
use Rattle.hc_world.specs.Rows.{KeepsRows, made_in}
use Rattle.hc_world.proofs.Grown.{Grows-around}
use Rattle.hc_world.proofs.Rows.{KeepsRows-made}
use Rattle.hc_world.proofs.entries.add_last.Goals as goal

pub returns : goal.returns
returns c =
    let old = c.args.files.now.nodes in
    let new = c.insert.new.self in
    let rows = c.args.files.now.rows in
    let ready = c.make_rows.new.self in
    let directory = c.args.directory.now in
    let path = c.args.path.now in
    let node = node_of c.args.entry in
    let inserted = c.in_ok-insert.ensures.put in
    let marked : c.mark_made.new.self ≡ made_in ready directory path (is_dir (Some node)) c.args.number =
    c.mark_made.ensures ∙ ap (λ d. made_in ready directory path d c.args.number) c.is_dir-is_dir.ensures in
    record {
      edit = ap Ok (sym inserted);
      rows = subst (KeepsRows rows) (sym marked)
          (λ q there. KeepsRows-made ready directory path (is_dir (Some node)) c.args.number q
          (c.in_ok-make_rows.ensures.kept q there));
      marked = subst (Grows c.args.number old new rows) (sym marked)
          (subst (λ w. Grows c.args.number old w rows
          (made_in ready directory path (is_dir (Some node)) c.args.number)) (sym inserted)
          (Grows-around c.args.number old (insert old path node) rows ready ready directory path node c.requires
          c.in_ok-make_rows.ensures.directory c.in_ok-make_rows.ensures.path c.in_ok-make_rows.ensures.same
          (λ read. inl (refl, refl))));
    }
