use Rattle.hc_world.proofs.Common.{Ok, subst, sym, ap, node_of}
use Rattle.hc_world.specs.Marks.{Marks}
use Rattle.hc_world.specs.Rows.{written}
use Rattle.hc_world.proofs.Grown.{Marks-written}
use Rattle.hc_world.proofs.entries.replace.Goals as goal

pub returns : goal.returns
returns c =
    let old = c.args.files.now.nodes in
    let new = c.insert.new.self in
    let rows = c.args.files.now.rows in
    let ready = c.make_row.new.self in
    let path = c.args.path.now in
    let node = node_of c.args.file in
    let inserted = c.in_ok-insert.ensures.put in
    record {
      edit = ap Ok (sym inserted);
      marked = subst (Marks c.args.number old new rows) (sym c.mark_written.ensures)
          (subst (λ w. Marks c.args.number old w rows (written ready path c.has_text-same.result c.args.number))
          (sym inserted)
          (Marks-written old path node c.requires.there c.requires.file c.args.number rows ready c.has_text-same.result
          c.has_text-same.ensures c.in_ok-make_row.ensures.same c.in_ok-make_row.ensures.there));
    }
