use Rattle.hc_world.proofs.Common.{◌≡◌, None, rules, subst, sym, ap, ◌∙◌, IsSome, get, insert}
use Rattle.hc_world.specs.Changes.{never}
use Rattle.hc_world.specs.Rows.{KeepsRows, SameRows, numbers_of, rows_of}
use Rattle.hc_world.proofs.Lookups.{map_inserted}
use Rattle.hc_world.proofs.Rows.{KeepsRows-inserted, SameRows-inserted, none_there, some_there, there-inserted}
use Rattle.hc_world.proofs.changes.Rows.make_row.Goals as goal

pub returns-in_ok-insert : goal.returns-in_ok-insert
returns-in_ok-insert c =
    let old = c.args.self.now in
    let path = c.args.path.now in
    let copied : c.in_ok-to_vec.field-0.items ≡ path = search rules in
    let made : rows_of c.insert.new.self.entries ≡ insert old path never =
    map_inserted numbers_of c.self.inside.entries.entries c.insert.new.self.entries path c.in_ok-to_vec.field-0 _ copied
    c.in_ok-insert.ensures.updates.0
    ∙ ap (λ rows. insert rows path never) c.self.view_is in
    let none =
    subst (λ rows. get rows path ≡ None) c.self.view_is
    (none_there c.self.inside.entries.entries path (sym c.if-not-contains_key.ensures)) in
    record {
      same = subst (SameRows old) (sym made) (SameRows-inserted old path none);
      kept = subst (KeepsRows old) (sym made) (KeepsRows-inserted old path never);
      there = subst (λ rows. IsSome (get rows path)) (sym made) (there-inserted old path never);
    }

pub returns-else-not-contains_key-clause-there : goal.returns-else-not-contains_key-clause-there
returns-else-not-contains_key-clause-there c =
    subst (λ rows. IsSome (get rows c.args.path.now)) c.self.view_is
    (some_there c.self.inside.entries.entries c.args.path.now (sym c.if-not-contains_key.ensures))
