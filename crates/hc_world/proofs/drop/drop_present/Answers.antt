use Rattle.hc_world.proofs.Common.{◌≡◌, ◌∙◌, ap, sym, subst, IsWorld}
use Rattle.hc_world.specs.Drops.{HasRows, paths_of, paths_within, without, without_marked}
use Rattle.hc_world.specs.Marks.{Marks}
use Rattle.hc_world.specs.Rows.{adjusted, with_names}
use Rattle.hc_world.proofs.Below.{IsBelow-first}
use Rattle.hc_world.proofs.Drops.{IsWorld-left, Marks-taken, left-is}
use Rattle.hc_world.proofs.drop.drop_present.Goals as goal

pub directory_of-directory-requires-clause-below : goal.directory_of-directory-requires-clause-below
directory_of-directory-requires-clause-below c =
    IsBelow-first c.args.path.now (c.requires.world.keys_are_paths c.args.path.now c.requires.there) c.requires.apart

pub returns : goal.returns
returns c =
    let w = c.args.files.now.nodes in
    let rows = c.args.files.now.rows in
    let ready = c.make_all_rows.new.rows in
    let path = c.args.path.now in
    let directory = c.directory_of-directory.result.now in
    let number = c.args.number in
    let first = c.in_ok-make_row.ensures in
    let all = c.in_ok-make_all_rows.ensures in
    let paths : paths_of c.deref-2.result.now ≡ paths_within w path = ap paths_of c.deref-2.ensures.value
    ∙ c.in_ok-paths.ensures in
    let world : c.take_away.new.files.nodes ≡ without w (paths_within w path) = c.take_away.ensures.world
    ∙ ap (without w) paths in
    let marked : c.mark_names.new.self ≡ adjusted (without_marked w ready number (paths_within w path)) directory
    (with_names number) =
    c.mark_names.ensures ∙ ap (λ r. adjusted r directory (with_names number))
    (c.take_away.ensures.rows ∙ ap (without_marked w ready number) paths) in
    let has = subst (HasRows ready) (ap paths_of c.deref.ensures.value ∙ c.in_ok-paths.ensures) all.there in
    record {
      made = world ∙ left-is w path c.requires.there;
      valid = subst IsWorld (sym world) (IsWorld-left w path c.requires.world c.requires.apart c.requires.there);
      marked = subst (Marks number w c.take_away.new.files.nodes rows) (sym marked)
          (subst (λ v. Marks number w v rows
          (adjusted (without_marked w ready number (paths_within w path)) directory (with_names number)))
          (sym world)
          (Marks-taken w directory path c.requires.world c.requires.apart c.requires.there
          c.directory_of-directory.ensures.named c.directory_of-directory.ensures.above
          number rows ready (λ q. all.same q ∙ first.same q) has (all.kept directory first.there)));
      same = tt;
      rows = tt;
    }
