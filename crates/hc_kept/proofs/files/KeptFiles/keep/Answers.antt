use Rattle.std.proofs.Common.{refl, rules, subst, sym}
use Rattle.hc_kept.specs.Files.{AreFilesOf}
use Rattle.hc_kept.proofs.Fresh.{comes_or_kept, left_fresh, none_comes, put_fresh}
use Rattle.hc_kept.proofs.files.KeptFiles.keep.Goals as goal

pub files-preserved : goal.files-preserved
files-preserved c =
    let world = c.args.world.now in
    let file = c.in-Some.field-0 in
    let left = c.pop.new.self.items in
    let pops = c.in-Some.ensures.items in
    let puts = rw (c.as_bytes.ensures, c.edits-at.ensures.count) at c.in_ok-put.ensures.ok in (
      (λ config were are.
          let now = c.files.invariant.0 config were are in (
            put_fresh world config left file pops puts now.0 now.1,
            left_fresh world config left file pops now.1,
          )),
      (λ each has. comes_or_kept puts left file pops refl each (c.files.invariant.1 each has)),
    )

pub returns-in_err-put-clause-right : goal.returns-in_err-put-clause-right
returns-in_err-put-clause-right c = λ config were are.
    subst (AreFilesOf c.args.world.now config) (sym c.in_err-put.ensures.err) (c.files.invariant.0 config were are).0

pub returns-clause-right : goal.returns-clause-right
returns-clause-right c = λ config were are. (c.files.invariant.0 config were are).0

pub returns-clause-all : goal.returns-clause-all
returns-clause-all c = λ each has. none_comes each (search rules) (c.files.invariant.1 each has)
